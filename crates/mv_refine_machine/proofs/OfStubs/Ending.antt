-- A run ends where a stub exits or traps.
use Rattle.std.proofs.Common.{◌≡◌, ℕ, ◌+◌, ◌%◌, ◌^◌, ◌<◌, ◌≤◌, Bool, true, List, Option, refl, sym, ◌∙◌, subst, arith, pos}
use Rattle.mv_machine.specs.Acts.{PollActs}
use Rattle.mv_isa.specs.declared.instr.Instr.TheVariants.{Addi}
use Rattle.mv_isa.specs.Execution.{reg, put}
use Rattle.mv_isa.specs.Registers.{a0}
use Rattle.mv_image.specs.Spelling.{Fields}
use Rattle.mv_ir.specs.World.{World}
use Rattle.mv_machine.specs.Runs.{Stop, Exit, Trap}
use Rattle.mv_select_code.proofs.OfTrees.Registers.{put_same}
use Rattle.mv_select_code.specs.Statements.StatementCode.{trap_label}
use Rattle.mv_select_code.specs.Control.Placed.{Placed}
use Rattle.mv_select_code.specs.Control.Runs.{Spot}
use Rattle.mv_select_code.proofs.OfControl.Walk.{before_next}
use Rattle.mv_refine_machine.specs.Calm.{Rest, IsCalm}
use Rattle.mv_refine_machine.specs.Calls.{stopped_at, CallsAreAnswered}
use Rattle.mv_refine_machine.specs.MachineRuns.{access, machine_text, is_sound}
use Rattle.mv_refine_machine.specs.Laws.{CalmIsTested, RunsAreRuns, EnvironmentCalls}
use Rattle.mv_refine_machine.specs.Stubs.Stubs.{start_address, return_address, start_lines, trap_lines}
use Rattle.mv_refine_machine.specs.Stubs.Ends.{HasStopped, ComesTo, EndsAfter}
use Rattle.mv_refine_machine.proofs.OfStubs.Walked.{machine, ok, run, comes, count, sets, number_sets, exit_stands, Requests, requests}

-- a calm time that is left as it is
settled : (image : Fields) (w : World) (now next : Spot Rest) (stop : Stop) → IsCalm image w now.memory → next ≡ stopped_at now stop → HasStopped w stop next.memory
settled image w now next stop calm e =
    let at : HasStopped w stop (stopped_at now stop).memory = record { is = refl; input = calm.input; output = calm.output; bindings = calm.bindings; log = calm.log } in
    subst (λ (x : Spot Rest). HasStopped w stop x.memory) (sym e) at

module _ (tested : CalmIsTested) (are_runs : RunsAreRuns) (environment : EnvironmentCalls)
    (attributed : List ℕ) (closed : (pc address : ℕ) → Bool) (image : Fields) (input : List (Option ℕ)) (polls : PollActs) (picks : List ℕ) (place entry : ℕ → ℕ) where
  abbrev time : ℕ → Spot Rest
  time = run tested are_runs attributed closed image input polls picks place entry

  answers : CallsAreAnswered image input polls picks closed
  answers = environment closed image input polls picks

  ends : (number : ℕ) (w : World) (regs : List ℕ) (t : ℕ) (stop : Stop) → Requests tested are_runs attributed closed image input polls picks place entry number w regs t
      → ((j : ℕ) → t + 1 < j → time j ≡ stopped_at (time (t + 1)) stop) → EndsAfter closed image input polls picks w (t + 1) stop
  ends number w regs t stop h stops = record {
    calm = h.call.calm;
    sound = λ s le. before_next (λ s. is_sound closed (time s) ≡ true) (t + 1) h.sound (answers.sound number (t + 1) w h.call) s (omega (arith, le));
    stopped = λ s lt. settled image w (time (t + 1)) (time s) stop h.call.calm (stops s lt);
  }

  -- ---- the exit

  pub exits : (main_label end : ℕ) → Placed (machine_text attributed image) place entry (start_lines main_label) start_address end → (i : ℕ) (w : World) → ComesTo closed image input polls picks return_address w i
      → EndsAfter closed image input polls picks w (i + 1) (Exit (reg (time i).regs a0 % 2 ^ 8))
  exits main_label end p i w h =
      let a = comes tested are_runs attributed closed image input polls picks place entry return_address i w h in
      let q = exit_stands (machine_text attributed image) place entry main_label end p in
      let r = requests tested are_runs attributed closed image input polls picks place entry 0 w return_address end i (time i).regs (time i).memory (omega arith) q a in
      subst (λ (v : ℕ). EndsAfter closed image input polls picks w (i + 1) (Exit (v % 2 ^ 8))) r.argument
      (ends 0 w (time i).regs i (Exit (reg (time (i + 1)).regs 10 % 2 ^ 8)) r (λ j lt. answers.exits (i + 1) j w r.call lt))

  -- ---- a trap

  pub traps : (code : ℕ) → 1 ≤ code → code ≤ 4 → (at end : ℕ) → Placed (machine_text attributed image) place entry (trap_lines code) at end
      → (i : ℕ) (w : World) → ComesTo closed image input polls picks (place (trap_label code)) w i → EndsAfter closed image input polls picks w (i + 2) (Trap code)
  traps code ge le at end p i w h =
      let regs = (time i).regs in
      let a = comes tested are_runs attributed closed image input polls picks place entry p.0 i w (record { at = h.at ∙ p.1.label ∙ sym p.1.stands; calm = h.calm; sound = h.sound }) in
      let small : code < 2 ^ 32 = omega (arith, le) in
      let b = sets access (machine tested are_runs attributed closed image input polls picks place entry) place entry (ok tested are_runs attributed closed image input polls picks place entry)
      (Addi a0 0 (pos code)) w p.0 p.2.0 i regs (put regs a0 code) (time i).memory (number_sets access entry a0 code regs (time i).memory small) p.2.1 a in
      let r = requests tested are_runs attributed closed image input polls picks place entry 3 w p.2.0 end (i + 1) (put regs a0 code) (time i).memory (omega arith) p.2.2 b in
      let many = count tested are_runs attributed closed image input polls picks place entry w p.0 i regs (time i).memory a in
      let argument : reg (time (i + 1 + 1)).regs 10 ≡ code = r.argument ∙ put_same regs a0 code (omega arith) (omega (arith, many)) in
      let later : i + 1 + 1 ≡ i + 2 = omega arith in
      subst (λ (t : ℕ). EndsAfter closed image input polls picks w t (Trap code)) later
      (subst (λ (v : ℕ). EndsAfter closed image input polls picks w (i + 1 + 1) (Trap v)) argument
      (ends 3 w (put regs a0 code) (i + 1) (Trap (reg (time (i + 1 + 1)).regs 10)) r
      (λ j lt. answers.traps (i + 1 + 1) j w r.call (omega (arith, argument, ge)) (omega (arith, argument, le)) lt)))
