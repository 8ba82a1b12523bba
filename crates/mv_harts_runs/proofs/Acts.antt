-- An instruction with other acts to come.
use Rattle.std.proofs.Common.{◌≡◌, ◌⊎◌, inl, inr, ℕ, ◌%◌, ◌^◌, ◌-◌, Bool, true, false, ◌&&◌, cond, nat_eq, if◌then◌else◌, List, [], ◌∷◌, length, Option, Some, None, refl, sym, ap, ◌∙◌, subst, arith}
use Rattle.std.specs.Prelude.{option_and_then, slice_get, if◌then◌else◌}
use Rattle.mv_bindings.specs.declared.binding.Binding.{Binding}
use Rattle.mv_isa.specs.declared.instr.Instr.{Instr}
use Rattle.mv_isa.specs.declared.instr.Instr.TheVariants.{Lui, Auipc, Jal, Jalr, Beq, Bne, Blt, Bge, Bltu, Bgeu, Lb, Lh, Lw, Lbu, Lhu, Sb, Sh, Sw, Addi, Slti, Sltiu, Xori, Ori, Andi, Slli, Srli, Srai, Add, Sub, Sll, Slt, Sltu, Xor, Srl, Sra, Or, And, Mul, Mulh, Mulhsu, Mulhu, Div, Divu, Rem, Remu, Fence, FenceI, Ebreak, Ecall}
use Rattle.mv_isa.specs.Encoding.{decode}
use Rattle.mv_isa.specs.Execution.{Outcome, Goes, Calls, Faults, reg}
use Rattle.mv_isa.specs.declared.instr.Cause.TheVariants as cause
use Rattle.mv_fetch.specs.Held.{Room, choices}
use Rattle.mv_rv32.specs.Stepping.{picked_step}
use Rattle.mv_patch.specs.Orders.{is_known_order}
use Rattle.mv_patch.specs.Plans.{plan_between}
use Rattle.mv_bindings.specs.Acts.{Act, Skip, Flip, Adopt}
use Rattle.mv_machine.specs.Runs.{State, Going, Fault, Request, Exits, Reads, Writes, Traps, Plans, Polls, Unknown, request_of, argument, answered, stopped, live_frames, refused, ordered, planned, act, acted, polled, environment_call, choices_at, fetched_step, after, is_going, turn}
use Rattle.mv_machine.specs.Commits.{fetched_instr, is_some_pair, after_instr, commit_after}
use Rattle.mv_machine.proofs.Turns.{turn_by}
use Rattle.mv_harts_runs.specs.Harts.{Place, AtOrder, AtPoll, Elsewhere, place_by, place_of, called_place, place, reads_or_writes, outside_of, is_outside, handed, Store, store_of, told, move}
use Rattle.mv_harts_runs.proofs.Steps.{FetchedLed, fetched_led}
pub use Rattle.mv_refine_machine.proofs.OfRuns.Stopping.{calls_where}

-- ---- an environment call, or none

pub record IsNoCall (i : Option Instr) : Type 0 where
  pub no : i ≡ Some Ecall → ⊥
  pub place : (p : Place) → place_of i p ≡ Elsewhere
  pub after : (s t : State) (u : Option (List Binding)) → after_instr s i u ≡ after_instr t i u
  pub calm : (s : State) → after_instr s i None ≡ None
  pub keeps : (regs : List ℕ) (st : Store) → option_and_then (λ j. store_of j regs) i ≡ Some st → (s : State) (u : Option (List Binding)) → after_instr s i u ≡ u
  pub stays : (s : State) (u : Option (List Binding)) (old : List Binding) → after_instr s i u ≡ Some old → u ≡ Some old

pub ecall_or : (i : Option Instr) → (i ≡ Some Ecall) ⊎ IsNoCall i
ecall_or None = inr (record { no = λ e. cc; place = λ s. refl; after = λ s t u. refl; calm = λ s. refl; stays = λ s u old h. h; keeps = λ regs st e s u. refl })
ecall_or (Some Ecall) = inl refl
ecall_or (Some (Lui rd imm)) = inr (record { no = λ e. cc; place = λ s. refl; after = λ s t u. refl; calm = λ s. refl; stays = λ s u old h. h; keeps = λ regs st e s u. refl })
ecall_or (Some (Auipc rd imm)) = inr (record { no = λ e. cc; place = λ s. refl; after = λ s t u. refl; calm = λ s. refl; stays = λ s u old h. h; keeps = λ regs st e s u. refl })
ecall_or (Some (Jal rd imm)) = inr (record { no = λ e. cc; place = λ s. refl; after = λ s t u. refl; calm = λ s. refl; stays = λ s u old h. h; keeps = λ regs st e s u. refl })
ecall_or (Some (Jalr rd rs1 imm)) = inr (record { no = λ e. cc; place = λ s. refl; after = λ s t u. refl; calm = λ s. refl; stays = λ s u old h. h; keeps = λ regs st e s u. refl })
ecall_or (Some (Beq rs1 rs2 imm)) = inr (record { no = λ e. cc; place = λ s. refl; after = λ s t u. refl; calm = λ s. refl; stays = λ s u old h. h; keeps = λ regs st e s u. refl })
ecall_or (Some (Bne rs1 rs2 imm)) = inr (record { no = λ e. cc; place = λ s. refl; after = λ s t u. refl; calm = λ s. refl; stays = λ s u old h. h; keeps = λ regs st e s u. refl })
ecall_or (Some (Blt rs1 rs2 imm)) = inr (record { no = λ e. cc; place = λ s. refl; after = λ s t u. refl; calm = λ s. refl; stays = λ s u old h. h; keeps = λ regs st e s u. refl })
ecall_or (Some (Bge rs1 rs2 imm)) = inr (record { no = λ e. cc; place = λ s. refl; after = λ s t u. refl; calm = λ s. refl; stays = λ s u old h. h; keeps = λ regs st e s u. refl })
ecall_or (Some (Bltu rs1 rs2 imm)) = inr (record { no = λ e. cc; place = λ s. refl; after = λ s t u. refl; calm = λ s. refl; stays = λ s u old h. h; keeps = λ regs st e s u. refl })
ecall_or (Some (Bgeu rs1 rs2 imm)) = inr (record { no = λ e. cc; place = λ s. refl; after = λ s t u. refl; calm = λ s. refl; stays = λ s u old h. h; keeps = λ regs st e s u. refl })
ecall_or (Some (Lb rd rs1 imm)) = inr (record { no = λ e. cc; place = λ s. refl; after = λ s t u. refl; calm = λ s. refl; stays = λ s u old h. h; keeps = λ regs st e s u. refl })
ecall_or (Some (Lh rd rs1 imm)) = inr (record { no = λ e. cc; place = λ s. refl; after = λ s t u. refl; calm = λ s. refl; stays = λ s u old h. h; keeps = λ regs st e s u. refl })
ecall_or (Some (Lw rd rs1 imm)) = inr (record { no = λ e. cc; place = λ s. refl; after = λ s t u. refl; calm = λ s. refl; stays = λ s u old h. h; keeps = λ regs st e s u. refl })
ecall_or (Some (Lbu rd rs1 imm)) = inr (record { no = λ e. cc; place = λ s. refl; after = λ s t u. refl; calm = λ s. refl; stays = λ s u old h. h; keeps = λ regs st e s u. refl })
ecall_or (Some (Lhu rd rs1 imm)) = inr (record { no = λ e. cc; place = λ s. refl; after = λ s t u. refl; calm = λ s. refl; stays = λ s u old h. h; keeps = λ regs st e s u. refl })
ecall_or (Some (Sb rs1 rs2 imm)) = inr (record { no = λ e. cc; place = λ s. refl; after = λ s t u. refl; calm = λ s. refl; stays = λ s u old h. h; keeps = λ regs st e s u. refl })
ecall_or (Some (Sh rs1 rs2 imm)) = inr (record { no = λ e. cc; place = λ s. refl; after = λ s t u. refl; calm = λ s. refl; stays = λ s u old h. h; keeps = λ regs st e s u. refl })
ecall_or (Some (Sw rs1 rs2 imm)) = inr (record { no = λ e. cc; place = λ s. refl; after = λ s t u. refl; calm = λ s. refl; stays = λ s u old h. h; keeps = λ regs st e s u. refl })
ecall_or (Some (Addi rd rs1 imm)) = inr (record { no = λ e. cc; place = λ s. refl; after = λ s t u. refl; calm = λ s. refl; stays = λ s u old h. h; keeps = λ regs st e s u. refl })
ecall_or (Some (Slti rd rs1 imm)) = inr (record { no = λ e. cc; place = λ s. refl; after = λ s t u. refl; calm = λ s. refl; stays = λ s u old h. h; keeps = λ regs st e s u. refl })
ecall_or (Some (Sltiu rd rs1 imm)) = inr (record { no = λ e. cc; place = λ s. refl; after = λ s t u. refl; calm = λ s. refl; stays = λ s u old h. h; keeps = λ regs st e s u. refl })
ecall_or (Some (Xori rd rs1 imm)) = inr (record { no = λ e. cc; place = λ s. refl; after = λ s t u. refl; calm = λ s. refl; stays = λ s u old h. h; keeps = λ regs st e s u. refl })
ecall_or (Some (Ori rd rs1 imm)) = inr (record { no = λ e. cc; place = λ s. refl; after = λ s t u. refl; calm = λ s. refl; stays = λ s u old h. h; keeps = λ regs st e s u. refl })
ecall_or (Some (Andi rd rs1 imm)) = inr (record { no = λ e. cc; place = λ s. refl; after = λ s t u. refl; calm = λ s. refl; stays = λ s u old h. h; keeps = λ regs st e s u. refl })
ecall_or (Some (Slli rd rs1 imm)) = inr (record { no = λ e. cc; place = λ s. refl; after = λ s t u. refl; calm = λ s. refl; stays = λ s u old h. h; keeps = λ regs st e s u. refl })
ecall_or (Some (Srli rd rs1 imm)) = inr (record { no = λ e. cc; place = λ s. refl; after = λ s t u. refl; calm = λ s. refl; stays = λ s u old h. h; keeps = λ regs st e s u. refl })
ecall_or (Some (Srai rd rs1 imm)) = inr (record { no = λ e. cc; place = λ s. refl; after = λ s t u. refl; calm = λ s. refl; stays = λ s u old h. h; keeps = λ regs st e s u. refl })
ecall_or (Some (Add rd rs1 rs2)) = inr (record { no = λ e. cc; place = λ s. refl; after = λ s t u. refl; calm = λ s. refl; stays = λ s u old h. h; keeps = λ regs st e s u. refl })
ecall_or (Some (Sub rd rs1 rs2)) = inr (record { no = λ e. cc; place = λ s. refl; after = λ s t u. refl; calm = λ s. refl; stays = λ s u old h. h; keeps = λ regs st e s u. refl })
ecall_or (Some (Sll rd rs1 rs2)) = inr (record { no = λ e. cc; place = λ s. refl; after = λ s t u. refl; calm = λ s. refl; stays = λ s u old h. h; keeps = λ regs st e s u. refl })
ecall_or (Some (Slt rd rs1 rs2)) = inr (record { no = λ e. cc; place = λ s. refl; after = λ s t u. refl; calm = λ s. refl; stays = λ s u old h. h; keeps = λ regs st e s u. refl })
ecall_or (Some (Sltu rd rs1 rs2)) = inr (record { no = λ e. cc; place = λ s. refl; after = λ s t u. refl; calm = λ s. refl; stays = λ s u old h. h; keeps = λ regs st e s u. refl })
ecall_or (Some (Xor rd rs1 rs2)) = inr (record { no = λ e. cc; place = λ s. refl; after = λ s t u. refl; calm = λ s. refl; stays = λ s u old h. h; keeps = λ regs st e s u. refl })
ecall_or (Some (Srl rd rs1 rs2)) = inr (record { no = λ e. cc; place = λ s. refl; after = λ s t u. refl; calm = λ s. refl; stays = λ s u old h. h; keeps = λ regs st e s u. refl })
ecall_or (Some (Sra rd rs1 rs2)) = inr (record { no = λ e. cc; place = λ s. refl; after = λ s t u. refl; calm = λ s. refl; stays = λ s u old h. h; keeps = λ regs st e s u. refl })
ecall_or (Some (Or rd rs1 rs2)) = inr (record { no = λ e. cc; place = λ s. refl; after = λ s t u. refl; calm = λ s. refl; stays = λ s u old h. h; keeps = λ regs st e s u. refl })
ecall_or (Some (And rd rs1 rs2)) = inr (record { no = λ e. cc; place = λ s. refl; after = λ s t u. refl; calm = λ s. refl; stays = λ s u old h. h; keeps = λ regs st e s u. refl })
ecall_or (Some (Mul rd rs1 rs2)) = inr (record { no = λ e. cc; place = λ s. refl; after = λ s t u. refl; calm = λ s. refl; stays = λ s u old h. h; keeps = λ regs st e s u. refl })
ecall_or (Some (Mulh rd rs1 rs2)) = inr (record { no = λ e. cc; place = λ s. refl; after = λ s t u. refl; calm = λ s. refl; stays = λ s u old h. h; keeps = λ regs st e s u. refl })
ecall_or (Some (Mulhsu rd rs1 rs2)) = inr (record { no = λ e. cc; place = λ s. refl; after = λ s t u. refl; calm = λ s. refl; stays = λ s u old h. h; keeps = λ regs st e s u. refl })
ecall_or (Some (Mulhu rd rs1 rs2)) = inr (record { no = λ e. cc; place = λ s. refl; after = λ s t u. refl; calm = λ s. refl; stays = λ s u old h. h; keeps = λ regs st e s u. refl })
ecall_or (Some (Div rd rs1 rs2)) = inr (record { no = λ e. cc; place = λ s. refl; after = λ s t u. refl; calm = λ s. refl; stays = λ s u old h. h; keeps = λ regs st e s u. refl })
ecall_or (Some (Divu rd rs1 rs2)) = inr (record { no = λ e. cc; place = λ s. refl; after = λ s t u. refl; calm = λ s. refl; stays = λ s u old h. h; keeps = λ regs st e s u. refl })
ecall_or (Some (Rem rd rs1 rs2)) = inr (record { no = λ e. cc; place = λ s. refl; after = λ s t u. refl; calm = λ s. refl; stays = λ s u old h. h; keeps = λ regs st e s u. refl })
ecall_or (Some (Remu rd rs1 rs2)) = inr (record { no = λ e. cc; place = λ s. refl; after = λ s t u. refl; calm = λ s. refl; stays = λ s u old h. h; keeps = λ regs st e s u. refl })
ecall_or (Some (Fence)) = inr (record { no = λ e. cc; place = λ s. refl; after = λ s t u. refl; calm = λ s. refl; stays = λ s u old h. h; keeps = λ regs st e s u. refl })
ecall_or (Some (FenceI)) = inr (record { no = λ e. cc; place = λ s. refl; after = λ s t u. refl; calm = λ s. refl; stays = λ s u old h. absurd (cc); keeps = λ regs st e s u. absurd (cc) })
ecall_or (Some (Ebreak)) = inr (record { no = λ e. cc; place = λ s. refl; after = λ s t u. refl; calm = λ s. refl; stays = λ s u old h. h; keeps = λ regs st e s u. refl })

-- a step calls the environment nowhere else than where an environment call is fetched
led_no_call : (i : Option Instr) (regs : List ℕ) (m : Room) → FetchedLed i regs m Calls → i ≡ Some Ecall
led_no_call None regs m h = absurd h
led_no_call (Some i) regs m h = ap Some h

pub where_calls : (s : State) (pick : ℕ) → fetched_step s pick ≡ Calls → fetched_instr s pick ≡ Some Ecall
where_calls s pick e = led_no_call (fetched_instr s pick) s.regs s.room (subst (λ o. FetchedLed (fetched_instr s pick) s.regs s.room o) e (fetched_led s pick))

-- ---- the acts that are taken and those to come

-- what has to come so that such a place leaves these acts
abbrev pub coming : Place → Act → List Act → List Act
coming AtPoll a more = a ∷ more
coming AtOrder a more = more
coming Elsewhere a more = more

abbrev pub with_acts : State → List Act → State
with_acts s acts = record s { actions = acts }

plans_acts : (s : State) (a : Act) (more : List Act) (code index : ℕ) (known idle leads : Bool)
    → (if known then (if leads && idle then ordered (with_acts s (coming (place_by Plans known idle) a more)) code index
    else refused (with_acts s (coming (place_by Plans known idle) a more)) (2 ^ 32 - 1))
    else stopped (with_acts s (coming (place_by Plans known idle) a more)) (Fault cause.Call))
    ≡ with_acts (if known then (if leads && idle then ordered (handed s a) code index else refused (handed s a) (2 ^ 32 - 1)) else stopped (handed s a) (Fault cause.Call)) more
unfolding answered
plans_acts s a more code index true true true = refl
plans_acts s a more code index true true false = refl
plans_acts s a more code index true false true = refl
plans_acts s a more code index true false false = refl
plans_acts s a more code index false true leads = refl
plans_acts s a more code index false false leads = refl

act_acts : (s : State) (a : Act) (more : List Act) → act a (with_acts s more) ≡ with_acts (act a (with_acts s [])) more
unfolding answered
act_acts s Skip more = refl
act_acts s (Flip switch value) more = refl
act_acts s (Adopt bs) more = refl

polls_acts : (s : State) (a : Act) (more : List Act) (known idle : Bool)
    → (if idle then acted (with_acts s (coming (place_by Polls known idle) a more)) (coming (place_by Polls known idle) a more) else refused (with_acts s (coming (place_by Polls known idle) a more)) 0)
    ≡ with_acts (if idle then acted (handed s a) (a ∷ []) else refused (handed s a) 0) more
unfolding answered
polls_acts s a more known true = act_acts s a more
polls_acts s a more true false = refl
polls_acts s a more false false = refl

pub call_acts : (request : Request) (s : State) (a : Act) (more : List Act)
    → environment_call request (with_acts s (coming (place_by request (is_known_order s.image (argument s) (reg s.regs 11)) (nat_eq (live_frames s) 0)) a more)) ≡ with_acts (environment_call request (handed s a)) more
unfolding answered planned polled
call_acts Exits s a more = refl
call_acts Reads s a more = refl
call_acts Writes s a more = refl
call_acts Traps s a more = refl
call_acts Plans s a more = plans_acts s a more (argument s) (reg s.regs 11) (is_known_order s.image (argument s) (reg s.regs 11)) (nat_eq (live_frames s) 0) (nat_eq s.hart 0)
call_acts Polls s a more = polls_acts s a more (is_known_order s.image (argument s) (reg s.regs 11)) (nat_eq (live_frames s) 0)
call_acts Unknown s a more = refl

-- ---- one instruction

pub step_acts : (s : State) (acts : List Act) (pick : ℕ) → fetched_step (with_acts s acts) pick ≡ fetched_step s pick
unfolding fetched_step choices_at
step_acts s acts pick = refl

pub instr_acts : (s : State) (acts : List Act) (pick : ℕ) → fetched_instr (with_acts s acts) pick ≡ fetched_instr s pick
unfolding choices_at
instr_acts s acts pick = refl

pub place_at_call : (s : State) (pick : ℕ) → fetched_instr s pick ≡ Some Ecall → place s pick ≡ called_place s
unfolding place
place_at_call s pick e = ap (λ i. place_of i (called_place s)) e

pub place_elsewhere : (s : State) (pick : ℕ) → IsNoCall (fetched_instr s pick) → place s pick ≡ Elsewhere
unfolding place
place_elsewhere s pick q = q.place (called_place s)

module _ (s : State) (a : Act) (more : List Act) (pick : ℕ) (going : s.stop ≡ Going) where
  pub turn_acts : turn (with_acts s (coming (place s pick) a more)) pick ≡ with_acts (turn (handed s a) pick) more
  turn_acts = by_call (ecall_or (fetched_instr s pick))
    where
      no_call : IsNoCall (fetched_instr s pick) → (o : Outcome Room) → fetched_step s pick ≡ o → turn (with_acts s more) pick ≡ with_acts (turn (handed s a) pick) more
      no_call q (Goes regs pc room) e =
          turn_by (with_acts s more) pick (Goes regs pc room) going (step_acts s more pick ∙ e)
          ∙ ap (λ (t : State). with_acts t more) (sym (turn_by (handed s a) pick (Goes regs pc room) going (step_acts s (a ∷ []) pick ∙ e)))
      no_call q Calls e = absurd (q.no (where_calls s pick e))
      no_call q (Faults why) e = turn_by (with_acts s more) pick (Faults why) going (step_acts s more pick ∙ e) ∙ ap (λ (t : State). with_acts t more) (sym (turn_by (handed s a) pick (Faults why) going (step_acts s (a ∷ []) pick ∙ e)))

      by_call : (fetched_instr s pick ≡ Some Ecall) ⊎ IsNoCall (fetched_instr s pick) → turn (with_acts s (coming (place s pick) a more)) pick ≡ with_acts (turn (handed s a) pick) more
      by_call (inl e) =
          let calls = calls_where s pick e in
          let acts = coming (place s pick) a more in
          turn_by (with_acts s acts) pick Calls going (step_acts s acts pick ∙ calls)
          ∙ ap (λ p. environment_call (request_of (reg s.regs 17)) (with_acts s (coming p a more))) (place_at_call s pick e)
          ∙ call_acts (request_of (reg s.regs 17)) s a more
          ∙ ap (λ (t : State). with_acts t more) (sym (turn_by (handed s a) pick Calls going (step_acts s (a ∷ []) pick ∙ calls)))
      by_call (inr q) = ap (λ p. turn (with_acts s (coming p a more)) pick) (place_elsewhere s pick q) ∙ no_call q (fetched_step s pick) refl

  pub under_acts : (u : Option (List Binding)) → commit_after (with_acts s (coming (place s pick) a more)) pick u ≡ commit_after (handed s a) pick u
  under_acts u = by_call (ecall_or (fetched_instr s pick))
    where
      by_call : (fetched_instr s pick ≡ Some Ecall) ⊎ IsNoCall (fetched_instr s pick) → commit_after (with_acts s (coming (place s pick) a more)) pick u ≡ commit_after (handed s a) pick u
      by_call (inl e) =
          let acts = coming (place s pick) a more in
          let same : (environment_call (request_of (reg s.regs 17)) (with_acts s acts)).bindings ≡ (environment_call (request_of (reg s.regs 17)) (handed s a)).bindings =
          ap (λ p. (environment_call (request_of (reg s.regs 17)) (with_acts s (coming p a more))).bindings) (place_at_call s pick e)
          ∙ ap (λ (t : State). t.bindings) (call_acts (request_of (reg s.regs 17)) s a more) in
          ap (λ i. if is_going s.stop then after_instr (with_acts s acts) i u else u) (instr_acts s acts pick ∙ e)
          ∙ ap (λ bs. if is_going s.stop then cond (is_some_pair (plan_between s.image s.bindings bs)) (Some s.bindings) u else u) same
          ∙ sym (ap (λ i. if is_going s.stop then after_instr (handed s a) i u else u) (instr_acts s (a ∷ []) pick ∙ e))
      by_call (inr q) =
          let acts = coming (place s pick) a more in
          ap (λ i. if is_going s.stop then after_instr (with_acts s acts) i u else u) (instr_acts s acts pick)
          ∙ ap (λ x. if is_going s.stop then x else u) (q.after (with_acts s acts) (handed s a) u)
          ∙ sym (ap (λ i. if is_going s.stop then after_instr (handed s a) i u else u) (instr_acts s (a ∷ []) pick))

-- ---- where a fetch has one choice, the pick doesn't matter

one_pick : (n pick : ℕ) → n ≡ 1 → pick % n ≡ 0 % n
one_pick n pick e = rw e (omega arith)

pub move_pick : (s : State) (a : Act) (u : Option (List Binding)) (pick : ℕ) → choices_at s ≡ 1 → move s a u pick ≡ move s a u 0
unfolding move place is_outside told turn fetched_step choices_at
move_pick s a u pick one = ap (λ k. record {
  place = place_of (option_and_then decode (slice_get (choices s.room.held s.pc) k)) (called_place s);
  outside = outside_of (option_and_then decode (slice_get (choices s.room.held s.pc) k)) (reads_or_writes (request_of (reg s.regs 17)));
  store = option_and_then (λ i. store_of i s.regs) (option_and_then decode (slice_get (choices s.room.held s.pc) k));
  state = record (if is_going s.stop then after (picked_step s.room k s.regs s.pc) (handed s a) else handed s a) { actions = [] };
  under = (if is_going s.stop then after_instr (handed s a) (option_and_then decode (slice_get (choices s.room.held s.pc) k)) u else u);
}) (one_pick (length (choices s.room.held s.pc)) pick one)
