-- The machine serves `getchar` and `putchar`.
use Rattle.std.proofs.Common.{◌≡◌, ℕ, ◌+◌, ◌%◌, ◌^◌, ◌<◌, ◌≤◌, Bool, false, cond, List, [], ◌∷◌, ◌++◌, length, Option, Some, None, refl, sym, ap, ◌∙◌, subst, arith}
use Rattle.std.specs.List.{All}
use Rattle.mv_num.specs.Words.{add}
use Rattle.mv_ast.specs.declared.program.Program.{Program}
use Rattle.mv_ast.specs.declared.program.Known.TheVariants.{Getchar, Putchar, Poll, Plan}
use Rattle.mv_isa.specs.declared.instr.Instr.TheVariants.{Ecall}
use Rattle.mv_isa.specs.Encoding.{encode}
use Rattle.mv_isa.specs.Execution.{reg, put}
use Rattle.mv_fetch.specs.Held.{Room}
use Rattle.mv_image.specs.Spelling.{Fields}
use Rattle.mv_image.specs.Faults.{Rules}
use Rattle.mv_patch.specs.Plans.{plan_between}
use Rattle.mv_ir.specs.World.{World, Answer}
use Rattle.mv_ir.specs.KnownFunctions.{next_byte, written}
use Rattle.mv_ir.specs.Programs.{setting_of}
use Rattle.mv_machine.specs.Acts.{PollActs}
use Rattle.mv_machine.specs.Runs.{State, Request, Reads, Writes, request_of, bytes_to_come, word_read, next_read, later_reads, answered, environment_call}
use Rattle.mv_machine.specs.Commits.{opens, is_some_pair}
use Rattle.mv_machine.proofs.Calls.{request_reads, request_writes}
use Rattle.mv_select_code.specs.Control.Runs.{outside}
use Rattle.mv_select.specs.Calls.Convention.{Layout, Stands, Returns}
use Rattle.mv_select.specs.Calls.Environment.{Serves, ServesCalls}
use Rattle.mv_refine_machine.specs.Calm.{IsCalm}
use Rattle.mv_refine_machine.specs.MachineRuns.{rest_of, unpatched_word}
use Rattle.mv_refine_machine.specs.Laws.{IsByteOrEnd}
use Rattle.mv_refine_machine.proofs.Returning.{byte_fits, returned}
use Rattle.mv_refine_machine.proofs.Inputs.{bytes_left, first_input}
use Rattle.mv_refine_machine.specs.Stores.Between.{IsSettled}
use Rattle.mv_refine_machine.specs.Commits.Watch.{texts_of}
use Rattle.mv_refine_machine.specs.Commits.Watched.{access, watched, IsQuiet}
use Rattle.mv_refine_machine.specs.Commits.Hosted.{WatchedCallsAreServed}
use Rattle.mv_refine_machine.specs.Commits.Known.{Known}
use Rattle.mv_refine_machine.proofs.OfCommits.Orders.{quiet_inside, quiet_outside}
use Rattle.mv_refine_machine.proofs.OfCommits.Planned.{no_pairs}
use Rattle.mv_refine_machine.proofs.OfCommits.Quiet.{quiet_told, quiet_tested}
use Rattle.mv_refine_machine.proofs.OfCommits.Served.{Calmly, calm_calls, calm_sound, calm_under, unpatched_told}
use Rattle.mv_refine_machine.proofs.OfCommits.WatchedRun.{watched_run}

-- ---- what a call leaves

-- the machine after a read or a write
record Does (image : Fields) (w : World) (s next : State) (answer : Answer) : Type 0 where
  regs : next.regs ≡ put s.regs 10 answer.value
  pc : next.pc ≡ add s.pc 4
  room : next.room ≡ s.room
  bindings : next.bindings ≡ s.bindings
  hart : next.hart ≡ s.hart
  actions : next.actions ≡ s.actions
  calm : IsCalm image answer.world (rest_of next)
  globals : answer.world.globals ≡ w.globals
  same_bindings : answer.world.bindings ≡ w.bindings
  same_hart : answer.world.hart ≡ w.hart
  same_actions : answer.world.actions ≡ w.actions

reads_do : (image : Fields) (w : World) (s : State) (bytes : List ℕ) → w.input ≡ bytes → IsCalm image w (rest_of s) → Does image w s (environment_call Reads s) (next_byte bytes w)
unfolding answered
reads_do image w s [] e calm =
    let none = calm.input ∙ ap bytes_to_come e in record {
      regs = ap (λ x. put s.regs 10 (word_read (next_read x))) none;
      pc = refl;
      room = refl;
      bindings = refl;
      hart = refl;
      actions = refl;
      calm = record {
        goes_on = calm.goes_on;
        text = calm.text;
        no_older = calm.no_older;
        stack = calm.stack;
        input = ap later_reads none ∙ sym (ap bytes_to_come e);
        output = calm.output;
        bindings = calm.bindings;
        log = calm.log;
      };
      globals = refl;
      same_bindings = refl;
      same_hart = refl;
      same_actions = refl;
    }
reads_do image w s (byte ∷ bytes) e calm =
    let some = calm.input ∙ ap bytes_to_come e in record {
      regs = ap (λ x. put s.regs 10 (word_read (next_read x))) some;
      pc = refl;
      room = refl;
      bindings = refl;
      hart = refl;
      actions = refl;
      calm = record {
        goes_on = calm.goes_on;
        text = calm.text;
        no_older = calm.no_older;
        stack = calm.stack;
        input = ap later_reads some;
        output = calm.output;
        bindings = calm.bindings;
        log = calm.log;
      };
      globals = refl;
      same_bindings = refl;
      same_hart = refl;
      same_actions = refl;
    }

writes_do : (image : Fields) (w : World) (s : State) → IsCalm image w (rest_of s) → Does image w s (environment_call Writes s) (written (reg s.regs 10) w)
unfolding answered
writes_do image w s calm = record {
  regs = refl;
  pc = refl;
  room = refl;
  bindings = refl;
  hart = refl;
  actions = refl;
  calm = record {
    goes_on = calm.goes_on;
    text = calm.text;
    no_older = calm.no_older;
    stack = calm.stack;
    input = calm.input;
    output = ap (λ x. x ++ (reg s.regs 10 % 256) ∷ []) calm.output;
    bindings = calm.bindings;
    log = calm.log;
  };
  globals = refl;
  same_bindings = refl;
  same_hart = refl;
  same_actions = refl;
}

module _ (known : Known) (attributed : List ℕ) (closed : (pc address : ℕ) → Bool) (image : Fields) (rules : Rules image) (input : List (Option ℕ)) (polls : PollActs) (picks : List ℕ)
    (bytes : All IsByteOrEnd input) (y : Layout) (budget far : ℕ) where
  open watched_run attributed closed image input polls picks use {machine, start, state as S, run, under as U}

  abbrev St : ℕ → World → ℕ → Type 0
  St = Stands access y machine budget far

  module _ (pc i : ℕ) (w : World) (here : St pc w i) (at_word : unpatched_word image pc ≡ Some (encode Ecall)) where
    quiet : IsQuiet image w (watched (S i) (U i))
    quiet = quiet_inside image w (run i).memory (quiet_told known image (outside w) (run i).memory here.calm)

    calmly : Calmly known closed image rules start picks w Ecall i
    calmly = record { quiet = quiet; stands = record { fields = tt; word = ap (unpatched_word image) here.at ∙ at_word }; sound = here.sound }

    module _ (request : Request) (answer : Answer) (is : request_of (reg (S i).regs 17) ≡ request) (does : Does image w (S i) (environment_call request (S i)) answer) (small : answer.value < 2 ^ 32) where
      next : S (i + 1) ≡ environment_call request (S i)
      next = calm_calls known closed image rules start picks w i calmly ∙ ap (λ r. environment_call r (S i)) is

      -- it begins no commit
      opens_none : opens (S i) ≡ false
      opens_none =
          ap (λ bs. is_some_pair (plan_between (S i).image (S i).bindings bs)) (ap (λ r. (environment_call r (S i)).bindings) is ∙ does.bindings)
          ∙ ap is_some_pair (no_pairs (S i).image (S i).bindings)

      under_none : U (i + 1) ≡ None
      under_none = calm_under known closed image rules start picks w Ecall i calmly ∙ ap (λ b. cond b (Some (S i).bindings) None) opens_none

      room_is : (S (i + 1)).room ≡ (S i).room
      room_is = ap (λ (s : State). s.room) next ∙ does.room

      quiet_next : IsQuiet image answer.world (watched (S (i + 1)) (U (i + 1)))
      quiet_next = record {
        calm = subst (λ (s : State). IsCalm image answer.world (rest_of s)) (sym next) does.calm;
        settled = subst (λ bs. IsSettled (texts_of image bs) (S (i + 1)).room) (sym does.same_bindings) (subst (IsSettled (texts_of image w.bindings)) (sym room_is) quiet.settled);
        reserve = ap (λ (r : Room). r.reserve) room_is ∙ quiet.reserve;
        plan = ap (λ (r : Room). length r.held.plan) room_is ∙ quiet.plan;
        under = under_none;
        hart = ap (λ (s : State). s.hart) next ∙ does.hart ∙ quiet.hart ∙ sym does.same_hart;
        actions = ap (λ (s : State). s.actions) next ∙ does.actions ∙ quiet.actions ∙ sym does.same_actions;
      }

      loads : (a : ℕ) → access.load (run (i + 1)).memory a 4 ≡ access.load (run i).memory a 4
      unfolding access
      loads a = ap (λ (r : Room). access.load (record (run i).memory { rest = record (run i).memory.rest { room = r } }) a 4) room_is

      comes_back : (spare bound cost : ℕ) → i + (spare + 1 + cost) ≤ budget → far ≤ i + bound
          → (j : ℕ) × Returns access y machine budget far spare bound i (pc + 4) answer.world j × (reg (run j).regs 10 ≡ answer.value)
      comes_back =
          let below = (unpatched_told image pc (encode Ecall) at_word).below in
          returned access y machine budget far answer w pc i here (omega (arith, below)) (record {
            regs = ap (λ (s : State). s.regs) next ∙ does.regs;
            next = ap (λ (s : State). s.pc) next ∙ does.pc;
            loads = loads;
            calm = quiet_tested known image (outside answer.world) (run (i + 1)).memory (quiet_outside image answer.world (run (i + 1)).memory quiet_next);
            sound = calm_sound known closed image rules start picks w Ecall i calmly refl refl;
            globals = does.globals;
            small = small;
          })

  module _ (numbers : List ℕ) (p : Program) where
    byte_served : (args : List ℕ) (pc i : ℕ) → unpatched_word image pc ≡ Some (encode Ecall) → Serves access y machine budget far (setting_of numbers p) 1 pc (pc + 4) Getchar args i
    byte_served args pc i at_word spare bound w here asks paid asked =
        let q = quiet pc i w here at_word in
        let left = subst (All IsByteOrEnd) q.calm.input (bytes_left start picks i (subst (All IsByteOrEnd) (sym (first_input image input polls)) bytes)) in
        comes_back pc i w here at_word Reads (next_byte w.input w) (request_reads (reg (S i).regs 17) asks.number) (reads_do image w (S i) w.input refl q.calm) (byte_fits w.input w left)
        spare bound (next_byte w.input w).cost paid asked

    written_served : (x : ℕ) (rest : List ℕ) (pc i : ℕ) → unpatched_word image pc ≡ Some (encode Ecall)
        → Serves access y machine budget far (setting_of numbers p) 1 pc (pc + 4) Putchar (x ∷ rest) i
    written_served x rest pc i at_word spare bound w here asks paid asked =
        let q = quiet pc i w here at_word in
        let argument_is : reg (S i).regs 10 ≡ x = asks.arguments 0 (omega arith) in
        comes_back pc i w here at_word Writes (written x w) (request_writes (reg (S i).regs 17) asks.number)
        (subst (λ v. Does image w (S i) (environment_call Writes (S i)) (written v w)) argument_is (writes_do image w (S i) q.calm)) (omega arith)
        spare bound (written x w).cost paid asked

    pub serves_calls : ServesCalls access y machine budget far (setting_of numbers p)
    serves_calls Getchar args pc i may direct count at_word = byte_served args pc i at_word
    serves_calls Putchar [] pc i may direct count at_word = absurd (cc)
    serves_calls Putchar (x ∷ rest) pc i may direct count at_word = written_served x rest pc i at_word
    serves_calls Poll args pc i may direct count at_word = absurd direct
    serves_calls (Plan code index) args pc i may direct count at_word = absurd direct

pub watched_calls : Known → WatchedCallsAreServed
watched_calls known attributed closed image rules input polls picks bytes y budget far numbers p =
    serves_calls known attributed closed image rules input polls picks bytes y budget far numbers p
