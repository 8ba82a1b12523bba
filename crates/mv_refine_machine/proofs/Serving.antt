-- The machine serves `getchar` and `putchar`.
use Rattle.std.proofs.Common.{◌≡◌, ℕ, ◌+◌, ◌^◌, ◌<◌, ◌≤◌, Bool, true, List, [], ◌∷◌, Option, Some, refl, ap, ◌∙◌, subst, arith}
use Rattle.std.specs.List.{All}
use Rattle.mv_machine.specs.Acts.{PollActs}
use Rattle.mv_ast.specs.declared.program.Program.{Program}
use Rattle.mv_ast.specs.declared.program.Known.TheVariants.{Getchar, Putchar, Poll, Plan}
use Rattle.mv_fetch.specs.Held.{Room}
use Rattle.mv_image.specs.Spelling.{Fields}
use Rattle.mv_isa.specs.declared.instr.Instr.TheVariants.{Ecall}
use Rattle.mv_isa.specs.Encoding.{encode}
use Rattle.mv_isa.specs.Execution.{Calls, reg, put, step, execute, decoded}
use Rattle.mv_isa.proofs.RoundTrip.{decode-encode}
use Rattle.mv_ir.specs.World.{World, Answer}
use Rattle.mv_ir.specs.KnownFunctions.{next_byte, written}
use Rattle.mv_ir.specs.Programs.{setting_of}
use Rattle.mv_rv32.specs.Stepping.{access as room_access}
use Rattle.mv_machine.specs.Runs.{bytes_to_come}
use Rattle.mv_select_code.specs.Control.Runs.{Machine, outside}
use Rattle.mv_select.specs.Calls.Convention.{Layout, Stands, Returns}
use Rattle.mv_select.specs.Calls.Environment.{Serves, ServesCalls}
use Rattle.mv_refine_machine.specs.Calm.{Rest, IsCalm}
use Rattle.mv_refine_machine.specs.Calls.{IsAnswered, AtCall, CallsAreAnswered}
use Rattle.mv_refine_machine.specs.MachineRuns.{access, unpatched_word, machine_of, is_sound}
use Rattle.mv_refine_machine.specs.Laws.{IsByteOrEnd}
use Rattle.mv_refine_machine.proofs.Answering.{answered_calls}
use Rattle.mv_refine_machine.proofs.Calming.{calm_told, calm_tested}
use Rattle.mv_refine_machine.proofs.Fetches.{unpatched_below}
use Rattle.mv_refine_machine.proofs.Returning.{byte_fits, returned}
use Rattle.mv_refine_machine.proofs.Inputs.{run_bytes}

-- ---- answers in a world without its globals

same_byte : (bytes : List ℕ) (w : World) → (next_byte bytes (outside w)).value ≡ (next_byte bytes w).value
same_byte [] w = refl
same_byte (byte ∷ bytes) w = refl

same_world : (bytes : List ℕ) (w : World) → (next_byte bytes (outside w)).world ≡ outside (next_byte bytes w).world
same_world [] w = refl
same_world (byte ∷ bytes) w = refl

same_globals : (bytes : List ℕ) (w : World) → (next_byte bytes w).world.globals ≡ w.globals
same_globals [] w = refl
same_globals (byte ∷ bytes) w = refl

-- ---- the call

-- loads read nothing but the words of memory
loads_same : (m m' : Rest) (a n : ℕ) → m'.room ≡ m.room → access.load m' a n ≡ access.load m a n
unfolding access
loads_same m m' a n e = ap (λ (room : Room). room_access.load room a n) e

is_call : (word : Option ℕ) (regs : List ℕ) (pc : ℕ) (m : Rest) → word ≡ Some (encode Ecall) → step access word regs pc m ≡ Calls
unfolding execute
is_call word regs pc m e = ap (λ x. step access x regs pc m) e ∙ ap (λ d. decoded access d regs pc m) (decode-encode Ecall tt)

module _ (attributed : List ℕ) (closed : (pc address : ℕ) → Bool) (image : Fields) (input : List (Option ℕ)) (polls : PollActs) (picks : List ℕ) (bytes : All IsByteOrEnd input) (y : Layout) (budget far : ℕ) where
  abbrev machine : Machine Rest
  machine = machine_of attributed closed image input polls picks

  abbrev St : ℕ → World → ℕ → Type 0
  St = Stands access y machine budget far

  -- what an answer is to be in a world, by what it is outside
  record Fits (outer answer : Answer) (w : World) : Type 0 where
    value : outer.value ≡ answer.value
    world : outer.world ≡ outside answer.world
    globals : answer.world.globals ≡ w.globals
    small : answer.value < 2 ^ 32

  module _ (outer answer : Answer) (w : World) (pc i : ℕ) (fits : Fits outer answer w) (h : St pc w i) (at_word : unpatched_word image pc ≡ Some (encode Ecall)) (done : IsAnswered image outer (machine.run i) (machine.run (i + 1)))
      (one : is_sound closed (machine.run i) ≡ true) where
    comes_back : (spare bound cost : ℕ) → i + (spare + 1 + cost) ≤ budget → far ≤ i + bound
        → (j : ℕ) × Returns access y machine budget far spare bound i (pc + 4) answer.world j × (reg (machine.run j).regs 10 ≡ answer.value)
    comes_back =
        let below = unpatched_below image pc (encode Ecall) at_word in
        returned access y machine budget far answer w pc i h (omega (arith, below)) (record {
          regs = done.regs ∙ ap (put (machine.run i).regs 10) fits.value;
          next = done.pc;
          loads = λ a. loads_same (machine.run i).memory (machine.run (i + 1)).memory a 4 done.room;
          calm = calm_tested image (outside answer.world) (machine.run (i + 1)).memory (subst (λ x. IsCalm image x (machine.run (i + 1)).memory) fits.world done.calm);
          sound = one;
          globals = fits.globals;
          small = fits.small;
        })

  at_call : (number pc i : ℕ) (w : World) → St pc w i → unpatched_word image pc ≡ Some (encode Ecall) → reg (machine.run i).regs 17 ≡ number → AtCall image input polls picks number i (outside w)
  at_call number pc i w h at_word asks = record {
    calm = calm_told image (outside w) (machine.run i).memory h.calm;
    calls = is_call (unpatched_word image (machine.run i).pc) (machine.run i).regs (machine.run i).pc (machine.run i).memory (ap (unpatched_word image) h.at ∙ at_word);
    asks = asks;
  }

  module _ (numbers : List ℕ) (p : Program) where
    answers : CallsAreAnswered image input polls picks closed
    answers = answered_calls image input polls picks closed

    byte_served : (args : List ℕ) (pc i : ℕ) → unpatched_word image pc ≡ Some (encode Ecall) → Serves access y machine budget far (setting_of numbers p) 1 pc (pc + 4) Getchar args i
    byte_served args pc i at_word spare bound w h asks paid asked =
        let at = at_call 1 pc i w h at_word asks.number in
        let input_is : (machine.run i).memory.input ≡ bytes_to_come w.input = at.calm.input in
        let left = subst (All IsByteOrEnd) input_is (run_bytes image input polls picks i bytes) in
        comes_back (next_byte w.input (outside w)) (next_byte w.input w) w pc i
        (record { value = same_byte w.input w; world = same_world w.input w; globals = same_globals w.input w; small = byte_fits w.input w left })
        h at_word (answers.reads i (outside w) at) (answers.sound 1 i (outside w) at) spare bound (next_byte w.input w).cost paid asked

    written_served : (x : ℕ) (rest : List ℕ) (pc i : ℕ) → unpatched_word image pc ≡ Some (encode Ecall)
        → Serves access y machine budget far (setting_of numbers p) 1 pc (pc + 4) Putchar (x ∷ rest) i
    written_served x rest pc i at_word spare bound w h asks paid asked =
        let at = at_call 2 pc i w h at_word asks.number in
        let argument : reg (machine.run i).regs 10 ≡ x = asks.arguments 0 (omega arith) in
        comes_back (written x (outside w)) (written x w) w pc i
        (record { value = refl; world = refl; globals = refl; small = omega arith })
        h at_word (subst (λ v. IsAnswered image (written v (outside w)) (machine.run i) (machine.run (i + 1))) argument (answers.writes i (outside w) at))
        (answers.sound 2 i (outside w) at) spare bound (written x w).cost paid asked

    pub serves_calls : ServesCalls access y machine budget far (setting_of numbers p)
    serves_calls Getchar args pc i may direct count at_word = byte_served args pc i at_word
    serves_calls Putchar [] pc i may direct count at_word = absurd (cc)
    serves_calls Putchar (x ∷ rest) pc i may direct count at_word = written_served x rest pc i at_word
    serves_calls Poll args pc i may direct count at_word = absurd direct
    serves_calls (Plan code index) args pc i may direct count at_word = absurd direct
