-- What a state does that has one choice.
use Rattle.std.proofs.Common.{◌≡◌, ℕ, ◌%◌, Bool, true, eqb, List, [], ◌∷◌, length, slice_get, Option, Some, ap, ◌∙◌, arith, refl}
use Rattle.std.specs.Prelude.{option_and_then}
use Rattle.std.proofs.lemmas.Bool.{and_from}
use Rattle.mv_isa.specs.declared.instr.Instr.{Instr}
use Rattle.mv_isa.specs.Encoding.{encode, decode, Fits}
use Rattle.mv_isa.specs.Execution.{decoded, execute, step}
use Rattle.mv_isa.proofs.RoundTrip.{decode-encode}
use Rattle.mv_fetch.specs.Held.{choices}
use Rattle.mv_rv32.specs.Stepping.{access, picked_step, target, word_target, picked_target}
use Rattle.mv_machine.specs.Runs.{State, choices_at, fetched_step}
use Rattle.mv_machine.specs.Commits.{fetched_instr}
use Rattle.mv_select.specs.Functions.Loads.{loads_from}
use Rattle.mv_refine_machine.specs.MachineRuns.{spot_of, opens, are_open}
use Rattle.mv_refine_machine.specs.MachineRuns as runs

module _ (s : State) (i : Instr) (fits : Fits i) (one : choices s.room.held s.pc ≡ encode i ∷ []) where
  all_zero : (pick : ℕ) → pick % length (encode i ∷ []) ≡ 0
  all_zero pick = omega arith

  -- whatever is picked, it is that word
  picked : (pick : ℕ) → slice_get (choices s.room.held s.pc) (pick % length (choices s.room.held s.pc)) ≡ Some (encode i)
  picked pick = ap (λ (l : List ℕ). slice_get l (pick % length l)) one ∙ ap (slice_get (encode i ∷ [])) (all_zero pick)

  pub executes : (pick : ℕ) → fetched_step s pick ≡ execute access i s.regs s.pc s.room
  unfolding fetched_step choices_at picked_step
  executes pick = ap (λ (w : Option ℕ). step access w s.regs s.pc s.room) (picked pick) ∙ ap (λ d. decoded access d s.regs s.pc s.room) (decode-encode i fits)

  pub instr_is : (pick : ℕ) → fetched_instr s pick ≡ Some i
  unfolding choices_at
  instr_is pick = ap (option_and_then decode) (picked pick) ∙ decode-encode i fits

  pub instr_first : option_and_then decode (slice_get (choices s.room.held s.pc) 0) ≡ Some i
  instr_first = ap (λ (l : List ℕ). option_and_then decode (slice_get l 0)) one ∙ decode-encode i fits

  -- it is sound for fetches and loads
  pub plainly_sound : (closed : (pc address : ℕ) → Bool) → opens (closed s.pc) (loads_from i s.regs) ≡ true → runs.is_sound closed (spot_of s) ≡ true
  plainly_sound closed unbarred =
      and_from (eqb (length (choices s.room.held s.pc)) 1) (are_open (closed s.pc) s.regs (choices s.room.held s.pc)) (ap (λ (l : List ℕ). eqb (length l) 1) one)
      (ap (are_open (closed s.pc) s.regs) one ∙ and_from (opens (closed s.pc) (option_and_then (λ j. loads_from j s.regs) (decode (encode i)))) true
      (ap (λ d. opens (closed s.pc) (option_and_then (λ j. loads_from j s.regs) d)) (decode-encode i fits) ∙ unbarred) refl)

  pub target_is : picked_target s.room 0 s.regs s.pc ≡ target i s.regs
  unfolding picked_target word_target
  target_is =
      ap (λ (l : List ℕ). option_and_then (λ word. option_and_then (λ j. target j s.regs) (decode word)) (slice_get l 0)) one
      ∙ ap (option_and_then (λ j. target j s.regs)) (decode-encode i fits)
