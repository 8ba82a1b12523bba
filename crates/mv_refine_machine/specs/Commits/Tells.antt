-- What a sound place tells of a state.
use Rattle.std.specs.Prelude.{ℕ, ◌≡◌, ◌≢◌, Bool, true, List, Option, Some}
use Rattle.std.specs.List.{All}
use Rattle.mv_bindings.specs.declared.binding.Binding.{Binding}
use Rattle.mv_patch.specs.declared.prepared.Pair.{Pair}
use Rattle.mv_patch.specs.Pairs.{pairs_between}
use Rattle.mv_isa.specs.declared.instr.Instr.TheVariants.{Ecall}
use Rattle.mv_machine.specs.Commits.{fetched_instr}
use Rattle.mv_machine.specs.Runs.{State, choices_at}
use Rattle.mv_machine.specs.Snapshots.{WantsMemory}
use Rattle.mv_refine_machine.specs.MachineRuns as runs
use Rattle.mv_refine_machine.specs.MachineRuns.{rest_of, spot_of}
use Rattle.mv_refine_machine.specs.Commits.Watch.{is_settled, is_sound}

-- A fetch has one choice and is no load of what is closed, text is that of the bindings or between two, whatever is picked, the instruction doesn't want
-- memory, and pc stands in no word that the commit that is under way changes.
pub record SoundTells (closed : (pc address : ℕ) → Bool) (texts : List Binding → List ℕ) (under : Option (List Binding)) (s : State) : Type 0 where
  pub one : choices_at s ≡ 1
  pub unbarred : runs.is_sound closed (spot_of s) ≡ true
  pub settled : is_settled texts under (rest_of s) ≡ true
  pub roomy : (pick : ℕ) → WantsMemory s pick → ⊥
  -- no environment call is made while a commit is under way
  pub calls : (old : List Binding) → under ≡ Some old → fetched_instr s 0 ≡ Some Ecall → ⊥
  pub apart : (old : List Binding) → under ≡ Some old → All (λ (pair : Pair). pair.address ≢ s.pc) (pairs_between (texts old) (texts s.bindings))

abbrev pub SoundPlacesTell : Type 0
SoundPlacesTell =
    (closed : (pc address : ℕ) → Bool) (texts : List Binding → List ℕ) (under : Option (List Binding)) (s : State) → is_sound closed texts under (spot_of s) ≡ true → SoundTells closed texts under s
