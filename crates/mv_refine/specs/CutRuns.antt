-- What a run does on what it has taken of its input and one more answer, and what its next instruction does.
use Rattle.std.specs.Prelude.{ℕ, ◌≡◌, ◌+◌, ◌⊎◌, List, [], ◌∷◌, ◌++◌, slice_index, Option}
use Rattle.mv_machine.specs.Runs.{State, Going, Reads, Writes, runs_from}
use Rattle.mv_machine.specs.Snapshots.{CallsFor}

-- a state with something else to read
abbrev pub with_input : State → (input : List (Option ℕ)) → State
with_input s input = record s { input = input }

-- A run from a state has taken some answers, so that others are left. On these and one more it stands the same, and that one is still to come; or it has taken
-- that one too, where before it had read at the end of the input.
abbrev pub TakenIsEnough : Type 0
TakenIsEnough =
    (s : State) (picks : List ℕ) (n : ℕ) (taken rest : List (Option ℕ)) (more : Option ℕ) → s.input ≡ taken ++ rest → (runs_from s picks n).input ≡ rest →
    let other = runs_from (with_input s (taken ++ more ∷ [])) picks n in
    (other ≡ with_input (runs_from s picks n) (more ∷ [])) ⊎ (other.input ≡ [])

-- Where its next instruction reads, nothing is left behind it of what was taken and one more.
abbrev pub ReadTakesMore : Type 0
ReadTakesMore =
    (s : State) (picks : List ℕ) (n : ℕ) (taken rest : List (Option ℕ)) (more : Option ℕ) → s.input ≡ taken ++ rest → (runs_from s picks n).input ≡ rest →
    (runs_from s picks n).stop ≡ Going → CallsFor (runs_from s picks n) (slice_index picks n) Reads →
    (runs_from (with_input s (taken ++ more ∷ [])) picks (n + 1)).input ≡ []

-- Where its next instruction writes, there is one byte more of output behind it.
abbrev pub WriteWritesMore : Type 0
WriteWritesMore =
    (s : State) (picks : List ℕ) (n : ℕ) → (runs_from s picks n).stop ≡ Going → CallsFor (runs_from s picks n) (slice_index picks n) Writes →
    (byte : ℕ) × ((runs_from s picks (n + 1)).output ≡ (runs_from s picks n).output ++ byte ∷ [])
