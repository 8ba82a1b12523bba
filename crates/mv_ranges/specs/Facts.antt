-- What is known of the temporaries of a frame.
use Rattle.std.specs.Prelude.{ℕ, ◌≡◌, ◌<◌, ◌≤◌, ◌≢◌, List, All, length, slice_index}
use Rattle.mv_ir.specs.declared.stm.Array.{Array}
use Rattle.mv_ir.specs.Outcome.{State}
use Rattle.mv_ir.specs.Meaning.{elements}
use Rattle.mv_ranges.specs.declared.facts.Fact.{Fact}
use Rattle.mv_ranges.specs.declared.facts.Fact.TheVariants.{Within, Below}
use Rattle.mv_ranges.specs.Ranges.{IsIn}

abbrev pub temp_of : Fact → ℕ
temp_of (Within t r) = t
temp_of (Below t a) = t

-- a temporary holds a number of a range, or one below the length of an array
abbrev pub Holds : State → Fact → Type 0
Holds s (Within t r) = IsIn r (slice_index s.temps t)
Holds s (Below t a) = slice_index s.temps t < length (elements a s)

abbrev pub AllHold : State → List Fact → Type 0
AllHold s facts = All (Holds s) facts

-- so of a frame with at least so many temporaries
pub record AreKnown (temps : ℕ) (facts : List Fact) (s : State) : Type 0 where
  pub enough : temps ≤ length s.temps
  pub true : AllHold s facts

-- two states whose arrays are as long
abbrev pub AreAsLong : State → State → Type 0
AreAsLong s s' = (a : Array) → length (elements a s') ≡ length (elements a s)

-- two states that have the same in each temporary but one
abbrev pub AreSameBut : ℕ → State → State → Type 0
AreSameBut t s s' = (u : ℕ) → u ≢ t → slice_index s'.temps u ≡ slice_index s.temps u
