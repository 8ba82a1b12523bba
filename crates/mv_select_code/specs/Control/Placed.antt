-- Lines that stand in text from an address to another, each at the place of its labels.
use Rattle.std.specs.Prelude.{ℕ, ◌≡◌, ◌+◌, List, [], ◌∷◌, Option, Some}
use Rattle.mv_isa.specs.declared.labelled.Line.{Line}
use Rattle.mv_isa.specs.declared.labelled.Line.TheVariants.{Label, Slot, Point}
use Rattle.mv_isa.specs.Code.{LineFits, IsPlace}
use Rattle.mv_isa.specs.Standing.{LineStands}
use Rattle.mv_isa.specs.LineSteps.{named}

-- Text: the word at each address that is never patched, the function that the slot at an address calls, and the address of the pointer through which the
-- slot of four words at an address does. A slot is two words, or four, which may be patched.
pub record Text : Type 0 where
  pub word : ℕ → Option ℕ
  pub slot : ℕ → Option ℕ
  pub point : ℕ → Option ℕ

-- a line stands in text from an address to another
abbrev pub StandsIn : Text → (place entry : ℕ → ℕ) → (at end : ℕ) → Line → Type 0
StandsIn text place entry at end (Slot f) = (text.slot at ≡ Some f) × (end ≡ at + 8)
StandsIn text place entry at end (Point a) = (text.point at ≡ Some a) × (end ≡ at + 16)
StandsIn text place entry at end line = LineStands text.word place entry at end line

-- a label stands where its place is
abbrev pub IsAtPlace : (ℕ → ℕ) → ℕ → Line → Type 0
IsAtPlace place at (Label l) = place l ≡ at
IsAtPlace place at _ = Unit {0}

-- Text has the line there, its fields fit, and it and what it names are in text. `place` is where each label stands and `entry` where each function
-- begins.
pub record IsPlaced (text : Text) (place entry : ℕ → ℕ) (at end : ℕ) (line : Line) : Type 0 where
  pub stands : StandsIn text place entry at end line
  pub fits : LineFits line
  pub here : IsPlace at
  pub there : IsPlace (named place entry at line)
  pub label : IsAtPlace place at line

abbrev pub Placed : Text → (place entry : ℕ → ℕ) → List Line → (at end : ℕ) → Type 0
Placed text place entry [] at end = end ≡ at
Placed text place entry (line ∷ lines) at end = (mid : ℕ) × IsPlaced text place entry at mid line × Placed text place entry lines mid end
