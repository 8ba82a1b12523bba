-- How a choice is put behind some code, one step at a time.
use Rattle.std.specs.Prelude.{ℕ, ◌≡◌, ◌<◌, Bool, true, false, not, ◌||◌, eqb, List, [], ◌∷◌, ◌++◌, option_to_list}
use Rattle.mv_ir.specs.declared.tree.Tree.{Tree}
use Rattle.mv_ir.specs.declared.stm.Stm.{Stm}
use Rattle.mv_ir.specs.Operators as operator
use Rattle.mv_ir.specs.Measures.{statements}
use Rattle.mv_ir.specs.Rolled.{number, temp, unary, binary, set}
use Rattle.mv_tidy.specs.Choosing.{is_nothing, is_jump, taken, sides, Attached}
use Rattle.mv_tidy.specs.declared.attach.Side.{Side}
use Rattle.mv_tidy.specs.declared.attach.Side.TheVariants as side
use Rattle.mv_tidy.specs.declared.attach.Merge.{Merge}
use Rattle.mv_tidy.specs.declared.attach.Merge.TheVariants as merge
use Rattle.mv_tidy.specs.declared.attach.Ended.{Ended}
use Rattle.mv_tidy.specs.declared.attach.Ended.TheVariants as ended
use Rattle.mv_tidy.specs.declared.attach.Parts.{Parts}
use Rattle.mv_tidy.specs.declared.attach.Split.{Split}
use Rattle.mv_tidy.specs.declared.attach.Split.TheVariants as split
use Rattle.mv_tidy.specs.declared.attach.Frame.{Frame}
use Rattle.mv_tidy.specs.declared.attach.Step.{Step}
use Rattle.mv_tidy.specs.declared.attach.Step.TheVariants as step

-- a condition that asks for a temporary, or for the opposite
pub data Asks (t : ℕ) : Bool → Tree → Type 0 where
  itself : Asks t false (temp t)
  denied : (d : Bool) (k : Tree) → Asks t d k → Asks t (not d) (unary operator.logical_not k)
  unequal : (d : Bool) (k : Tree) → Asks t d k → Asks t d (binary operator.not_equal k (number 0))
  equal : (d : Bool) (k : Tree) → Asks t d k → Asks t (not d) (binary operator.equal k (number 0))

-- a side that is nothing, or one jump
abbrev pub IsSide : List Stm → Side → Type 0
IsSide code side.Empty = code ≡ []
IsSide code (side.Jump s) = (code ≡ s ∷ []) × (is_jump code ≡ true)
IsSide code side.Other = Unit {0}

-- how two sides that end by setting a temporary take in a choice, where the number that one of them sets takes the first of these
abbrev pub IsMergeOf : Bool → (taken other : List Stm) → Merge → Type 0
IsMergeOf zero taken other (merge.Pushed jump) = (taken ≡ option_to_list jump) × ((is_nothing taken || is_jump taken) ≡ true)
IsMergeOf zero taken other (merge.Jumped z) = (z ≡ zero) × (is_jump other ≡ true)

abbrev pub IsMerge : Tree → (x y : List Stm) → Merge → Type 0
IsMerge v x y m = (n : ℕ) × (v ≡ number n) × IsMergeOf (eqb n 0) (taken n x y) (taken n y x) m

-- some code that ends by setting a temporary
abbrev pub IsEnded : List Stm → ℕ → Ended → Type 0
IsEnded code t (ended.Other l) = l ≡ code
IsEnded code t (ended.Value l e) = code ≡ l ++ set t e ∷ []

-- some code that ends by a choice whose sides end by setting a temporary
abbrev pub HasParts : List Stm → ℕ → Parts → Tree → Type 0
HasParts code t p v = code ≡ p.first ++ sides p.turned p.test (p.a ++ set t p.value ∷ []) (p.b ++ set t v ∷ []) ∷ []

abbrev pub IsSplit : List Stm → ℕ → (x y : List Stm) → Split → Type 0
IsSplit code t x y (split.Whole l) = l ≡ code
IsSplit code t x y (split.At p m) = (v : Tree) × HasParts code t p v × IsMerge v x y m

-- what is around the side that a choice goes to
abbrev pub framed : Frame → List Stm → List Stm
framed f z = f.first ++ sides f.turned f.test z f.b ∷ f.rest

-- a choice behind some code, or what is left to do for it
abbrev pub IsStep : (ℕ → Type 0) → List Stm → Tree → (x y : List Stm) → Step → Type 0
IsStep gone first k x y (step.Done z) = Attached gone first k x y z
IsStep gone first k x y (step.Inner f a e u v) = (statements a < statements first) × ((z : List Stm) → Attached gone a e u v z → Attached gone first k x y (framed f z))
