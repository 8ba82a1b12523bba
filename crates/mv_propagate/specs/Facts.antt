-- What is known of the temporaries of a frame at a place of some code.
use Rattle.std.specs.Prelude.{ℕ, ◌≡◌, ◌<◌, ◌≤◌, ◌^◌, Bool, true, false, ◌||◌, eqb, List, length, slice_index, Option, Some, None, Contains}
use Rattle.mv_ir.specs.declared.tree.Tree.{Tree}
use Rattle.mv_ir.specs.declared.stm.Array.{Array}
use Rattle.mv_ir.specs.declared.stm.Array.TheVariants as array
use Rattle.mv_ir.specs.Outcome.{State}
use Rattle.mv_ir.specs.Meaning.{elements}
use Rattle.mv_ir.specs.Rolled.{number, temp}
use Rattle.mv_propagate.specs.declared.facts.Leaf.{Leaf}
use Rattle.mv_propagate.specs.declared.facts.Leaf.TheVariants.{Number, Temp}
use Rattle.mv_propagate.specs.declared.facts.Held.{Held}
use Rattle.mv_propagate.specs.declared.facts.Held.TheVariants.{Value, Element}
use Rattle.mv_propagate.specs.declared.facts.Fact.{Fact}

-- ---- leaves

abbrev pub tree_of : Leaf → Tree
tree_of (Number n) = number n
tree_of (Temp u) = temp u

abbrev pub leaf_value : State → Leaf → ℕ
leaf_value s (Number n) = n
leaf_value s (Temp u) = slice_index s.temps u

abbrev pub leaf_is : ℕ → Leaf → Bool
leaf_is t (Number n) = false
leaf_is t (Temp u) = eqb u t

-- a word, or one of so many temporaries
abbrev pub IsLow : ℕ → Leaf → Type 0
IsLow temps (Number n) = n < 2 ^ 32
IsLow temps (Temp u) = u < temps

-- ---- facts

-- a temporary holds what a leaf is, or the element of an array at an index that is below the length
abbrev pub HoldsIn : State → ℕ → Held → Type 0
HoldsIn s t (Value l) = slice_index s.temps t ≡ leaf_value s l
HoldsIn s t (Element a i) = (leaf_value s i < length (elements a s)) × (slice_index s.temps t ≡ slice_index (elements a s) (leaf_value s i))

abbrev pub Holds : State → Fact → Type 0
Holds s f = HoldsIn s f.temp f.held

abbrev pub AllHold : State → List Fact → Type 0
AllHold s facts = (f : Fact) → Contains facts f → Holds s f

-- so of a frame with at least so many temporaries
pub record AreKnown (temps : ℕ) (facts : List Fact) (s : State) : Type 0 where
  pub enough : temps ≤ length s.temps
  pub true : AllHold s facts

-- ---- what a fact goes by

abbrev pub held_by : ℕ → Held → Bool
held_by t (Value l) = leaf_is t l
held_by t (Element a i) = leaf_is t i

-- by a temporary
abbrev pub names : ℕ → Fact → Bool
names t f = eqb f.temp t || held_by t f.held

-- by the temporary of a result, if there is one
abbrev pub names_result : Option ℕ → Fact → Bool
names_result None f = false
names_result (Some t) f = names t f

abbrev pub same_array : Array → Array → Bool
same_array (array.Global g) (array.Global h) = eqb g h
same_array (array.Global g) (array.SureGlobal h n) = eqb g h
same_array (array.SureGlobal g m) (array.Global h) = eqb g h
same_array (array.SureGlobal g m) (array.SureGlobal h n) = eqb g h
same_array (array.Local l) (array.Local k) = eqb l k
same_array (array.Local l) (array.SureLocal k n) = eqb l k
same_array (array.SureLocal l m) (array.Local k) = eqb l k
same_array (array.SureLocal l m) (array.SureLocal k n) = eqb l k
same_array a b = false

-- by the elements of an array, whatever is promised, and by those of any
abbrev pub goes_by : Array → Fact → Bool
goes_by a f = element_of a f.held
  where
    element_of : Array → Held → Bool
    element_of a (Value l) = false
    element_of a (Element b i) = same_array a b

abbrev pub is_element : Held → Bool
is_element (Value l) = false
is_element (Element a i) = true

-- some facts of others, none of which is this
abbrev pub Staying : (Fact → Bool) → List Fact → List Fact → Type 0
Staying gone facts kept = (f : Fact) → Contains kept f → Contains facts f × (gone f ≡ false)
