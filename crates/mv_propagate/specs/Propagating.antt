-- What becomes of code where it is known what temporaries hold: what they hold is read in their place, and an element that stands in a temporary isn't read again.
use Rattle.std.specs.Prelude.{ℕ, ◌≡◌, ◌<◌, ◌⊎◌, false, ◌||◌, eqb, List, [], ◌∷◌, Option, Contains}
use Rattle.mv_num.specs.declared.kind.Kind.{Kind}
use Rattle.mv_ast.specs.declared.program.Known.{Known}
use Rattle.mv_ir.specs.declared.tree.Tree.{Tree}
use Rattle.mv_ir.specs.declared.tree.Tree.TheOpen as tree
use Rattle.mv_ir.specs.declared.tree.Tree.TheViews.{roll-Tree}
use Rattle.mv_ir.specs.declared.stm.Array.{Array}
use Rattle.mv_ir.specs.declared.stm.Array.TheVariants as array
use Rattle.mv_ir.specs.declared.stm.Callee.{Callee}
use Rattle.mv_ir.specs.declared.stm.Callee.TheVariants as callee
use Rattle.mv_ir.specs.declared.stm.Stm.{Stm}
use Rattle.mv_ir.specs.declared.stm.Stm.TheOpen as stm
use Rattle.mv_ir.specs.declared.stm.Stm.TheViews.{roll-Stm}
use Rattle.mv_ir.specs.Rolled.{temp, unary, binary, set, set_global, divide, choose, call, check, read, write, return_with, break, repeat, enclosed}
use Rattle.mv_propagate.specs.declared.facts.Leaf.{Leaf}
use Rattle.mv_propagate.specs.declared.facts.Leaf.TheVariants.{Temp}
use Rattle.mv_propagate.specs.declared.facts.Held.{Held}
use Rattle.mv_propagate.specs.declared.facts.Held.TheVariants.{Value, Element}
use Rattle.mv_propagate.specs.declared.facts.Fact.{Fact}
use Rattle.mv_propagate.specs.Facts.{tree_of, leaf_is, IsLow, names, names_result, goes_by, is_element, Staying}

-- ---- trees

abbrev pub fact : ℕ → Held → Fact
fact t h = record { temp = t; held = h }

-- a tree with what temporaries hold in place of some reads of them
pub data Reads (facts : List Fact) : Tree → Tree → Type 0 where
  itself : (x : Tree) → Reads facts x x
  held : (t : ℕ) (l : Leaf) → Contains facts (fact t (Value l)) → Reads facts (temp t) (tree_of l)
  in_unary : (o : ℕ) (a b : Tree) → Reads facts a b → Reads facts (unary o a) (unary o b)
  in_binary : (o : ℕ) (a a' b b' : Tree) → Reads facts a a' → Reads facts b b' → Reads facts (binary o a b) (binary o a' b')
  in_narrow : (k : Kind) (a b : Tree) → Reads facts a b → Reads facts (roll-Tree (tree.Narrow k a)) (roll-Tree (tree.Narrow k b))

pub data ReadsAll (facts : List Fact) : List Tree → List Tree → Type 0 where
  no_trees : ReadsAll facts [] []
  more_trees : (t u : Tree) (ts us : List Tree) → Reads facts t u → ReadsAll facts ts us → ReadsAll facts (t ∷ ts) (u ∷ us)

pub data ReadsCallee (facts : List Fact) : Callee → Callee → Type 0 where
  same_callee : (f : Callee) → ReadsCallee facts f f
  through : (t u : Tree) → Reads facts t u → ReadsCallee facts (callee.Through t) (callee.Through u)

-- ---- what stays known

-- behind a write of a temporary, of an element, and of anything but the temporaries that a call doesn't write
abbrev pub Unwritten : ℕ → List Fact → List Fact → Type 0
Unwritten t = Staying (names t)

abbrev pub Unstored : Array → List Fact → List Fact → Type 0
Unstored a = Staying (goes_by a)

abbrev pub Uncalled : Option ℕ → List Fact → List Fact → Type 0
Uncalled r = Staying (λ f. is_element f.held || names_result r f)

abbrev pub Fewer : List Fact → List Fact → Type 0
Fewer = Staying (λ f. false)

-- behind a write of a temporary of which it is known then what it holds
abbrev pub Learned : ℕ → Held → List Fact → List Fact → Type 0
Learned t h facts known = (f : Fact) → Contains known f → (f ≡ fact t h) ⊎ (Contains facts f × (names t f ≡ false))

-- ---- code

mutual
  -- what becomes of code whose temporaries are below `temps`, from what is known before it to what is known behind it
  pub data Propagated (temps : ℕ) : List Fact → List Stm → List Stm → List Fact → Type 0 where
    none : (facts : List Fact) → Propagated temps facts [] [] facts
    more : (facts mid after : List Fact) (s y : Stm) (code rest : List Stm) → PropagatedIn temps facts s y mid → Propagated temps mid code rest after →
        Propagated temps facts (s ∷ code) (y ∷ rest) after

  -- what becomes of a statement
  pub data PropagatedIn (temps : ℕ) : List Fact → Stm → Stm → List Fact → Type 0 where
    -- a value, and one that is known then
    computed : (facts after : List Fact) (t : ℕ) (v w : Tree) → Reads facts v w → Unwritten t facts after → PropagatedIn temps facts (set t v) (set t w) after
    copied : (facts after : List Fact) (t : ℕ) (v : Tree) (l : Leaf) → Reads facts v (tree_of l) → t < temps → IsLow temps l → leaf_is t l ≡ false → Learned t (Value l) facts after →
        PropagatedIn temps facts (set t v) (set t (tree_of l)) after
    stored : (facts after : List Fact) (g : ℕ) (v w : Tree) → Reads facts v w → Unstored (array.Global g) facts after →
        PropagatedIn temps facts (set_global g v) (set_global g w) after
    divided : (facts after : List Fact) (t o : ℕ) (a a' b b' : Tree) → Reads facts a a' → Reads facts b b' → Unwritten t facts after →
        PropagatedIn temps facts (divide t o a b) (divide t o a' b') after
    checked : (facts : List Fact) (r : Array) (i j : Tree) → Reads facts i j → PropagatedIn temps facts (check r i) (check r j) facts
    -- an element, one that is known then, and one that stands in a temporary already, be it that one
    fetched : (facts after : List Fact) (t : ℕ) (r : Array) (i j : Tree) → Reads facts i j → Unwritten t facts after →
        PropagatedIn temps facts (read t r i) (read t r j) after
    kept : (facts after : List Fact) (t : ℕ) (r : Array) (i : Tree) (l : Leaf) → Reads facts i (tree_of l) → t < temps → IsLow temps l →
        leaf_is t l ≡ false → Learned t (Element r l) facts after →
        PropagatedIn temps facts (read t r i) (read t r (tree_of l)) after
    moved : (facts after : List Fact) (t u : ℕ) (r : Array) (i : Tree) (l : Leaf) → Reads facts i (tree_of l) →
        Contains facts (fact u (Element r l)) → t < temps → u < temps → eqb u t ≡ false →
        Learned t (Value (Temp u)) facts after → PropagatedIn temps facts (read t r i) (set t (temp u)) after
    there : (facts : List Fact) (t : ℕ) (r : Array) (i : Tree) (l : Leaf) → Reads facts i (tree_of l) → Contains facts (fact t (Element r l)) → t < temps →
        PropagatedIn temps facts (read t r i) (set t (temp t)) facts
    written : (facts after : List Fact) (r : Array) (i j v w : Tree) → Reads facts i j → Reads facts v w → Unstored r facts after →
        PropagatedIn temps facts (write r i v) (write r j w) after
    zeroed : (facts after : List Fact) (l : ℕ) → Unstored (array.Local l) facts after → PropagatedIn temps facts (roll-Stm (stm.Zero l)) (roll-Stm (stm.Zero l)) after
    -- behind a choice is known what is known behind both sides, and within a loop and behind a loop or a block nothing
    choice : (facts first second after : List Fact) (t u : Tree) (a a' b b' : List Stm) → Reads facts t u → Propagated temps facts a a' first → Propagated temps facts b b' second →
        Fewer first after → Fewer second after → PropagatedIn temps facts (choose t a b) (choose u a' b') after
    turns : (facts last : List Fact) (b b' : List Stm) → Propagated temps [] b b' last → PropagatedIn temps facts (repeat b) (repeat b') []
    block : (facts last : List Fact) (b b' : List Stm) → Propagated temps facts b b' last → PropagatedIn temps facts (enclosed b) (enclosed b') []
    leave : (facts : List Fact) (n : ℕ) → PropagatedIn temps facts (break n) (break n) facts
    again : (facts : List Fact) (n : ℕ) → PropagatedIn temps facts (roll-Stm (stm.Back n)) (roll-Stm (stm.Back n)) facts
    called : (facts after : List Fact) (r : Option ℕ) (f f' : Callee) (xs ys : List Tree) → ReadsCallee facts f f' → ReadsAll facts xs ys → Uncalled r facts after →
        PropagatedIn temps facts (call r f xs) (call r f' ys) after
    asked : (facts after : List Fact) (r : Option ℕ) (k : Known) (xs ys : List Tree) → ReadsAll facts xs ys → Uncalled r facts after →
        PropagatedIn temps facts (roll-Stm (stm.Known r k xs)) (roll-Stm (stm.Known r k ys)) after
    returned : (facts : List Fact) (v w : Tree) → Reads facts v w → PropagatedIn temps facts (return_with v) (return_with w) facts
