-- The end of a body's code. Behind it nothing follows, so a jump that leaves the body does nothing there, nor does a set, and a temporary that the last statement
-- stores or returns is read nowhere else: the value that the set before puts into it takes its place.
use Rattle.std.specs.Prelude.{ℕ, Bool, true, false, cond, eqb, ltb, List, [], ◌∷◌, Option, Some, None}
use Rattle.mv_ir.specs.declared.tree.Tree.{Tree, out-Tree}
use Rattle.mv_ir.specs.declared.tree.Tree.TheOpen.{Tree-F}
use Rattle.mv_ir.specs.declared.tree.Tree.TheOpen as tree
use Rattle.mv_ir.specs.declared.stm.Stm.{Stm, out-Stm}
use Rattle.mv_ir.specs.declared.stm.Stm.TheOpen.{Stm-F}
use Rattle.mv_ir.specs.declared.stm.Stm.TheOpen as stm
use Rattle.mv_ir.specs.declared.stm.Stm.TheViews.{roll-Stm}

-- ---- without what does nothing at its end

abbrev pub layer_idles : {A : Type 0} → Stm-F A → Bool
layer_idles (stm.Break n) = true
layer_idles (stm.Set t v) = true
layer_idles _ = false

-- whether it does nothing where nothing follows
unfoldable pub idles : Stm → Bool
idles s = layer_idles (out-Stm s)

abbrev pub unless_idle : Stm → List Stm → List Stm
unless_idle s [] = cond (idles s) [] (s ∷ [])
unless_idle s (t ∷ ss) = s ∷ t ∷ ss

-- as often as it can be done, from the end on
abbrev pub without_idle : List Stm → List Stm
without_idle [] = []
without_idle (s ∷ ss) = unless_idle s (without_idle ss)

-- ---- without a temporary that it stores or returns

abbrev pub layer_is_temp : {A : Type 0} → ℕ → Tree-F A → Bool
layer_is_temp t (tree.Temp u) = eqb u t
layer_is_temp t _ = false

-- whether a tree is a temporary, and nothing more
unfoldable pub is_temp : ℕ → Tree → Bool
is_temp t x = layer_is_temp t (out-Tree x)

abbrev pub where_true : Bool → Stm-F Stm → Option Stm
where_true c x = cond c (Some (roll-Stm x)) None

abbrev pub layer_taking : {A : Type 0} → ℕ → Tree → Stm-F A → Option Stm
layer_taking t v (stm.SetGlobal g x) = where_true (is_temp t x) (stm.SetGlobal g v)
layer_taking t v (stm.Return x) = where_true (is_temp t x) (stm.Return v)
layer_taking t v _ = None

-- a value in place of the temporary that a statement stores or returns
unfoldable pub taking : ℕ → Tree → Stm → Option Stm
taking t v s = layer_taking t v (out-Stm s)

abbrev pub layer_as_one : {A : Type 0} → ℕ → Stm-F A → Stm → Option Stm
layer_as_one temps (stm.Set t v) s = cond (ltb t temps) (taking t v s) None
layer_as_one temps _ s = None

-- the last two statements of a body with so many temporaries as one
unfoldable pub as_one : ℕ → Stm → Stm → Option Stm
as_one temps r s = layer_as_one temps (out-Stm r) s

abbrev pub or_both : Option Stm → Stm → Stm → List Stm
or_both None r s = r ∷ s ∷ []
or_both (Some q) r s = q ∷ []

abbrev pub in_front : ℕ → Stm → List Stm → List Stm
in_front temps r [] = r ∷ []
in_front temps r (s ∷ []) = or_both (as_one temps r s) r s
in_front temps r (s ∷ q ∷ ss) = r ∷ s ∷ q ∷ ss

-- as often as it can be done, from the end on
abbrev pub carried : ℕ → List Stm → List Stm
carried temps [] = []
carried temps (s ∷ ss) = in_front temps s (carried temps ss)

-- ---- both

abbrev pub shortened : ℕ → List Stm → List Stm
shortened temps code = carried temps (without_idle code)
