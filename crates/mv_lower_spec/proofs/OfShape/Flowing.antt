-- Where a temporary is live and marked in code that is made of code.
use mathlib.Core.Bool.{or-false}
use Rattle.std.proofs.Common.{◌≡◌, ℕ, Bool, true, false, eqb, ◌||◌, List, [], ◌∷◌, ◌++◌, map, refl, sym, ◌∙◌, ap}
use Rattle.std.proofs.lemmas.Bool.{eqb-true}
use Rattle.mv_ir.specs.declared.tree.Tree.{Tree}
use Rattle.mv_ir.specs.declared.tree.Tree.TheOpen as tree
use Rattle.mv_ir.specs.declared.stm.Stm.{Stm}
use Rattle.mv_ir.specs.declared.stm.Stm.TheOpen.{Stm-F}
use Rattle.mv_ir.specs.declared.stm.Stm.TheViews.{roll-Stm}
use Rattle.mv_ir.specs.Live.{reads_temp, any_reads, Around, Flow, with_after, live_in_order, marks_in_order, flow}
use Rattle.mv_ir.proofs.Keeping.{map_append}
use Rattle.mv_ir.proofs.Rolls.{reads_temp_roll}
use Rattle.mv_ir.proofs.Joining.{marks_append, live_append as flows_append, any_append}
use Rattle.mv_lower_spec.specs.Lowered.{temp, global}
use Rattle.mv_num.proofs.Booleans.{from_falsity}
use Rattle.mv_ast.specs.Names.{any_of}

-- whether a temporary is live at the start of some code, and the marks in it
abbrev pub live_at : ℕ → List Stm → Around → Bool
live_at u code r = live_in_order (map (flow u) code) r

abbrev pub marks_at : ℕ → List Stm → Around → List Bool
marks_at u code r = marks_in_order (map (flow u) code) r

pub live_append : (u : ℕ) (xs ys : List Stm) (r : Around) → live_at u (xs ++ ys) r ≡ live_at u xs (with_after r (live_at u ys r))
live_append u xs ys r = ap (λ l. live_in_order l r) (map_append (flow u) xs ys) ∙ flows_append (map (flow u) xs) (map (flow u) ys) r

pub marked_append : (u : ℕ) (xs ys : List Stm) (r : Around) → any_of (marks_at u (xs ++ ys) r) ≡ (any_of (marks_at u xs (with_after r (live_at u ys r))) || any_of (marks_at u ys r))
marked_append u xs ys r =
    ap (λ l. any_of (marks_in_order l r)) (map_append (flow u) xs ys) ∙ ap any_of (marks_append (map (flow u) xs) (map (flow u) ys) r) ∙
    any_append (marks_at u xs (with_after r (live_at u ys r))) (marks_at u ys r)

-- one statement, by what its layer gives
pub live_one : (u : ℕ) (x : Stm-F Stm) (f : Flow) (r : Around) → flow u (roll-Stm x) ≡ f → live_at u (roll-Stm x ∷ []) r ≡ f.live r
live_one u x f r e = ap (λ (g : Flow). g.live r) e

append_none : (l : List Bool) → any_of (l ++ []) ≡ any_of l
append_none l = any_append l [] ∙ or-false (any_of l)

pub marked_one : (u : ℕ) (x : Stm-F Stm) (f : Flow) (r : Around) → flow u (roll-Stm x) ≡ f → any_of (marks_at u (roll-Stm x ∷ []) r) ≡ any_of (f.marks r)
marked_one u x f r e = ap (λ (g : Flow). any_of (g.marks r ++ [])) e ∙ append_none (f.marks r)

-- ---- reads

pub reads_one : (u : ℕ) (t : Tree) → any_reads u (t ∷ []) ≡ reads_temp u t
reads_one u t = or-false (reads_temp u t)

pub temp_reads : (u t : ℕ) → any_reads u (temp t ∷ []) ≡ eqb t u
temp_reads u t = reads_one u (temp t) ∙ reads_temp_roll u (tree.Temp t)

pub global_reads : (u g : ℕ) → any_reads u (global g ∷ []) ≡ false
global_reads u g = reads_one u (global g) ∙ reads_temp_roll u (tree.Global g)

-- a number of which something holds isn't one of which it doesn't hold
pub another : (f : ℕ → Bool) (t u : ℕ) → f t ≡ true → f u ≡ false → eqb t u ≡ false
another f t u h k = by (eqb t u) refl
  where
    by : (z : Bool) → eqb t u ≡ z → z ≡ false
    by true e = from_falsity (sym k ∙ ap f (sym (eqb-true t u e)) ∙ h)
    by false e = refl

pub not_true : (b : Bool) → (b ≡ true → b ≡ false) → b ≡ false
not_true true h = h refl
not_true false h = refl
