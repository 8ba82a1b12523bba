-- A measure of calls isn't more where short bodies stand in place of calls, and it is the same where calls of their functions count nothing.
use Rattle.std.proofs.Common.{arith, ◌≡◌, ℕ, suc, ◌+◌, ◌≤◌, Bool, true, false, cond, List, [], ◌∷◌, ◌++◌, map, slice_get, Option, None, Some, ◌∙◌, ap, refl, subst}
use Rattle.mv_ir.specs.declared.tree.Tree.{Tree}
use Rattle.mv_ir.specs.declared.stm.Callee.TheVariants as callee
use Rattle.mv_ir.specs.declared.stm.Stm.{Stm, out-Stm}
use Rattle.mv_ir.specs.declared.stm.Stm.TheOpen.{Stm-F}
use Rattle.mv_ir.specs.declared.stm.Stm.TheOpen as stm
use Rattle.mv_ir.specs.declared.stm.Stm.TheViews.{roll-out-Stm}
use Rattle.mv_ir.specs.declared.stm.Stm.TheFolds.{map-Stm}
use Rattle.mv_ir.specs.declared.body.Body.{Body}
use Rattle.mv_ir.specs.Measures.{total, calls}
use Rattle.mv_ir.specs.Rolled.{set, divide, call}
use Rattle.mv_ir.specs.Shorts.{Shorts}
use Rattle.mv_ir.proofs.Rolls.{calls_roll}
use Rattle.mv_tidy.proofs.QuietCode.{calls_append}
use Rattle.mv_expand.specs.Placed.{placed_tree, given_from, result_into, placed_layer, placed_stm, placed_code, steps, IsPlaced}
use Rattle.mv_expand.specs.Expanding.{Expands, test_unless}
use Rattle.mv_expand.proofs.Rolls.{placed_stm_roll}
use Rattle.mv_expand.proofs.Structure.{IsClosed, expanded_is}
use Rattle.mv_variants.proofs.OfBound.Measures.{Measure, all_append, Counts as SameCounts, equal}
use Rattle.mv_variants.proofs.OfBound.TidiedMeasures.{CountsCalls, idle, choice_is}

-- a call of a function that has a short body counts nothing
abbrev pub ShortsCountNothing : (Stm-F ℕ → ℕ) → Shorts → Type 0
ShortsCountNothing layer shorts = (f : ℕ) (b : Body) → slice_get shorts f ≡ Some (Some b) → (r : Option ℕ) (args : List Tree) → layer (stm.Call r (callee.Direct f) args) ≡ 0

-- ---- what stands in place of a call has no calls

set_quiet : (t : ℕ) (v : Tree) → calls (set t v ∷ []) ≡ 0
set_quiet t v = let here = calls_roll (stm.Set t v) in omega (arith, here)

divide_quiet : (t o : ℕ) (a b : Tree) → calls (divide t o a b ∷ []) ≡ 0
divide_quiet t o a b = let here = calls_roll (stm.Divide t o a b) in omega (arith, here)

module _ (base : ℕ) (keeps : ℕ → Bool) (args : List Tree) where
  given_quiet : (i : ℕ) (given : List Tree) → calls (given_from base keeps args i given) ≡ 0
  given_quiet i [] = refl
  given_quiet i (a ∷ rest) =
      let both = calls_append (cond (keeps i) [] (set (base + i) a ∷ [])) (given_from base keeps args (suc i) rest) in
      let first = by (keeps i) in
      let more = given_quiet (suc i) rest in
      omega (arith, both, first, more)
    where
      by : (b : Bool) → calls (cond b [] (set (base + i) a ∷ [])) ≡ 0
      by true = refl
      by false = set_quiet (base + i) a

  module _ (r : Option ℕ) where
    result_quiet : (o : Option ℕ) (v : Tree) → calls (result_into base keeps args o v) ≡ 0
    result_quiet None v = refl
    result_quiet (Some t) v = set_quiet t (placed_tree base keeps args v)

    layer_quiet : (x : Stm-F Stm) → calls (placed_layer base keeps args r (map-Stm Stm (List Stm) (placed_stm base keeps args r) x)) ≡ 0
    layer_quiet (stm.Set t v) = set_quiet (base + t) (placed_tree base keeps args v)
    layer_quiet (stm.Divide t o a b) = divide_quiet (base + t) o (placed_tree base keeps args a) (placed_tree base keeps args b)
    layer_quiet (stm.Return v) = result_quiet r v
    layer_quiet _ = refl

    stm_quiet : (s : Stm) → calls (placed_stm base keeps args r s) ≡ 0
    stm_quiet s =
        subst (λ u. calls (placed_stm base keeps args r u) ≡ 0) (roll-out-Stm s) (ap calls (placed_stm_roll base keeps args r (out-Stm s)) ∙ layer_quiet (out-Stm s))

    code_quiet : (code : List Stm) → calls (placed_code base keeps args r code) ≡ 0
    code_quiet [] = refl
    code_quiet (s ∷ code) =
        let both = calls_append (placed_stm base keeps args r s) (placed_code base keeps args r code) in
        let first = stm_quiet s in
        let more = code_quiet code in
        omega (arith, both, first, more)

    steps_quiet : (code : List Stm) → calls (steps base keeps args r code) ≡ 0
    steps_quiet code =
        let both = calls_append (given_from base keeps args 0 args) (placed_code base keeps args r code) in
        let first = given_quiet 0 args in
        let more = code_quiet code in
        omega (arith, both, first, more)

pub placed_quiet : (base : ℕ) (r : Option ℕ) (args : List Tree) (b : Body) (placed : List Stm) → IsPlaced base r args b placed → calls placed ≡ 0
placed_quiet base r args b placed h = ap calls h.is ∙ steps_quiet base h.keeps args r b.code

-- ---- what a measure counts

module _ {layer : Stm-F ℕ → ℕ} {m : Stm → ℕ} (of : Measure layer m) (alone : CountsCalls layer) (shorts : Shorts) where
  abbrev all : List Stm → ℕ
  all code = total (map m code)

  -- the second counts no more, and as much where calls of functions with short bodies count nothing
  abbrev Counts : List Stm → List Stm → Type 0
  Counts xs ys = SameCounts of (ShortsCountNothing layer shorts) xs ys

  test_nothing : (tested : Bool) → all (test_unless tested) ≡ 0
  test_nothing true = refl
  test_nothing false = let here = of.roll (stm.Call None callee.Expanded []) in let none = alone.expanded None [] in omega (arith, here, none)

  places : (base : ℕ) (tested : Bool) (r : Option ℕ) (f : ℕ) (args : List Tree) (b : Body) (placed : List Stm) → slice_get shorts f ≡ Some (Some b) → IsPlaced base r args b placed →
      Counts (call r (callee.Direct f) args ∷ []) (test_unless tested ++ placed)
  places base tested r f args b placed there h =
      let both = all_append of (test_unless tested) placed in
      let test = test_nothing tested in
      let none = idle of alone placed (placed_quiet base r args b placed h) in
      let here = of.roll (stm.Call r (callee.Direct f) args) in
      record { less = omega (arith, both, test, none); same = λ free. (let nothing = free f b there r args in omega (arith, here, nothing)) }

  closed : (base : ℕ) → IsClosed shorts base Counts
  closed base = record {
    itself = λ xs. equal of xs xs refl;
    both = λ xs xs' ys ys' h k.
        let before = all_append of xs ys in
        let after = all_append of xs' ys' in
        record { less = omega (arith, before, after, h.less, k.less); same = λ f. omega (arith, before, after, h.same f, k.same f) };
    branches = λ t a a' b b' h k.
        let before = choice_is of t a b in
        let after = choice_is of t a' b' in
        record { less = omega (arith, before, after, h.less, k.less); same = λ f. omega (arith, before, after, h.same f, k.same f) };
    loops = λ b b' h.
        let before = of.roll (stm.Loop b) in
        let after = of.roll (stm.Loop b') in
        record {
          less = omega (arith, before, after, of.loop (map m b') (map m b) h.less);
          same = λ f. omega (arith, before, after, of.loop (map m b) (map m b') (h.same f));
        };
    encloses = λ b b' h.
        let before = of.roll (stm.Block b) in
        let after = of.roll (stm.Block b') in
        record {
          less = omega (arith, before, after, of.block (map m b') (map m b) h.less);
          same = λ f. omega (arith, before, after, of.block (map m b) (map m b') (h.same f));
        };
    places = places base;
  }

  pub expanded_no_more : (base : ℕ) (tested : Bool) (code result : List Stm) → Expands shorts base tested code result → all result ≤ all code
  expanded_no_more base tested code result h = (expanded_is shorts base Counts (closed base) tested code result h).less

  pub expanded_same : ShortsCountNothing layer shorts → (base : ℕ) (tested : Bool) (code result : List Stm) → Expands shorts base tested code result → all result ≡ all code
  expanded_same free base tested code result h =
      let counts = expanded_is shorts base Counts (closed base) tested code result h in
      omega (arith, counts.less, counts.same free)
