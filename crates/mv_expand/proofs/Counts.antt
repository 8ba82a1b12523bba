-- What code reads, calls, names and asks for doesn't grow when short bodies stand in place of calls.
use Rattle.std.proofs.Common.{arith, ◌≡◌, ℕ, suc, ◌+◌, ◌≤◌, Bool, true, false, cond, List, [], ◌∷◌, ◌++◌, map, Option, refl, sym, ◌∙◌, ap, subst, Contains, None}
use Rattle.std.proofs.lemmas.List.Elements.{Contains-append_left, Contains-append_right}
use Rattle.mv_ir.specs.declared.tree.Tree.{Tree}
use Rattle.mv_ir.specs.declared.stm.Callee.TheVariants as callee
use Rattle.mv_ir.specs.declared.stm.Stm.{Stm}
use Rattle.mv_ir.specs.declared.stm.Stm.TheOpen.{Stm-F}
use Rattle.mv_ir.specs.declared.stm.Stm.TheOpen as stm
use Rattle.mv_ir.specs.declared.stm.Stm.TheViews.{roll-Stm}
use Rattle.mv_ir.specs.declared.body.Body.{Body}
use Rattle.mv_ir.specs.Measures.{joined, tree_reads, scalars_read, arrays_read, calls, deepest}
use Rattle.mv_ir.specs.Live.{below}
use Rattle.mv_ir.specs.Rolled.{set, divide, call, choose}
use Rattle.mv_ir.specs.Shorts.{Shorts}
use Rattle.mv_fold.proofs.Within.{Among, among_append, none_among, Amount, with, amount, amount_append, layer_amount, amount_one, among_both}
use Rattle.mv_fold.proofs.FoldedWithin.{loop_amount, block_amount, chooser, if_amount}
use Rattle.mv_fold.proofs.WellFormed.{facts, layer_facts, facts_one, Keep, keep_refl, keep_trans, Kept, kept_append, kept_nothing, if_kept, loop_kept, block_kept}
use Rattle.mv_expand.specs.Straight.{AllShort, IsShort}
use Rattle.mv_expand.specs.Placed.{given_from, IsPlaced}
use Rattle.mv_expand.specs.Expanding.{test_unless, Expands}
use Rattle.mv_expand.proofs.Structure.{IsClosed, expanded_is}
use Rattle.mv_expand.proofs.Laid.{Laid, no_result, result_to, put, quotient, laid}

-- ---- what is placed

-- code that calls nothing, names nothing, asks for nothing, and reads some scalars alone
record Calm (reads : List ℕ) (xs : List Stm) : Type 0 where
  pub scalars : Among (scalars_read xs) reads
  pub calls : calls xs ≡ 0
  pub arrays : Among (arrays_read xs) []
  pub asks : Kept [] xs

module _ (reads : List ℕ) where
  calm_none : Calm reads []
  calm_none = record { scalars = none_among reads; calls = refl; arrays = none_among []; asks = keep_refl _ }

  calm_append : (xs ys : List Stm) → Calm reads xs → Calm reads ys → Calm reads (xs ++ ys)
  calm_append xs ys h k =
      let e = amount_append xs ys in
      record {
        scalars = subst (λ (a : Amount). Among a.reads reads) (sym e) (among_both (scalars_read xs) (scalars_read ys) reads h.scalars k.scalars);
        calls = ap (λ (a : Amount). a.calls) e ∙ omega (arith, h.calls, k.calls);
        arrays = subst (λ (a : Amount). Among a.arrays []) (sym e) (among_both (arrays_read xs) (arrays_read ys) [] h.arrays k.arrays);
        asks = kept_append [] xs [] ys h.asks k.asks;
      }

  calm_one : (x : Stm-F Stm) → Among (layer_amount x).reads reads → (layer_amount x).calls ≡ 0 → (layer_amount x).arrays ≡ [] → facts [] ≡ layer_facts x → Calm reads (roll-Stm x ∷ [])
  calm_one x h c a e =
      let one = amount_one x in
      record {
        scalars = subst (λ (a : Amount). Among a.reads reads) (sym one) h;
        calls = ap (λ (a : Amount). a.calls) one ∙ c;
        arrays = subst (λ l. Among l []) (sym (ap (λ (a : Amount). a.arrays) one ∙ a)) (none_among []);
        asks = subst (Keep (facts [])) (e ∙ sym (facts_one x)) (keep_refl (facts []));
      }

  set_calm : (t : ℕ) (v : Tree) → Among (tree_reads v) reads → Calm reads (set t v ∷ [])
  set_calm t v h = calm_one (stm.Set t v) (among_both (tree_reads v) [] reads h (none_among reads)) refl refl refl

  divide_calm : (t o : ℕ) (a b : Tree) → Among (tree_reads a) reads → Among (tree_reads b) reads → Calm reads (divide t o a b ∷ [])
  divide_calm t o a b h k = calm_one (stm.Divide t o a b) (among_both (tree_reads a) (tree_reads b ++ []) reads h (among_both (tree_reads b) [] reads k (none_among reads))) refl refl refl

  module _ (base : ℕ) (keeps : ℕ → Bool) (args : List Tree) where
    given_calm : (i : ℕ) (rest : List Tree) → Among (joined (map tree_reads rest)) reads → Calm reads (given_from base keeps args i rest)
    given_calm i [] h = calm_none
    given_calm i (a ∷ rest) h =
        calm_append (cond (keeps i) [] (set (base + i) a ∷ [])) (given_from base keeps args (suc i) rest) (first (keeps i))
        (given_calm (suc i) rest (λ g c. h g (Contains-append_right (tree_reads a) (joined (map tree_reads rest)) g c)))
      where
        first : (b : Bool) → Calm reads (cond b [] (set (base + i) a ∷ []))
        first true = calm_none
        first false = set_calm (base + i) a (λ g c. h g (Contains-append_left (tree_reads a) (joined (map tree_reads rest)) g c))

    laid_calm : Among (joined (map tree_reads args)) reads → (r : Option ℕ) (known : List ℕ) (code : List Stm) → Laid base keeps args r known code → Calm reads code
    laid_calm w r known code (no_result k) = calm_none
    laid_calm w r known code (result_to k u v h) = set_calm u v (λ g c. w g (h.scalars g c))
    laid_calm w r known code (put q k t v rest lt h more) = calm_append (set (base + t) v ∷ []) rest (set_calm (base + t) v (λ g c. w g (h.scalars g c))) (laid_calm w q (t ∷ k) rest more)
    laid_calm w r known code (quotient q k t o a b rest lt h l more) =
        calm_append (divide (base + t) o a b ∷ []) rest (divide_calm (base + t) o a b (λ g c. w g (h.scalars g c)) (λ g c. w g (l.scalars g c))) (laid_calm w q (t ∷ k) rest more)

placed_calm : (base : ℕ) (r : Option ℕ) (args : List Tree) (b : Body) (placed : List Stm) → IsPlaced base r args b placed → IsShort b → Calm (joined (map tree_reads args)) placed
placed_calm base r args b placed k s =
    let reads = joined (map tree_reads args) in
    subst (Calm reads) (sym k.is)
    (calm_append reads (given_from base k.keeps args 0 args) _ (given_calm reads base k.keeps args 0 args (λ g c. c))
    (laid_calm reads base k.keeps args (λ g c. c) r (below b.params) _ (laid base k.keeps args b.temps s.temps r (below b.params) b.code s.straight)))

-- ---- what may grow

-- no more of all but statements and nodes, and trees that are no deeper than 4 where they weren't
record More (a b : Amount) : Type 0 where
  pub depth : b.depth ≤ 4 → a.depth ≤ 4
  pub reads : Among a.reads b.reads
  pub calls : a.calls ≤ b.calls
  pub arrays : Among a.arrays b.arrays

more_refl : (a : Amount) → More a a
more_refl a = record { depth = λ h. h; reads = λ g c. c; calls = omega arith; arrays = λ g c. c }

more_with : (a a' b b' : Amount) → More a a' → More b b' → More (with a b) (with a' b')
more_with a a' b b' h k = record {
  depth = λ e. let first = h.depth (omega (arith, e)) in let second = k.depth (omega (arith, e)) in omega (arith, first, second);
  reads = among_append a.reads a'.reads b.reads b'.reads h.reads k.reads;
  calls = omega (arith, h.calls, k.calls);
  arrays = among_append a.arrays a'.arrays b.arrays b'.arrays h.arrays k.arrays;
}

abbrev Adds : List Stm → List Stm → Type 0
Adds xs ys = More (amount ys) (amount xs)

adds_by : (xs ys : List Stm) (a b : Amount) → amount xs ≡ a → amount ys ≡ b → More b a → Adds xs ys
adds_by xs ys a b e f h = subst (λ z. More z (amount xs)) (sym f) (subst (More b) (sym e) h)

abbrev one : Amount
one = record { nodes = 0; depth = 0; reads = []; statements = 1; calls = 0; arrays = [] }

adds_inside : (x y : Stm-F Stm) (b b' : List Stm) → layer_amount x ≡ with one (amount b) → layer_amount y ≡ with one (amount b') → Adds b b' → Adds (roll-Stm x ∷ []) (roll-Stm y ∷ [])
adds_inside x y b b' e f h = adds_by (roll-Stm x ∷ []) (roll-Stm y ∷ []) (with one (amount b)) (with one (amount b')) (amount_one x ∙ e) (amount_one y ∙ f) (more_with one one (amount b') (amount b) (more_refl one) h)

adds_choice : (t : Tree) (a a' b b' : List Stm) → Adds a a' → Adds b b' → Adds (choose t a b ∷ []) (choose t a' b' ∷ [])
adds_choice t a a' b b' h k =
    adds_by (choose t a b ∷ []) (choose t a' b' ∷ []) (with (chooser t) (with (amount a) (amount b)))
    (with (chooser t) (with (amount a') (amount b'))) (amount_one (stm.If t a b) ∙ if_amount t a b) (amount_one (stm.If t a' b') ∙ if_amount t a' b')
    (more_with (chooser t) (chooser t) (with (amount a') (amount b')) (with (amount a) (amount b)) (more_refl (chooser t)) (more_with (amount a') (amount a) (amount b') (amount b) h k))

module _ (r : Option ℕ) (f : ℕ) (args : List Tree) (placed : List Stm) (calm : Calm (joined (map tree_reads args)) placed) (shallow : deepest placed ≤ 4) where
  adds_place : (tested : Bool) → Adds (call r (callee.Direct f) args ∷ []) (test_unless tested ++ placed)
  adds_place true = adds_by (call r (callee.Direct f) args ∷ []) placed (layer_amount (stm.Call r (callee.Direct f) args)) (amount placed) (amount_one (stm.Call r (callee.Direct f) args)) refl (record {
    depth = λ e. shallow;
    reads = calm.scalars;
    calls = omega (arith, calm.calls);
    arrays = calm.arrays;
  })
  adds_place false =
      adds_by (call r (callee.Direct f) args ∷ []) (call None callee.Expanded [] ∷ placed) (layer_amount (stm.Call r (callee.Direct f) args))
      (with (layer_amount (stm.Call None callee.Expanded [])) (amount placed)) (amount_one (stm.Call r (callee.Direct f) args))
      (amount_append (call None callee.Expanded [] ∷ []) placed ∙ ap (λ a. with a (amount placed)) (amount_one (stm.Call None callee.Expanded []))) (record {
        depth = λ e. omega (arith, shallow);
        reads = calm.scalars;
        calls = omega (arith, calm.calls);
        arrays = calm.arrays;
      })

-- ---- what is asked of code

test_kept : (tested : Bool) → Kept [] (test_unless tested)
test_kept true = keep_refl _
test_kept false = let e : facts [] ≡ layer_facts (stm.Call None callee.Expanded []) = refl in subst (Keep (facts [])) (e ∙ sym (facts_one (stm.Call None callee.Expanded []))) (keep_refl (facts []))

-- ---- expanded code

module _ (shorts : Shorts) (base : ℕ) (short : AllShort shorts) where
  adds_closed : IsClosed shorts base Adds
  adds_closed = record {
    itself = λ xs. more_refl _;
    both = λ xs xs' ys ys' h k. adds_by (xs ++ ys) (xs' ++ ys') (with (amount xs) (amount ys)) (with (amount xs') (amount ys')) (amount_append xs ys) (amount_append xs' ys') (more_with (amount xs') (amount xs) (amount ys') (amount ys) h k);
    branches = adds_choice;
    loops = λ b b'. adds_inside (stm.Loop b) (stm.Loop b') b b' (loop_amount b) (loop_amount b');
    encloses = λ b b'. adds_inside (stm.Block b) (stm.Block b') b b' (block_amount b) (block_amount b');
    places = λ tested r f args b placed e k. adds_place r f args placed (placed_calm base r args b placed k (short f b e)) k.shallow tested;
  }

  kept_closed : IsClosed shorts base Kept
  kept_closed = record {
    itself = λ xs. keep_refl _;
    both = kept_append;
    branches = λ t a a' b b'. if_kept t t a a' b b';
    loops = loop_kept;
    encloses = block_kept;
    places = λ tested r f args b placed e k.
        keep_trans _ _ _ (kept_nothing (call r (callee.Direct f) args ∷ [])) (kept_append [] (test_unless tested) [] placed (test_kept tested) (placed_calm base r args b placed k (short f b e)).asks);
  }

module _ (shorts : Shorts) (body : Body) (code : List Stm) (short : AllShort shorts) (h : Expands shorts body.temps false body.code code) where
  pub expands_kept : Kept body.code code
  expands_kept = expanded_is shorts body.temps Kept (kept_closed shorts body.temps short) false body.code code h

  adds : Adds body.code code
  adds = expanded_is shorts body.temps Adds (adds_closed shorts body.temps short) false body.code code h

  pub expands_scalars : (g : ℕ) → Contains (scalars_read code) g → Contains (scalars_read body.code) g
  expands_scalars = adds.reads

  pub expands_arrays : (g : ℕ) → Contains (arrays_read code) g → Contains (arrays_read body.code) g
  expands_arrays = adds.arrays

  pub expands_deepest : deepest body.code ≤ 4 → deepest code ≤ 4
  expands_deepest = adds.depth

  pub expands_calls : calls code ≤ calls body.code
  expands_calls = adds.calls
