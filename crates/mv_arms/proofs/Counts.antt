-- What is counted in code, what it reads, names and asks for doesn't grow where arms are reached by one jump.
use Rattle.std.proofs.Common.{arith, ◌≡◌, ℕ, ◌≤◌, Bool, true, List, [], ◌∷◌, ◌++◌, refl, sym, ◌∙◌, ap, subst}
use Rattle.std.specs.Prelude.{◌&&◌}
use Rattle.std.proofs.lemmas.List.Elements.{Contains-append_left, Contains-append_right}
use Rattle.mv_num.proofs.Booleans.{and_cases}
use Rattle.mv_ir.specs.declared.tree.Tree.{Tree}
use Rattle.mv_ir.specs.declared.stm.Array.{Array}
use Rattle.mv_ir.specs.declared.stm.Stm.{Stm}
use Rattle.mv_ir.specs.declared.stm.Stm.TheOpen.{Stm-F}
use Rattle.mv_ir.specs.declared.stm.Stm.TheOpen as stm
use Rattle.mv_ir.specs.declared.stm.Stm.TheViews.{roll-Stm}
use Rattle.mv_ir.specs.Rolled.{choose, break, enclosed}
use Rattle.mv_ir.proofs.Common.{and_keeps}
use Rattle.mv_fold.specs.Folded.{IsNoGreater}
use Rattle.mv_fold.proofs.Within.{Among, among_both, none_among, Amount, Less, less_refl, less_trans, with, bare, amount, amount_append, amount_one, Within, within_append, within_one, no_greater}
use Rattle.mv_fold.proofs.FoldedWithin.{of_tree, loop_amount, block_amount, chooser, amount_choice, if_within, inside}
use Rattle.mv_fold.proofs.WellFormed.{Facts, both, facts, facts_append, layer_facts, facts_one, if_facts}
use Rattle.mv_arms.specs.Arms.{skips, Arms}
use Rattle.mv_arms.proofs.Structure.{IsClosed, arms_is}

-- ---- what is counted

-- what an arm gives way to, behind what is there already, which may have a jump more than it had
module _ (c a b b' : Amount) (h : Less b' b) where
  last_among : (p : Amount → List ℕ) (xs zs : List ℕ) → Among (p b') (p b) → Among xs zs → Among (xs ++ p b') (zs ++ (p c ++ (p a ++ p b)))
  last_among p xs zs k l =
      among_both xs (p b') (zs ++ (p c ++ (p a ++ p b))) (λ g e. Contains-append_left zs (p c ++ (p a ++ p b)) g (l g e))
      (λ g e. Contains-append_right zs (p c ++ (p a ++ p b)) g (Contains-append_right (p c) (p a ++ p b) g (Contains-append_right (p a) (p b) g (k g e))))

  among_none : (xs ys : List ℕ) → Among xs ys → Among (xs ++ []) ys
  among_none xs ys k = among_both xs [] ys k (none_among ys)

  next_less : (x : Amount) → 1 ≤ c.statements → Less (with (with bare x) b') (with x (with c (with a b)))
  next_less x some = record {
    nodes = omega (arith, h.nodes);
    depth = omega (arith, h.depth);
    reads = last_among (λ z. z.reads) x.reads x.reads h.reads (λ g e. e);
    statements = omega (arith, h.statements, some);
    calls = omega (arith, h.calls);
    arrays = last_among (λ z. z.arrays) x.arrays x.arrays h.arrays (λ g e. e);
  }

  first_less : (x x' : Amount) → Less x' x → 1 ≤ c.statements → Less (with (with bare (with x' bare)) b') (with (with bare x) (with c (with a b)))
  first_less x x' k some = record {
    nodes = omega (arith, h.nodes, k.nodes);
    depth = omega (arith, h.depth, k.depth);
    reads = last_among (λ z. z.reads) (x'.reads ++ []) x.reads h.reads (among_none x'.reads x.reads k.reads);
    statements = omega (arith, h.statements, k.statements, some);
    calls = omega (arith, h.calls, k.calls);
    arrays = last_among (λ z. z.arrays) (x'.arrays ++ []) x.arrays h.arrays (among_none x'.arrays x.arrays k.arrays);
  }

block_is : (xs ys : List Stm) → amount (enclosed xs ∷ ys) ≡ with (with bare (amount xs)) (amount ys)
block_is xs ys = amount_append (enclosed xs ∷ []) ys ∙ ap (λ a. with a (amount ys)) (amount_one (stm.Block xs) ∙ block_amount xs)

less_by : (xs ys : List Stm) (a b : Amount) → amount xs ≡ a → amount ys ≡ b → Less b a → Within xs ys
less_by xs ys a b e f h = subst (λ z. Less z (amount xs)) (sym f) (subst (Less b) (sym e) h)

within_closed : IsClosed Within
within_closed = record {
  itself = λ xs. less_refl (amount xs);
  both = within_append;
  trans = λ xs ys zs h k. less_trans (amount zs) (amount ys) (amount xs) k h;
  branches = λ c a a' b b'. if_within c c a a' b b' (less_refl (of_tree c));
  loops = λ b b'. inside (stm.Loop b) (stm.Loop b') b b' (loop_amount b) (loop_amount b');
  encloses = λ b b'. inside (stm.Block b) (stm.Block b') b b' (block_amount b) (block_amount b');
  leaves = λ n k. within_one (stm.Break n) (stm.Break k) (less_refl bare);
  restarts = λ n k. within_one (stm.Back n) (stm.Back k) (less_refl bare);
  first = λ tests front k t i b b' is h hb.
      let jump : amount (front ++ break k ∷ []) ≡ with (amount front) bare = amount_append front (break k ∷ []) ∙ ap (with (amount front)) (amount_one (stm.Break k)) in
      less_by (enclosed tests ∷ choose (skips i t) [] b ∷ []) (enclosed (front ++ break k ∷ []) ∷ b') (with (with bare (amount tests)) (with (chooser (skips i t)) (with (amount []) (amount b))))
      (with (with bare (with (amount front) bare)) (amount b')) (block_is tests (choose (skips i t) [] b ∷ []) ∙ ap (with (with bare (amount tests))) (amount_choice (skips i t) [] b))
      (block_is (front ++ break k ∷ []) b' ∙ ap (λ x. with (with bare x) (amount b')) jump)
      (first_less (chooser (skips i t)) (amount []) (amount b) (amount b') hb (amount tests) (amount front) h (omega arith));
  next = λ inner t i b b' is hb.
      less_by (inner ++ choose (skips i t) [] b ∷ []) (enclosed inner ∷ b') (with (amount inner) (with (chooser (skips i t)) (with (amount []) (amount b)))) (with (with bare (amount inner)) (amount b'))
      (amount_append inner (choose (skips i t) [] b ∷ []) ∙ ap (with (amount inner)) (amount_choice (skips i t) [] b)) (block_is inner b')
      (next_less (chooser (skips i t)) (amount []) (amount b) (amount b') hb (amount inner) (omega arith));
}

pub arms_no_greater : (temps : ℕ) (levels : List ℕ) (code result : List Stm) → Arms temps levels code result → IsNoGreater code result
arms_no_greater temps levels code result h = no_greater code result (arms_is Within within_closed temps levels code result h)

-- ---- what is named and asked for

pub record Asks (a b : Facts) : Type 0 where
  pub arguments : a.arguments ≡ true → b.arguments ≡ true
  pub named : (p : Array → Bool) → a.named p ≡ true → b.named p ≡ true

abbrev pub CodeAsks : List Stm → List Stm → Type 0
CodeAsks xs ys = Asks (facts xs) (facts ys)

asks_refl : (a : Facts) → Asks a a
asks_refl a = record { arguments = λ e. e; named = λ p e. e }

asks_trans : (a b c : Facts) → Asks a b → Asks b c → Asks a c
asks_trans a b c h k = record { arguments = λ e. k.arguments (h.arguments e); named = λ p e. k.named p (h.named p e) }

asks_both : (a a' b b' : Facts) → Asks a a' → Asks b b' → Asks (both a b) (both a' b')
asks_both a a' b b' h k = record {
  arguments = and_keeps a.arguments b.arguments a'.arguments b'.arguments h.arguments k.arguments;
  named = λ p. and_keeps (a.named p) (b.named p) (a'.named p) (b'.named p) (h.named p) (k.named p);
}

asks_second : (a b : Facts) → Asks (both a b) b
asks_second a b = record { arguments = λ e. (and_cases a.arguments b.arguments e).1; named = λ p e. (and_cases (a.named p) (b.named p) e).1 }

asks_by : (xs ys : List Stm) (a b : Facts) → facts xs ≡ a → facts ys ≡ b → Asks a b → CodeAsks xs ys
asks_by xs ys a b e f h = subst (λ z. Asks z (facts ys)) (sym e) (subst (Asks a) (sym f) h)

asks_append : (xs xs' ys ys' : List Stm) → CodeAsks xs xs' → CodeAsks ys ys' → CodeAsks (xs ++ ys) (xs' ++ ys')
asks_append xs xs' ys ys' h k =
    asks_by (xs ++ ys) (xs' ++ ys') (both (facts xs) (facts ys)) (both (facts xs') (facts ys')) (facts_append xs ys) (facts_append xs' ys') (asks_both (facts xs) (facts xs') (facts ys) (facts ys') h k)

asks_one : (x y : Stm-F Stm) → Asks (layer_facts x) (layer_facts y) → CodeAsks (roll-Stm x ∷ []) (roll-Stm y ∷ [])
asks_one x y h = asks_by (roll-Stm x ∷ []) (roll-Stm y ∷ []) (layer_facts x) (layer_facts y) (facts_one x) (facts_one y) h

asks_block : (b b' : List Stm) → CodeAsks b b' → CodeAsks (enclosed b ∷ []) (enclosed b' ∷ [])
asks_block b b' h = asks_one (stm.Block b) (stm.Block b') (record { arguments = h.arguments; named = h.named })

-- a jump behind code
asks_jump : (xs ys : List Stm) (k : ℕ) → CodeAsks xs ys → CodeAsks xs (ys ++ break k ∷ [])
asks_jump xs ys k h =
    subst (Asks (facts xs)) (sym (facts_append ys (break k ∷ []) ∙ ap (both (facts ys)) (facts_one (stm.Break k)))) (record {
      arguments = λ e. with_true (facts ys).arguments (h.arguments e);
      named = λ p e. with_true ((facts ys).named p) (h.named p e);
    })
  where
    with_true : (b : Bool) → b ≡ true → (b && true) ≡ true
    with_true b e = ap (λ x. x && true) e

-- the statements of an arm in place of it
asks_arm : (c : Tree) (a b b' : List Stm) → CodeAsks b b' → CodeAsks (choose c a b ∷ []) b'
asks_arm c a b b' h =
    subst (λ z. Asks z (facts b')) (sym (facts_one (stm.If c a b) ∙ if_facts c a b)) (asks_trans (both (facts a) (facts b)) (facts b) (facts b') (asks_second (facts a) (facts b)) h)

-- code within a block
asks_within : (xs : List Stm) → CodeAsks xs (enclosed xs ∷ [])
asks_within xs = asks_by xs (enclosed xs ∷ []) (facts xs) (layer_facts (stm.Block xs)) refl (facts_one (stm.Block xs)) (record { arguments = λ e. e; named = λ p e. e })

asks_closed : IsClosed CodeAsks
asks_closed = record {
  itself = λ xs. asks_refl (facts xs);
  both = asks_append;
  trans = λ xs ys zs. asks_trans (facts xs) (facts ys) (facts zs);
  branches = λ c a a' b b' h k.
      asks_by (choose c a b ∷ []) (choose c a' b' ∷ []) (both (facts a) (facts b)) (both (facts a') (facts b')) (facts_one (stm.If c a b) ∙ if_facts c a b) (facts_one (stm.If c a' b') ∙ if_facts c a' b')
      (asks_both (facts a) (facts a') (facts b) (facts b') h k);
  loops = λ b b' h. asks_one (stm.Loop b) (stm.Loop b') (record { arguments = h.arguments; named = h.named });
  encloses = asks_block;
  leaves = λ n k. asks_one (stm.Break n) (stm.Break k) (record { arguments = λ e. e; named = λ p e. e });
  restarts = λ n k. asks_one (stm.Back n) (stm.Back k) (record { arguments = λ e. e; named = λ p e. e });
  first = λ tests front k t i b b' is h hb.
      asks_append (enclosed tests ∷ []) (enclosed (front ++ break k ∷ []) ∷ []) (choose (skips i t) [] b ∷ []) b' (asks_block tests (front ++ break k ∷ []) (asks_jump tests front k h)) (asks_arm (skips i t) [] b b' hb);
  next = λ inner t i b b' is hb. asks_append inner (enclosed inner ∷ []) (choose (skips i t) [] b ∷ []) b' (asks_within inner) (asks_arm (skips i t) [] b b' hb);
}

pub arms_ask : (temps : ℕ) (levels : List ℕ) (code result : List Stm) → Arms temps levels code result → CodeAsks code result
arms_ask temps levels code result h = arms_is CodeAsks asks_closed temps levels code result h
