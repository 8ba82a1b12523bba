-- A measure of statements isn't more where arms are reached by one jump, and it is the same where choices and jumps count nothing themselves.
use Rattle.std.proofs.Common.{arith, ◌≡◌, ℕ, ◌+◌, ◌≤◌, List, [], ◌∷◌, ◌++◌, map, refl, ◌∙◌, ap}
use Rattle.mv_ir.specs.declared.tree.Tree.{Tree}
use Rattle.mv_ir.specs.declared.stm.Stm.{Stm}
use Rattle.mv_ir.specs.declared.stm.Stm.TheOpen.{Stm-F}
use Rattle.mv_ir.specs.declared.stm.Stm.TheOpen as stm
use Rattle.mv_ir.specs.declared.stm.Stm.TheViews.{roll-Stm}
use Rattle.mv_ir.specs.declared.stm.Stm.TheFolds.{map-Stm}
use Rattle.mv_ir.specs.Measures.{total}
use Rattle.mv_ir.specs.Rolled.{choose, break, enclosed}
use Rattle.mv_ir.proofs.Joining.{total_append}
use Rattle.mv_ir.proofs.Keeping.{map_append}
use Rattle.mv_arms.specs.Arms.{back, skips, Arms}
use Rattle.mv_arms.proofs.Structure.{IsClosed, arms_is}

-- What a measure counts for each statement, by its layer: for a choice so much besides its sides, for a jump no more than that, and for a block what is in it.
pub record Counting (layer : Stm-F ℕ → ℕ) (m : Stm → ℕ) : Type 0 where
  pub fork : ℕ
  pub jump : ℕ
  pub roll : (x : Stm-F Stm) → m (roll-Stm x) ≡ layer (map-Stm Stm ℕ m x)
  pub branch : (t : Tree) (a b : List ℕ) → layer (stm.If t a b) ≡ fork + (total a + total b)
  pub loop : (a b : List ℕ) → total a ≤ total b → layer (stm.Loop a) ≤ layer (stm.Loop b)
  pub block : (a : List ℕ) → layer (stm.Block a) ≡ total a
  pub break : (n : ℕ) → layer (stm.Break n) ≡ jump
  pub back : (n k : ℕ) → layer (stm.Back n) ≡ layer (stm.Back k)
  pub less : jump ≤ fork

module _ {layer : Stm-F ℕ → ℕ} {m : Stm → ℕ} (of : Counting layer m) where
  abbrev all : List Stm → ℕ
  all code = total (map m code)

  -- the second counts no more, and as much where choices count nothing themselves
  record Counts (xs ys : List Stm) : Type 0 where
    pub less : all ys ≤ all xs
    pub same : of.fork ≡ 0 → all xs ≤ all ys

  all_append : (xs ys : List Stm) → all (xs ++ ys) ≡ all xs + all ys
  all_append xs ys = ap total (map_append m xs ys) ∙ total_append (map m xs) (map m ys)

  equal : (xs ys : List Stm) → all ys ≡ all xs → Counts xs ys
  equal xs ys e = record { less = omega (arith, e); same = λ f. omega (arith, e) }

  choice_is : (c : Tree) (a b : List Stm) → m (choose c a b) ≡ of.fork + (all a + all b)
  choice_is c a b = of.roll (stm.If c a b) ∙ of.branch c (map m a) (map m b)

  block_is : (b : List Stm) → m (enclosed b) ≡ all b
  block_is b = of.roll (stm.Block b) ∙ of.block (map m b)

  jump_is : (n : ℕ) → m (break n) ≡ of.jump
  jump_is n = of.roll (stm.Break n) ∙ of.break n

  counts_closed : IsClosed Counts
  counts_closed = record {
    itself = λ xs. equal xs xs refl;
    both = λ xs xs' ys ys' h k.
        let before = all_append xs ys in
        let after = all_append xs' ys' in
        record { less = omega (arith, before, after, h.less, k.less); same = λ f. omega (arith, before, after, h.same f, k.same f) };
    trans = λ xs ys zs h k. record { less = omega (arith, h.less, k.less); same = λ f. omega (arith, h.same f, k.same f) };
    branches = λ c a a' b b' h k.
        let before = choice_is c a b in
        let after = choice_is c a' b' in
        record { less = omega (arith, before, after, h.less, k.less); same = λ f. omega (arith, before, after, h.same f, k.same f) };
    loops = λ b b' h.
        let before = of.roll (stm.Loop b) in
        let after = of.roll (stm.Loop b') in
        record { less = omega (arith, before, after, of.loop (map m b') (map m b) h.less); same = λ f. omega (arith, before, after, of.loop (map m b) (map m b') (h.same f)) };
    encloses = λ b b' h.
        let before = block_is b in
        let after = block_is b' in
        record { less = omega (arith, before, after, h.less); same = λ f. omega (arith, before, after, h.same f) };
    leaves = λ n k. equal (break n ∷ []) (break k ∷ []) (let before = jump_is n in let after = jump_is k in omega (arith, before, after));
    restarts = λ n k.
        equal (back n ∷ []) (back k ∷ []) (let before = of.roll (stm.Back n) in let after = of.roll (stm.Back k) in let same = of.back n k in omega (arith, before, after, same));
    first = λ tests front k t i b b' is h hb.
        let block = block_is tests in
        let choice = choice_is (skips i t) [] b in
        let made = block_is (front ++ break k ∷ []) in
        let jump = all_append front (break k ∷ []) in
        let one = jump_is k in
        let less = of.less in
        record { less = omega (arith, block, choice, made, jump, one, less, h.less, hb.less); same = λ f. omega (arith, block, choice, made, jump, one, less, f, h.same f, hb.same f) };
    next = λ inner t i b b' is hb.
        let choice = choice_is (skips i t) [] b in
        let made = block_is inner in
        let before = all_append inner (choose (skips i t) [] b ∷ []) in
        record { less = omega (arith, choice, made, before, hb.less); same = λ f. omega (arith, choice, made, before, f, hb.same f) };
  }

  pub arms_no_more : (temps : ℕ) (levels : List ℕ) (code result : List Stm) → Arms temps levels code result → all result ≤ all code
  arms_no_more temps levels code result h = (arms_is Counts counts_closed temps levels code result h).less

  pub arms_same : of.fork ≡ 0 → (temps : ℕ) (levels : List ℕ) (code result : List Stm) → Arms temps levels code result → all result ≡ all code
  arms_same f temps levels code result h =
      let k = arms_is Counts counts_closed temps levels code result h in
      omega (arith, k.less, k.same f)
