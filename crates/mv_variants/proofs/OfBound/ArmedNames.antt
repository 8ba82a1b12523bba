-- Code in which arms are reached by one jump names no more.
use Rattle.std.proofs.Common.{ℕ, List, [], ◌∷◌, ◌++◌}
use Rattle.mv_ast.specs.declared.program.Known.{Known}
use Rattle.mv_ir.specs.declared.stm.Stm.{Stm}
use Rattle.mv_ir.specs.declared.stm.Stm.TheOpen as stm
use Rattle.mv_ir.specs.Rolled.{choose, break, enclosed}
use Rattle.mv_ir.proofs.Induction.{each_append}
use Rattle.mv_ir.proofs.Common.{each_first, each_right}
use Rattle.mv_select.proofs.OfBodies.Naming.{StmNames, CodeNames, stm_in, stm_out}
use Rattle.mv_arms.specs.Arms.{skips, Arms}
use Rattle.mv_arms.proofs.Structure.{IsClosed, arms_is}

module _ (F : ℕ → Type 0) (K : Known → Type 0) (C : ℕ → Type 0) where
  abbrev NamesStay : List Stm → List Stm → Type 0
  NamesStay xs ys = CodeNames F K C xs → CodeNames F K C ys

  -- a jump behind code, and a block around some
  with_jump : (xs : List Stm) (k : ℕ) → CodeNames F K C xs → CodeNames F K C (xs ++ break k ∷ [])
  with_jump xs k n = each_append (StmNames F K C) xs (break k ∷ []) n (stm_in F K C (stm.Break k) tt, tt)

  within : (xs : List Stm) → CodeNames F K C xs → StmNames F K C (enclosed xs)
  within xs n = stm_in F K C (stm.Block xs) n

  -- what an arm names, its statements do
  of_arm : (t i : ℕ) (b : List Stm) → StmNames F K C (choose (skips i t) [] b) → CodeNames F K C b
  of_arm t i b n = (stm_out F K C (stm.If (skips i t) [] b) n).2

  closed : IsClosed NamesStay
  closed = record {
    itself = λ xs n. n;
    both = λ xs xs' ys ys' h k n. each_append (StmNames F K C) xs' ys' (h (each_first (StmNames F K C) xs ys n)) (k (each_right (StmNames F K C) xs ys n));
    trans = λ xs ys zs h k n. k (h n);
    branches = λ c a a' b b' h k n. let parts = stm_out F K C (stm.If c a b) n.0 in (stm_in F K C (stm.If c a' b') (parts.0, h parts.1, k parts.2), tt);
    loops = λ b b' h n. (stm_in F K C (stm.Loop b') (h (stm_out F K C (stm.Loop b) n.0)), tt);
    encloses = λ b b' h n. (within b' (h (stm_out F K C (stm.Block b) n.0)), tt);
    leaves = λ n k names. (stm_in F K C (stm.Break k) tt, tt);
    restarts = λ n k names. (stm_in F K C (stm.Back k) tt, tt);
    first = λ tests front k t i b b' is h hb n. (within (front ++ break k ∷ []) (with_jump front k (h (stm_out F K C (stm.Block tests) n.0))), hb (of_arm t i b n.1.0));
    next = λ inner t i b b' is hb n.
        let arm = each_right (StmNames F K C) inner (choose (skips i t) [] b ∷ []) n in
        (within inner (each_first (StmNames F K C) inner (choose (skips i t) [] b ∷ []) n), hb (of_arm t i b arm.0));
  }

  pub armed_names : (temps : ℕ) (levels : List ℕ) (code result : List Stm) → Arms temps levels code result → CodeNames F K C code → CodeNames F K C result
  armed_names = arms_is NamesStay closed
