-- Code in which what temporaries hold is read in their place names no more, but for the constants that they hold, which are words.
use Rattle.std.proofs.Common.{ℕ, ◌<◌, ◌^◌, List, []}
use Rattle.mv_ast.specs.declared.program.Known.{Known}
use Rattle.mv_ir.specs.declared.tree.Tree.{Tree}
use Rattle.mv_ir.specs.declared.tree.Tree.TheOpen as tree
use Rattle.mv_ir.specs.declared.stm.Callee.{Callee}
use Rattle.mv_ir.specs.declared.stm.Stm.{Stm}
use Rattle.mv_ir.specs.declared.stm.Stm.TheOpen as stm
use Rattle.mv_ir.specs.Rolled.{temp}
use Rattle.mv_ir.proofs.Induction.{Each, each_append}
use Rattle.mv_ir.proofs.Common.{each_first, each_right}
use Rattle.mv_select.proofs.OfBodies.Naming.{TreeNames, StmNames, CodeNames, tree_in, tree_out, CalleeNames, stm_in, stm_out}
use Rattle.mv_propagate.specs.declared.facts.Leaf.{Leaf}
use Rattle.mv_propagate.specs.declared.facts.Leaf.TheVariants.{Number, Temp}
use Rattle.mv_propagate.specs.declared.facts.Held.TheVariants.{Value}
use Rattle.mv_propagate.specs.declared.facts.Fact.{Fact}
use Rattle.mv_propagate.specs.Facts.{tree_of, IsLow}
use Rattle.mv_propagate.specs.Propagating.{fact, Reads, itself, held, in_unary, in_binary, in_narrow, ReadsAll, no_trees, more_trees, ReadsCallee, same_callee, through, Propagated}
use Rattle.mv_propagate.proofs.Structure.{AreLow, none_low, IsClosed, propagated_is}

module _ (F : ℕ → Type 0) (K : Known → Type 0) (C : ℕ → Type 0) (word : (n : ℕ) → n < 2 ^ 32 → C n) (temps : ℕ) where
  -- ---- trees

  abbrev Names : Tree → Type 0
  Names = TreeNames F K C

  at_temp : (u : ℕ) → Names (temp u)
  at_temp u = tree_in F K C (tree.Temp u) tt

  leaf_names : (l : Leaf) → IsLow temps l → Names (tree_of l)
  leaf_names (Number n) lt = tree_in F K C (tree.Number n) (word n lt)
  leaf_names (Temp u) lt = at_temp u

  module _ (facts : List Fact) (low : AreLow temps facts) where
    reads_names : (v w : Tree) → Reads facts v w → Names v → Names w
    reads_names v w (itself x) n = n
    reads_names v w (held t l c) n = leaf_names l (low (fact t (Value l)) c).0
    reads_names v w (in_unary o a b h) n = tree_in F K C (tree.Unary o b) (reads_names a b h (tree_out F K C (tree.Unary o a) n))
    reads_names v w (in_binary o a a' b b' h k) n =
        let parts = tree_out F K C (tree.Binary o a b) n in
        tree_in F K C (tree.Binary o a' b') (reads_names a a' h parts.0, reads_names b b' k parts.1)
    reads_names v w (in_narrow k a b h) n = tree_in F K C (tree.Narrow k b) (reads_names a b h (tree_out F K C (tree.Narrow k a) n))

    all_names : (xs ys : List Tree) → ReadsAll facts xs ys → Each Names xs → Each Names ys
    all_names xs ys no_trees n = tt
    all_names xs ys (more_trees t u ts us h k) n = (reads_names t u h n.0, all_names ts us k n.1)

    callee_names : (f g : Callee) → ReadsCallee facts f g → CalleeNames F K C f → CalleeNames F K C g
    callee_names f g (same_callee h) n = n
    callee_names f g (through t u h) n = reads_names t u h n

  -- ---- code

  abbrev NamesStay : List Stm → List Stm → Type 0
  NamesStay xs ys = CodeNames F K C xs → CodeNames F K C ys

  closed : IsClosed temps NamesStay
  closed = record {
    none = λ n. n;
    both = λ xs xs' ys ys' h k n. each_append (StmNames F K C) xs' ys' (h (each_first (StmNames F K C) xs ys n)) (k (each_right (StmNames F K C) xs ys n));
    same = λ s n. n;
    set = λ facts t v w low h n. (stm_in F K C (stm.Set t w) (reads_names facts low v w h (stm_out F K C (stm.Set t v) n.0)), tt);
    store = λ facts g v w low h n. (stm_in F K C (stm.SetGlobal g w) (reads_names facts low v w h (stm_out F K C (stm.SetGlobal g v) n.0)), tt);
    divide = λ facts t o a a' b b' low h k n.
        let parts = stm_out F K C (stm.Divide t o a b) n.0 in
        (stm_in F K C (stm.Divide t o a' b') (reads_names facts low a a' h parts.0, reads_names facts low b b' k parts.1), tt);
    check = λ facts r i j low h n. (stm_in F K C (stm.Check r j) (reads_names facts low i j h (stm_out F K C (stm.Check r i) n.0)), tt);
    read = λ facts t r i j low h n. (stm_in F K C (stm.Read t r j) (reads_names facts low i j h (stm_out F K C (stm.Read t r i) n.0)), tt);
    fetched = λ facts t u r i l low h lt lt' n. (stm_in F K C (stm.Set t (temp u)) (at_temp u), tt);
    write = λ facts r i j v w low h k n.
        let parts = stm_out F K C (stm.Write r i v) n.0 in
        (stm_in F K C (stm.Write r j w) (reads_names facts low i j h parts.0, reads_names facts low v w k parts.1), tt);
    branch = λ facts t u a a' b b' low h ha hb n.
        let parts = stm_out F K C (stm.If t a b) n.0 in
        (stm_in F K C (stm.If u a' b') (reads_names facts low t u h parts.0, ha parts.1, hb parts.2), tt);
    loop = λ b b' h n. (stm_in F K C (stm.Loop b') (h (stm_out F K C (stm.Loop b) n.0)), tt);
    block = λ b b' h n. (stm_in F K C (stm.Block b') (h (stm_out F K C (stm.Block b) n.0)), tt);
    call = λ facts r f f' xs ys low hf h n.
        let parts = stm_out F K C (stm.Call r f xs) n.0 in
        (stm_in F K C (stm.Call r f' ys) (callee_names facts low f f' hf parts.0, all_names facts low xs ys h parts.1), tt);
    known = λ facts r k xs ys low h n.
        let parts = stm_out F K C (stm.Known r k xs) n.0 in
        (stm_in F K C (stm.Known r k ys) (parts.0, all_names facts low xs ys h parts.1), tt);
    return = λ facts v w low h n. (stm_in F K C (stm.Return w) (reads_names facts low v w h (stm_out F K C (stm.Return v) n.0)), tt);
  }

  pub propagated_names : (code result : List Stm) (last : List Fact) → Propagated temps [] code result last → CodeNames F K C code → CodeNames F K C result
  propagated_names code result last h = propagated_is temps NamesStay closed [] code result last (none_low temps) h
