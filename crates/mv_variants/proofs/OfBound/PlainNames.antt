-- Code with plainer trees names no more, but for the constants that are computed and how far words are shifted.
use Rattle.std.proofs.Common.{ℕ, ◌^◌, List}
use Rattle.mv_num.specs.Words as word
use Rattle.mv_ast.specs.declared.program.Known.{Known}
use Rattle.mv_ir.specs.declared.tree.Tree.{Tree}
use Rattle.mv_ir.specs.declared.tree.Tree.TheOpen as tree
use Rattle.mv_ir.specs.declared.stm.Callee.{Callee}
use Rattle.mv_ir.specs.declared.stm.Stm.{Stm}
use Rattle.mv_ir.specs.declared.stm.Stm.TheOpen as stm
use Rattle.mv_ir.specs.Operators as operator
use Rattle.mv_ir.specs.Trees as value
use Rattle.mv_ir.specs.Rolled.{number, unary, binary}
use Rattle.mv_ir.proofs.Induction.{Each}
use Rattle.mv_select.proofs.OfBodies.Naming.{TreeNames, StmNames, CodeNames, tree_in, tree_out, CalleeNames, stm_in, stm_out}
use Rattle.mv_plain.specs.Plain as plain
use Rattle.mv_plain.specs.Plain.{Plainer, ArePlainer, IsPlainerCallee, PlainCode, PlainStm}
use Rattle.mv_variants.proofs.OfBound.FoldedNames.{IsClosed}

module _ (F : ℕ → Type 0) (K : Known → Type 0) (C : ℕ → Type 0) (closed : IsClosed C) where
  -- ---- trees

  abbrev Names : Tree → Type 0
  Names = TreeNames F K C

  number_in : (n : ℕ) → C n → Names (number n)
  number_in n c = tree_in F K C (tree.Number n) c

  number_out : (n : ℕ) → Names (number n) → C n
  number_out n h = tree_out F K C (tree.Number n) h

  unary_out : (o : ℕ) (a : Tree) → Names (unary o a) → Names a
  unary_out o a h = tree_out F K C (tree.Unary o a) h

  binary_out : (o : ℕ) (a b : Tree) → Names (binary o a b) → Names a × Names b
  binary_out o a b h = tree_out F K C (tree.Binary o a b) h

  plainer_names : (t u : Tree) → Plainer t u → Names t → Names u
  plainer_names t u (plain.itself a) h = h
  plainer_names t u (plain.after a b c p q) h = plainer_names b c q (plainer_names a b p h)
  plainer_names t u (plain.in_unary o a b p) h = tree_in F K C (tree.Unary o b) (plainer_names a b p (unary_out o a h))
  plainer_names t u (plain.in_binary o a a' b b' p q) h =
      let parts = binary_out o a b h in
      tree_in F K C (tree.Binary o a' b') (plainer_names a a' p parts.0, plainer_names b b' q parts.1)
  plainer_names t u (plain.in_narrow k a b p) h = tree_in F K C (tree.Narrow k b) (plainer_names a b p (tree_out F K C (tree.Narrow k a) h))
  plainer_names t u (plain.one_number o n) h = number_in (value.unary o n) (closed.one o n (number_out n (unary_out o (number n) h)))
  plainer_names t u (plain.two_numbers o n k) h =
      let parts = binary_out o (number n) (number k) h in
      number_in (value.binary o n k) (closed.two o n k (number_out n parts.0) (number_out k parts.1))
  plainer_names t u (plain.narrowed k n) h = number_in (word.narrow k n) (closed.narrowed k n (number_out n (tree_out F K C (tree.Narrow k (number n)) h)))
  plainer_names t u (plain.word_stays k a is) h = tree_out F K C (tree.Narrow k a) h
  plainer_names t u (plain.truth_stays k a is) h = tree_out F K C (tree.Narrow k a) h
  plainer_names t u (plain.turned o n a is) h = let parts = binary_out o (number n) a h in tree_in F K C (tree.Binary o a (number n)) (parts.1, parts.0)
  plainer_names t u (plain.neutral o n a is w) h = (binary_out o a (number n) h).0
  plainer_names t u (plain.shifted k a lt) h =
      tree_in F K C (tree.Binary operator.shift_left a (number k)) ((binary_out operator.mul a (number (2 ^ k)) h).0, number_in k (closed.shift k lt))
  plainer_names t u (plain.unequal a b) h = tree_in F K C (tree.Binary operator.not_equal a b) (binary_out operator.equal a b (unary_out operator.logical_not (binary operator.equal a b) h))
  plainer_names t u (plain.equal a b) h = tree_in F K C (tree.Binary operator.equal a b) (binary_out operator.not_equal a b (unary_out operator.logical_not (binary operator.not_equal a b) h))
  plainer_names t u (plain.twice a is) h = unary_out operator.logical_not a (unary_out operator.logical_not (unary operator.logical_not a) h)
  plainer_names t u (plain.asked a is) h = (binary_out operator.not_equal a (number 0) h).0
  plainer_names t u (plain.denied a) h = tree_in F K C (tree.Unary operator.logical_not a) (binary_out operator.equal a (number 0) h).0

  trees_names : (ts us : List Tree) → ArePlainer ts us → Each Names ts → Each Names us
  trees_names ts us plain.no_trees h = tt
  trees_names ts us (plain.more_trees t u xs ys p q) h = (plainer_names t u p h.0, trees_names xs ys q h.1)

  callee_names : (f g : Callee) → IsPlainerCallee f g → CalleeNames F K C f → CalleeNames F K C g
  callee_names f g (plain.same_callee c) h = h
  callee_names f g (plain.through t u p) h = plainer_names t u p h

  -- ---- code

  mutual
    pub plain_names : (code rest : List Stm) → PlainCode code rest → CodeNames F K C code → CodeNames F K C rest
    plain_names code rest plain.no_code h = tt
    plain_names code rest (plain.more_code s y ss ys p q) h = (stm_names s y p h.0, plain_names ss ys q h.1)

    stm_names : (s y : Stm) → PlainStm s y → StmNames F K C s → StmNames F K C y
    stm_names s y (plain.as_was u) h = h
    stm_names s y (plain.set t v w p) h = stm_in F K C (stm.Set t w) (plainer_names v w p (stm_out F K C (stm.Set t v) h))
    stm_names s y (plain.set_global g v w p) h = stm_in F K C (stm.SetGlobal g w) (plainer_names v w p (stm_out F K C (stm.SetGlobal g v) h))
    stm_names s y (plain.divide t o a a' b b' p q) h =
        let parts = stm_out F K C (stm.Divide t o a b) h in
        stm_in F K C (stm.Divide t o a' b') (plainer_names a a' p parts.0, plainer_names b b' q parts.1)
    stm_names s y (plain.check r i j p) h = stm_in F K C (stm.Check r j) (plainer_names i j p (stm_out F K C (stm.Check r i) h))
    stm_names s y (plain.read t r i j p) h = stm_in F K C (stm.Read t r j) (plainer_names i j p (stm_out F K C (stm.Read t r i) h))
    stm_names s y (plain.write r i j v w p q) h =
        let parts = stm_out F K C (stm.Write r i v) h in
        stm_in F K C (stm.Write r j w) (plainer_names i j p parts.0, plainer_names v w q parts.1)
    stm_names s y (plain.choice t u a a' b b' p q k) h =
        let parts = stm_out F K C (stm.If t a b) h in
        stm_in F K C (stm.If u a' b') (plainer_names t u p parts.0, plain_names a a' q parts.1, plain_names b b' k parts.2)
    stm_names s y (plain.turns b b' q) h = stm_in F K C (stm.Loop b') (plain_names b b' q (stm_out F K C (stm.Loop b) h))
    stm_names s y (plain.block b b' q) h = stm_in F K C (stm.Block b') (plain_names b b' q (stm_out F K C (stm.Block b) h))
    stm_names s y (plain.call r f g xs ys p q) h =
        let parts = stm_out F K C (stm.Call r f xs) h in
        stm_in F K C (stm.Call r g ys) (callee_names f g p parts.0, trees_names xs ys q parts.1)
    stm_names s y (plain.known r k xs ys q) h =
        let parts = stm_out F K C (stm.Known r k xs) h in
        stm_in F K C (stm.Known r k ys) (parts.0, trees_names xs ys q parts.1)
    stm_names s y (plain.return v w p) h = stm_in F K C (stm.Return w) (plainer_names v w p (stm_out F K C (stm.Return v) h))
