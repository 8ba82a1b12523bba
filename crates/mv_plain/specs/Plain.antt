-- Plainer trees: the same values from fewer nodes, or from nodes that take less code.
use Rattle.std.specs.Prelude.{ℕ, ◌≡◌, ◌^◌, ◌<◌, Bool, true, false, ◌&&◌, ◌||◌, cond, eqb, leb, ltb, List, [], ◌∷◌, Option}
use Rattle.mv_num.specs.declared.kind.Kind.{Kind}
use Rattle.mv_num.specs.declared.kind.Kind.TheVariants as kind
use Rattle.mv_num.specs.Words as word
use Rattle.mv_ast.specs.declared.program.Known.{Known}
use Rattle.mv_ir.specs.declared.tree.Tree.{Tree, out-Tree}
use Rattle.mv_ir.specs.declared.tree.Tree.TheOpen.{Tree-F}
use Rattle.mv_ir.specs.declared.tree.Tree.TheOpen as tree
use Rattle.mv_ir.specs.declared.tree.Tree.TheFolds.{fold-Tree}
use Rattle.mv_ir.specs.declared.stm.Array.{Array}
use Rattle.mv_ir.specs.declared.stm.Callee.{Callee}
use Rattle.mv_ir.specs.declared.stm.Callee.TheVariants as callee
use Rattle.mv_ir.specs.declared.stm.Stm.{Stm}
use Rattle.mv_ir.specs.declared.stm.Stm.TheOpen as stm
use Rattle.mv_ir.specs.declared.stm.Stm.TheViews.{roll-Stm}
use Rattle.mv_ir.specs.Operators as operator
use Rattle.mv_ir.specs.Operators.{is_comparison}
use Rattle.mv_ir.specs.Trees as value
use Rattle.mv_ir.specs.Trees.{keeps_words}
use Rattle.mv_ir.specs.Rolled.{number, unary, binary, narrow}

-- ---- what a tree's value is sure to be, whatever temporaries and globals hold

-- of an operator on two values, given whether these are words
abbrev pub gives_word : ℕ → Bool → Bool → Bool
gives_word o a b =
    cond (eqb o operator.bit_and) (a || b)
    (cond (eqb o operator.bit_or || eqb o operator.bit_xor) (a && b)
    (cond (eqb o operator.shift_right_unsigned) a (cond (eqb o operator.shift_right_signed) false true)))

abbrev pub word_node : Tree-F Bool → Bool
word_node (tree.Number n) = ltb n (2 ^ 32)
word_node (tree.Unary o a) = true
word_node (tree.Binary o a b) = gives_word o a b
word_node (tree.Narrow k a) = cond (keeps_words k) a true
word_node _ = false

-- below 2^32
unfoldable pub is_word : Tree → Bool
is_word = fold-Tree Bool word_node

abbrev pub is_bool : Kind → Bool
is_bool kind.Bool = true
is_bool _ = false

abbrev pub truth_node : {A : Type 0} → Tree-F A → Bool
truth_node (tree.Number n) = leb n 1
truth_node (tree.Unary o a) = eqb o operator.logical_not
truth_node (tree.Binary o a b) = is_comparison o
truth_node (tree.Narrow k a) = is_bool k
truth_node _ = false

-- 0 or 1
unfoldable pub is_truth : Tree → Bool
is_truth t = truth_node (out-Tree t)

-- ---- rules

abbrev pub commutes : ℕ → Bool
commutes o =
    eqb o operator.add || (eqb o operator.mul || (eqb o operator.bit_and || (eqb o operator.bit_or || (eqb o operator.bit_xor || (eqb o operator.equal || eqb o operator.not_equal)))))

-- whether an operator gives its left operand where this number stands at its right
abbrev pub is_neutral : ℕ → ℕ → Bool
is_neutral o n =
    cond (eqb o operator.mul) (eqb n 1)
    (eqb n 0 && (eqb o operator.add || (eqb o operator.sub || (eqb o operator.bit_or || (eqb o operator.bit_xor || (eqb o operator.shift_left || eqb o operator.shift_right_unsigned))))))

pub data Plainer : Tree → Tree → Type 0 where
  itself : (t : Tree) → Plainer t t
  after : (t u v : Tree) → Plainer t u → Plainer u v → Plainer t v
  -- parts
  in_unary : (o : ℕ) (a b : Tree) → Plainer a b → Plainer (unary o a) (unary o b)
  in_binary : (o : ℕ) (a a' b b' : Tree) → Plainer a a' → Plainer b b' → Plainer (binary o a b) (binary o a' b')
  in_narrow : (k : Kind) (a b : Tree) → Plainer a b → Plainer (narrow k a) (narrow k b)
  -- constants
  one_number : (o n : ℕ) → Plainer (unary o (number n)) (number (value.unary o n))
  two_numbers : (o n m : ℕ) → Plainer (binary o (number n) (number m)) (number (value.binary o n m))
  narrowed : (k : Kind) (n : ℕ) → Plainer (narrow k (number n)) (number (word.narrow k n))
  -- conversions that change nothing
  word_stays : (k : Kind) (a : Tree) → keeps_words k ≡ true → Plainer (narrow k a) a
  truth_stays : (k : Kind) (a : Tree) → is_truth a ≡ true → Plainer (narrow k a) a
  -- a number goes to the right, and is left out where it changes nothing; a product by a power of two is a shift
  turned : (o n : ℕ) (a : Tree) → commutes o ≡ true → Plainer (binary o (number n) a) (binary o a (number n))
  neutral : (o n : ℕ) (a : Tree) → is_neutral o n ≡ true → is_word a ≡ true → Plainer (binary o a (number n)) a
  shifted : (k : ℕ) (a : Tree) → k < 32 → Plainer (binary operator.mul a (number (2 ^ k))) (binary operator.shift_left a (number k))
  -- truths
  unequal : (a b : Tree) → Plainer (unary operator.logical_not (binary operator.equal a b)) (binary operator.not_equal a b)
  equal : (a b : Tree) → Plainer (unary operator.logical_not (binary operator.not_equal a b)) (binary operator.equal a b)
  twice : (a : Tree) → is_truth a ≡ true → Plainer (unary operator.logical_not (unary operator.logical_not a)) a
  asked : (a : Tree) → is_truth a ≡ true → Plainer (binary operator.not_equal a (number 0)) a
  denied : (a : Tree) → Plainer (binary operator.equal a (number 0)) (unary operator.logical_not a)

-- ---- code: the same statements with plainer trees

pub data ArePlainer : List Tree → List Tree → Type 0 where
  no_trees : ArePlainer [] []
  more_trees : (t u : Tree) (ts us : List Tree) → Plainer t u → ArePlainer ts us → ArePlainer (t ∷ ts) (u ∷ us)

pub data IsPlainerCallee : Callee → Callee → Type 0 where
  same_callee : (f : Callee) → IsPlainerCallee f f
  through : (t u : Tree) → Plainer t u → IsPlainerCallee (callee.Through t) (callee.Through u)

mutual
  pub data PlainCode : List Stm → List Stm → Type 0 where
    no_code : PlainCode [] []
    more_code : (s y : Stm) (code rest : List Stm) → PlainStm s y → PlainCode code rest → PlainCode (s ∷ code) (y ∷ rest)

  pub data PlainStm : Stm → Stm → Type 0 where
    as_was : (s : Stm) → PlainStm s s
    set : (t : ℕ) (v w : Tree) → Plainer v w → PlainStm (roll-Stm (stm.Set t v)) (roll-Stm (stm.Set t w))
    set_global : (g : ℕ) (v w : Tree) → Plainer v w → PlainStm (roll-Stm (stm.SetGlobal g v)) (roll-Stm (stm.SetGlobal g w))
    divide : (t o : ℕ) (a a' b b' : Tree) → Plainer a a' → Plainer b b' → PlainStm (roll-Stm (stm.Divide t o a b)) (roll-Stm (stm.Divide t o a' b'))
    check : (r : Array) (i j : Tree) → Plainer i j → PlainStm (roll-Stm (stm.Check r i)) (roll-Stm (stm.Check r j))
    read : (t : ℕ) (r : Array) (i j : Tree) → Plainer i j → PlainStm (roll-Stm (stm.Read t r i)) (roll-Stm (stm.Read t r j))
    write : (r : Array) (i j v w : Tree) → Plainer i j → Plainer v w → PlainStm (roll-Stm (stm.Write r i v)) (roll-Stm (stm.Write r j w))
    choice : (t u : Tree) (a a' b b' : List Stm) → Plainer t u → PlainCode a a' → PlainCode b b' → PlainStm (roll-Stm (stm.If t a b)) (roll-Stm (stm.If u a' b'))
    turns : (b b' : List Stm) → PlainCode b b' → PlainStm (roll-Stm (stm.Loop b)) (roll-Stm (stm.Loop b'))
    block : (b b' : List Stm) → PlainCode b b' → PlainStm (roll-Stm (stm.Block b)) (roll-Stm (stm.Block b'))
    call : (r : Option ℕ) (f f' : Callee) (xs ys : List Tree) → IsPlainerCallee f f' → ArePlainer xs ys → PlainStm (roll-Stm (stm.Call r f xs)) (roll-Stm (stm.Call r f' ys))
    known : (r : Option ℕ) (k : Known) (xs ys : List Tree) → ArePlainer xs ys → PlainStm (roll-Stm (stm.Known r k xs)) (roll-Stm (stm.Known r k ys))
    return : (v w : Tree) → Plainer v w → PlainStm (roll-Stm (stm.Return v)) (roll-Stm (stm.Return w))
