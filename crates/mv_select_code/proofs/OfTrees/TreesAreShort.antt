-- The code of a tree has at most two words for each node.
use Rattle.std.proofs.Common.{◌≡◌, ℕ, zero, suc, ◌+◌, ◌*◌, ◌≤◌, Bool, true, false, eqb, cond, List, ◌++◌, Option, Some, None, ℤ, pos, sum_by, ap, arith}
use Rattle.std.proofs.lemmas.List.Sums.{sum_by-append}
use Rattle.mv_num.specs.declared.kind.Kind.{Kind}
use Rattle.mv_num.specs.declared.kind.Kind.TheVariants as kind
use Rattle.mv_isa.specs.declared.instr.Instr.TheVariants.{Lui, Addi}
use Rattle.mv_isa.specs.declared.labelled.Line.{Line}
use Rattle.mv_isa.specs.Code.{greatest_words}
use Rattle.mv_ir.specs.declared.tree.Tree.{Tree}
use Rattle.mv_ir.specs.declared.tree.Tree.TheOpen.{Tree-F}
use Rattle.mv_ir.specs.declared.tree.Tree.TheOpen as tree
use Rattle.mv_ir.specs.declared.tree.Tree.TheFolds.{map-Tree}
use Rattle.mv_ir.specs.Trees.{node_count, nodes}
use Rattle.mv_ir.proofs.Induction.{TreeChildren, tree_ind}
use Rattle.mv_ir.proofs.Rolls.{nodes_roll}
use Rattle.mv_select_code.specs.Trees.TreeCode.{Seats, one, two, upper_bits, lower_bits, near, number_lines, number_by, load_by, load_lines, unary_lines, binary_lines, immediate_lines, operator_lines, keeps_words, narrow_lines, own_register, unless, tree_into, tree_lines, operand_lines, operand_register, immediate_of}
use Rattle.mv_select_code.specs.declared.trees.leaves.Based.{Based}
use Rattle.mv_select_code.specs.Trees.Laws.{TreesAreShort}
use Rattle.mv_select_code.proofs.OfTrees.Rolls.{into_tree, into_roll, lines_are}

abbrev words : List Line → ℕ
words = sum_by greatest_words

words_append : (a b : List Line) → words (a ++ b) ≡ words a + words b
words_append = sum_by-append greatest_words

pub number_size : (n r : ℕ) → words (number_lines n r) ≤ 2
unfolding number_lines
number_size n r = by_length (eqb (upper_bits n) 0)
  where
    by_length : (is_short : Bool) → words (cond is_short (one (Addi r 0 (lower_bits n))) (two (Lui r (pos (upper_bits n))) (Addi r r (lower_bits n)))) ≤ 2
    by_length true = omega arith
    by_length false = omega arith

number_by_size : (own : Option ℕ) (n r : ℕ) → words (number_by own n r) ≤ 2
number_by_size (Some q) n r = omega arith
number_by_size None n r = number_size n r

pub load_size : (a r : ℕ) → words (load_lines a r) ≤ 2
unfolding load_lines
load_size a r = by_base (near a)
  where
    by_base : (base : Option Based) → words (load_by base a r) ≤ 2
    by_base (Some n) = omega arith
    by_base None = omega arith

unary_size : (o d s : ℕ) → words (unary_lines o d s) ≤ 2
unfolding unary_lines
unary_size zero d s = omega arith
unary_size (suc zero) d s = omega arith
unary_size (suc (suc zero)) d s = omega arith
unary_size (suc (suc (suc o))) d s = omega arith

narrow_size : (k : Kind) (d s : ℕ) → words (narrow_lines k d s) ≤ 2
unfolding narrow_lines
narrow_size kind.Bool d s = omega arith
narrow_size kind.SChar d s = omega arith
narrow_size kind.UChar d s = omega arith
narrow_size kind.Short d s = omega arith
narrow_size kind.UShort d s = omega arith
narrow_size kind.Int d s = omega arith
narrow_size kind.UInt d s = omega arith

binary_size : (o d a b : ℕ) → words (binary_lines o d a b) ≤ 2
unfolding binary_lines
binary_size zero d a b = omega arith
binary_size (suc zero) d a b = omega arith
binary_size (suc (suc zero)) d a b = omega arith
binary_size (suc (suc (suc zero))) d a b = omega arith
binary_size (suc (suc (suc (suc zero)))) d a b = omega arith
binary_size (suc (suc (suc (suc (suc zero))))) d a b = omega arith
binary_size (suc (suc (suc (suc (suc (suc zero)))))) d a b = omega arith
binary_size (suc (suc (suc (suc (suc (suc (suc zero))))))) d a b = omega arith
binary_size (suc (suc (suc (suc (suc (suc (suc (suc zero)))))))) d a b = omega arith
binary_size (suc (suc (suc (suc (suc (suc (suc (suc (suc zero))))))))) d a b = omega arith
binary_size (suc (suc (suc (suc (suc (suc (suc (suc (suc (suc zero)))))))))) d a b = omega arith
binary_size (suc (suc (suc (suc (suc (suc (suc (suc (suc (suc (suc zero))))))))))) d a b = omega arith
binary_size (suc (suc (suc (suc (suc (suc (suc (suc (suc (suc (suc (suc zero)))))))))))) d a b = omega arith
binary_size (suc (suc (suc (suc (suc (suc (suc (suc (suc (suc (suc (suc (suc o))))))))))))) d a b = omega arith

immediate_size : (o d s : ℕ) (i : ℤ) → words (immediate_lines o d s i) ≤ 2
unfolding immediate_lines
immediate_size zero d s i = omega arith
immediate_size (suc zero) d s i = omega arith
immediate_size (suc (suc zero)) d s i = omega arith
immediate_size (suc (suc (suc zero))) d s i = omega arith
immediate_size (suc (suc (suc (suc zero)))) d s i = omega arith
immediate_size (suc (suc (suc (suc (suc zero))))) d s i = omega arith
immediate_size (suc (suc (suc (suc (suc (suc zero)))))) d s i = omega arith
immediate_size (suc (suc (suc (suc (suc (suc (suc zero))))))) d s i = omega arith
immediate_size (suc (suc (suc (suc (suc (suc (suc (suc zero)))))))) d s i = omega arith
immediate_size (suc (suc (suc (suc (suc (suc (suc (suc (suc zero))))))))) d s i = omega arith
immediate_size (suc (suc (suc (suc (suc (suc (suc (suc (suc (suc zero)))))))))) d s i = omega arith
immediate_size (suc (suc (suc (suc (suc (suc (suc (suc (suc (suc (suc zero))))))))))) d s i = omega arith
immediate_size (suc (suc (suc (suc (suc (suc (suc (suc (suc (suc (suc (suc zero)))))))))))) d s i = omega arith
immediate_size (suc (suc (suc (suc (suc (suc (suc (suc (suc (suc (suc (suc (suc o))))))))))))) d s i = omega arith

module _ (seats : Seats) where
  abbrev IsShort : Tree → Type 0
  IsShort t = (d r : ℕ) → words (tree_into seats t d r) ≤ 2 * nodes t

  operand_size : (t : Tree) → IsShort t → (r : ℕ) → words (operand_lines seats t r) ≤ 2 * nodes t
  unfolding operand_lines tree_lines
  operand_size t h r = by_own (own_register seats t)
    where
      by_own : (own : Option ℕ) → words (unless own (tree_into seats t r r)) ≤ 2 * nodes t
      by_own None = h r r
      by_own (Some q) = omega arith

  layer : (x : Tree-F Tree) → TreeChildren IsShort x → (d r : ℕ) → words (into_tree seats x d r) ≤ 2 * node_count (map-Tree Tree ℕ nodes x)
  layer (tree.Number n) h d r = number_by_size (seats.pinned n) n d
  layer (tree.Temp t) h d r = omega arith
  layer (tree.Global g) h d r = load_size (seats.place g) d
  layer (tree.Function f) h d r = omega arith
  layer (tree.Unary o a) h d r =
      let s = operand_register seats a r in
      omega (arith, words_append (operand_lines seats a r) (unary_lines o d s), operand_size a h r, unary_size o d s)
  layer (tree.Binary o a b) h d r =
      let p = operand_register seats a r in let q = operand_register seats b (r + 1) in
      omega (arith, words_append (operand_lines seats a r) (operator_lines (immediate_of o b) o d p (operand_lines seats b (r + 1)) q), operand_size a h.0 r, by_right (immediate_of o b))
    where
      by_right : (right : Option ℤ) → words (operator_lines right o d (operand_register seats a r) (operand_lines seats b (r + 1)) (operand_register seats b (r + 1))) ≤ 2 * suc (nodes b)
      by_right None =
          let p = operand_register seats a r in let q = operand_register seats b (r + 1) in
          omega (arith, words_append (operand_lines seats b (r + 1)) (binary_lines o d p q), operand_size b h.1 (r + 1), binary_size o d p q)
      by_right (Some i) = omega (arith, immediate_size o d (operand_register seats a r) i)
  layer (tree.Narrow k a) h d r = by_kind (keeps_words k)
    where
      by_kind : (keeps : Bool) → words (cond keeps (tree_into seats a d r) (operand_lines seats a r ++ narrow_lines k d (operand_register seats a r))) ≤ 2 * suc (nodes a)
      by_kind true = omega (arith, h d r)
      by_kind false =
          let s = operand_register seats a r in
          omega (arith, words_append (operand_lines seats a r) (narrow_lines k d s), operand_size a h r, narrow_size k d s)

  pub into_short : (t : Tree) (d r : ℕ) → words (tree_into seats t d r) ≤ 2 * nodes t
  into_short = tree_ind IsShort (λ x h d r. omega (arith, layer x h d r, ap words (into_roll seats x d r), nodes_roll x))

  pub operand_short : (t : Tree) (r : ℕ) → words (operand_lines seats t r) ≤ 2 * nodes t
  operand_short t r = operand_size t (into_short t) r

pub trees_are_short : TreesAreShort
trees_are_short seats t r = omega (arith, into_short seats t r r, ap words (lines_are seats t r))
