-- What holds of single instructions, of the entries that a tree names and of lines that are put together holds of the tree's code.
use Rattle.std.proofs.Common.{ℕ, zero, suc, ◌+◌, Bool, true, false, eqb, cond, List, [], ◌∷◌, ◌++◌, Option, Some, None, ℤ, pos, ◌≡◌, refl, sym, subst}
use Rattle.mv_num.specs.declared.kind.Kind.{Kind}
use Rattle.mv_num.specs.declared.kind.Kind.TheVariants as kind
use Rattle.mv_isa.specs.declared.instr.Instr.{Instr}
use Rattle.mv_isa.specs.declared.instr.Instr.TheVariants.{Lui, Lw, Addi, Slti, Sltiu, Xori, Ori, Andi, Slli, Srli, Srai, Add, Sub, Sll, Slt, Sltu, Xor, Srl, Sra, Or, And, Mul}
use Rattle.mv_isa.specs.declared.labelled.Line.{Line}
use Rattle.mv_isa.specs.declared.labelled.Line.TheVariants.{Entry}
use Rattle.mv_ir.specs.declared.tree.Tree.{Tree}
use Rattle.mv_ir.specs.declared.tree.Tree.TheOpen.{Tree-F}
use Rattle.mv_ir.specs.declared.tree.Tree.TheOpen as tree
use Rattle.mv_ir.specs.declared.tree.Tree.TheViews.{roll-Tree}
use Rattle.mv_ir.proofs.Induction.{TreeChildren, tree_ind}
use Rattle.mv_select_code.specs.Trees.TreeCode.{Seats, one, two, upper_bits, lower_bits, near, number_lines, number_by, load_by, load_lines, read_from, read_temp, minus_one, unary_lines, binary_lines, immediate_lines, operator_lines, keeps_words, narrow_lines, own_register, unless, tree_into, tree_lines, operand_lines, operand_register, immediate_of}
use Rattle.mv_select_code.specs.declared.trees.leaves.Based.{Based}
use Rattle.mv_select_code.specs.Trees.Straight.{is_link}
use Rattle.mv_select_code.proofs.OfTrees.Rolls.{into_tree, into_roll, lines_are}

abbrev IsPlain : Instr → Type 0
IsPlain i = is_link i ≡ false

temp_plain : (seats : Seats) (t r : ℕ) → IsPlain (read_temp seats t r)
unfolding read_temp
temp_plain seats t r = by_place (seats.register t)
  where
    by_place : (own : Option ℕ) → IsPlain (read_from own t r)
    by_place (Some q) = refl
    by_place None = refl

-- Z holds of lines by the last of them, and P where Z does, and of none.
module _
    (P Z : List Line → Type 0) (none : P []) (given : (a : List Line) → Z a → P a) (word : (i : Instr) → IsPlain i → Z (one i)) (after : (a b : List Line) → P a → Z b → Z (a ++ b)) where
  words : (i j : Instr) → IsPlain i → IsPlain j → Z (two i j)
  words i j p q = after (one i) (one j) (given (one i) (word i p)) (word j q)

  pub number_made : (n d : ℕ) → Z (number_lines n d)
  unfolding number_lines
  number_made n d = by_length (eqb (upper_bits n) 0)
    where
      by_length : (is_short : Bool) → Z (cond is_short (one (Addi d 0 (lower_bits n))) (two (Lui d (pos (upper_bits n))) (Addi d d (lower_bits n))))
      by_length true = word (Addi d 0 (lower_bits n)) refl
      by_length false = words (Lui d (pos (upper_bits n))) (Addi d d (lower_bits n)) refl refl

  pub number_by_made : (own : Option ℕ) (n d : ℕ) → Z (number_by own n d)
  number_by_made (Some q) n d = word (Addi d q (pos 0)) refl
  number_by_made None n d = number_made n d

  pub load_made : (a d : ℕ) → Z (load_lines a d)
  unfolding load_lines
  load_made a d = by_base (near a)
    where
      by_base : (base : Option Based) → Z (load_by base a d)
      by_base (Some n) = word (Lw d n.base n.offset) refl
      by_base None = words (Lui d (pos (upper_bits a))) (Lw d d (lower_bits a)) refl refl

  unary_made : (o d s : ℕ) → Z (unary_lines o d s)
  unfolding unary_lines
  unary_made zero d s = word (Sub d 0 s) refl
  unary_made (suc zero) d s = word (Xori d s minus_one) refl
  unary_made (suc (suc zero)) d s = word (Sltiu d s (pos 1)) refl
  unary_made (suc (suc (suc o))) d s = word (Addi d 0 (pos 0)) refl

  binary_made : (o d a b : ℕ) → Z (binary_lines o d a b)
  unfolding binary_lines
  binary_made zero d a b = word (Add d a b) refl
  binary_made (suc zero) d a b = word (Sub d a b) refl
  binary_made (suc (suc zero)) d a b = word (Mul d a b) refl
  binary_made (suc (suc (suc zero))) d a b = word (And d a b) refl
  binary_made (suc (suc (suc (suc zero)))) d a b = word (Or d a b) refl
  binary_made (suc (suc (suc (suc (suc zero))))) d a b = word (Xor d a b) refl
  binary_made (suc (suc (suc (suc (suc (suc zero)))))) d a b = word (Sll d a b) refl
  binary_made (suc (suc (suc (suc (suc (suc (suc zero))))))) d a b = word (Sra d a b) refl
  binary_made (suc (suc (suc (suc (suc (suc (suc (suc zero)))))))) d a b = word (Srl d a b) refl
  binary_made (suc (suc (suc (suc (suc (suc (suc (suc (suc zero))))))))) d a b = word (Slt d a b) refl
  binary_made (suc (suc (suc (suc (suc (suc (suc (suc (suc (suc zero)))))))))) d a b = word (Sltu d a b) refl
  binary_made (suc (suc (suc (suc (suc (suc (suc (suc (suc (suc (suc zero))))))))))) d a b = words (Sub d a b) (Sltiu d d (pos 1)) refl refl
  binary_made (suc (suc (suc (suc (suc (suc (suc (suc (suc (suc (suc (suc zero)))))))))))) d a b = words (Sub d a b) (Sltu d 0 d) refl refl
  binary_made (suc (suc (suc (suc (suc (suc (suc (suc (suc (suc (suc (suc (suc o))))))))))))) d a b = word (Addi d 0 (pos 0)) refl

  immediate_made : (o d s : ℕ) (i : ℤ) → Z (immediate_lines o d s i)
  unfolding immediate_lines
  immediate_made zero d s i = word (Addi d s i) refl
  immediate_made (suc zero) d s i = word (Addi d s i) refl
  immediate_made (suc (suc zero)) d s i = word (Addi d 0 (pos 0)) refl
  immediate_made (suc (suc (suc zero))) d s i = word (Andi d s i) refl
  immediate_made (suc (suc (suc (suc zero)))) d s i = word (Ori d s i) refl
  immediate_made (suc (suc (suc (suc (suc zero))))) d s i = word (Xori d s i) refl
  immediate_made (suc (suc (suc (suc (suc (suc zero)))))) d s i = word (Slli d s i) refl
  immediate_made (suc (suc (suc (suc (suc (suc (suc zero))))))) d s i = word (Srai d s i) refl
  immediate_made (suc (suc (suc (suc (suc (suc (suc (suc zero)))))))) d s i = word (Srli d s i) refl
  immediate_made (suc (suc (suc (suc (suc (suc (suc (suc (suc zero))))))))) d s i = word (Slti d s i) refl
  immediate_made (suc (suc (suc (suc (suc (suc (suc (suc (suc (suc zero)))))))))) d s i = word (Sltiu d s i) refl
  immediate_made (suc (suc (suc (suc (suc (suc (suc (suc (suc (suc (suc zero))))))))))) d s i = words (Addi d s i) (Sltiu d d (pos 1)) refl refl
  immediate_made (suc (suc (suc (suc (suc (suc (suc (suc (suc (suc (suc (suc zero)))))))))))) d s i = words (Addi d s i) (Sltu d 0 d) refl refl
  immediate_made (suc (suc (suc (suc (suc (suc (suc (suc (suc (suc (suc (suc (suc o))))))))))))) d s i = word (Addi d 0 (pos 0)) refl

  narrow_made : (k : Kind) (d s : ℕ) → Z (narrow_lines k d s)
  unfolding narrow_lines
  narrow_made kind.Bool d s = word (Sltu d 0 s) refl
  narrow_made kind.SChar d s = words (Slli d s (pos 24)) (Srai d d (pos 24)) refl refl
  narrow_made kind.UChar d s = words (Slli d s (pos 24)) (Srli d d (pos 24)) refl refl
  narrow_made kind.Short d s = words (Slli d s (pos 16)) (Srai d d (pos 16)) refl refl
  narrow_made kind.UShort d s = words (Slli d s (pos 16)) (Srli d d (pos 16)) refl refl
  narrow_made kind.Int d s = word (Addi d s (pos 0)) refl
  narrow_made kind.UInt d s = word (Addi d s (pos 0)) refl

  -- F: what a tree has where its entries have Z. Its parts have it too
  module _
      (F : Tree → Type 0) (inside : (x : Tree-F Tree) → F (roll-Tree x) → TreeChildren F x) (entry : (f d : ℕ) → F (roll-Tree (tree.Function f)) → Z (Entry d f ∷ []))
      (seats : Seats) where
    abbrev Made : Tree → Type 0
    Made t = F t → (d r : ℕ) → Z (tree_into seats t d r)

    operand : (t : Tree) → Made t → F t → (r : ℕ) → P (operand_lines seats t r)
    unfolding operand_lines tree_lines
    operand t h f r = by_own (own_register seats t)
      where
        by_own : (own : Option ℕ) → P (unless own (tree_into seats t r r))
        by_own None = given (tree_into seats t r r) (h f r r)
        by_own (Some q) = none

    layer : (x : Tree-F Tree) → TreeChildren Made x → F (roll-Tree x) → (d r : ℕ) → Z (into_tree seats x d r)
    layer (tree.Number n) h f d r = number_by_made (seats.pinned n) n d
    layer (tree.Temp t) h f d r = word (read_temp seats t d) (temp_plain seats t d)
    layer (tree.Global g) h f d r = load_made (seats.place g) d
    layer (tree.Function g) h f d r = entry g d f
    layer (tree.Unary o a) h f d r =
        after (operand_lines seats a r) (unary_lines o d (operand_register seats a r)) (operand a h (inside (tree.Unary o a) f) r) (unary_made o d (operand_register seats a r))
    layer (tree.Binary o a b) h f d r =
        let has = inside (tree.Binary o a b) f in
        after (operand_lines seats a r) (operator_lines (immediate_of o b) o d (operand_register seats a r) (operand_lines seats b (r + 1)) (operand_register seats b (r + 1))) (operand a h.0 has.0 r)
        (by_right has.1 (immediate_of o b))
      where
        by_right : F b → (right : Option ℤ) → Z (operator_lines right o d (operand_register seats a r) (operand_lines seats b (r + 1)) (operand_register seats b (r + 1)))
        by_right has None =
            after (operand_lines seats b (r + 1)) (binary_lines o d (operand_register seats a r) (operand_register seats b (r + 1)))
            (operand b h.1 has (r + 1)) (binary_made o d (operand_register seats a r) (operand_register seats b (r + 1)))
        by_right has (Some i) = immediate_made o d (operand_register seats a r) i
    layer (tree.Narrow k a) h f d r = by_kind (keeps_words k)
      where
        by_kind : (keeps : Bool) → Z (cond keeps (tree_into seats a d r) (operand_lines seats a r ++ narrow_lines k d (operand_register seats a r)))
        by_kind true = h (inside (tree.Narrow k a) f) d r
        by_kind false =
            after (operand_lines seats a r) (narrow_lines k d (operand_register seats a r)) (operand a h (inside (tree.Narrow k a) f) r) (narrow_made k d (operand_register seats a r))

    pub into_made : (t : Tree) → F t → (d r : ℕ) → Z (tree_into seats t d r)
    into_made = tree_ind Made (λ x h f d r. subst Z (sym (into_roll seats x d r)) (layer x h f d r))

    pub lines_made : (t : Tree) → F t → (r : ℕ) → Z (tree_lines seats t r)
    lines_made t f r = subst Z (sym (lines_are seats t r)) (into_made t f r r)

    pub operand_made : (t : Tree) → F t → (r : ℕ) → P (operand_lines seats t r)
    operand_made t f r = operand t (into_made t) f r
