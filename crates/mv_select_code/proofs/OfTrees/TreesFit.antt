-- The fields of a tree's code fit.
use Rattle.std.specs.Int.{w32}
use Rattle.std.proofs.Common.{FitsSigned, ◌≡◌, ⊎_elim, ℕ, zero, suc, ◌+◌, ◌*◌, ◌%◌, ◌^◌, ◌<◌, ◌≤◌, Bool, true, false, eqb, ltb, cond, List, [], ◌∷◌, ◌++◌, Option, Some, None, ℤ, pos, negsuc, ◌-ℤ◌, All, refl, sym, ◌∙◌, subst, arith}
use Rattle.std.proofs.lemmas.Bool.{cases_lt, lt-ltb, le-ltb, ltb-true, ne_eqb}
use Rattle.std.proofs.lemmas.Int.{ints}
use Rattle.std.proofs.lemmas.List.Elements.{All-append, All-cons, All-nil}
use Rattle.mv_num.specs.Words.{sub}
use Rattle.mv_num.specs.declared.kind.Kind.{Kind}
use Rattle.mv_num.specs.declared.kind.Kind.TheVariants as kind
use Rattle.mv_isa.specs.declared.instr.Instr.{Instr}
use Rattle.mv_isa.specs.declared.instr.Instr.TheVariants.{Lui, Lw, Addi, Slti, Sltiu, Xori, Ori, Andi, Slli, Srli, Srai, Add, Sub, Sll, Slt, Sltu, Xor, Srl, Sra, Or, And, Mul}
use Rattle.mv_isa.specs.declared.labelled.Line.{Line}
use Rattle.mv_isa.specs.declared.labelled.Line.TheVariants.{Word, Entry}
use Rattle.mv_isa.specs.Encoding.{IsSigned, IsUnsigned, Fits}
use Rattle.mv_isa.specs.Code.{LineFits}
use Rattle.mv_ir.specs.declared.tree.Tree.{Tree}
use Rattle.mv_ir.specs.declared.tree.Tree.TheOpen.{Tree-F}
use Rattle.mv_ir.specs.declared.tree.Tree.TheOpen as tree
use Rattle.mv_ir.specs.declared.tree.Tree.TheFolds.{map-Tree}
use Rattle.mv_ir.specs.Trees.{node_depth, depth}
use Rattle.mv_ir.proofs.Induction.{TreeChildren, tree_ind}
use Rattle.mv_ir.proofs.Rolls.{depth_roll}
use Rattle.mv_select_code.specs.Trees.TreeCode.{Seats, one, two, upper_bits, lower_bits, near, number_lines, number_by, load_by, load_lines, temp_register, temp_offset, read_from, read_temp, clear, minus_one, unary_lines, binary_lines, short_immediate, count_immediate, immediate, immediate_lines, operator_lines, literal, right_of, keeps_words, narrow_lines, own_register, unless, tree_into, tree_lines, operand_lines, operand_register, immediate_of, temps_layer, temps_of}
use Rattle.mv_select_code.specs.Trees.View.{AreSeats}
use Rattle.mv_select_code.specs.Trees.Laws.{TreesFit}
use Rattle.mv_select_code.specs.declared.trees.leaves.Based.{Based}
use Rattle.mv_select_code.proofs.OfTrees.Registers.{pin_free, seat_free}
use Rattle.mv_select_code.proofs.OfTrees.Near.{near_below, near_fits}
use Rattle.mv_select_code.proofs.OfTrees.Rolls.{into_tree, into_roll, lines_are, immediate_is, temps_roll}
use Rattle.mv_select_code.proofs.OfTrees.Operands.{operand_below}
use Rattle.mv_ir.proofs.Joining.{depth_positive}
use Rattle.mv_isa.proofs.Again.{count_fits}

abbrev pub AllFit : List Line → Type 0
AllFit = All LineFits

pub one_fits : (i : Instr) → Fits i → AllFit (one i)
one_fits i h = All-cons LineFits (Word i) [] h (All-nil LineFits)

pub two_fit : (i j : Instr) → Fits i → Fits j → AllFit (two i j)
two_fit i j h l = All-cons LineFits (Word i) (one j) h (one_fits j l)

-- ---- immediates

pub small_fits : (n : ℕ) → n < 2048 → IsSigned (2 ^ 11) (pos n)
small_fits n h = (omega (arith, ints), omega (arith, ints))

pub lower_fits : (n : ℕ) → IsSigned (2 ^ 11) (lower_bits n)
unfolding lower_bits
lower_fits n = ⊎_elim low high (cases_lt (n % 4096) 2048)
  where
    low : n % 4096 < 2048 → IsSigned (2 ^ 11) (cond (ltb (n % 4096) 2048) (pos (n % 4096)) (pos (n % 4096) -ℤ pos 4096))
    low h = rw (lt-ltb (n % 4096) 2048 h) (small_fits (n % 4096) h)

    high : 2048 ≤ n % 4096 → IsSigned (2 ^ 11) (cond (ltb (n % 4096) 2048) (pos (n % 4096)) (pos (n % 4096) -ℤ pos 4096))
    high h = rw (le-ltb (n % 4096) 2048 h) (omega (arith, ints), omega (arith, ints))

pub upper_fits : (n : ℕ) → IsUnsigned (2 ^ 20) (pos (upper_bits n))
unfolding upper_bits
upper_fits n = (omega (arith, ints), omega (arith, ints))

short_fits : (n : ℕ) (i : ℤ) → short_immediate n ≡ Some i → IsSigned (2 ^ 11) i
short_fits n i = by_test (eqb (upper_bits n) 0)
  where
    by_test : (is_short : Bool) → cond is_short (Some (lower_bits n)) None ≡ Some i → IsSigned (2 ^ 11) i
    by_test true k = let same : lower_bits n ≡ i = cc in subst (IsSigned (2 ^ 11)) same (lower_fits n)
    by_test false k = absurd cc

count_is_short : (n : ℕ) (i : ℤ) → count_immediate n ≡ Some i → IsUnsigned 32 i
count_is_short n i = by_test (ltb n 32) refl
  where
    by_test : (is_low : Bool) → ltb n 32 ≡ is_low → cond is_low (Some (pos n)) None ≡ Some i → IsUnsigned 32 i
    by_test true e k = let same : pos n ≡ i = cc in subst (IsUnsigned 32) same (count_fits n (ltb-true n 32 e))
    by_test false e k = absurd cc

-- ---- leaves

pub number_fits : (n r : ℕ) → r < 32 → AllFit (number_lines n r)
unfolding number_lines
number_fits n r h = by_length (eqb (upper_bits n) 0)
  where
    by_length : (is_short : Bool) → AllFit (cond is_short (one (Addi r 0 (lower_bits n))) (two (Lui r (pos (upper_bits n))) (Addi r r (lower_bits n))))
    by_length true = one_fits (Addi r 0 (lower_bits n)) (h, omega arith, lower_fits n)
    by_length false = two_fit (Lui r (pos (upper_bits n))) (Addi r r (lower_bits n)) (h, upper_fits n) (h, h, lower_fits n)

pub load_fits : (a r : ℕ) → r < 32 → AllFit (load_lines a r)
unfolding load_lines
load_fits a r h = by_base (near a) refl
  where
    by_base : (base : Option Based) → near a ≡ base → AllFit (load_by base a r)
    by_base (Some n) e = one_fits (Lw r n.base n.offset) (h, near_below a n e, near_fits a n e)
    by_base None e = two_fit (Lui r (pos (upper_bits a))) (Lw r r (lower_bits a)) (h, upper_fits a) (h, h, lower_fits a)

number_by_fits : (seats : Seats) → AreSeats seats → (n r : ℕ) → r < 32 → AllFit (number_by (seats.pinned n) n r)
number_by_fits seats are n r h = by_place (seats.pinned n) refl
  where
    by_place : (own : Option ℕ) → seats.pinned n ≡ own → AllFit (number_by own n r)
    by_place (Some q) e = one_fits (Addi r q (pos 0)) (h, (pin_free seats are n q e).below, small_fits 0 (omega arith))
    by_place None e = number_fits n r h

entry_fits : (r f : ℕ) → r < 32 → AllFit (Entry r f ∷ [])
entry_fits r f h = All-cons LineFits (Entry r f) [] h (All-nil LineFits)

pub register_below : (t : ℕ) → t < 9 → temp_register t < 32
unfolding temp_register
register_below zero h = omega arith
register_below (suc t) h = rw (ne_eqb (suc t) 0 (λ e. omega arith)) (omega arith)

pub offset_fits : (t : ℕ) → t < 507 → IsSigned (2 ^ 11) (pos (temp_offset t))
unfolding temp_offset
offset_fits t h = small_fits (4 * (t + 1)) (omega arith)

read_fits : (seats : Seats) → AreSeats seats → (t r : ℕ) → t < 507 → r < 32 → Fits (read_temp seats t r)
unfolding read_temp
read_fits seats are t r lt h = by_place (seats.register t) refl
  where
    by_place : (own : Option ℕ) → seats.register t ≡ own → Fits (read_from own t r)
    by_place (Some q) e = (h, (seat_free seats are t q e).below, small_fits 0 (omega arith))
    by_place None e = (h, omega arith, offset_fits t lt)

-- ---- operators

clear_fits : (r : ℕ) → r < 32 → AllFit (clear r)
clear_fits r h = one_fits (Addi r 0 (pos 0)) (h, omega arith, small_fits 0 (omega arith))

unary_fits : (o d s : ℕ) → d < 32 → s < 32 → AllFit (unary_lines o d s)
unfolding unary_lines
unary_fits zero d s h p = one_fits (Sub d 0 s) (h, omega arith, p)
unary_fits (suc zero) d s h p = one_fits (Xori d s minus_one) (h, p, (omega (arith, ints), omega (arith, ints)))
unary_fits (suc (suc zero)) d s h p = one_fits (Sltiu d s (pos 1)) (h, p, small_fits 1 (omega arith))
unary_fits (suc (suc (suc o))) d s h p = clear_fits d h

module _ (d a b : ℕ) (h : d < 32) (p : a < 32) (q : b < 32) where
  abbrev Registers : Type 0
  Registers = (d < 32) × (a < 32) × (b < 32)

  both : Registers
  both = (h, p, q)

  pub binary_fits : (o : ℕ) → AllFit (binary_lines o d a b)
  unfolding binary_lines
  binary_fits zero = one_fits (Add d a b) both
  binary_fits (suc zero) = one_fits (Sub d a b) both
  binary_fits (suc (suc zero)) = one_fits (Mul d a b) both
  binary_fits (suc (suc (suc zero))) = one_fits (And d a b) both
  binary_fits (suc (suc (suc (suc zero)))) = one_fits (Or d a b) both
  binary_fits (suc (suc (suc (suc (suc zero))))) = one_fits (Xor d a b) both
  binary_fits (suc (suc (suc (suc (suc (suc zero)))))) = one_fits (Sll d a b) both
  binary_fits (suc (suc (suc (suc (suc (suc (suc zero))))))) = one_fits (Sra d a b) both
  binary_fits (suc (suc (suc (suc (suc (suc (suc (suc zero)))))))) = one_fits (Srl d a b) both
  binary_fits (suc (suc (suc (suc (suc (suc (suc (suc (suc zero))))))))) = one_fits (Slt d a b) both
  binary_fits (suc (suc (suc (suc (suc (suc (suc (suc (suc (suc zero)))))))))) = one_fits (Sltu d a b) both
  binary_fits (suc (suc (suc (suc (suc (suc (suc (suc (suc (suc (suc zero))))))))))) = two_fit (Sub d a b) (Sltiu d d (pos 1)) both (h, h, small_fits 1 (omega arith))
  binary_fits (suc (suc (suc (suc (suc (suc (suc (suc (suc (suc (suc (suc zero)))))))))))) = two_fit (Sub d a b) (Sltu d 0 d) both (h, omega arith, h)
  binary_fits (suc (suc (suc (suc (suc (suc (suc (suc (suc (suc (suc (suc (suc o))))))))))))) = clear_fits d h

immediate_fits : (o d s n : ℕ) (i : ℤ) → d < 32 → s < 32 → immediate o n ≡ Some i → AllFit (immediate_lines o d s i)
unfolding immediate immediate_lines
immediate_fits zero d s n i h p k = one_fits (Addi d s i) (h, p, short_fits n i k)
immediate_fits (suc zero) d s n i h p k = one_fits (Addi d s i) (h, p, short_fits (sub 0 n) i k)
immediate_fits (suc (suc zero)) d s n i h p k = absurd cc
immediate_fits (suc (suc (suc zero))) d s n i h p k = one_fits (Andi d s i) (h, p, short_fits n i k)
immediate_fits (suc (suc (suc (suc zero)))) d s n i h p k = one_fits (Ori d s i) (h, p, short_fits n i k)
immediate_fits (suc (suc (suc (suc (suc zero))))) d s n i h p k = one_fits (Xori d s i) (h, p, short_fits n i k)
immediate_fits (suc (suc (suc (suc (suc (suc zero)))))) d s n i h p k = one_fits (Slli d s i) (h, p, count_is_short n i k)
immediate_fits (suc (suc (suc (suc (suc (suc (suc zero))))))) d s n i h p k = one_fits (Srai d s i) (h, p, count_is_short n i k)
immediate_fits (suc (suc (suc (suc (suc (suc (suc (suc zero)))))))) d s n i h p k = one_fits (Srli d s i) (h, p, count_is_short n i k)
immediate_fits (suc (suc (suc (suc (suc (suc (suc (suc (suc zero))))))))) d s n i h p k = one_fits (Slti d s i) (h, p, short_fits n i k)
immediate_fits (suc (suc (suc (suc (suc (suc (suc (suc (suc (suc zero)))))))))) d s n i h p k = one_fits (Sltiu d s i) (h, p, short_fits n i k)
immediate_fits (suc (suc (suc (suc (suc (suc (suc (suc (suc (suc (suc zero))))))))))) d s n i h p k = two_fit (Addi d s i) (Sltiu d d (pos 1)) (h, p, short_fits (sub 0 n) i k) (h, h, small_fits 1 (omega arith))
immediate_fits (suc (suc (suc (suc (suc (suc (suc (suc (suc (suc (suc (suc zero)))))))))))) d s n i h p k = two_fit (Addi d s i) (Sltu d 0 d) (h, p, short_fits (sub 0 n) i k) (h, omega arith, h)
immediate_fits (suc (suc (suc (suc (suc (suc (suc (suc (suc (suc (suc (suc (suc o))))))))))))) d s n i h p k = absurd cc

shifts_fit : (k d s : ℕ) (j : Instr) → d < 32 → s < 32 → k < 32 → Fits j → AllFit (two (Slli d s (pos k)) j)
shifts_fit k d s j h p l f = two_fit (Slli d s (pos k)) j (h, p, count_fits k l) f

copy_fits : (d s : ℕ) → d < 32 → s < 32 → AllFit (one (Addi d s (pos 0)))
copy_fits d s h p = one_fits (Addi d s (pos 0)) (h, p, small_fits 0 (omega arith))

narrow_fits : (k : Kind) (d s : ℕ) → d < 32 → s < 32 → AllFit (narrow_lines k d s)
unfolding narrow_lines
narrow_fits kind.Bool d s h p = one_fits (Sltu d 0 s) (h, omega arith, p)
narrow_fits kind.SChar d s h p = shifts_fit 24 d s (Srai d d (pos 24)) h p (omega arith) (h, h, count_fits 24 (omega arith))
narrow_fits kind.UChar d s h p = shifts_fit 24 d s (Srli d d (pos 24)) h p (omega arith) (h, h, count_fits 24 (omega arith))
narrow_fits kind.Short d s h p = shifts_fit 16 d s (Srai d d (pos 16)) h p (omega arith) (h, h, count_fits 16 (omega arith))
narrow_fits kind.UShort d s h p = shifts_fit 16 d s (Srli d d (pos 16)) h p (omega arith) (h, h, count_fits 16 (omega arith))
narrow_fits kind.Int d s h p = copy_fits d s h p
narrow_fits kind.UInt d s h p = copy_fits d s h p

-- ---- immediates are short, so that i32 holds them

count_fits_short : (i : ℤ) → IsUnsigned 32 i → IsSigned (2 ^ 11) i
count_fits_short i h = let a = h.0 in let b = h.1 in (omega (arith, ints), omega (arith, ints))

immediate_range : (o n : ℕ) (i : ℤ) → immediate o n ≡ Some i → IsSigned (2 ^ 11) i
unfolding immediate
immediate_range zero n i k = short_fits n i k
immediate_range (suc zero) n i k = short_fits (sub 0 n) i k
immediate_range (suc (suc zero)) n i k = absurd cc
immediate_range (suc (suc (suc zero))) n i k = short_fits n i k
immediate_range (suc (suc (suc (suc zero)))) n i k = short_fits n i k
immediate_range (suc (suc (suc (suc (suc zero))))) n i k = short_fits n i k
immediate_range (suc (suc (suc (suc (suc (suc zero)))))) n i k = count_fits_short i (count_is_short n i k)
immediate_range (suc (suc (suc (suc (suc (suc (suc zero))))))) n i k = count_fits_short i (count_is_short n i k)
immediate_range (suc (suc (suc (suc (suc (suc (suc (suc zero)))))))) n i k = count_fits_short i (count_is_short n i k)
immediate_range (suc (suc (suc (suc (suc (suc (suc (suc (suc zero))))))))) n i k = short_fits n i k
immediate_range (suc (suc (suc (suc (suc (suc (suc (suc (suc (suc zero)))))))))) n i k = short_fits n i k
immediate_range (suc (suc (suc (suc (suc (suc (suc (suc (suc (suc (suc zero))))))))))) n i k = short_fits (sub 0 n) i k
immediate_range (suc (suc (suc (suc (suc (suc (suc (suc (suc (suc (suc (suc zero)))))))))))) n i k = short_fits (sub 0 n) i k
immediate_range (suc (suc (suc (suc (suc (suc (suc (suc (suc (suc (suc (suc (suc o))))))))))))) n i k = absurd cc

small_signed : (i : ℤ) → IsSigned (2 ^ 11) i → FitsSigned w32 i
small_signed (pos n) h = let b = h.1 in record { sfits = omega (arith, ints) }
small_signed (negsuc n) h = let a = h.0 in record { sfits = omega (arith, ints) }

pub immediate_signed : (o : ℕ) (t : Tree) (i : ℤ) → immediate_of o t ≡ Some i → FitsSigned w32 i
immediate_signed o t i e = by_number (literal t) (immediate_is o t ∙ e)
  where
    by_number : (number : Option ℕ) → right_of o number ≡ Some i → FitsSigned w32 i
    by_number None k = absurd cc
    by_number (Some n) k = small_signed i (immediate_range o n i k)

-- ---- trees

module _ (seats : Seats) (are : AreSeats seats) where
  abbrev CodeFits : Tree → Type 0
  CodeFits t = (d r : ℕ) → d < 32 → r + depth t ≤ 32 → temps_of t ≤ 507 → AllFit (tree_into seats t d r)

  after : (a b : List Line) → AllFit a → AllFit b → AllFit (a ++ b)
  after = All-append LineFits

  operand : (t : Tree) → CodeFits t → (r : ℕ) → r + depth t ≤ 32 → temps_of t ≤ 507 → AllFit (operand_lines seats t r)
  unfolding operand_lines tree_lines
  operand t h r p q = by_own (own_register seats t)
    where
      by_own : (own : Option ℕ) → AllFit (unless own (tree_into seats t r r))
      by_own None = h r r (omega (arith, p, depth_positive t)) p q
      by_own (Some x) = All-nil LineFits

  layer : (x : Tree-F Tree) → TreeChildren CodeFits x → (d r : ℕ) → d < 32 → r + node_depth (map-Tree Tree ℕ depth x) ≤ 32 → temps_layer (map-Tree Tree ℕ temps_of x) ≤ 507 → AllFit (into_tree seats x d r)
  layer (tree.Number n) h d r l p q = number_by_fits seats are n d l
  layer (tree.Temp t) h d r l p q = one_fits (read_temp seats t d) (read_fits seats are t d (omega arith) l)
  layer (tree.Global g) h d r l p q = load_fits (seats.place g) d l
  layer (tree.Function f) h d r l p q = entry_fits d f l
  layer (tree.Unary o a) h d r l p q =
      let s = operand_register seats a r in
      after (operand_lines seats a r) (unary_lines o d s) (operand a h r (omega arith) q) (unary_fits o d s l (operand_below seats are a r (omega arith)))
  layer (tree.Binary o a b) h d r l p q =
      after (operand_lines seats a r) (operator_lines (immediate_of o b) o d (operand_register seats a r) (operand_lines seats b (r + 1)) (operand_register seats b (r + 1)))
      (operand a h.0 r (omega arith) (omega arith)) (by_right (immediate_of o b) refl)
    where
      left : operand_register seats a r < 32
      left = let some = depth_positive b in operand_below seats are a r (omega arith)

      by_right : (right : Option ℤ) → immediate_of o b ≡ right → AllFit (operator_lines right o d (operand_register seats a r) (operand_lines seats b (r + 1)) (operand_register seats b (r + 1)))
      by_right None e =
          let s = operand_register seats a r in let u = operand_register seats b (r + 1) in
          let some = depth_positive b in
          after (operand_lines seats b (r + 1)) (binary_lines o d s u) (operand b h.1 (r + 1) (omega arith) (omega arith)) (binary_fits d s u l left (operand_below seats are b (r + 1) (omega arith)) o)
      by_right (Some i) e = by_number (literal b) (immediate_is o b ∙ e)
        where
          by_number : (number : Option ℕ) → right_of o number ≡ Some i → AllFit (immediate_lines o d (operand_register seats a r) i)
          by_number None k = absurd cc
          by_number (Some n) k = immediate_fits o d (operand_register seats a r) n i l left k
  layer (tree.Narrow k a) h d r l p q = by_kind (keeps_words k)
    where
      by_kind : (keeps : Bool) → AllFit (cond keeps (tree_into seats a d r) (operand_lines seats a r ++ narrow_lines k d (operand_register seats a r)))
      by_kind true = h d r l (omega arith) q
      by_kind false =
          let s = operand_register seats a r in
          after (operand_lines seats a r) (narrow_lines k d s) (operand a h r (omega arith) q) (narrow_fits k d s l (operand_below seats are a r (omega arith)))

  pub into_fits : (t : Tree) → CodeFits t
  into_fits = tree_ind CodeFits (λ x h d r l p q. subst AllFit (sym (into_roll seats x d r)) (layer x h d r l (subst (λ n. r + n ≤ 32) (depth_roll x) p) (subst (λ n. n ≤ 507) (temps_roll x) q)))

  pub operand_fits : (t : Tree) (r : ℕ) → r + depth t ≤ 32 → temps_of t ≤ 507 → AllFit (operand_lines seats t r)
  operand_fits t r = operand t (into_fits t) r

pub trees_fit : TreesFit
trees_fit seats are t r p q = subst AllFit (sym (lines_are seats t r)) (into_fits seats are t r r (omega (arith, p, depth_positive t)) p q)
