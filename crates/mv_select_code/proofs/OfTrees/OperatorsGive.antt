-- The lines of each operator leave what it gives.
use Rattle.std.proofs.Common.{◌≡◌, ℕ, zero, suc, ◌-◌, ◌%◌, ◌^◌, ◌<◌, List, Some, ℤ, pos, refl, ap, ◌∙◌, subst, arith, bit_and, bit_or, bit_xor, cond, eqb, not}
use Rattle.std.proofs.lemmas.Nat.{or_lt, xor_lt}
use Rattle.mv_num.specs.declared.kind.Kind.{Kind}
use Rattle.mv_num.specs.declared.kind.Kind.TheVariants as kind
use Rattle.mv_num.specs.Words.{add, sub, mul, shl, shr_s, shr_u, lt_s, lt_u, narrow, sign_extend, as_word}
use Rattle.mv_isa.specs.declared.instr.Instr.{Instr}
use Rattle.mv_isa.specs.declared.instr.Instr.TheVariants.{Addi, Slti, Sltiu, Xori, Ori, Andi, Slli, Srli, Srai, Add, Sub, Sll, Slt, Sltu, Xor, Srl, Sra, Or, And, Mul}
use Rattle.mv_isa.specs.declared.labelled.Line.{Line}
use Rattle.mv_isa.specs.Execution.{Access, reg, put}
use Rattle.mv_ir.specs.Trees.{unary, binary}
use Rattle.mv_select_code.specs.Trees.TreeCode.{one, two, minus_one, unary_lines, binary_lines, immediate, immediate_lines, narrow_lines}
use Rattle.mv_select_code.specs.Trees.Straight.{Sets}
use Rattle.mv_select_code.specs.Trees.View.{AreRegisters, Gives}
use Rattle.mv_select_code.proofs.OfTrees.Gives.{Within, put_within, one_gives, two_gives, clear_gives}
use Rattle.mv_select_code.proofs.OfTrees.NumbersStand.{short_stands, count_stands, add_negative}
use Rattle.mv_select_code.proofs.OfTrees.Instructions.{addi_sets, slti_sets, sltiu_sets, xori_sets, ori_sets, andi_sets, slli_sets, srli_sets, srai_sets, add_sets, sub_sets, mul_sets, and_sets, or_sets, xor_sets, sll_sets, sra_sets, srl_sets, slt_sets, sltu_sets}
use Rattle.mv_select_code.proofs.OfTrees.Registers.{reg_zero, held_word}
use Rattle.mv_select_code.proofs.OfTrees.Words.{minus_one_is, complement_is, zero_add, add_below, sub_below, mul_below, and_below, shl_below, shr_s_below, shr_u_below, flag_below, truth_is, truth_below, is_zero, isnt_zero, same_difference, bool_is, byte_is, half_is, signed_byte, signed_half}
use Rattle.mv_num.proofs.Numbers.{word_of_pos}

module _ {M : Type 0} (access : Access M) (m : M) (entry : ℕ → ℕ) (lo hi : ℕ) where
  abbrev Leaves : ℕ → ℕ → List Line → List ℕ → Type 0
  Leaves r v lines regs = Gives access m entry lo hi r v lines regs

  abbrev by_one : (r v : ℕ) (i : Instr) (regs : List ℕ) → AreRegisters regs → Within lo hi r → v < 2 ^ 32 → Sets access m i regs (put regs r v) → Leaves r v (one i) regs
  by_one = one_gives access m entry lo hi

  abbrev by_two : (r v q u : ℕ) (i j : Instr) (regs : List ℕ) → AreRegisters regs → Within lo hi r → v < 2 ^ 32 → Within lo hi q → u < 2 ^ 32
      → Sets access m i regs (put regs q u) → Sets access m j (put regs q u) (put (put regs q u) r v) → Leaves r v (two i j) regs
  by_two = two_gives access m entry lo hi

  -- an operator on one register
  pub unary_gives : (d s o a : ℕ) (regs : List ℕ) → AreRegisters regs → Within lo hi d → reg regs s ≡ a → Leaves d (unary o a) (unary_lines o d s) regs
  unfolding unary unary_lines
  unary_gives d s zero a regs h w e = by_one d (sub 0 a) (Sub d 0 s) regs h w (sub_below 0 a) (sub_sets access m d 0 s regs 0 a (sub 0 a) (reg_zero regs) e refl)
  unary_gives d s (suc zero) a regs h w e =
      let big = 2 ^ 32 - 1 in
      by_one d (sub big a) (Xori d s minus_one) regs h w (sub_below big a) (xori_sets access m d s minus_one regs a big (sub big a) e minus_one_is (complement_is a (held_word s a regs h e)))
  unary_gives d s (suc (suc zero)) a regs h w e =
      by_one d (as_word (eqb a 0)) (Sltiu d s (pos 1)) regs h w (flag_below (eqb a 0)) (sltiu_sets access m d s (pos 1) regs a 1 (as_word (eqb a 0)) e (word_of_pos 1 (omega arith)) (is_zero a))
  unary_gives d s (suc (suc (suc o))) a regs h w e = clear_gives access m entry lo hi d regs h w

  -- a test of the difference
  equal_gives : (d s u a b : ℕ) (regs : List ℕ) → AreRegisters regs → Within lo hi d → a < 2 ^ 32 → b < 2 ^ 32 → reg regs s ≡ a → reg regs u ≡ b
      → Leaves d (as_word (eqb a b)) (two (Sub d s u) (Sltiu d d (pos 1))) regs
  equal_gives d s u a b regs h w p q e f =
      let x = sub a b in
      by_two d (as_word (eqb a b)) d x (Sub d s u) (Sltiu d d (pos 1)) regs h w (flag_below (eqb a b)) w (sub_below a b)
      (sub_sets access m d s u regs a b x e f refl)
      (sltiu_sets access m d d (pos 1) (put regs d x) x 1 (as_word (eqb a b)) (put_within lo hi d x regs h w) (word_of_pos 1 (omega arith)) (is_zero x ∙ ap as_word (same_difference a b p q)))

  unequal_gives : (d s u a b : ℕ) (regs : List ℕ) → AreRegisters regs → Within lo hi d → a < 2 ^ 32 → b < 2 ^ 32 → reg regs s ≡ a → reg regs u ≡ b
      → Leaves d (as_word (not (eqb a b))) (two (Sub d s u) (Sltu d 0 d)) regs
  unequal_gives d s u a b regs h w p q e f =
      let x = sub a b in
      by_two d (as_word (not (eqb a b))) d x (Sub d s u) (Sltu d 0 d) regs h w (flag_below (not (eqb a b))) w (sub_below a b)
      (sub_sets access m d s u regs a b x e f refl)
      (sltu_sets access m d 0 d (put regs d x) 0 x (as_word (not (eqb a b))) (reg_zero (put regs d x)) (put_within lo hi d x regs h w) (isnt_zero x ∙ ap (λ z. as_word (not z)) (same_difference a b p q)))

  -- an operator on two registers
  pub binary_gives : (d s u o a b : ℕ) (regs : List ℕ) → AreRegisters regs → Within lo hi d → a < 2 ^ 32 → b < 2 ^ 32 → reg regs s ≡ a → reg regs u ≡ b → Leaves d (binary o a b) (binary_lines o d s u) regs
  unfolding binary binary_lines
  binary_gives d s u zero a b regs h w p q e f = by_one d (add a b) (Add d s u) regs h w (add_below a b) (add_sets access m d s u regs a b (add a b) e f refl)
  binary_gives d s u (suc zero) a b regs h w p q e f = by_one d (sub a b) (Sub d s u) regs h w (sub_below a b) (sub_sets access m d s u regs a b (sub a b) e f refl)
  binary_gives d s u (suc (suc zero)) a b regs h w p q e f = by_one d (mul a b) (Mul d s u) regs h w (mul_below a b) (mul_sets access m d s u regs a b (mul a b) e f refl)
  binary_gives d s u (suc (suc (suc zero))) a b regs h w p q e f = by_one d (bit_and a b) (And d s u) regs h w (and_below a b p) (and_sets access m d s u regs a b (bit_and a b) e f refl)
  binary_gives d s u (suc (suc (suc (suc zero)))) a b regs h w p q e f = by_one d (bit_or a b) (Or d s u) regs h w (or_lt 32 a b p q) (or_sets access m d s u regs a b (bit_or a b) e f refl)
  binary_gives d s u (suc (suc (suc (suc (suc zero))))) a b regs h w p q e f = by_one d (bit_xor a b) (Xor d s u) regs h w (xor_lt 32 a b p q) (xor_sets access m d s u regs a b (bit_xor a b) e f refl)
  binary_gives d s u (suc (suc (suc (suc (suc (suc zero)))))) a b regs h w p q e f = by_one d (shl a b) (Sll d s u) regs h w (shl_below a b) (sll_sets access m d s u regs a b (shl a b) e f refl)
  binary_gives d s u (suc (suc (suc (suc (suc (suc (suc zero))))))) a b regs h w p q e f = by_one d (shr_s a b) (Sra d s u) regs h w (shr_s_below a b) (sra_sets access m d s u regs a b (shr_s a b) e f refl)
  binary_gives d s u (suc (suc (suc (suc (suc (suc (suc (suc zero)))))))) a b regs h w p q e f = by_one d (shr_u a b) (Srl d s u) regs h w (shr_u_below a b p) (srl_sets access m d s u regs a b (shr_u a b) e f refl)
  binary_gives d s u (suc (suc (suc (suc (suc (suc (suc (suc (suc zero))))))))) a b regs h w p q e f =
      by_one d (as_word (lt_s a b)) (Slt d s u) regs h w (flag_below (lt_s a b)) (slt_sets access m d s u regs a b (as_word (lt_s a b)) e f (truth_is (lt_s a b)))
  binary_gives d s u (suc (suc (suc (suc (suc (suc (suc (suc (suc (suc zero)))))))))) a b regs h w p q e f =
      by_one d (as_word (lt_u a b)) (Sltu d s u) regs h w (flag_below (lt_u a b)) (sltu_sets access m d s u regs a b (as_word (lt_u a b)) e f (truth_is (lt_u a b)))
  binary_gives d s u (suc (suc (suc (suc (suc (suc (suc (suc (suc (suc (suc zero))))))))))) a b regs h w p q e f = equal_gives d s u a b regs h w p q e f
  binary_gives d s u (suc (suc (suc (suc (suc (suc (suc (suc (suc (suc (suc (suc zero)))))))))))) a b regs h w p q e f = unequal_gives d s u a b regs h w p q e f
  binary_gives d s u (suc (suc (suc (suc (suc (suc (suc (suc (suc (suc (suc (suc (suc o))))))))))))) a b regs h w p q e f = clear_gives access m entry lo hi d regs h w

  -- an operator on a register and a number that stands in the instruction
  pub immediate_gives : (d s o a n : ℕ) (i : ℤ) (regs : List ℕ) → AreRegisters regs → Within lo hi d → a < 2 ^ 32 → n < 2 ^ 32 → immediate o n ≡ Some i → reg regs s ≡ a
      → Leaves d (binary o a n) (immediate_lines o d s i) regs
  unfolding binary immediate immediate_lines
  immediate_gives d s zero a n i regs h w p q k e = by_one d (add a n) (Addi d s i) regs h w (add_below a n) (addi_sets access m d s i regs a n (add a n) e (short_stands n i q k) refl)
  immediate_gives d s (suc zero) a n i regs h w p q k e = by_one d (sub a n) (Addi d s i) regs h w (sub_below a n) (addi_sets access m d s i regs a (sub 0 n) (sub a n) e (short_stands (sub 0 n) i (sub_below 0 n) k) (add_negative a n p q))
  immediate_gives d s (suc (suc zero)) a n i regs h w p q k e = absurd cc
  immediate_gives d s (suc (suc (suc zero))) a n i regs h w p q k e = by_one d (bit_and a n) (Andi d s i) regs h w (and_below a n p) (andi_sets access m d s i regs a n (bit_and a n) e (short_stands n i q k) refl)
  immediate_gives d s (suc (suc (suc (suc zero)))) a n i regs h w p q k e = by_one d (bit_or a n) (Ori d s i) regs h w (or_lt 32 a n p q) (ori_sets access m d s i regs a n (bit_or a n) e (short_stands n i q k) refl)
  immediate_gives d s (suc (suc (suc (suc (suc zero))))) a n i regs h w p q k e = by_one d (bit_xor a n) (Xori d s i) regs h w (xor_lt 32 a n p q) (xori_sets access m d s i regs a n (bit_xor a n) e (short_stands n i q k) refl)
  immediate_gives d s (suc (suc (suc (suc (suc (suc zero)))))) a n i regs h w p q k e = by_one d (shl a n) (Slli d s i) regs h w (shl_below a n) (slli_sets access m d s i regs a n (shl a n) e (count_stands n i k) refl)
  immediate_gives d s (suc (suc (suc (suc (suc (suc (suc zero))))))) a n i regs h w p q k e = by_one d (shr_s a n) (Srai d s i) regs h w (shr_s_below a n) (srai_sets access m d s i regs a n (shr_s a n) e (count_stands n i k) refl)
  immediate_gives d s (suc (suc (suc (suc (suc (suc (suc (suc zero)))))))) a n i regs h w p q k e = by_one d (shr_u a n) (Srli d s i) regs h w (shr_u_below a n p) (srli_sets access m d s i regs a n (shr_u a n) e (count_stands n i k) refl)
  immediate_gives d s (suc (suc (suc (suc (suc (suc (suc (suc (suc zero))))))))) a n i regs h w p q k e =
      by_one d (as_word (lt_s a n)) (Slti d s i) regs h w (flag_below (lt_s a n)) (slti_sets access m d s i regs a n (as_word (lt_s a n)) e (short_stands n i q k) (truth_is (lt_s a n)))
  immediate_gives d s (suc (suc (suc (suc (suc (suc (suc (suc (suc (suc zero)))))))))) a n i regs h w p q k e =
      by_one d (as_word (lt_u a n)) (Sltiu d s i) regs h w (flag_below (lt_u a n)) (sltiu_sets access m d s i regs a n (as_word (lt_u a n)) e (short_stands n i q k) (truth_is (lt_u a n)))
  immediate_gives d s (suc (suc (suc (suc (suc (suc (suc (suc (suc (suc (suc zero))))))))))) a n i regs h w p q k e =
      let x = sub a n in
      by_two d (as_word (eqb a n)) d x (Addi d s i) (Sltiu d d (pos 1)) regs h w (flag_below (eqb a n)) w (sub_below a n)
      (addi_sets access m d s i regs a (sub 0 n) x e (short_stands (sub 0 n) i (sub_below 0 n) k) (add_negative a n p q))
      (sltiu_sets access m d d (pos 1) (put regs d x) x 1 (as_word (eqb a n)) (put_within lo hi d x regs h w) (word_of_pos 1 (omega arith)) (is_zero x ∙ ap as_word (same_difference a n p q)))
  immediate_gives d s (suc (suc (suc (suc (suc (suc (suc (suc (suc (suc (suc (suc zero)))))))))))) a n i regs h w p q k e =
      let x = sub a n in
      by_two d (as_word (not (eqb a n))) d x (Addi d s i) (Sltu d 0 d) regs h w (flag_below (not (eqb a n))) w (sub_below a n)
      (addi_sets access m d s i regs a (sub 0 n) x e (short_stands (sub 0 n) i (sub_below 0 n) k) (add_negative a n p q))
      (sltu_sets access m d 0 d (put regs d x) 0 x (as_word (not (eqb a n))) (reg_zero (put regs d x)) (put_within lo hi d x regs h w) (isnt_zero x ∙ ap (λ z. as_word (not z)) (same_difference a n p q)))
  immediate_gives d s (suc (suc (suc (suc (suc (suc (suc (suc (suc (suc (suc (suc (suc o))))))))))))) a n i regs h w p q k e = absurd cc

  -- a shift to the left and one to the right
  shifts_give : (d s a k v : ℕ) (j : Instr) (regs : List ℕ) → AreRegisters regs → Within lo hi d → k < 32 → v < 2 ^ 32 → reg regs s ≡ a
      → ((mid : List ℕ) → reg mid d ≡ shl a k → Sets access m j mid (put mid d v)) → Leaves d v (two (Slli d s (pos k)) j) regs
  shifts_give d s a k v j regs h w small b e back =
      let x = shl a k in
      by_two d v d x (Slli d s (pos k)) j regs h w b w (shl_below a k)
      (slli_sets access m d s (pos k) regs a k x e (word_of_pos k (omega arith)) refl) (back (put regs d x) (put_within lo hi d x regs h w))

  copy_gives : (d s a : ℕ) (regs : List ℕ) → AreRegisters regs → Within lo hi d → reg regs s ≡ a → Leaves d a (one (Addi d s (pos 0))) regs
  copy_gives d s a regs h w e =
      let b = held_word s a regs h e in
      by_one d a (Addi d s (pos 0)) regs h w b (addi_sets access m d s (pos 0) regs a 0 a e (word_of_pos 0 (omega arith)) (zero_add a b))

  -- a conversion
  pub narrow_gives : (d s a : ℕ) (k : Kind) (regs : List ℕ) → AreRegisters regs → Within lo hi d → reg regs s ≡ a → Leaves d (narrow k a) (narrow_lines k d s) regs
  unfolding narrow narrow_lines
  narrow_gives d s a kind.Bool regs h w e =
      let b = subst (λ z. z < 2 ^ 32) (bool_is a) (truth_below (lt_u 0 a)) in
      by_one d (cond (eqb a 0) 0 1) (Sltu d 0 s) regs h w b (sltu_sets access m d 0 s regs 0 a (cond (eqb a 0) 0 1) (reg_zero regs) e (bool_is a))
  narrow_gives d s a kind.SChar regs h w e =
      let same = signed_byte a in
      shifts_give d s a 24 (sign_extend 8 a) (Srai d d (pos 24)) regs h w (omega arith) (subst (λ z. z < 2 ^ 32) same (shr_s_below (shl a 24) 24)) e
      (λ mid f. srai_sets access m d d (pos 24) mid (shl a 24) 24 (sign_extend 8 a) f (word_of_pos 24 (omega arith)) same)
  narrow_gives d s a kind.UChar regs h w e =
      shifts_give d s a 24 (a % 2 ^ 8) (Srli d d (pos 24)) regs h w (omega arith) (omega arith) e
      (λ mid f. srli_sets access m d d (pos 24) mid (shl a 24) 24 (a % 2 ^ 8) f (word_of_pos 24 (omega arith)) (byte_is a))
  narrow_gives d s a kind.Short regs h w e =
      let same = signed_half a in
      shifts_give d s a 16 (sign_extend 16 a) (Srai d d (pos 16)) regs h w (omega arith) (subst (λ z. z < 2 ^ 32) same (shr_s_below (shl a 16) 16)) e
      (λ mid f. srai_sets access m d d (pos 16) mid (shl a 16) 16 (sign_extend 16 a) f (word_of_pos 16 (omega arith)) same)
  narrow_gives d s a kind.UShort regs h w e =
      shifts_give d s a 16 (a % 2 ^ 16) (Srli d d (pos 16)) regs h w (omega arith) (omega arith) e
      (λ mid f. srli_sets access m d d (pos 16) mid (shl a 16) 16 (a % 2 ^ 16) f (word_of_pos 16 (omega arith)) (half_is a))
  narrow_gives d s a kind.Int regs h w e = copy_gives d s a regs h w e
  narrow_gives d s a kind.UInt regs h w e = copy_gives d s a regs h w e
