-- What the code of trees is, at each variant and each operator.
use Rattle.std.proofs.Common.{ℤ, ◌≡◌, ◌≢◌, ℕ, zero, suc, ◌+◌, max, cond, eqb, List, [], ◌∷◌, ◌++◌, Some, None, pos, refl, sym, ap, ◌∙◌, append_assoc}
use Rattle.mv_num.specs.Words.{sub}
use Rattle.mv_num.specs.declared.kind.Kind.{Kind}
use Rattle.mv_isa.specs.declared.instr.Instr.TheVariants.{Addi, Slti, Sltiu, Xori, Ori, Andi, Slli, Srli, Srai, Add, Sub, Sll, Slt, Sltu, Xor, Srl, Sra, Or, And, Mul}
use Rattle.mv_isa.specs.declared.labelled.Line.{Line}
use Rattle.mv_isa.specs.declared.labelled.Line.TheVariants.{Entry}
use Rattle.mv_ir.specs.declared.tree.Tree.{Tree}
use Rattle.mv_ir.specs.declared.tree.Tree as tr
use Rattle.mv_ir.specs.declared.tree.Tree.TheOpen as tree
use Rattle.mv_ir.specs.declared.tree.Tree.TheVariants.{rolls-Number, rolls-Temp, rolls-Global, rolls-Function, rolls-Unary, rolls-Binary, rolls-Narrow}
use Rattle.mv_select_code.specs.Trees.TreeCode.{Seats, one, two, minus_one, number_by, load_lines, read_temp, unary_lines, binary_lines, short_immediate, count_immediate, immediate, immediate_lines, operator_lines, literal, keeps_words, narrow_lines, own_register, tree_into, operand_lines, operand_register, immediate_of, temps_of, clear}
use Rattle.mv_select_code.proofs.OfTrees.Rolls.{into_roll, own_roll, literal_roll, temps_roll}
use Rattle.mv_ir.proofs.Common.{depth_number, depth_temp, depth_global, depth_function, depth_unary, depth_binary, depth_narrow}

pub into_number : (seats : Seats) (n d r : ℕ) → tree_into seats (tr.Number n) d r ≡ number_by (seats.pinned n) n d
into_number seats n d r = ap (λ x. tree_into seats x d r) (sym (rolls-Number n)) ∙ into_roll seats (tree.Number n) d r

pub own_number : (seats : Seats) (n : ℕ) → own_register seats (tr.Number n) ≡ cond (eqb n 0) (Some 0) (seats.pinned n)
own_number seats n = ap (own_register seats) (sym (rolls-Number n)) ∙ own_roll seats (tree.Number n)

pub literal_number : (n : ℕ) → literal (tr.Number n) ≡ Some n
literal_number n = ap literal (sym (rolls-Number n)) ∙ literal_roll (tree.Number n)

pub temps_number : (n : ℕ) → temps_of (tr.Number n) ≡ 0
temps_number n = ap temps_of (sym (rolls-Number n)) ∙ temps_roll (tree.Number n)

pub into_temp : (seats : Seats) (t d r : ℕ) → tree_into seats (tr.Temp t) d r ≡ one (read_temp seats t d)
into_temp seats t d r = ap (λ x. tree_into seats x d r) (sym (rolls-Temp t)) ∙ into_roll seats (tree.Temp t) d r

pub own_temp : (seats : Seats) (t : ℕ) → own_register seats (tr.Temp t) ≡ seats.register t
own_temp seats t = ap (own_register seats) (sym (rolls-Temp t)) ∙ own_roll seats (tree.Temp t)

pub literal_temp : (t : ℕ) → literal (tr.Temp t) ≡ None
literal_temp t = ap literal (sym (rolls-Temp t)) ∙ literal_roll (tree.Temp t)

pub temps_temp : (t : ℕ) → temps_of (tr.Temp t) ≡ t + 1
temps_temp t = ap temps_of (sym (rolls-Temp t)) ∙ temps_roll (tree.Temp t)

pub into_global : (seats : Seats) (g d r : ℕ) → tree_into seats (tr.Global g) d r ≡ load_lines (seats.place g) d
into_global seats g d r = ap (λ x. tree_into seats x d r) (sym (rolls-Global g)) ∙ into_roll seats (tree.Global g) d r

pub own_global : (seats : Seats) (g : ℕ) → own_register seats (tr.Global g) ≡ None
own_global seats g = ap (own_register seats) (sym (rolls-Global g)) ∙ own_roll seats (tree.Global g)

pub literal_global : (g : ℕ) → literal (tr.Global g) ≡ None
literal_global g = ap literal (sym (rolls-Global g)) ∙ literal_roll (tree.Global g)

pub temps_global : (g : ℕ) → temps_of (tr.Global g) ≡ 0
temps_global g = ap temps_of (sym (rolls-Global g)) ∙ temps_roll (tree.Global g)

pub into_function : (seats : Seats) (f d r : ℕ) → tree_into seats (tr.Function f) d r ≡ Entry d f ∷ []
into_function seats f d r = ap (λ x. tree_into seats x d r) (sym (rolls-Function f)) ∙ into_roll seats (tree.Function f) d r

pub own_function : (seats : Seats) (f : ℕ) → own_register seats (tr.Function f) ≡ None
own_function seats f = ap (own_register seats) (sym (rolls-Function f)) ∙ own_roll seats (tree.Function f)

pub literal_function : (f : ℕ) → literal (tr.Function f) ≡ None
literal_function f = ap literal (sym (rolls-Function f)) ∙ literal_roll (tree.Function f)

pub temps_function : (f : ℕ) → temps_of (tr.Function f) ≡ 0
temps_function f = ap temps_of (sym (rolls-Function f)) ∙ temps_roll (tree.Function f)

pub into_unary : (seats : Seats) (o : ℕ) (a : Tree) (d r : ℕ) → tree_into seats (tr.Unary o a) d r ≡ operand_lines seats a r ++ unary_lines o d (operand_register seats a r)
into_unary seats o a d r = ap (λ x. tree_into seats x d r) (sym (rolls-Unary o a)) ∙ into_roll seats (tree.Unary o a) d r

pub own_unary : (seats : Seats) (o : ℕ) (a : Tree) → own_register seats (tr.Unary o a) ≡ None
own_unary seats o a = ap (own_register seats) (sym (rolls-Unary o a)) ∙ own_roll seats (tree.Unary o a)

pub literal_unary : (o : ℕ) (a : Tree) → literal (tr.Unary o a) ≡ None
literal_unary o a = ap literal (sym (rolls-Unary o a)) ∙ literal_roll (tree.Unary o a)

pub temps_unary : (o : ℕ) (a : Tree) → temps_of (tr.Unary o a) ≡ temps_of a
temps_unary o a = ap temps_of (sym (rolls-Unary o a)) ∙ temps_roll (tree.Unary o a)

pub into_binary : (seats : Seats) (o : ℕ) (a b : Tree) (d r : ℕ)
    → tree_into seats (tr.Binary o a b) d r ≡ operand_lines seats a r ++ operator_lines (immediate_of o b) o d (operand_register seats a r) (operand_lines seats b (r + 1)) (operand_register seats b (r + 1))
into_binary seats o a b d r = ap (λ x. tree_into seats x d r) (sym (rolls-Binary o a b)) ∙ into_roll seats (tree.Binary o a b) d r

pub own_binary : (seats : Seats) (o : ℕ) (a b : Tree) → own_register seats (tr.Binary o a b) ≡ None
own_binary seats o a b = ap (own_register seats) (sym (rolls-Binary o a b)) ∙ own_roll seats (tree.Binary o a b)

pub literal_binary : (o : ℕ) (a b : Tree) → literal (tr.Binary o a b) ≡ None
literal_binary o a b = ap literal (sym (rolls-Binary o a b)) ∙ literal_roll (tree.Binary o a b)

pub temps_binary : (o : ℕ) (a b : Tree) → temps_of (tr.Binary o a b) ≡ max (temps_of a) (temps_of b)
temps_binary o a b = ap temps_of (sym (rolls-Binary o a b)) ∙ temps_roll (tree.Binary o a b)

pub into_narrow : (seats : Seats) (k : Kind) (a : Tree) (d r : ℕ)
    → tree_into seats (tr.Narrow k a) d r ≡ cond (keeps_words k) (tree_into seats a d r) (operand_lines seats a r ++ narrow_lines k d (operand_register seats a r))
into_narrow seats k a d r = ap (λ x. tree_into seats x d r) (sym (rolls-Narrow k a)) ∙ into_roll seats (tree.Narrow k a) d r

pub own_narrow : (seats : Seats) (k : Kind) (a : Tree) → own_register seats (tr.Narrow k a) ≡ cond (keeps_words k) (own_register seats a) None
own_narrow seats k a = ap (own_register seats) (sym (rolls-Narrow k a)) ∙ own_roll seats (tree.Narrow k a)

pub literal_narrow : (k : Kind) (a : Tree) → literal (tr.Narrow k a) ≡ None
literal_narrow k a = ap literal (sym (rolls-Narrow k a)) ∙ literal_roll (tree.Narrow k a)

pub temps_narrow : (k : Kind) (a : Tree) → temps_of (tr.Narrow k a) ≡ temps_of a
temps_narrow k a = ap temps_of (sym (rolls-Narrow k a)) ∙ temps_roll (tree.Narrow k a)

pub ruleset trees = (
  into_number,
  own_number,
  literal_number,
  depth_number,
  temps_number,
  into_temp,
  own_temp,
  literal_temp,
  depth_temp,
  temps_temp,
  into_global,
  own_global,
  literal_global,
  depth_global,
  temps_global,
  into_function,
  own_function,
  literal_function,
  depth_function,
  temps_function,
  into_unary,
  own_unary,
  literal_unary,
  depth_unary,
  temps_unary,
  into_binary,
  own_binary,
  literal_binary,
  depth_binary,
  temps_binary,
  into_narrow,
  own_narrow,
  literal_narrow,
  depth_narrow,
  temps_narrow,
)

pub unary_0 : (d s : ℕ) → unary_lines 0 d s ≡ one (Sub d 0 s)
unfolding unary_lines
unary_0 d s = refl

pub unary_1 : (d s : ℕ) → unary_lines 1 d s ≡ one (Xori d s minus_one)
unfolding unary_lines
unary_1 d s = refl

pub unary_2 : (d s : ℕ) → unary_lines 2 d s ≡ one (Sltiu d s (pos 1))
unfolding unary_lines
unary_2 d s = refl

pub unary_other : (o d s : ℕ) → o ≢ 0 → o ≢ 1 → o ≢ 2 → unary_lines o d s ≡ clear d
unfolding unary_lines
unary_other zero d s p q x = absurd (p refl)
unary_other (suc zero) d s p q x = absurd (q refl)
unary_other (suc (suc zero)) d s p q x = absurd (x refl)
unary_other (suc (suc (suc o))) d s p q x = refl

pub ruleset unary_operators = (unary_0, unary_1, unary_2, unary_other)

pub binary_0 : (d a b : ℕ) → binary_lines 0 d a b ≡ one (Add d a b)
unfolding binary_lines
binary_0 d a b = refl

pub binary_1 : (d a b : ℕ) → binary_lines 1 d a b ≡ one (Sub d a b)
unfolding binary_lines
binary_1 d a b = refl

pub binary_2 : (d a b : ℕ) → binary_lines 2 d a b ≡ one (Mul d a b)
unfolding binary_lines
binary_2 d a b = refl

pub binary_3 : (d a b : ℕ) → binary_lines 3 d a b ≡ one (And d a b)
unfolding binary_lines
binary_3 d a b = refl

pub binary_4 : (d a b : ℕ) → binary_lines 4 d a b ≡ one (Or d a b)
unfolding binary_lines
binary_4 d a b = refl

pub binary_5 : (d a b : ℕ) → binary_lines 5 d a b ≡ one (Xor d a b)
unfolding binary_lines
binary_5 d a b = refl

pub binary_6 : (d a b : ℕ) → binary_lines 6 d a b ≡ one (Sll d a b)
unfolding binary_lines
binary_6 d a b = refl

pub binary_7 : (d a b : ℕ) → binary_lines 7 d a b ≡ one (Sra d a b)
unfolding binary_lines
binary_7 d a b = refl

pub binary_8 : (d a b : ℕ) → binary_lines 8 d a b ≡ one (Srl d a b)
unfolding binary_lines
binary_8 d a b = refl

pub binary_9 : (d a b : ℕ) → binary_lines 9 d a b ≡ one (Slt d a b)
unfolding binary_lines
binary_9 d a b = refl

pub binary_10 : (d a b : ℕ) → binary_lines 10 d a b ≡ one (Sltu d a b)
unfolding binary_lines
binary_10 d a b = refl

pub binary_11 : (d a b : ℕ) → binary_lines 11 d a b ≡ two (Sub d a b) (Sltiu d d (pos 1))
unfolding binary_lines
binary_11 d a b = refl

pub binary_12 : (d a b : ℕ) → binary_lines 12 d a b ≡ two (Sub d a b) (Sltu d 0 d)
unfolding binary_lines
binary_12 d a b = refl

pub binary_other : (o d a b : ℕ) → o ≢ 0 → o ≢ 1 → o ≢ 2 → o ≢ 3 → o ≢ 4 → o ≢ 5 → o ≢ 6 → o ≢ 7 → o ≢ 8 → o ≢ 9 → o ≢ 10 → o ≢ 11 → o ≢ 12 → binary_lines o d a b ≡ clear d
unfolding binary_lines
binary_other zero d a b p0 p1 p2 p3 p4 p5 p6 p7 p8 p9 p10 p11 p12 = absurd (p0 refl)
binary_other (suc zero) d a b p0 p1 p2 p3 p4 p5 p6 p7 p8 p9 p10 p11 p12 = absurd (p1 refl)
binary_other (suc (suc zero)) d a b p0 p1 p2 p3 p4 p5 p6 p7 p8 p9 p10 p11 p12 = absurd (p2 refl)
binary_other (suc (suc (suc zero))) d a b p0 p1 p2 p3 p4 p5 p6 p7 p8 p9 p10 p11 p12 = absurd (p3 refl)
binary_other (suc (suc (suc (suc zero)))) d a b p0 p1 p2 p3 p4 p5 p6 p7 p8 p9 p10 p11 p12 = absurd (p4 refl)
binary_other (suc (suc (suc (suc (suc zero))))) d a b p0 p1 p2 p3 p4 p5 p6 p7 p8 p9 p10 p11 p12 = absurd (p5 refl)
binary_other (suc (suc (suc (suc (suc (suc zero)))))) d a b p0 p1 p2 p3 p4 p5 p6 p7 p8 p9 p10 p11 p12 = absurd (p6 refl)
binary_other (suc (suc (suc (suc (suc (suc (suc zero))))))) d a b p0 p1 p2 p3 p4 p5 p6 p7 p8 p9 p10 p11 p12 = absurd (p7 refl)
binary_other (suc (suc (suc (suc (suc (suc (suc (suc zero)))))))) d a b p0 p1 p2 p3 p4 p5 p6 p7 p8 p9 p10 p11 p12 = absurd (p8 refl)
binary_other (suc (suc (suc (suc (suc (suc (suc (suc (suc zero))))))))) d a b p0 p1 p2 p3 p4 p5 p6 p7 p8 p9 p10 p11 p12 = absurd (p9 refl)
binary_other (suc (suc (suc (suc (suc (suc (suc (suc (suc (suc zero)))))))))) d a b p0 p1 p2 p3 p4 p5 p6 p7 p8 p9 p10 p11 p12 = absurd (p10 refl)
binary_other (suc (suc (suc (suc (suc (suc (suc (suc (suc (suc (suc zero))))))))))) d a b p0 p1 p2 p3 p4 p5 p6 p7 p8 p9 p10 p11 p12 = absurd (p11 refl)
binary_other (suc (suc (suc (suc (suc (suc (suc (suc (suc (suc (suc (suc zero)))))))))))) d a b p0 p1 p2 p3 p4 p5 p6 p7 p8 p9 p10 p11 p12 = absurd (p12 refl)
binary_other (suc (suc (suc (suc (suc (suc (suc (suc (suc (suc (suc (suc (suc o))))))))))))) d a b p0 p1 p2 p3 p4 p5 p6 p7 p8 p9 p10 p11 p12 = refl

pub ruleset binary_operators = (binary_0, binary_1, binary_2, binary_3, binary_4, binary_5, binary_6, binary_7, binary_8, binary_9, binary_10, binary_11, binary_12, binary_other)

-- ---- immediates

pub immediate_0 : (n : ℕ) → immediate 0 n ≡ short_immediate n
unfolding immediate
immediate_0 n = refl

pub immediate_1 : (n : ℕ) → immediate 1 n ≡ short_immediate (sub 0 n)
unfolding immediate
immediate_1 n = refl

pub immediate_2 : (n : ℕ) → immediate 2 n ≡ None
unfolding immediate
immediate_2 n = refl

pub immediate_3 : (n : ℕ) → immediate 3 n ≡ short_immediate n
unfolding immediate
immediate_3 n = refl

pub immediate_4 : (n : ℕ) → immediate 4 n ≡ short_immediate n
unfolding immediate
immediate_4 n = refl

pub immediate_5 : (n : ℕ) → immediate 5 n ≡ short_immediate n
unfolding immediate
immediate_5 n = refl

pub immediate_6 : (n : ℕ) → immediate 6 n ≡ count_immediate n
unfolding immediate
immediate_6 n = refl

pub immediate_7 : (n : ℕ) → immediate 7 n ≡ count_immediate n
unfolding immediate
immediate_7 n = refl

pub immediate_8 : (n : ℕ) → immediate 8 n ≡ count_immediate n
unfolding immediate
immediate_8 n = refl

pub immediate_9 : (n : ℕ) → immediate 9 n ≡ short_immediate n
unfolding immediate
immediate_9 n = refl

pub immediate_10 : (n : ℕ) → immediate 10 n ≡ short_immediate n
unfolding immediate
immediate_10 n = refl

pub immediate_11 : (n : ℕ) → immediate 11 n ≡ short_immediate (sub 0 n)
unfolding immediate
immediate_11 n = refl

pub immediate_12 : (n : ℕ) → immediate 12 n ≡ short_immediate (sub 0 n)
unfolding immediate
immediate_12 n = refl

pub immediate_other : (o n : ℕ) → o ≢ 0 → o ≢ 1 → o ≢ 2 → o ≢ 3 → o ≢ 4 → o ≢ 5 → o ≢ 6 → o ≢ 7 → o ≢ 8 → o ≢ 9 → o ≢ 10 → o ≢ 11 → o ≢ 12 → immediate o n ≡ None
unfolding immediate
immediate_other zero n p0 p1 p2 p3 p4 p5 p6 p7 p8 p9 p10 p11 p12 = absurd (p0 refl)
immediate_other (suc zero) n p0 p1 p2 p3 p4 p5 p6 p7 p8 p9 p10 p11 p12 = absurd (p1 refl)
immediate_other (suc (suc zero)) n p0 p1 p2 p3 p4 p5 p6 p7 p8 p9 p10 p11 p12 = absurd (p2 refl)
immediate_other (suc (suc (suc zero))) n p0 p1 p2 p3 p4 p5 p6 p7 p8 p9 p10 p11 p12 = absurd (p3 refl)
immediate_other (suc (suc (suc (suc zero)))) n p0 p1 p2 p3 p4 p5 p6 p7 p8 p9 p10 p11 p12 = absurd (p4 refl)
immediate_other (suc (suc (suc (suc (suc zero))))) n p0 p1 p2 p3 p4 p5 p6 p7 p8 p9 p10 p11 p12 = absurd (p5 refl)
immediate_other (suc (suc (suc (suc (suc (suc zero)))))) n p0 p1 p2 p3 p4 p5 p6 p7 p8 p9 p10 p11 p12 = absurd (p6 refl)
immediate_other (suc (suc (suc (suc (suc (suc (suc zero))))))) n p0 p1 p2 p3 p4 p5 p6 p7 p8 p9 p10 p11 p12 = absurd (p7 refl)
immediate_other (suc (suc (suc (suc (suc (suc (suc (suc zero)))))))) n p0 p1 p2 p3 p4 p5 p6 p7 p8 p9 p10 p11 p12 = absurd (p8 refl)
immediate_other (suc (suc (suc (suc (suc (suc (suc (suc (suc zero))))))))) n p0 p1 p2 p3 p4 p5 p6 p7 p8 p9 p10 p11 p12 = absurd (p9 refl)
immediate_other (suc (suc (suc (suc (suc (suc (suc (suc (suc (suc zero)))))))))) n p0 p1 p2 p3 p4 p5 p6 p7 p8 p9 p10 p11 p12 = absurd (p10 refl)
immediate_other (suc (suc (suc (suc (suc (suc (suc (suc (suc (suc (suc zero))))))))))) n p0 p1 p2 p3 p4 p5 p6 p7 p8 p9 p10 p11 p12 = absurd (p11 refl)
immediate_other (suc (suc (suc (suc (suc (suc (suc (suc (suc (suc (suc (suc zero)))))))))))) n p0 p1 p2 p3 p4 p5 p6 p7 p8 p9 p10 p11 p12 = absurd (p12 refl)
immediate_other (suc (suc (suc (suc (suc (suc (suc (suc (suc (suc (suc (suc (suc o))))))))))))) n p0 p1 p2 p3 p4 p5 p6 p7 p8 p9 p10 p11 p12 = refl

pub ruleset immediates = (immediate_0, immediate_1, immediate_2, immediate_3, immediate_4, immediate_5, immediate_6, immediate_7, immediate_8, immediate_9, immediate_10, immediate_11, immediate_12, immediate_other)

pub with_immediate_0 : (d s : ℕ) (i : ℤ) → immediate_lines 0 d s i ≡ one (Addi d s i)
unfolding immediate_lines
with_immediate_0 d s i = refl

pub with_immediate_1 : (d s : ℕ) (i : ℤ) → immediate_lines 1 d s i ≡ one (Addi d s i)
unfolding immediate_lines
with_immediate_1 d s i = refl

pub with_immediate_2 : (d s : ℕ) (i : ℤ) → immediate_lines 2 d s i ≡ clear d
unfolding immediate_lines
with_immediate_2 d s i = refl

pub with_immediate_3 : (d s : ℕ) (i : ℤ) → immediate_lines 3 d s i ≡ one (Andi d s i)
unfolding immediate_lines
with_immediate_3 d s i = refl

pub with_immediate_4 : (d s : ℕ) (i : ℤ) → immediate_lines 4 d s i ≡ one (Ori d s i)
unfolding immediate_lines
with_immediate_4 d s i = refl

pub with_immediate_5 : (d s : ℕ) (i : ℤ) → immediate_lines 5 d s i ≡ one (Xori d s i)
unfolding immediate_lines
with_immediate_5 d s i = refl

pub with_immediate_6 : (d s : ℕ) (i : ℤ) → immediate_lines 6 d s i ≡ one (Slli d s i)
unfolding immediate_lines
with_immediate_6 d s i = refl

pub with_immediate_7 : (d s : ℕ) (i : ℤ) → immediate_lines 7 d s i ≡ one (Srai d s i)
unfolding immediate_lines
with_immediate_7 d s i = refl

pub with_immediate_8 : (d s : ℕ) (i : ℤ) → immediate_lines 8 d s i ≡ one (Srli d s i)
unfolding immediate_lines
with_immediate_8 d s i = refl

pub with_immediate_9 : (d s : ℕ) (i : ℤ) → immediate_lines 9 d s i ≡ one (Slti d s i)
unfolding immediate_lines
with_immediate_9 d s i = refl

pub with_immediate_10 : (d s : ℕ) (i : ℤ) → immediate_lines 10 d s i ≡ one (Sltiu d s i)
unfolding immediate_lines
with_immediate_10 d s i = refl

pub with_immediate_11 : (d s : ℕ) (i : ℤ) → immediate_lines 11 d s i ≡ two (Addi d s i) (Sltiu d d (pos 1))
unfolding immediate_lines
with_immediate_11 d s i = refl

pub with_immediate_12 : (d s : ℕ) (i : ℤ) → immediate_lines 12 d s i ≡ two (Addi d s i) (Sltu d 0 d)
unfolding immediate_lines
with_immediate_12 d s i = refl

pub with_immediate_other : (o d s : ℕ) (i : ℤ) → o ≢ 0 → o ≢ 1 → o ≢ 2 → o ≢ 3 → o ≢ 4 → o ≢ 5 → o ≢ 6 → o ≢ 7 → o ≢ 8 → o ≢ 9 → o ≢ 10 → o ≢ 11 → o ≢ 12 → immediate_lines o d s i ≡ clear d
unfolding immediate_lines
with_immediate_other zero d s i p0 p1 p2 p3 p4 p5 p6 p7 p8 p9 p10 p11 p12 = absurd (p0 refl)
with_immediate_other (suc zero) d s i p0 p1 p2 p3 p4 p5 p6 p7 p8 p9 p10 p11 p12 = absurd (p1 refl)
with_immediate_other (suc (suc zero)) d s i p0 p1 p2 p3 p4 p5 p6 p7 p8 p9 p10 p11 p12 = absurd (p2 refl)
with_immediate_other (suc (suc (suc zero))) d s i p0 p1 p2 p3 p4 p5 p6 p7 p8 p9 p10 p11 p12 = absurd (p3 refl)
with_immediate_other (suc (suc (suc (suc zero)))) d s i p0 p1 p2 p3 p4 p5 p6 p7 p8 p9 p10 p11 p12 = absurd (p4 refl)
with_immediate_other (suc (suc (suc (suc (suc zero))))) d s i p0 p1 p2 p3 p4 p5 p6 p7 p8 p9 p10 p11 p12 = absurd (p5 refl)
with_immediate_other (suc (suc (suc (suc (suc (suc zero)))))) d s i p0 p1 p2 p3 p4 p5 p6 p7 p8 p9 p10 p11 p12 = absurd (p6 refl)
with_immediate_other (suc (suc (suc (suc (suc (suc (suc zero))))))) d s i p0 p1 p2 p3 p4 p5 p6 p7 p8 p9 p10 p11 p12 = absurd (p7 refl)
with_immediate_other (suc (suc (suc (suc (suc (suc (suc (suc zero)))))))) d s i p0 p1 p2 p3 p4 p5 p6 p7 p8 p9 p10 p11 p12 = absurd (p8 refl)
with_immediate_other (suc (suc (suc (suc (suc (suc (suc (suc (suc zero))))))))) d s i p0 p1 p2 p3 p4 p5 p6 p7 p8 p9 p10 p11 p12 = absurd (p9 refl)
with_immediate_other (suc (suc (suc (suc (suc (suc (suc (suc (suc (suc zero)))))))))) d s i p0 p1 p2 p3 p4 p5 p6 p7 p8 p9 p10 p11 p12 = absurd (p10 refl)
with_immediate_other (suc (suc (suc (suc (suc (suc (suc (suc (suc (suc (suc zero))))))))))) d s i p0 p1 p2 p3 p4 p5 p6 p7 p8 p9 p10 p11 p12 = absurd (p11 refl)
with_immediate_other (suc (suc (suc (suc (suc (suc (suc (suc (suc (suc (suc (suc zero)))))))))))) d s i p0 p1 p2 p3 p4 p5 p6 p7 p8 p9 p10 p11 p12 = absurd (p12 refl)
with_immediate_other (suc (suc (suc (suc (suc (suc (suc (suc (suc (suc (suc (suc (suc o))))))))))))) d s i p0 p1 p2 p3 p4 p5 p6 p7 p8 p9 p10 p11 p12 = refl

pub ruleset immediate_operators = (
  with_immediate_0,
  with_immediate_1,
  with_immediate_2,
  with_immediate_3,
  with_immediate_4,
  with_immediate_5,
  with_immediate_6,
  with_immediate_7,
  with_immediate_8,
  with_immediate_9,
  with_immediate_10,
  with_immediate_11,
  with_immediate_12,
  with_immediate_other,
)

-- ---- lines put one behind the other

pub joined_two : (code y u la ls : List Line) → y ≡ code ++ la → ls ≡ la ++ u → y ++ u ≡ code ++ ls
joined_two code y u la ls e f = ap (λ l. l ++ u) e ∙ append_assoc code la u ∙ ap (λ l. code ++ l) (sym f)

pub joined_three : (code y z u la lb ls : List Line) → y ≡ code ++ la → z ≡ y ++ lb → ls ≡ la ++ (lb ++ u) → z ++ u ≡ code ++ ls
joined_three code y z u la lb ls e f g = ap (λ l. l ++ u) f ∙ append_assoc y lb u ∙ joined_two code y (lb ++ u) la ls e g
