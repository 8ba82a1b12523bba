-- The code of branches by a tree, at each variant.
use Rattle.std.proofs.Common.{◌≡◌, ◌≢◌, ℕ, zero, suc, ◌+◌, Bool, true, false, not, cond, eqb, List, [], ◌∷◌, ◌++◌, Option, Some, None, refl, sym, ap, ◌∙◌}
use Rattle.mv_num.specs.declared.kind.Kind.{Kind}
use Rattle.mv_isa.specs.declared.labelled.Line.{Line}
use Rattle.mv_isa.specs.declared.labelled.Line.TheVariants.{Jump, Branch}
use Rattle.mv_ir.specs.declared.tree.Tree.{Tree}
use Rattle.mv_ir.specs.declared.tree.Tree as tr
use Rattle.mv_ir.specs.declared.tree.Tree.TheOpen as tree
use Rattle.mv_ir.specs.declared.tree.Tree.TheVariants.{rolls-Number, rolls-Temp, rolls-Global, rolls-Function, rolls-Unary, rolls-Binary, rolls-Narrow}
use Rattle.mv_select_code.specs.Trees.TreeCode.{Seats, is_taken, number_branch, comparison, operand_lines, operand_register, branch_lines}
use Rattle.mv_select_code.proofs.OfTrees.Equations.{temps_unary, temps_binary}
use Rattle.mv_ir.proofs.Common.{depth_unary, depth_binary}
use Rattle.mv_select_code.proofs.OfTrees.Rolls.{word_lines, compared_or, branch_roll}

module _ (seats : Seats) (sense : Bool) (r label : ℕ) where
  abbrev B : Tree → List Line
  B t = branch_lines seats t sense r label

  abbrev W : Tree → List Line
  W t = word_lines seats t sense r label

  pub branch_number : (n : ℕ) → B (tr.Number n) ≡ number_branch sense n label
  branch_number n = ap B (sym (rolls-Number n)) ∙ branch_roll seats (tree.Number n) sense r label

  pub branch_temp : (t : ℕ) → B (tr.Temp t) ≡ W (tr.Temp t)
  branch_temp t = ap B (sym (rolls-Temp t)) ∙ branch_roll seats (tree.Temp t) sense r label ∙ ap W (rolls-Temp t)

  pub branch_global : (g : ℕ) → B (tr.Global g) ≡ W (tr.Global g)
  branch_global g = ap B (sym (rolls-Global g)) ∙ branch_roll seats (tree.Global g) sense r label ∙ ap W (rolls-Global g)

  pub branch_function : (f : ℕ) → B (tr.Function f) ≡ W (tr.Function f)
  branch_function f = ap B (sym (rolls-Function f)) ∙ branch_roll seats (tree.Function f) sense r label ∙ ap W (rolls-Function f)

  pub branch_narrow : (k : Kind) (a : Tree) → B (tr.Narrow k a) ≡ W (tr.Narrow k a)
  branch_narrow k a = ap B (sym (rolls-Narrow k a)) ∙ branch_roll seats (tree.Narrow k a) sense r label ∙ ap W (rolls-Narrow k a)

  pub branch_unary : (o : ℕ) (a : Tree) → B (tr.Unary o a) ≡ cond (eqb o 2) (branch_lines seats a (not sense) r label) (W (tr.Unary o a))
  branch_unary o a =
      ap B (sym (rolls-Unary o a)) ∙ branch_roll seats (tree.Unary o a) sense r label
      ∙ ap (λ t. cond (eqb o 2) (branch_lines seats a (not sense) r label) (W t)) (rolls-Unary o a)

  pub branch_binary : (o : ℕ) (a b : Tree) → B (tr.Binary o a b) ≡ compared_or seats (comparison sense o) a b r label (W (tr.Binary o a b))
  branch_binary o a b =
      ap B (sym (rolls-Binary o a b)) ∙ branch_roll seats (tree.Binary o a b) sense r label
      ∙ ap (λ t. compared_or seats (comparison sense o) a b r label (W t)) (rolls-Binary o a b)

  -- ---- as the code goes

  pub passed_number : (n : ℕ) (t : Tree) → t ≡ tr.Number n → is_taken sense n ≡ false → B t ≡ []
  passed_number n t is h = ap B is ∙ branch_number n ∙ ap (λ b. cond b (Jump 0 label ∷ []) []) h

  pub compared : (o f : ℕ) (a b t : Tree) → t ≡ tr.Binary o a b → comparison sense o ≡ Some f
      → B t ≡ operand_lines seats a r ++ (operand_lines seats b (r + 1) ++ (Branch f (operand_register seats a r) (operand_register seats b (r + 1)) label ∷ []))
  compared o f a b t is h = ap B is ∙ branch_binary o a b ∙ ap (λ c. compared_or seats c a b r label (W (tr.Binary o a b))) h

-- ---- comparisons

-- what holds of the branch of each comparison, and where there is none, holds of the branch of every operator
module _ (P : ℕ → Option ℕ → Type 0) (none : (o : ℕ) → P o None) where
  cases_true : P 9 (Some 4) → P 10 (Some 6) → P 11 (Some 0) → P 12 (Some 1) → (o : ℕ) → P o (comparison true o)
  unfolding comparison
  cases_true p q r s zero = none zero
  cases_true p q r s (suc zero) = none (suc zero)
  cases_true p q r s (suc (suc zero)) = none (suc (suc zero))
  cases_true p q r s (suc (suc (suc zero))) = none (suc (suc (suc zero)))
  cases_true p q r s (suc (suc (suc (suc zero)))) = none (suc (suc (suc (suc zero))))
  cases_true p q r s (suc (suc (suc (suc (suc zero))))) = none (suc (suc (suc (suc (suc zero)))))
  cases_true p q r s (suc (suc (suc (suc (suc (suc zero)))))) = none (suc (suc (suc (suc (suc (suc zero))))))
  cases_true p q r s (suc (suc (suc (suc (suc (suc (suc zero))))))) = none (suc (suc (suc (suc (suc (suc (suc zero)))))))
  cases_true p q r s (suc (suc (suc (suc (suc (suc (suc (suc zero)))))))) = none (suc (suc (suc (suc (suc (suc (suc (suc zero))))))))
  cases_true p q r s (suc (suc (suc (suc (suc (suc (suc (suc (suc zero))))))))) = p
  cases_true p q r s (suc (suc (suc (suc (suc (suc (suc (suc (suc (suc zero)))))))))) = q
  cases_true p q r s (suc (suc (suc (suc (suc (suc (suc (suc (suc (suc (suc zero))))))))))) = r
  cases_true p q r s (suc (suc (suc (suc (suc (suc (suc (suc (suc (suc (suc (suc zero)))))))))))) = s
  cases_true p q r s (suc (suc (suc (suc (suc (suc (suc (suc (suc (suc (suc (suc (suc o))))))))))))) = none (suc (suc (suc (suc (suc (suc (suc (suc (suc (suc (suc (suc (suc o)))))))))))))

  cases_false : P 9 (Some 5) → P 10 (Some 7) → P 11 (Some 1) → P 12 (Some 0) → (o : ℕ) → P o (comparison false o)
  unfolding comparison
  cases_false p q r s zero = none zero
  cases_false p q r s (suc zero) = none (suc zero)
  cases_false p q r s (suc (suc zero)) = none (suc (suc zero))
  cases_false p q r s (suc (suc (suc zero))) = none (suc (suc (suc zero)))
  cases_false p q r s (suc (suc (suc (suc zero)))) = none (suc (suc (suc (suc zero))))
  cases_false p q r s (suc (suc (suc (suc (suc zero))))) = none (suc (suc (suc (suc (suc zero)))))
  cases_false p q r s (suc (suc (suc (suc (suc (suc zero)))))) = none (suc (suc (suc (suc (suc (suc zero))))))
  cases_false p q r s (suc (suc (suc (suc (suc (suc (suc zero))))))) = none (suc (suc (suc (suc (suc (suc (suc zero)))))))
  cases_false p q r s (suc (suc (suc (suc (suc (suc (suc (suc zero)))))))) = none (suc (suc (suc (suc (suc (suc (suc (suc zero))))))))
  cases_false p q r s (suc (suc (suc (suc (suc (suc (suc (suc (suc zero))))))))) = p
  cases_false p q r s (suc (suc (suc (suc (suc (suc (suc (suc (suc (suc zero)))))))))) = q
  cases_false p q r s (suc (suc (suc (suc (suc (suc (suc (suc (suc (suc (suc zero))))))))))) = r
  cases_false p q r s (suc (suc (suc (suc (suc (suc (suc (suc (suc (suc (suc (suc zero)))))))))))) = s
  cases_false p q r s (suc (suc (suc (suc (suc (suc (suc (suc (suc (suc (suc (suc (suc o))))))))))))) = none (suc (suc (suc (suc (suc (suc (suc (suc (suc (suc (suc (suc (suc o)))))))))))))

  pub comparison_cases : (sense : Bool) → P 9 (Some (cond sense 4 5)) → P 10 (Some (cond sense 6 7)) → P 11 (Some (cond sense 0 1)) → P 12 (Some (cond sense 1 0))
      → (o : ℕ) → P o (comparison sense o)
  comparison_cases true p q r s o = cases_true p q r s o
  comparison_cases false p q r s o = cases_false p q r s o

pub comparison_9 : (sense : Bool) → comparison sense 9 ≡ Some (cond sense 4 5)
unfolding comparison
comparison_9 true = refl
comparison_9 false = refl

pub comparison_10 : (sense : Bool) → comparison sense 10 ≡ Some (cond sense 6 7)
unfolding comparison
comparison_10 true = refl
comparison_10 false = refl

pub comparison_11 : (sense : Bool) → comparison sense 11 ≡ Some (cond sense 0 1)
unfolding comparison
comparison_11 true = refl
comparison_11 false = refl

pub comparison_12 : (sense : Bool) → comparison sense 12 ≡ Some (cond sense 1 0)
unfolding comparison
comparison_12 true = refl
comparison_12 false = refl

pub comparison_other : (sense : Bool) (o : ℕ) → o ≢ 9 → o ≢ 10 → o ≢ 11 → o ≢ 12 → comparison sense o ≡ None
comparison_other sense =
    comparison_cases (λ o c. o ≢ 9 → o ≢ 10 → o ≢ 11 → o ≢ 12 → c ≡ None) (λ o p q r s. refl) sense (λ p q r s. absurd (p refl)) (λ p q r s. absurd (q refl)) (λ p q r s. absurd (r refl))
    (λ p q r s. absurd (s refl))

pub ruleset comparisons = (comparison_9, comparison_10, comparison_11, comparison_12, comparison_other)

pub ruleset branches = (branch_number, branch_temp, branch_global, branch_function, branch_narrow, branch_unary, branch_binary, depth_unary, depth_binary, temps_unary, temps_binary)
