-- Counts that stop at the greatest number, and the call sites in statements.
use Rattle.std.proofs.Common.{inl, inr, ◌≡◌, ℕ, zero, suc, ◌+◌, ◌-◌, ◌*◌, ◌^◌, ◌≤◌, ◌<◌, List, [], ◌∷◌, ◌++◌, map, take, length, get_or, arith, sym, ap, ◌∙◌, Option}
use Rattle.std.specs.Prelude.{sum, option_to_list}
use Rattle.std.proofs.lemmas.Bool.{cases_lt}
use Rattle.std.proofs.lemmas.List.{map-append, map_more}
use Rattle.std.proofs.Math.Nat.{mul_assoc}
use Rattle.mv_ast.specs.declared.program.Program.{Program}
use Rattle.mv_ast.specs.declared.program.Expr.{Expr}
use Rattle.mv_ast.specs.declared.program.Stmt.{Stmt, Stmt-F, out-Stmt, map-Stmt, fold_out-Stmt}
use Rattle.mv_ast.specs.declared.program.Stmt.TheOpen as stmt
use Rattle.mv_ast.specs.declared.program.Arm.{Arm, Arm-F, fold_out-Arm}
use Rattle.mv_ast.specs.Layers.{stmt_parts, stmt_expressions}
use Rattle.mv_ast.specs.Counts.{expr_sites, stmt_sites, arm_sites, product_of}
use Rattle.mv_meaning.specs.Growth.{capped}
use Rattle.mv_num.proofs.Lists.{sum_append}

-- ---- sums and products

pub capped_three : (a b c : ℕ) → capped (capped a + capped (capped b + capped c)) ≡ capped (a + (b + c))
capped_three a b c = omega arith

pub capped_two : (a b : ℕ) → capped (capped a + capped b) ≡ capped (a + b)
capped_two a b = omega arith

pub capped_four : (a b c d : ℕ) → capped (capped (capped a + capped b) + capped (capped c + capped d)) ≡ capped (a + b + (c + d))
capped_four a b c d = omega arith

capped_above : (a b : ℕ) → 2 ^ 64 - 1 ≤ a → capped ((2 ^ 64 - 1) * b) ≡ capped (a * b)
capped_above a zero le = omega arith
capped_above a (suc k) le = grind (arith, le)

pub capped_left : (a b : ℕ) → capped (capped a * b) ≡ capped (a * b)
capped_left a b =
    elim (cases_lt a (2 ^ 64 - 1)) [
      | inl lt ↦ let e : capped a ≡ a = omega arith in ap (λ n. capped (n * b)) e
      | inr ge ↦ let e : capped a ≡ 2 ^ 64 - 1 = omega arith in ap (λ n. capped (n * b)) e ∙ capped_above a b ge
    ]

product-append : (xs : List ℕ) (y : ℕ) → product_of (xs ++ y ∷ []) ≡ product_of xs * y
product-append [] y = omega arith
product-append (x ∷ xs) y = ap (λ n. x * n) (product-append xs y) ∙ sym (mul_assoc x (product_of xs) y)

pub product_more : {A : Type 0} (f : A → ℕ) (xs : List A) (i : ℕ) (d : A) → i < length xs →
    product_of (map f (take (i + 1) xs)) ≡ product_of (map f (take i xs)) * f (get_or xs i d)
product_more f xs i d lt = ap product_of (map_more f xs i d lt) ∙ product-append (map f (take i xs)) (f (get_or xs i d))

sum_more : {A : Type 0} (f : A → ℕ) (xs : List A) (i : ℕ) (d : A) → i < length xs →
    sum (map f (take (i + 1) xs)) ≡ sum (map f (take i xs)) + f (get_or xs i d)
sum_more f xs i d lt =
    let h = sum_append (map f (take i xs)) (f (get_or xs i d) ∷ []) in
    ap sum (map_more f xs i d lt) ∙ omega (arith, h)

-- ---- call sites in statements

module _ (p : Program) where
  abbrev stmt_step : Stmt-F ℕ ℕ → ℕ
  stmt_step s = 0 + (sum (map (expr_sites p) (stmt_expressions s)) + sum (stmt_parts s))

  abbrev arm_step : Arm-F ℕ ℕ → ℕ
  arm_step a = 0 + sum a.body

  stmt_lem : (s : Stmt) (x : Stmt-F Stmt Arm) → out-Stmt s ≡ x → stmt_sites p s ≡ stmt_step (map-Stmt Stmt Arm ℕ ℕ (stmt_sites p) (arm_sites p) x)
  stmt_lem s x h = fold_out-Stmt ℕ ℕ stmt_step arm_step s ∙ ap (λ y. stmt_step (map-Stmt Stmt Arm ℕ ℕ (stmt_sites p) (arm_sites p) y)) h

  arm_lem : (a : Arm) → arm_sites p a ≡ sum (map (stmt_sites p) a.body)
  arm_lem a = fold_out-Arm ℕ ℕ stmt_step arm_step a ∙ omega arith

  pub sites-If : (s : Stmt) (e : Expr) (ys ns : List Stmt) → out-Stmt s ≡ stmt.If e ys ns →
      stmt_sites p s ≡ expr_sites p e + (sum (map (stmt_sites p) ys) + sum (map (stmt_sites p) ns))
  sites-If s e ys ns h =
      let l = stmt_lem s _ h in
      let b = sum_append (map (stmt_sites p) ys) (map (stmt_sites p) ns) in
      omega (arith, l, b)

  pub sites-While : (s : Stmt) (e : Expr) (body : List Stmt) → out-Stmt s ≡ stmt.While e body →
      stmt_sites p s ≡ expr_sites p e + sum (map (stmt_sites p) body)
  sites-While s e body h = let l = stmt_lem s _ h in omega (arith, l)

  pub sites-For : (s : Stmt) (first : List Stmt) (test step : Option Expr) (body : List Stmt) → out-Stmt s ≡ stmt.For first test step body →
      stmt_sites p s ≡
      sum (map (expr_sites p) (option_to_list test)) + sum (map (expr_sites p) (option_to_list step)) +
      (sum (map (stmt_sites p) first) + sum (map (stmt_sites p) body))
  sites-For s first test step body h =
      let l = stmt_lem s _ h in
      let m = ap sum (map-append (expr_sites p) (option_to_list test) (option_to_list step)) in
      let es = sum_append (map (expr_sites p) (option_to_list test)) (map (expr_sites p) (option_to_list step)) in
      let b = sum_append (map (stmt_sites p) first) (map (stmt_sites p) body) in
      omega (arith, l, m, es, b)

  pub sites-Switch : (s : Stmt) (e : Expr) (arms : List Arm) → out-Stmt s ≡ stmt.Switch e arms →
      stmt_sites p s ≡ expr_sites p e + sum (map (arm_sites p) arms)
  sites-Switch s e arms h = let l = stmt_lem s _ h in omega (arith, l)

  pub arms_more : (arms : List Arm) (i : ℕ) (a : Arm) → i < length arms → a ≡ get_or arms i a →
      sum (map (arm_sites p) (take (i + 1) arms)) ≡ sum (map (arm_sites p) (take i arms)) + sum (map (stmt_sites p) a.body)
  arms_more arms i a lt ea =
      sum_more (arm_sites p) arms i a lt ∙ ap (λ n. sum (map (arm_sites p) (take i arms)) + n) (sym (ap (arm_sites p) ea) ∙ arm_lem a)
