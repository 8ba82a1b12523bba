-- What statements are lowered to, form by form.
use Rattle.std.proofs.Common.{◌≡◌, ℕ, suc, ◌+◌, ◌*◌, ◌-◌, ◌≤◌, Bool, cond, List, [], ◌∷◌, ◌++◌, map, length, max, Option, Some, None, refl, sym, ap, ◌∙◌, arith, append_assoc}
use Rattle.std.specs.Prelude.{sum, ◌||◌, nat_le, option_to_list}
use Rattle.std.proofs.lemmas.List.Sums.{sum_by-cons}
use Rattle.mv_ast.specs.declared.program.Function.{Function}
use Rattle.mv_ast.specs.declared.program.Expr.{Expr}
use Rattle.mv_ast.specs.declared.program.Stmt.{Stmt, Stmt-F, out-Stmt, map-Stmt, fold_out-Stmt}
use Rattle.mv_ast.specs.declared.program.Stmt as at
use Rattle.mv_ast.specs.declared.program.Stmt.TheOpen as stmt
use Rattle.mv_ast.specs.declared.program.Stmt.TheVariants.{outs-Block, outs-Clear, outs-Express, outs-If, outs-While, outs-Do, outs-For, outs-Switch, outs-Break, outs-Continue, outs-Return}
use Rattle.mv_ast.specs.declared.program.Arm.{Arm, fold_out-Arm}
use Rattle.mv_ast.specs.Counts.{expr_nodes, own_nodes, stmt_sum, arm_sum, stmt_total, arm_total, words_of_size}
use Rattle.mv_ast.specs.Names.{any_of, names_local}
use Rattle.mv_ir.specs.declared.stm.Stm.{Stm}
use Rattle.mv_lower_spec.specs.Lowered.{Lowered, set, number}
use Rattle.mv_source_forms.specs.Names.{is_void, size_in}
use Rattle.mv_lower_spec.specs.Lower.{lower_expr}
use Rattle.mv_lower_spec.specs.Statements.{Jumps, Code, Placed, LoweredArm, in_body, enclosed, store_values, values_top, store_zeros, store_word, clear_words, arms_code, arms_top, test_arms, test_labels, arm_place, all_tests as lowered_tests}
use Rattle.mv_lower_spec.specs.LowerStatements.{lower_stmt_layer, lower_arm_layer, lower_stmt, lower_arm}
use Rattle.mv_lower_expressions.specs.Values.{given}
use Rattle.mv_lower_expressions.specs.Expressions.{expr_at, expr_size, exprs_size, each_at, optional_at, optional_size}
use Rattle.mv_lower.specs.Statements.{stmt_at, stmts_at, arm_at, express_of, return_of, if_of, while_of, do_of, for_of, break_at, continue_at, end_at, return_at, stmt_size, arm_size, stmts_size, arms_size}
use Rattle.mv_lower.specs.Declarations.{values_stored, values_top_of, clear_of}
use Rattle.mv_lower.specs.Switches.{default_place, tests_from, all_tests, arms_of, switch_of}
use Rattle.mv_num.proofs.Lists.{length_map, sum_append}

-- ---- sizes

abbrev size_of_layer : Stmt-F Stmt Arm → ℕ
size_of_layer x = stmt_sum expr_nodes own_nodes (λ a. 1 + length a.labels) (map-Stmt Stmt Arm ℕ ℕ (stmt_total expr_nodes own_nodes (λ a. 1 + length a.labels)) (arm_total expr_nodes own_nodes (λ a. 1 + length a.labels)) x)

sized : (s : Stmt) (x : Stmt-F Stmt Arm) → out-Stmt s ≡ x → stmt_size s ≡ size_of_layer x
unfolding stmt_size
sized s x e =
    fold_out-Stmt ℕ ℕ (stmt_sum expr_nodes own_nodes (λ a. 1 + length a.labels)) (arm_sum expr_nodes own_nodes (λ a. 1 + length a.labels)) s ∙ ap size_of_layer e

pub size_block : (body : List Stmt) → stmt_size (at.Block body) ≡ 1 + stmts_size body
unfolding stmt_size
size_block body = let h = sized _ _ (outs-Block body) in omega (arith, h)

pub size_clear : (l : ℕ) (values : List Expr) → stmt_size (at.Clear l values) ≡ 1 + length values + exprs_size values
unfolding expr_size
size_clear l values = let h = sized _ _ (outs-Clear l values) in omega (arith, h)

pub size_express : (e : Expr) → stmt_size (at.Express e) ≡ 1 + expr_size e
unfolding expr_size
size_express e = let h = sized _ _ (outs-Express e) in omega (arith, h)

pub size_if : (e : Expr) (a b : List Stmt) → stmt_size (at.If e a b) ≡ 1 + (expr_size e + (stmts_size a + stmts_size b))
unfolding expr_size stmt_size
size_if e a b =
    let h = sized _ _ (outs-If e a b) in
    let s = sum_append (map (stmt_total expr_nodes own_nodes (λ a. 1 + length a.labels)) a) (map (stmt_total expr_nodes own_nodes (λ a. 1 + length a.labels)) b) in
    omega (arith, h, s)

pub size_while : (e : Expr) (body : List Stmt) → stmt_size (at.While e body) ≡ 1 + (expr_size e + stmts_size body)
unfolding expr_size stmt_size
size_while e body = let h = sized _ _ (outs-While e body) in omega (arith, h)

pub size_do : (body : List Stmt) (e : Expr) → stmt_size (at.Do body e) ≡ 1 + (expr_size e + stmts_size body)
unfolding expr_size stmt_size
size_do body e = let h = sized _ _ (outs-Do body e) in omega (arith, h)

two_options : (test step : Option Expr) → sum (map expr_nodes (option_to_list test ++ option_to_list step)) ≡ optional_size test + optional_size step
unfolding expr_size
two_options None None = refl
two_options None (Some e) = omega arith
two_options (Some e) None = omega arith
two_options (Some e) (Some f) = omega arith

pub size_for : (first : List Stmt) (test step : Option Expr) (body : List Stmt) → stmt_size (at.For first test step body) ≡ 1 + ((optional_size test + optional_size step) + (stmts_size first + stmts_size body))
unfolding stmt_size
size_for first test step body =
    let h = sized _ _ (outs-For first test step body) in
    let o = two_options test step in
    let s = sum_append (map (stmt_total expr_nodes own_nodes (λ a. 1 + length a.labels)) first) (map (stmt_total expr_nodes own_nodes (λ a. 1 + length a.labels)) body) in
    omega (arith, h, o, s)

pub size_switch : (e : Expr) (arms : List Arm) → stmt_size (at.Switch e arms) ≡ 1 + (expr_size e + arms_size arms)
unfolding expr_size arm_size
size_switch e arms = let h = sized _ _ (outs-Switch e arms) in omega (arith, h)

one_option : (e : Option Expr) → sum (map expr_nodes (option_to_list e)) ≡ optional_size e
unfolding expr_size
one_option None = refl
one_option (Some e) = omega arith

pub size_return : (e : Option Expr) → stmt_size (at.Return e) ≡ 1 + optional_size e
size_return e = let h = sized _ _ (outs-Return e) in let o = one_option e in omega (arith, h, o)

pub size_arm : (a : Arm) → arm_size a ≡ 1 + length a.labels + stmts_size a.body
unfolding arm_size stmt_size
size_arm a = fold_out-Arm ℕ ℕ (stmt_sum expr_nodes own_nodes (λ b. 1 + length b.labels)) (arm_sum expr_nodes own_nodes (λ b. 1 + length b.labels)) a

pub few_arms : (arms : List Arm) → length arms ≤ arms_size arms
few_arms [] = omega arith
few_arms (a ∷ arms) = let h = few_arms arms in let s = size_arm a in let p = sum_by-cons (λ x. x) (arm_size a) (map arm_size arms) in omega (arith, h, s, p)

pub ruleset sizes = (size_block, size_clear, size_express, size_if, size_while, size_do, size_for, size_switch, size_return)

-- ---- forms

module _ (ps : List ℕ) (g : Function) where
  abbrev n : ℕ
  n = length g.locals

  abbrev lowering_of : Stmt-F Stmt Arm → Placed
  lowering_of x =
      lower_stmt_layer ps n (size_in g.locals) (is_void g.result) (map-Stmt Stmt Arm Placed LoweredArm (lower_stmt ps n (size_in g.locals) (is_void g.result)) (lower_arm ps n (size_in g.locals) (is_void g.result)) x)

  lowered : (s : Stmt) (x : Stmt-F Stmt Arm) (j : Jumps) → out-Stmt s ≡ x → stmt_at ps g s j ≡ lowering_of x j
  unfolding stmt_at
  lowered s x j e =
      ap (λ (f : Placed). f j) (fold_out-Stmt Placed LoweredArm (lower_stmt_layer ps n (size_in g.locals) (is_void g.result)) (lower_arm_layer ps n (size_in g.locals) (is_void g.result)) s ∙ ap lowering_of e)

  pub stmt_block : (body : List Stmt) (j : Jumps) → stmt_at ps g (at.Block body) j ≡ stmts_at ps g body j
  unfolding stmts_at stmt_at
  stmt_block body j = lowered _ _ j (outs-Block body)

  pub stmt_express : (e : Expr) (j : Jumps) → stmt_at ps g (at.Express e) j ≡ express_of (expr_at ps e n)
  unfolding express_of expr_at
  stmt_express e j = lowered _ _ j (outs-Express e)

  pub stmt_if : (e : Expr) (a b : List Stmt) (j : Jumps) → stmt_at ps g (at.If e a b) j ≡ if_of (expr_at ps e n) (stmts_at ps g a j) (stmts_at ps g b j)
  unfolding if_of expr_at stmts_at stmt_at
  stmt_if e a b j = lowered _ _ j (outs-If e a b)

  pub stmt_while : (e : Expr) (body : List Stmt) (j : Jumps) → stmt_at ps g (at.While e body) j ≡ while_of (expr_at ps e n) (stmts_at ps g body (in_body j))
  unfolding while_of expr_at stmts_at stmt_at
  stmt_while e body j = lowered _ _ j (outs-While e body)

  pub stmt_do : (body : List Stmt) (e : Expr) (j : Jumps) → stmt_at ps g (at.Do body e) j ≡ do_of (stmts_at ps g body (in_body j)) (expr_at ps e n)
  unfolding do_of expr_at stmts_at stmt_at
  stmt_do body e j = lowered _ _ j (outs-Do body e)

  pub stmt_for : (first : List Stmt) (test step : Option Expr) (body : List Stmt) (j : Jumps) →
      stmt_at ps g (at.For first test step body) j ≡ for_of (stmts_at ps g first j) (optional_at ps 1 test n) (optional_at ps 0 step n) (stmts_at ps g body (in_body j))
  unfolding for_of stmts_at stmt_at optional_at
  stmt_for first test step body j = lowered _ _ j (outs-For first test step body)

  pub stmt_break : (j : Jumps) → stmt_at ps g at.Break j ≡ break_at j n
  unfolding break_at
  stmt_break j = lowered _ _ j outs-Break

  pub stmt_continue : (j : Jumps) → stmt_at ps g at.Continue j ≡ continue_at j n
  unfolding continue_at
  stmt_continue j = lowered _ _ j outs-Continue

  return_same : (e : Option Expr) (j : Jumps) → lowering_of (stmt.Return e) j ≡ return_at ps e j n
  unfolding end_at return_of expr_at
  return_same None j = refl
  return_same (Some e) j = refl

  pub stmt_return : (e : Option Expr) (j : Jumps) → stmt_at ps g (at.Return e) j ≡ return_at ps e j n
  stmt_return e j = lowered _ _ j (outs-Return e) ∙ return_same e j

  -- ---- declarations

  stored_same : (size : Option ℕ) (l i : ℕ) (es : List Expr) → store_values n size l i (map (lower_expr ps) es) ≡ values_stored size l i (each_at ps es n)
  unfolding values_stored expr_at
  stored_same size l i [] = refl
  stored_same size l i (e ∷ es) = ap (λ rest. (lower_expr ps e n).code ++ (store_word size l i (lower_expr ps e n).tree ∷ rest)) (stored_same size l (suc i) es)

  top_same : (es : List Expr) → values_top n (map (lower_expr ps) es) ≡ values_top_of (each_at ps es n) n
  unfolding values_top_of expr_at
  top_same [] = refl
  top_same (e ∷ es) = ap (λ m. max (lower_expr ps e n).top m) (top_same es)

  length_same : (es : List Expr) → length (map (lower_expr ps) es) ≡ length (each_at ps es n)
  length_same [] = refl
  length_same (e ∷ es) = ap suc (length_same es)

-- a declaration, by the code that stores its values
abbrev pub cleared : Option ℕ → ℕ → Bool → ℕ → List Stm → ℕ → Code
cleared size l names_itself given stored top =
    let words = words_of_size size in
    record {
      code = cond (names_itself || nat_le (8 * words) (92 * (words - given))) (clear_words size l ∷ stored) (stored ++ store_zeros size l given (words - given));
      top = top;
    }

stored_given : (m k : ℕ) (size : Option ℕ) (l i : ℕ) (vs : List Lowered) → store_values m size l i (map given vs) ≡ store_values k size l i (map given vs)
stored_given m k size l i [] = refl
stored_given m k size l i (v ∷ vs) = ap (λ rest. v.code ++ (store_word size l i v.tree ∷ rest)) (stored_given m k size l (suc i) vs)

pub clear_is : (size : Option ℕ) (l : ℕ) (names_itself : Bool) (vs : List Lowered) (n : ℕ) → clear_of size l names_itself vs n ≡ cleared size l names_itself (length vs) (values_stored size l 0 vs) (values_top_of vs n)
unfolding clear_of values_stored values_top_of
clear_is size l names_itself vs n =
    ap (λ k. cleared size l names_itself k (store_values n size l 0 (map given vs)) (values_top n (map given vs))) (length_map given vs) ∙
    ap (λ c. cleared size l names_itself (length vs) c (values_top n (map given vs))) (stored_given n 0 size l 0 vs)

pub stmt_clear : (ps : List ℕ) (g : Function) (l : ℕ) (values : List Expr) (j : Jumps) →
    stmt_at ps g (at.Clear l values) j ≡ clear_of (size_in g.locals l) l (any_of (map (names_local l) values)) (each_at ps values (length g.locals)) (length g.locals)
stmt_clear ps g l values j =
    let size = size_in g.locals l in
    let names = any_of (map (names_local l) values) in
    let m = length g.locals in
    lowered ps g _ _ j (outs-Clear l values) ∙
    (ap (λ k. cleared size l names k (store_values m size l 0 (map (lower_expr ps) values)) (values_top m (map (lower_expr ps) values))) (length_same ps g values) ∙
    (ap (λ c. cleared size l names (length (each_at ps values m)) c (values_top m (map (lower_expr ps) values))) (stored_same ps g size l 0 values) ∙
    (ap (λ top. cleared size l names (length (each_at ps values m)) (values_stored size l 0 (each_at ps values m)) top) (top_same ps g values) ∙
    sym (clear_is size l names (each_at ps values m) m))))

-- ---- `switch`

pub arm_is : (ps : List ℕ) (g : Function) (a : Arm) → arm_at ps g a ≡ record { labels = a.labels; other = a.other; body = stmts_at ps g a.body }
unfolding arm_at stmts_at stmt_at
arm_is ps g a = fold_out-Arm Placed LoweredArm (lower_stmt_layer ps (length g.locals) (size_in g.locals) (is_void g.result)) (lower_arm_layer ps (length g.locals) (size_in g.locals) (is_void g.result)) a

tests_same : (ps : List ℕ) (g : Function) (n i : ℕ) (arms : List Arm) → test_arms n i (map (arm_at ps g) arms) ≡ tests_from n i arms
tests_same ps g n i [] = refl
tests_same ps g n i (a ∷ arms) =
    ap (λ (x : LoweredArm). test_labels n i x.labels ++ test_arms n (suc i) (map (arm_at ps g) arms)) (arm_is ps g a) ∙ ap (λ rest. test_labels n i a.labels ++ rest) (tests_same ps g n (suc i) arms)

place_same : (ps : List ℕ) (g : Function) (i : ℕ) (arms : List Arm) → arm_place (λ a. a.other) i (map (arm_at ps g) arms) ≡ default_place i arms
place_same ps g i [] = refl
place_same ps g i (a ∷ arms) =
    ap (λ (x : LoweredArm). cond x.other i (arm_place (λ b. b.other) (suc i) (map (arm_at ps g) arms))) (arm_is ps g a) ∙ ap (λ rest. cond a.other i rest) (place_same ps g (suc i) arms)

all_tests_same : (ps : List ℕ) (g : Function) (n : ℕ) (arms : List Arm) → lowered_tests n (map (arm_at ps g) arms) ≡ all_tests n arms
unfolding all_tests
all_tests_same ps g n arms =
    ap (λ c. c ++ set n (number (arm_place (λ a. a.other) 0 (map (arm_at ps g) arms))) ∷ []) (tests_same ps g n 0 arms) ∙ ap (λ k. tests_from n 0 arms ++ set n (number k) ∷ []) (place_same ps g 0 arms)

pub stmt_switch : (ps : List ℕ) (g : Function) (e : Expr) (arms : List Arm) (j : Jumps) →
    stmt_at ps g (at.Switch e arms) j ≡ switch_of (expr_at ps e (length g.locals)) (all_tests (length g.locals) arms) (arms_of ps g arms j) (length g.locals)
unfolding expr_at arms_of arm_at
stmt_switch ps g e arms j =
    let m = length g.locals in
    let x = lower_expr ps e m in
    let lowered_arms = arms_code m 0 (map (arm_at ps g) arms) j in
    let top = max (m + 1) (max x.top (arms_top m (map (arm_at ps g) arms) j)) in
    let of_tests : List Stm → Code = λ tests. record { code = x.code ++ set m x.tree ∷ enclosed (enclosed tests ∷ lowered_arms) ∷ []; top = top } in
    let grouped = λ (tests : List Stm).
    ap (λ (c : List Stm). (let r : Code = record { code = c; top = top } in r)) (sym (append_assoc x.code (set m x.tree ∷ []) (enclosed (enclosed tests ∷ lowered_arms) ∷ []))) in
    lowered ps g _ _ j (outs-Switch e arms) ∙ (ap of_tests (all_tests_same ps g m arms) ∙ grouped (all_tests m arms))

pub ruleset forms = (stmt_block, stmt_clear, stmt_express, stmt_if, stmt_while, stmt_do, stmt_for, stmt_switch, stmt_break, stmt_continue, stmt_return)
