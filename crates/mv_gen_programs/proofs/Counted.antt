-- The counts over the programs of generated texts: nodes, depth, declared words, calls and assignments.
use Rattle.std.proofs.Common.{◌≡◌, ℕ, zero, suc, ◌+◌, ◌*◌, ◌≤◌, max, true, List, [], ◌∷◌, map, Some, refl, arith}
use Rattle.std.specs.Prelude.{sum}
use Rattle.std.proofs.lemmas.List.Sums.{sum_by-cons}
use Rattle.mv_ast.specs.declared.program.Expr.{Expr}
use Rattle.mv_ast.specs.declared.program.Form.TheVariants as form
use Rattle.mv_ast.specs.declared.program.Known.TheVariants as known
use Rattle.mv_ast.specs.declared.program.Stmt.{Stmt}
use Rattle.mv_ast.specs.declared.program.Stmt.TheVariants as stmt
use Rattle.mv_ast.specs.declared.program.Target.TheVariants as target
use Rattle.mv_ast.specs.Counts.{greatest, form_sum, target_sum, form_greatest, target_greatest, one_more_than, expr_nodes, expr_depth, stmt_nodes_step, arm_nodes_step, stmt_nodes, stmt_depth, nodes, depth, depth_layer, arm_depth_layer}
use Rattle.mv_check_scope.specs.Conversions.{int, typed}
use Rattle.mv_gen_programs.proofs.Values.{read_local, read_global, constant, binary, choose}
use Rattle.mv_gen_programs.proofs.Bodies.{form_expression}
use Rattle.mv_gen_programs.proofs.MainBody.{call_statement, call_statements, store_statement, commit_statement, if_statement, loop_statement}
use Rattle.mv_gen_programs.proofs.Judged.{main_function}
use Rattle.mv_gen_programs.proofs.Program.{marked_function}
use Rattle.mv_gen_programs.proofs.Folded as folded

-- ---- nodes

nodes_constant : (n : ℕ) → expr_nodes (constant n) ≡ 1
nodes_constant n = folded.of_constant form_sum target_sum one_more_than n

nodes_local : (n : ℕ) → expr_nodes (read_local n) ≡ 1
nodes_local n = folded.of_local form_sum target_sum one_more_than n

nodes_global : (n : ℕ) → expr_nodes (read_global n) ≡ 1
nodes_global n = folded.of_global form_sum target_sum one_more_than n

nodes_binary : (op : ℕ) (a b : Expr) → expr_nodes (binary op a b) ≡ 1 + (expr_nodes a + expr_nodes b)
nodes_binary op a b = let h = folded.of_binary form_sum target_sum one_more_than op a b in omega (arith, h)

nodes_choose : (c a b : Expr) → expr_nodes (choose c a b) ≡ 1 + (expr_nodes c + (expr_nodes a + expr_nodes b))
nodes_choose c a b = let h = folded.of_choose form_sum target_sum one_more_than c a b in omega (arith, h)

nodes_set_global : (n : ℕ) (a : Expr) → expr_nodes (typed int (form.Set (target.Global n) a)) ≡ 1 + expr_nodes a
nodes_set_global n a = let h = folded.of_set_global form_sum target_sum one_more_than n a in omega (arith, h)

nodes_set_local : (n : ℕ) (a : Expr) → expr_nodes (typed int (form.Set (target.Local n) a)) ≡ 1 + expr_nodes a
nodes_set_local n a = let h = folded.of_set_local form_sum target_sum one_more_than n a in omega (arith, h)

nodes_after : (n : ℕ) → expr_nodes (typed int (form.After true (target.Local n))) ≡ 1
nodes_after n = folded.of_after form_sum target_sum one_more_than true n

nodes_direct : (n : ℕ) (a : Expr) → expr_nodes (typed int (form.Direct n (a ∷ []))) ≡ 1 + expr_nodes a
nodes_direct n a = let h = folded.of_direct form_sum target_sum one_more_than n (a ∷ []) in omega (arith, h)

nodes_put : (a : Expr) → expr_nodes (typed int (form.Known known.Putchar (a ∷ []))) ≡ 1 + expr_nodes a
nodes_put a = let h = folded.of_known form_sum target_sum one_more_than known.Putchar (a ∷ []) in omega (arith, h)

nodes_commit : expr_nodes (typed int (form.Known (known.Plan 0 0) [])) ≡ 1
nodes_commit = folded.of_known form_sum target_sum one_more_than (known.Plan 0 0) []

nodes_express : (e : Expr) → stmt_nodes (stmt.Express e) ≡ 1 + expr_nodes e
nodes_express e = let h = folded.of_express stmt_nodes_step arm_nodes_step e in omega (arith, h)

nodes_block : (xs : List Stmt) → stmt_nodes (stmt.Block xs) ≡ 1 + sum (map stmt_nodes xs)
nodes_block xs = let h = folded.of_block stmt_nodes_step arm_nodes_step xs in omega (arith, h)

nodes_return : (e : Expr) → stmt_nodes (stmt.Return (Some e)) ≡ 1 + expr_nodes e
nodes_return e = let h = folded.of_return stmt_nodes_step arm_nodes_step (Some e) in omega (arith, h)

nodes_clear : (l : ℕ) → stmt_nodes (stmt.Clear l []) ≡ 1
nodes_clear l = folded.of_clear stmt_nodes_step arm_nodes_step l []

nodes_if : (e : Expr) (x : Stmt) → stmt_nodes (stmt.If e (x ∷ []) []) ≡ 1 + (expr_nodes e + stmt_nodes x)
nodes_if e x = let h = folded.of_if stmt_nodes_step arm_nodes_step e (x ∷ []) [] in omega (arith, h)

nodes_for : (x : Stmt) (a b : Expr) (y : Stmt) → stmt_nodes (stmt.For (x ∷ []) (Some a) (Some b) (y ∷ [])) ≡ 1 + (stmt_nodes x + (expr_nodes a + (expr_nodes b + stmt_nodes y)))
nodes_for x a b y = let h = folded.of_for stmt_nodes_step arm_nodes_step (x ∷ []) (Some a) (Some b) (y ∷ []) in omega (arith, h)

-- a function has at most 14
expression_nodes : (f j c : ℕ) → expr_nodes (form_expression f j c) ≤ 12
expression_nodes zero j c =
    let a = nodes_binary 12 (read_local 0) (binary 14 (read_global j) (constant c)) in
    let b = nodes_binary 14 (read_global j) (constant c) in
    omega (arith, a, b, nodes_local 0, nodes_global j, nodes_constant c)
expression_nodes (suc zero) j c =
    let a = nodes_choose (read_global j) (binary 19 (read_local 0) (constant c)) (read_local 0) in
    let b = nodes_binary 19 (read_local 0) (constant c) in
    omega (arith, a, b, nodes_local 0, nodes_global j, nodes_constant c)
expression_nodes (suc (suc zero)) j c =
    let a = nodes_choose (binary 29 (read_global j) (constant 2)) (binary 12 (binary 14 (read_local 0) (constant 3)) (constant c)) (binary 13 (read_local 0) (constant c)) in
    let b = nodes_binary 29 (read_global j) (constant 2) in
    let d = nodes_binary 12 (binary 14 (read_local 0) (constant 3)) (constant c) in
    let e = nodes_binary 14 (read_local 0) (constant 3) in
    let g = nodes_binary 13 (read_local 0) (constant c) in
    omega (arith, a, b, d, e, g, nodes_local 0, nodes_global j, nodes_constant c, nodes_constant 2, nodes_constant 3)
expression_nodes (suc (suc (suc f))) j c = omega (arith, nodes_local 0)

pub function_nodes : (i f j c : ℕ) → nodes (marked_function i f j c) ≤ 14
function_nodes i f j c = let a = nodes_return (form_expression f j c) in omega (arith, a, expression_nodes f j c)

store_nodes : (j n : ℕ) → stmt_nodes (store_statement j n) ≡ 7
store_nodes j n =
    let a = nodes_express (typed int (form.Set (target.Global j) (binary 17 (binary 15 (read_local 0) (constant n)) (constant 3)))) in
    let b = nodes_set_global j (binary 17 (binary 15 (read_local 0) (constant n)) (constant 3)) in
    let c = nodes_binary 17 (binary 15 (read_local 0) (constant n)) (constant 3) in
    let d = nodes_binary 15 (read_local 0) (constant n) in
    omega (arith, a, b, c, d, nodes_local 0, nodes_constant n, nodes_constant 3)

call_nodes : (i : ℕ) → stmt_nodes (call_statement i) ≡ 4
call_nodes i =
    let e : Expr = typed int (form.Direct i (read_global 4 ∷ [])) in
    let a = nodes_express (typed int (form.Set (target.Global 4) e)) in
    let b = nodes_set_global 4 e in
    let c = nodes_direct i (read_global 4) in
    omega (arith, a, b, c, nodes_global 4)

calls_nodes : (i n : ℕ) → sum (map stmt_nodes (call_statements i n)) ≡ 4 * n
unfolding call_statements
calls_nodes i zero = refl
calls_nodes i (suc n) = omega (arith, sum_by-cons (λ k. k) (stmt_nodes (call_statement i)) (map stmt_nodes (call_statements (suc i) n)), call_nodes i, calls_nodes (suc i) n)

if_nodes : stmt_nodes if_statement ≡ 37
if_nodes =
    let cond : Expr = binary 29 (binary 16 (read_local 0) (constant 100)) (constant 0) in
    let stores : List Stmt = store_statement 0 100 ∷ store_statement 1 200 ∷ store_statement 2 300 ∷ store_statement 3 400 ∷ commit_statement ∷ [] in
    let a = nodes_if cond (stmt.Block stores) in
    let b = nodes_block stores in
    let c = nodes_binary 29 (binary 16 (read_local 0) (constant 100)) (constant 0) in
    let d = nodes_binary 16 (read_local 0) (constant 100) in
    let e = nodes_express (typed int (form.Known (known.Plan 0 0) [])) in
    omega (arith, a, b, c, d, e, nodes_commit, store_nodes 0 100, store_nodes 1 200, store_nodes 2 300, store_nodes 3 400, nodes_local 0, nodes_constant 100, nodes_constant 0)

pub main_nodes : (n : ℕ) → nodes (main_function n) ≤ 60 + 4 * n
main_nodes n =
    let first : Expr = typed int (form.Set (target.Local 0) (constant 0)) in
    let test : Expr = binary 20 (read_local 0) (constant 1000) in
    let step : Expr = typed int (form.After true (target.Local 0)) in
    let lines : List Stmt = if_statement ∷ call_statements 0 n in
    let one : Expr = binary 12 (constant 65) (binary 17 (read_global 4) (constant 15)) in
    let a = nodes_for (stmt.Express first) test step (stmt.Block lines) in
    let b = nodes_express first in
    let c = nodes_set_local 0 (constant 0) in
    let d = nodes_binary 20 (read_local 0) (constant 1000) in
    let e = nodes_after 0 in
    let g = nodes_block lines in
    let h = nodes_express (typed int (form.Known known.Putchar (one ∷ []))) in
    let i = nodes_put one in
    let j = nodes_binary 12 (constant 65) (binary 17 (read_global 4) (constant 15)) in
    let k = nodes_binary 17 (read_global 4) (constant 15) in
    let l = nodes_express (typed int (form.Known known.Putchar (constant 10 ∷ []))) in
    let m = nodes_put (constant 10) in
    let o = nodes_return (constant 0) in
    omega (
      arith,
      a,
      b,
      c,
      d,
      e,
      g,
      h,
      i,
      j,
      k,
      l,
      m,
      o,
      sum_by-cons (λ q. q) (stmt_nodes if_statement) (map stmt_nodes (call_statements 0 n)),
      if_nodes,
      calls_nodes 0 n,
      nodes_clear 0,
      nodes_local 0,
      nodes_global 4,
      nodes_constant 0,
      nodes_constant 1000,
      nodes_constant 65,
      nodes_constant 15,
      nodes_constant 10,
    )

-- ---- depth

depth_constant : (n : ℕ) → expr_depth (constant n) ≡ 1
depth_constant n = folded.of_constant form_greatest target_greatest one_more_than n

depth_local : (n : ℕ) → expr_depth (read_local n) ≡ 1
depth_local n = folded.of_local form_greatest target_greatest one_more_than n

depth_global : (n : ℕ) → expr_depth (read_global n) ≡ 1
depth_global n = folded.of_global form_greatest target_greatest one_more_than n

depth_binary : (op : ℕ) (a b : Expr) → expr_depth (binary op a b) ≡ 1 + max (expr_depth a) (expr_depth b)
depth_binary op a b = let h = folded.of_binary form_greatest target_greatest one_more_than op a b in omega (arith, h)

depth_choose : (c a b : Expr) → expr_depth (choose c a b) ≡ 1 + max (expr_depth c) (max (expr_depth a) (expr_depth b))
depth_choose c a b = let h = folded.of_choose form_greatest target_greatest one_more_than c a b in omega (arith, h)

depth_set_global : (n : ℕ) (a : Expr) → expr_depth (typed int (form.Set (target.Global n) a)) ≡ 1 + expr_depth a
depth_set_global n a = let h = folded.of_set_global form_greatest target_greatest one_more_than n a in omega (arith, h)

depth_set_local : (n : ℕ) (a : Expr) → expr_depth (typed int (form.Set (target.Local n) a)) ≡ 1 + expr_depth a
depth_set_local n a = let h = folded.of_set_local form_greatest target_greatest one_more_than n a in omega (arith, h)

depth_after : (n : ℕ) → expr_depth (typed int (form.After true (target.Local n))) ≡ 1
depth_after n = folded.of_after form_greatest target_greatest one_more_than true n

depth_direct : (n : ℕ) (a : Expr) → expr_depth (typed int (form.Direct n (a ∷ []))) ≡ 1 + expr_depth a
depth_direct n a = let h = folded.of_direct form_greatest target_greatest one_more_than n (a ∷ []) in omega (arith, h)

depth_put : (a : Expr) → expr_depth (typed int (form.Known known.Putchar (a ∷ []))) ≡ 1 + expr_depth a
depth_put a = let h = folded.of_known form_greatest target_greatest one_more_than known.Putchar (a ∷ []) in omega (arith, h)

depth_commit : expr_depth (typed int (form.Known (known.Plan 0 0) [])) ≡ 1
depth_commit = folded.of_known form_greatest target_greatest one_more_than (known.Plan 0 0) []

depth_express : (e : Expr) → stmt_depth (stmt.Express e) ≡ expr_depth e
depth_express e = let h = folded.of_express depth_layer arm_depth_layer e in omega (arith, h)

depth_block : (xs : List Stmt) → stmt_depth (stmt.Block xs) ≡ greatest (map stmt_depth xs)
depth_block xs = let h = folded.of_block depth_layer arm_depth_layer xs in omega (arith, h)

depth_return : (e : Expr) → stmt_depth (stmt.Return (Some e)) ≡ expr_depth e
depth_return e = let h = folded.of_return depth_layer arm_depth_layer (Some e) in omega (arith, h)

depth_clear : (l : ℕ) → stmt_depth (stmt.Clear l []) ≡ 0
depth_clear l = folded.of_clear depth_layer arm_depth_layer l []

depth_if : (e : Expr) (x : Stmt) → stmt_depth (stmt.If e (x ∷ []) []) ≡ max (expr_depth e) (stmt_depth x)
depth_if e x = let h = folded.of_if depth_layer arm_depth_layer e (x ∷ []) [] in omega (arith, h)

depth_for : (x : Stmt) (a b : Expr) (y : Stmt) → stmt_depth (stmt.For (x ∷ []) (Some a) (Some b) (y ∷ [])) ≡ max (max (expr_depth a) (expr_depth b)) (max (stmt_depth x) (stmt_depth y))
depth_for x a b y = let h = folded.of_for depth_layer arm_depth_layer (x ∷ []) (Some a) (Some b) (y ∷ []) in omega (arith, h)

expression_depth : (f j c : ℕ) → expr_depth (form_expression f j c) ≤ 4
expression_depth zero j c =
    let a = depth_binary 12 (read_local 0) (binary 14 (read_global j) (constant c)) in
    let b = depth_binary 14 (read_global j) (constant c) in
    omega (arith, a, b, depth_local 0, depth_global j, depth_constant c)
expression_depth (suc zero) j c =
    let a = depth_choose (read_global j) (binary 19 (read_local 0) (constant c)) (read_local 0) in
    let b = depth_binary 19 (read_local 0) (constant c) in
    omega (arith, a, b, depth_local 0, depth_global j, depth_constant c)
expression_depth (suc (suc zero)) j c =
    let a = depth_choose (binary 29 (read_global j) (constant 2)) (binary 12 (binary 14 (read_local 0) (constant 3)) (constant c)) (binary 13 (read_local 0) (constant c)) in
    let b = depth_binary 29 (read_global j) (constant 2) in
    let d = depth_binary 12 (binary 14 (read_local 0) (constant 3)) (constant c) in
    let e = depth_binary 14 (read_local 0) (constant 3) in
    let g = depth_binary 13 (read_local 0) (constant c) in
    omega (arith, a, b, d, e, g, depth_local 0, depth_global j, depth_constant c, depth_constant 2, depth_constant 3)
expression_depth (suc (suc (suc f))) j c = omega (arith, depth_local 0)

pub function_depth : (i f j c : ℕ) → depth (marked_function i f j c) ≤ 4
function_depth i f j c = let a = depth_return (form_expression f j c) in omega (arith, a, expression_depth f j c)

store_depth : (j n : ℕ) → stmt_depth (store_statement j n) ≡ 4
store_depth j n =
    let a = depth_express (typed int (form.Set (target.Global j) (binary 17 (binary 15 (read_local 0) (constant n)) (constant 3)))) in
    let b = depth_set_global j (binary 17 (binary 15 (read_local 0) (constant n)) (constant 3)) in
    let c = depth_binary 17 (binary 15 (read_local 0) (constant n)) (constant 3) in
    let d = depth_binary 15 (read_local 0) (constant n) in
    omega (arith, a, b, c, d, depth_local 0, depth_constant n, depth_constant 3)

call_depth : (i : ℕ) → stmt_depth (call_statement i) ≡ 3
call_depth i =
    let e : Expr = typed int (form.Direct i (read_global 4 ∷ [])) in
    let a = depth_express (typed int (form.Set (target.Global 4) e)) in
    omega (arith, a, depth_set_global 4 e, depth_direct i (read_global 4), depth_global 4)

calls_depth : (i n : ℕ) → greatest (map stmt_depth (call_statements i n)) ≤ 3
unfolding call_statements
calls_depth i zero = omega arith
calls_depth i (suc n) = omega (arith, call_depth i, calls_depth (suc i) n)

if_depth : stmt_depth if_statement ≤ 4
if_depth =
    let cond : Expr = binary 29 (binary 16 (read_local 0) (constant 100)) (constant 0) in
    let stores : List Stmt = store_statement 0 100 ∷ store_statement 1 200 ∷ store_statement 2 300 ∷ store_statement 3 400 ∷ commit_statement ∷ [] in
    let a = depth_if cond (stmt.Block stores) in
    let b = depth_block stores in
    let c = depth_binary 29 (binary 16 (read_local 0) (constant 100)) (constant 0) in
    let d = depth_binary 16 (read_local 0) (constant 100) in
    let e = depth_express (typed int (form.Known (known.Plan 0 0) [])) in
    omega (arith, a, b, c, d, e, depth_commit, store_depth 0 100, store_depth 1 200, store_depth 2 300, store_depth 3 400, depth_local 0, depth_constant 100, depth_constant 0)

loop_depth : (n : ℕ) → stmt_depth (loop_statement n) ≤ 4
loop_depth n =
    let first : Expr = typed int (form.Set (target.Local 0) (constant 0)) in
    let test : Expr = binary 20 (read_local 0) (constant 1000) in
    let step : Expr = typed int (form.After true (target.Local 0)) in
    let lines : List Stmt = if_statement ∷ call_statements 0 n in
    let a = depth_for (stmt.Express first) test step (stmt.Block lines) in
    let b = depth_express first in
    let c = depth_set_local 0 (constant 0) in
    let d = depth_binary 20 (read_local 0) (constant 1000) in
    let e = depth_after 0 in
    let g = depth_block lines in
    omega (arith, a, b, c, d, e, g, if_depth, calls_depth 0 n, depth_local 0, depth_constant 0, depth_constant 1000)

pub main_depth : (n : ℕ) → depth (main_function n) ≤ 4
main_depth n =
    let one : Expr = binary 12 (constant 65) (binary 17 (read_global 4) (constant 15)) in
    let h = depth_express (typed int (form.Known known.Putchar (one ∷ []))) in
    let j = depth_binary 12 (constant 65) (binary 17 (read_global 4) (constant 15)) in
    let k = depth_binary 17 (read_global 4) (constant 15) in
    let l = depth_express (typed int (form.Known known.Putchar (constant 10 ∷ []))) in
    let o = depth_return (constant 0) in
    omega (arith, h, depth_put one, j, k, l, depth_put (constant 10), o, loop_depth n, depth_clear 0, depth_global 4, depth_constant 0, depth_constant 65, depth_constant 15, depth_constant 10)
