-- The call sites in the programs of generated texts, and the counts over all functions.
use Rattle.std.proofs.Common.{◌≡◌, ℕ, zero, suc, ◌+◌, ◌*◌, ◌<◌, ◌≤◌, Bool, true, false, List, [], ◌∷◌, ◌++◌, map, Some, ap, subst, arith}
use Rattle.std.specs.Prelude.{sum, slice_get, if◌then◌else◌}
use Rattle.std.proofs.lemmas.List.Sums.{sum_by-cons}
use Rattle.std.proofs.Math.Nat.{mul-le-mul_left}
use Rattle.mv_ast.specs.declared.program.Arm.{Arm-F}
use Rattle.mv_ast.specs.declared.program.Expr.{Expr, Expr-F}
use Rattle.mv_ast.specs.declared.program.Form.{Form-F}
use Rattle.mv_ast.specs.declared.program.Form.TheVariants as form
use Rattle.mv_ast.specs.declared.program.Function.{Function}
use Rattle.mv_ast.specs.declared.program.Known.TheVariants as known
use Rattle.mv_ast.specs.declared.program.Program.{Program}
use Rattle.mv_ast.specs.declared.program.Stmt.{Stmt, Stmt-F}
use Rattle.mv_ast.specs.declared.program.Stmt.TheVariants as stmt
use Rattle.mv_ast.specs.declared.program.Target.{Target-F}
use Rattle.mv_ast.specs.declared.program.Target.TheVariants as target
use Rattle.mv_ast.specs.Counts.{Calling, is_attributed, is_pointer, form_calls, target_sum, inner_calls, target_calling, form_calling, inner_calling, expr_sites, stmt_sum, arm_sum, stmt_sites, nodes, depth, declared_words, call_sites, assignments}
use Rattle.mv_check_scope.specs.Conversions.{int, typed}
use Rattle.mv_gen.specs.Generated.{drawn, functions, form_of, switch_of, constant_of}
use Rattle.mv_gen_programs.proofs.Values.{read_local, read_global, constant, binary, choose}
use Rattle.mv_gen_programs.proofs.Bodies.{form_expression}
use Rattle.mv_gen_programs.proofs.MainBody.{call_statement, call_statements, store_statement, commit_statement, if_statement}
use Rattle.mv_gen_programs.proofs.Judged.{main_function}
use Rattle.mv_gen_programs.proofs.Program.{marked_function, marked_functions, program}
use Rattle.mv_gen_programs.proofs.Limited.{assignments_few}
use Rattle.mv_gen_programs.proofs.Counted.{function_nodes, main_nodes, function_depth, main_depth}
use Rattle.mv_gen_programs.proofs.Folded as folded

one_or_none : (b : Bool) → (if b then 1 else 0) ≤ 1
one_or_none true = omega arith
one_or_none false = omega arith

module _ (p : Program) where
  abbrev through_form : Form-F Calling Calling Calling → Calling
  through_form = form_calling (is_pointer p)

  abbrev through_target : Target-F Calling Calling Calling → Calling
  through_target = target_calling (is_pointer p)

  abbrev through_inner : Expr-F Calling Calling Calling → Calling
  through_inner = inner_calling (is_pointer p)

  -- what is counted of calls through pointer switches, as a value
  abbrev as_value : {c d : Calling} → c ≡ d → c false ≡ d false
  as_value e = ap (λ (c : Calling). c false) e

  sites_constant : (n : ℕ) → expr_sites p (constant n) ≡ 0
  sites_constant n = omega (arith, folded.of_constant (form_calls p) target_sum inner_calls n, as_value (folded.of_constant through_form through_target through_inner n))

  sites_local : (n : ℕ) → expr_sites p (read_local n) ≡ 0
  sites_local n = omega (arith, folded.of_local (form_calls p) target_sum inner_calls n, as_value (folded.of_local through_form through_target through_inner n))

  sites_global : (n : ℕ) → expr_sites p (read_global n) ≡ 0
  sites_global n = omega (arith, folded.of_global (form_calls p) target_sum inner_calls n, as_value (folded.of_global through_form through_target through_inner n))

  sites_binary : (op : ℕ) (a b : Expr) → expr_sites p (binary op a b) ≡ expr_sites p a + expr_sites p b
  sites_binary op a b = omega (arith, folded.of_binary (form_calls p) target_sum inner_calls op a b, as_value (folded.of_binary through_form through_target through_inner op a b))

  sites_choose : (c a b : Expr) → expr_sites p (choose c a b) ≡ expr_sites p c + (expr_sites p a + expr_sites p b)
  sites_choose c a b = omega (arith, folded.of_choose (form_calls p) target_sum inner_calls c a b, as_value (folded.of_choose through_form through_target through_inner c a b))

  sites_set_global : (n : ℕ) (a : Expr) → expr_sites p (typed int (form.Set (target.Global n) a)) ≡ expr_sites p a
  sites_set_global n a = omega (arith, folded.of_set_global (form_calls p) target_sum inner_calls n a, as_value (folded.of_set_global through_form through_target through_inner n a))

  sites_set_local : (n : ℕ) (a : Expr) → expr_sites p (typed int (form.Set (target.Local n) a)) ≡ expr_sites p a
  sites_set_local n a = omega (arith, folded.of_set_local (form_calls p) target_sum inner_calls n a, as_value (folded.of_set_local through_form through_target through_inner n a))

  sites_after : (n : ℕ) → expr_sites p (typed int (form.After true (target.Local n))) ≡ 0
  sites_after n = omega (arith, folded.of_after (form_calls p) target_sum inner_calls true n, as_value (folded.of_after through_form through_target through_inner true n))

  sites_direct : (n : ℕ) (a : Expr) → expr_sites p (typed int (form.Direct n (a ∷ []))) ≤ 1 + expr_sites p a
  sites_direct n a = omega (
    arith,
    folded.of_direct (form_calls p) target_sum inner_calls n (a ∷ []),
    as_value (folded.of_direct through_form through_target through_inner n (a ∷ [])),
    one_or_none (is_attributed (slice_get p.functions n)),
  )

  sites_put : (a : Expr) → expr_sites p (typed int (form.Known known.Putchar (a ∷ []))) ≡ expr_sites p a
  sites_put a = omega (
    arith,
    folded.of_known (form_calls p) target_sum inner_calls known.Putchar (a ∷ []),
    as_value (folded.of_known through_form through_target through_inner known.Putchar (a ∷ [])),
  )

  sites_commit : expr_sites p (typed int (form.Known (known.Plan 0 0) [])) ≡ 0
  sites_commit = omega (
    arith,
    folded.of_known (form_calls p) target_sum inner_calls (known.Plan 0 0) [],
    as_value (folded.of_known through_form through_target through_inner (known.Plan 0 0) []),
  )

  abbrev step : Stmt-F ℕ ℕ → ℕ
  step = stmt_sum (expr_sites p) (λ s. 0) (λ a. 0)

  abbrev arms : Arm-F ℕ ℕ → ℕ
  arms = arm_sum (expr_sites p) (λ s. 0) (λ a. 0)

  sites_express : (e : Expr) → stmt_sites p (stmt.Express e) ≡ expr_sites p e
  sites_express e = let h = folded.of_express step arms e in omega (arith, h)

  sites_block : (xs : List Stmt) → stmt_sites p (stmt.Block xs) ≡ sum (map (stmt_sites p) xs)
  sites_block xs = let h = folded.of_block step arms xs in omega (arith, h)

  sites_return : (e : Expr) → stmt_sites p (stmt.Return (Some e)) ≡ expr_sites p e
  sites_return e = let h = folded.of_return step arms (Some e) in omega (arith, h)

  sites_clear : (l : ℕ) → stmt_sites p (stmt.Clear l []) ≡ 0
  sites_clear l = folded.of_clear step arms l []

  sites_if : (e : Expr) (x : Stmt) → stmt_sites p (stmt.If e (x ∷ []) []) ≡ expr_sites p e + stmt_sites p x
  sites_if e x = let h = folded.of_if step arms e (x ∷ []) [] in omega (arith, h)

  sites_for : (x : Stmt) (a b : Expr) (y : Stmt) → stmt_sites p (stmt.For (x ∷ []) (Some a) (Some b) (y ∷ [])) ≡ stmt_sites p x + (expr_sites p a + (expr_sites p b + stmt_sites p y))
  sites_for x a b y = let h = folded.of_for step arms (x ∷ []) (Some a) (Some b) (y ∷ []) in omega (arith, h)

  expression_sites : (f j c : ℕ) → expr_sites p (form_expression f j c) ≡ 0
  expression_sites zero j c =
      let a = sites_binary 12 (read_local 0) (binary 14 (read_global j) (constant c)) in
      let b = sites_binary 14 (read_global j) (constant c) in
      omega (arith, a, b, sites_local 0, sites_global j, sites_constant c)
  expression_sites (suc zero) j c =
      let a = sites_choose (read_global j) (binary 19 (read_local 0) (constant c)) (read_local 0) in
      let b = sites_binary 19 (read_local 0) (constant c) in
      omega (arith, a, b, sites_local 0, sites_global j, sites_constant c)
  expression_sites (suc (suc zero)) j c =
      let a = sites_choose (binary 29 (read_global j) (constant 2)) (binary 12 (binary 14 (read_local 0) (constant 3)) (constant c)) (binary 13 (read_local 0) (constant c)) in
      let b = sites_binary 29 (read_global j) (constant 2) in
      let d = sites_binary 12 (binary 14 (read_local 0) (constant 3)) (constant c) in
      let e = sites_binary 14 (read_local 0) (constant 3) in
      let g = sites_binary 13 (read_local 0) (constant c) in
      omega (arith, a, b, d, e, g, sites_local 0, sites_global j, sites_constant c, sites_constant 2, sites_constant 3)
  expression_sites (suc (suc (suc f))) j c = sites_local 0

  function_sites : (i f j c : ℕ) → call_sites p (marked_function i f j c) ≡ 0
  function_sites i f j c = let a = sites_return (form_expression f j c) in omega (arith, a, expression_sites f j c)

  store_sites : (j n : ℕ) → stmt_sites p (store_statement j n) ≡ 0
  store_sites j n =
      let a = sites_express (typed int (form.Set (target.Global j) (binary 17 (binary 15 (read_local 0) (constant n)) (constant 3)))) in
      let b = sites_set_global j (binary 17 (binary 15 (read_local 0) (constant n)) (constant 3)) in
      let c = sites_binary 17 (binary 15 (read_local 0) (constant n)) (constant 3) in
      let d = sites_binary 15 (read_local 0) (constant n) in
      omega (arith, a, b, c, d, sites_local 0, sites_constant n, sites_constant 3)

  one_call_sites : (i : ℕ) → stmt_sites p (call_statement i) ≤ 1
  one_call_sites i =
      let e : Expr = typed int (form.Direct i (read_global 4 ∷ [])) in
      let a = sites_express (typed int (form.Set (target.Global 4) e)) in
      omega (arith, a, sites_set_global 4 e, sites_direct i (read_global 4), sites_global 4)

  all_sites : (i n : ℕ) → sum (map (stmt_sites p) (call_statements i n)) ≤ n
  unfolding call_statements
  all_sites i zero = omega arith
  all_sites i (suc n) =
      omega (arith, sum_by-cons (λ k. k) (stmt_sites p (call_statement i)) (map (stmt_sites p) (call_statements (suc i) n)), one_call_sites i, all_sites (suc i) n)

  if_sites : stmt_sites p if_statement ≡ 0
  if_sites =
      let cond : Expr = binary 29 (binary 16 (read_local 0) (constant 100)) (constant 0) in
      let stores : List Stmt = store_statement 0 100 ∷ store_statement 1 200 ∷ store_statement 2 300 ∷ store_statement 3 400 ∷ commit_statement ∷ [] in
      let a = sites_if cond (stmt.Block stores) in
      let b = sites_block stores in
      let c = sites_binary 29 (binary 16 (read_local 0) (constant 100)) (constant 0) in
      let d = sites_binary 16 (read_local 0) (constant 100) in
      let e = sites_express (typed int (form.Known (known.Plan 0 0) [])) in
      omega (arith, a, b, c, d, e, sites_commit, store_sites 0 100, store_sites 1 200, store_sites 2 300, store_sites 3 400, sites_local 0, sites_constant 100, sites_constant 0)

  main_sites : (n : ℕ) → call_sites p (main_function n) ≤ n
  main_sites n =
      let first : Expr = typed int (form.Set (target.Local 0) (constant 0)) in
      let test : Expr = binary 20 (read_local 0) (constant 1000) in
      let after : Expr = typed int (form.After true (target.Local 0)) in
      let lines : List Stmt = if_statement ∷ call_statements 0 n in
      let one : Expr = binary 12 (constant 65) (binary 17 (read_global 4) (constant 15)) in
      let a = sites_for (stmt.Express first) test after (stmt.Block lines) in
      let b = sites_express first in
      let c = sites_set_local 0 (constant 0) in
      let d = sites_binary 20 (read_local 0) (constant 1000) in
      let e = sites_after 0 in
      let g = sites_block lines in
      let s = sum_by-cons (λ q. q) (stmt_sites p if_statement) (map (stmt_sites p) (call_statements 0 n)) in
      let h = sites_express (typed int (form.Known known.Putchar (one ∷ []))) in
      let j = sites_binary 12 (constant 65) (binary 17 (read_global 4) (constant 15)) in
      let k = sites_binary 17 (read_global 4) (constant 15) in
      let l = sites_express (typed int (form.Known known.Putchar (constant 10 ∷ []))) in
      let o = sites_return (constant 0) in
      omega (
        arith,
        a,
        b,
        c,
        d,
        e,
        g,
        s,
        h,
        sites_put one,
        j,
        k,
        l,
        sites_put (constant 10),
        o,
        if_sites,
        all_sites 0 n,
        sites_clear 0,
        sites_local 0,
        sites_global 4,
        sites_constant 0,
        sites_constant 1000,
        sites_constant 65,
        sites_constant 15,
        sites_constant 10,
      )

-- ---- all functions

-- a sum over all functions, by what each counts at most
total_most : (g : ℕ) (h : Function → ℕ) → ((i f j c : ℕ) → j < 4 → h (marked_function i f j c) ≤ g) → (seed i count : ℕ) (rest : List Function) →
    sum (map h (marked_functions seed i count ++ rest)) ≤ g * count + sum (map h rest)
unfolding marked_functions
total_most g h each seed i zero rest = omega arith
total_most g h each seed i (suc count) rest =
    let x = drawn seed (suc i) in
    let one = each i (form_of x) (switch_of x) (constant_of x) (omega arith) in
    let more = total_most g h each seed (suc i) count rest in
    omega (arith, one, more, sum_by-cons (λ k. k) (h (marked_function i (form_of x) (switch_of x) (constant_of x))) (map h (marked_functions seed (suc i) count ++ rest)))

-- what holds of each function
pub each_function : (P : Function → Type 0) → ((i f j c : ℕ) → j < 4 → P (marked_function i f j c)) → (seed i count n : ℕ) (last g : Function) → P last →
    slice_get (marked_functions seed i count ++ last ∷ []) n ≡ Some g → P g
unfolding marked_functions
each_function P each seed i zero zero last g h e = let same : last ≡ g = cc in subst P same h
each_function P each seed i zero (suc n) last g h e = absurd (cc)
each_function P each seed i (suc count) zero last g h e =
    let x = drawn seed (suc i) in
    let same : marked_function i (form_of x) (switch_of x) (constant_of x) ≡ g = cc in
    subst P same (each i (form_of x) (switch_of x) (constant_of x) (omega arith))
each_function P each seed i (suc count) (suc n) last g h e = each_function P each seed (suc i) count n last g h e

function_frame : (i f j c : ℕ) → j < 4 → declared_words (marked_function i f j c) + 8 * depth (marked_function i f j c) ≤ 480
function_frame i f j c h = omega (arith, function_depth i f j c)

main_frame : (n : ℕ) → declared_words (main_function n) + 8 * depth (main_function n) ≤ 480
main_frame n = omega (arith, main_depth n)

pub frames_fit : (seed f : ℕ) (g : Function) → slice_get (program seed).functions f ≡ Some g → declared_words g + 8 * depth g ≤ 480
frames_fit seed f g e =
    let P : Function → Type 0 = λ g. declared_words g + 8 * depth g ≤ 480 in
    each_function P function_frame seed 0 (functions seed) f (main_function (functions seed)) g (main_frame (functions seed)) e

pub sites_fit : (seed : ℕ) → sum (map (λ g. call_sites (program seed) g * (1 + assignments (program seed) g)) (program seed).functions) ≤ 16384
sites_fit seed =
    let p = program seed in
    let n = functions seed in
    let h = total_most 0 (λ g. call_sites p g * (1 + assignments p g))
    (λ i f j c lt. let e = function_sites p i f j c in rw e (omega arith)) seed 0 n (main_function n ∷ []) in
    omega (arith, h, main_sites p n)

-- the words of a function, at most 15 times 5
function_text : (seed i f j c : ℕ) → j < 4 → (1 + nodes (marked_function i f j c)) * (1 + assignments (program seed) (marked_function i f j c)) ≤ 75
function_text seed i f j c h =
    let m = nodes (marked_function i f j c) in
    let a = assignments (program seed) (marked_function i f j c) in
    let few = assignments_few seed (functions seed) i f j c h in
    let five : 1 + a ≤ 5 = omega (arith, few) in
    let left : (1 + m) * (1 + a) ≤ (1 + m) * 5 = mul-le-mul_left (1 + m) five in
    omega (arith, left, function_nodes i f j c)

pub text_fits : (seed : ℕ) → 400 + 40 * sum (map (λ g. (1 + nodes g) * (1 + assignments (program seed) g)) (program seed).functions) ≤ 131072
text_fits seed =
    let p = program seed in
    let n = functions seed in
    let h = total_most 75 (λ g. (1 + nodes g) * (1 + assignments p g)) (function_text seed) seed 0 n (main_function n ∷ []) in
    let few : n ≤ 36 = omega arith in
    omega (arith, h, main_nodes n, few)
