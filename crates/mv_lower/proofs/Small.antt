-- A well-formed program is small enough for the numbers of its temporaries and blocks: each `switch` has few arms without a label, so its nodes pay for its arms.
use Rattle.std.proofs.Common.{◌≡◌, ℕ, ◌+◌, ◌*◌, ◌<◌, ◌≤◌, Bool, true, List, [], ◌∷◌, ◌++◌, map, length, get_or, refl, sym, ◌∙◌, ap, subst, arith}
use Rattle.std.specs.Prelude.{◌&&◌, sum}
use Rattle.std.proofs.lemmas.List.Sums.{sum_by-append}
use Rattle.std.proofs.lemmas.Bool.{and_from}
use Rattle.std.proofs.lemmas.Option.{slice_get-get_or}
use Rattle.mv_ast.specs.declared.program.Program.{Program}
use Rattle.mv_ast.specs.declared.program.Function.{Function}
use Rattle.mv_ast.specs.declared.program.Stmt.{Stmt, Stmt-F, roll-Stmt, map-Stmt, fold-Stmt, fold-roll-Stmt}
use Rattle.mv_ast.specs.declared.program.Stmt.TheOpen as stmt
use Rattle.mv_ast.specs.declared.program.Arm.{Arm, Arm-F, out-Arm, roll-Arm, out-roll-Arm, map-Arm, fold-Arm, fold_out-Arm}
use Rattle.mv_ast.specs.Counts.{expr_nodes, own_nodes, stmt_sum, arm_sum, stmt_nodes, nodes}
use Rattle.mv_ir.proofs.Induction.{Each}
use Rattle.mv_source_forms.specs.Lists.{all_of}
use Rattle.mv_lower_spec.proofs.Bare.{bare_of, bare_arms, labels_of, labelled_switch}
use Rattle.mv_source_forms.specs.Labels.{ArmLabels, labels_layer, arm_labels_layer, stmt_labelled, arm_labels}
use Rattle.mv_source_forms.specs.WellFormed.{IsWellFormed}
use Rattle.mv_source_forms.proofs.StatementInduction.{StmtChildren, stmt_ind}
use Rattle.mv_lower.specs.Programs.{HasRoom, IsSmall}
use Rattle.mv_lower.specs.Statements.{stmt_size, stmts_size}
use Rattle.mv_lower_expressions.proofs.Sizes.{sum_cons, before_suc}
use Rattle.mv_num.proofs.Booleans.{and_cases}

-- ---- counts

abbrev size_sum : Stmt-F ℕ ℕ → ℕ
size_sum = stmt_sum expr_nodes own_nodes (λ a. 1 + length a.labels)

abbrev arm_size_sum : Arm-F ℕ ℕ → ℕ
arm_size_sum = arm_sum expr_nodes own_nodes (λ a. 1 + length a.labels)

abbrev node_sum : Stmt-F ℕ ℕ → ℕ
node_sum = stmt_sum expr_nodes own_nodes (λ a. length a.labels)

abbrev arm_node_sum : Arm-F ℕ ℕ → ℕ
arm_node_sum = arm_sum expr_nodes own_nodes (λ a. length a.labels)

abbrev sized : Stmt → ℕ
sized = fold-Stmt ℕ ℕ size_sum arm_size_sum

abbrev arm_sized : Arm → ℕ
arm_sized = fold-Arm ℕ ℕ size_sum arm_size_sum

abbrev arm_nodes : Arm → ℕ
arm_nodes = fold-Arm ℕ ℕ node_sum arm_node_sum

-- ---- arms without a label

abbrev labelled_inside : Arm → Bool
labelled_inside a = all_of (map stmt_labelled (out-Arm a).body)

all_inside : (arms : List Arm) → all_of (map (λ (a : ArmLabels). a.holds) (map arm_labels arms)) ≡ true → all_of (map labelled_inside arms) ≡ true
all_inside [] h = refl
all_inside (a ∷ arms) h =
    let s = and_cases (arm_labels a).holds (all_of (map (λ (b : ArmLabels). b.holds) (map arm_labels arms))) h in
    and_from (labelled_inside a) (all_of (map labelled_inside arms)) (sym (ap (λ (z : ArmLabels). z.holds) (labels_of a)) ∙ s.0) (all_inside arms s.1)

-- ---- sizes

abbrev Few : Stmt → Type 0
Few s = stmt_labelled s ≡ true → sized s ≤ 3 * stmt_nodes s

abbrev FewIn : Arm-F Stmt Arm → Type 0
FewIn x = all_of (map stmt_labelled x.body) ≡ true → arm_size_sum (map-Arm Stmt Arm ℕ ℕ sized arm_sized x) ≤ 3 * arm_node_sum (map-Arm Stmt Arm ℕ ℕ stmt_nodes arm_nodes x) + bare_of x.labels

abbrev FewArm : Arm → Type 0
FewArm a = FewIn (out-Arm a)

few_stmts : (body : List Stmt) → Each Few body → all_of (map stmt_labelled body) ≡ true → sum (map sized body) ≤ 3 * sum (map stmt_nodes body)
few_stmts [] h l = omega arith
few_stmts (s ∷ body) h l =
    let ls = and_cases (stmt_labelled s) (all_of (map stmt_labelled body)) l in
    let here = h.0 ls.0 in
    let rest = few_stmts body h.1 ls.1 in
    let a = sum_cons sized s body in
    let b = sum_cons stmt_nodes s body in
    omega (arith, here, rest, a, b)

few_arms : (arms : List Arm) → Each FewArm arms → all_of (map labelled_inside arms) ≡ true → sum (map arm_sized arms) ≤ 3 * sum (map arm_nodes arms) + bare_arms arms
few_arms [] h l = omega arith
few_arms (x ∷ arms) h l =
    let ls = and_cases (labelled_inside x) (all_of (map labelled_inside arms)) l in
    let here = h.0 ls.0 in
    let rest = few_arms arms h.1 ls.1 in
    let a = sum_cons arm_sized x arms in
    let b = sum_cons arm_nodes x arms in
    let d = fold_out-Arm ℕ ℕ size_sum arm_size_sum x in
    let e = fold_out-Arm ℕ ℕ node_sum arm_node_sum x in
    omega (arith, here, rest, a, b, d, e)

two_lists : (f : Stmt → ℕ) (xs ys : List Stmt) → sum (map f xs ++ map f ys) ≡ sum (map f xs) + sum (map f ys)
two_lists f xs ys = sum_by-append (λ n. n) (map f xs) (map f ys)

few_lists : (xs ys : List Stmt) → Each Few xs → Each Few ys → (all_of (map stmt_labelled xs) && all_of (map stmt_labelled ys)) ≡ true →
    sum (map sized xs ++ map sized ys) ≤ 3 * sum (map stmt_nodes xs ++ map stmt_nodes ys)
few_lists xs ys h k l =
    let ls = and_cases (all_of (map stmt_labelled xs)) (all_of (map stmt_labelled ys)) l in
    let a = few_stmts xs h ls.0 in
    let b = few_stmts ys k ls.1 in
    let c = two_lists sized xs ys in
    let d = two_lists stmt_nodes xs ys in
    omega (arith, a, b, c, d)

layer : (x : Stmt-F Stmt Arm) → StmtChildren Few FewArm x → labels_layer (map-Stmt Stmt Arm Bool ArmLabels stmt_labelled arm_labels x) ≡ true →
    size_sum (map-Stmt Stmt Arm ℕ ℕ sized arm_sized x) ≤ 3 * node_sum (map-Stmt Stmt Arm ℕ ℕ stmt_nodes arm_nodes x)
layer (stmt.Block body) h l = let b = few_stmts body h l in omega (arith, b)
layer (stmt.Clear n values) h l = omega arith
layer (stmt.Express e) h l = omega arith
layer (stmt.If e yes_part no_part) h l = let b = few_lists yes_part no_part h.0 h.1 l in omega (arith, b)
layer (stmt.While e body) h l = let b = few_stmts body h l in omega (arith, b)
layer (stmt.Do body e) h l = let b = few_stmts body h l in omega (arith, b)
layer (stmt.For first test step body) h l = let b = few_lists first body h.0 h.1 l in omega (arith, b)
layer (stmt.Switch e arms) h l =
    let good = labelled_switch arms l in
    let few = good.few in
    let b = few_arms arms h (all_inside arms good.inside) in
    omega (arith, few, b)
layer stmt.Break h l = omega arith
layer stmt.Continue h l = omega arith
layer (stmt.Return e) h l = omega arith

stmt_step : (x : Stmt-F Stmt Arm) → StmtChildren Few FewArm x → Few (roll-Stmt x)
stmt_step x h l =
    let a = fold-roll-Stmt ℕ ℕ size_sum arm_size_sum x in
    let b = fold-roll-Stmt ℕ ℕ node_sum arm_node_sum x in
    let c = layer x h (sym (fold-roll-Stmt Bool ArmLabels labels_layer arm_labels_layer x) ∙ l) in
    omega (arith, a, b, c)

labels_pay : (ls : List ℕ) → 1 + length ls ≤ 3 * length ls + bare_of ls
labels_pay [] = omega arith
labels_pay (l ∷ ls) = omega arith

arm_step : (x : Arm-F Stmt Arm) → Each Few x.body → FewArm (roll-Arm x)
arm_step x h = subst FewIn (sym (out-roll-Arm x)) (λ l. let b = few_stmts x.body h l in let p = labels_pay x.labels in omega (arith, b, p))

few_each : (body : List Stmt) → Each Few body
few_each [] = tt
few_each (s ∷ body) = (stmt_ind Few FewArm stmt_step arm_step s, few_each body)

-- ---- functions and programs

pub statements_small : (g : Function) → all_of (map stmt_labelled g.body) ≡ true → stmts_size g.body ≤ 3 * sum (map stmt_nodes g.body)
unfolding stmt_size
statements_small g l = few_stmts g.body (few_each g.body) l

room : (p : Program) → IsWellFormed p → (k : ℕ) (d : Function) → k < length p.functions → HasRoom (get_or p.functions k d)
room p formed k d h =
    let g = get_or p.functions k d in
    let good = formed.functions k g (slice_get-get_or p.functions k d h) in
    let sizes = statements_small g good.labels in
    let within = before_suc nodes p.functions k d h in
    let all = formed.limits.nodes in
    omega (arith, sizes, within, all)

-- The lowering has room for a well-formed program.
pub small_enough : (p : Program) → IsWellFormed p → IsSmall p
small_enough p formed = record {
  globals = let h = formed.limits.globals in omega (arith, h);
  functions = let h = formed.limits.functions in omega (arith, h);
  each = room p formed;
}
