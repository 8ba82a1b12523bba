-- The program `int f(int a) { int b = a; while (b) { if (a) break; switch (a) { case 1: break; default: b = 0; } } return b; } int main(void) { return f(3); }`
-- is well formed.
use Rattle.std.proofs.Common.{◌≡◌, ℕ, ◌+◌, ◌≤◌, zero, suc, Bool, true, false, [], ◌∷◌, List, refl, sym, subst, ap, arith, Option, Some, None}
use Rattle.std.specs.Prelude.{slice_get, All}
use Rattle.std.proofs.lemmas.List.Elements.{All-nil, All-cons}
use Rattle.mv_ast.specs.declared.program.CType.{CType}
use Rattle.mv_ast.specs.declared.program.Program.{Program}
use Rattle.mv_ast.specs.declared.program.Local.{Local}
use Rattle.mv_ast.specs.declared.program.Function.{Function}
use Rattle.mv_ast.specs.declared.program.Expr.{Expr, Expr-F, roll-Expr, fold-roll-Expr}
use Rattle.mv_ast.specs.declared.program.Form.{Form, Form-F, map-Form, roll-Form, fold-Form, fold-roll-Form}
use Rattle.mv_ast.specs.declared.program.Form.TheOpen as form
use Rattle.mv_ast.specs.declared.program.Target.{Target, Target-F, map-Target, fold-roll-Target, roll-Target, out-Target, out-roll-Target}
use Rattle.mv_ast.specs.declared.program.Stmt.{Stmt, Stmt-F, map-Stmt, roll-Stmt, every_made-Stmt, fold-roll-Stmt}
use Rattle.mv_ast.specs.declared.program.Stmt.TheOpen as stmt
use Rattle.mv_ast.specs.declared.program.Arm.{Arm, Arm-F, fold-Arm, map-Arm, roll-Arm, every-Arm, every_made-Arm, fold-roll-Arm}
use Rattle.mv_ast.specs.Counts.{words_of_size, form_sum, target_sum, one_more_than, expr_nodes, form_nodes, target_nodes, stmt_nodes_step, arm_nodes_step, stmt_nodes, arm_nodes}
use Rattle.mv_source_forms.specs.Uses.{all_layer, all_arm_layer, all_expressions, form_calls_known, target_in_parts, calls_known, target_calls_known}
use Rattle.mv_source_forms.specs.WellFormed.{program_nodes, IsWellFormedFunction, IsWellFormed}
use Rattle.mv_source_forms.specs.Typing.{LvalueHasType, HasTypedParts, IsTypedExpr, IsTypedAt, local_types, IsTypedStmt, IsTypedFunction}
use Rattle.mv_ast.specs.Names.{names_local, form_names, target_names, inner_names, target_names_local}
use Rattle.mv_source_forms.specs.Names.{names_form, names_target, names_layer, is_well_named, form_is_well_named, target_is_well_named, stmt_named_layer, arm_named_layer, stmt_is_well_formed, arm_is_well_formed}
use Rattle.mv_source_forms.specs.Jumps.{Jumping, stmt_jumps, arm_jumps, jumps_layer, arm_jumps_layer}
use Rattle.mv_source_forms.specs.Labels.{ArmLabels, labels_layer, arm_labels_layer, stmt_labelled, arm_labels}
use Rattle.mv_source_forms.specs.Scopes.{Scope, Scoped, stmt_scoped, arm_scoped, scoped_layer, arm_scoped_layer, form_in, target_in, layer_in, names_declared, form_names_declared, target_names_declared}
use Rattle.mv_source_forms.proofs.TypedParts.{rolled, TypedTarget, expr_made, target_made}
use Rattle.mv_ast.specs.Types.{int}

abbrev node : Form-F Form Target Expr → Expr
node = rolled int

abbrev local : ℕ → Target
local l = roll-Target (form.Local l)

abbrev read : ℕ → Expr
read l = node (form.Read (local l))

abbrev number : ℕ → Expr
number n = node (form.Number n)

abbrev clear_b : Expr
clear_b = node (form.Set (local 1) (number 0))

abbrev call_f : Expr
call_f = node (form.Direct 0 (number 3 ∷ []))

abbrev an_int : Local
an_int = record { ctype = int; size = None }

abbrev if_a : Stmt
if_a = roll-Stmt (stmt.If (read 0) (roll-Stmt stmt.Break ∷ []) [])

abbrev set_b : Stmt
set_b = roll-Stmt (stmt.Express clear_b)

abbrev case_1 : Arm
case_1 = roll-Arm (record { labels = 1 ∷ []; other = false; body = roll-Stmt stmt.Break ∷ [] })

abbrev default : Arm
default = roll-Arm (record { labels = []; other = true; body = set_b ∷ [] })

abbrev switch_a : Stmt
switch_a = roll-Stmt (stmt.Switch (read 0) (case_1 ∷ default ∷ []))

abbrev statements : List Stmt
statements = roll-Stmt (stmt.Clear 1 (read 0 ∷ [])) ∷ roll-Stmt (stmt.While (read 1) (if_a ∷ switch_a ∷ [])) ∷ roll-Stmt (stmt.Return (Some (read 1))) ∷ []

abbrev f : Function
f = record { name = []; attributed = false; result = int; params = 1; locals = an_int ∷ an_int ∷ []; switches = []; body = statements }

abbrev main : Function
main = record { name = []; attributed = false; result = int; params = 0; locals = []; switches = []; body = roll-Stmt (stmt.Return (Some call_f)) ∷ [] }

abbrev program : Program
program = record { signatures = []; globals = []; functions = f ∷ main ∷ []; switches = []; pointers = []; main = 1 }

-- ---- the tests at one node

jumps_at : (x : Stmt-F Stmt Arm) (b c : Bool) → stmt_jumps (roll-Stmt x) b c ≡ jumps_layer (map-Stmt Stmt Arm Jumping Jumping stmt_jumps arm_jumps x) b c
jumps_at x b c = ap (λ (k : Jumping). k b c) (fold-roll-Stmt Jumping Jumping jumps_layer arm_jumps_layer x)

jumps_in : (x : Arm-F Stmt Arm) (b c : Bool) → arm_jumps (roll-Arm x) b c ≡ arm_jumps_layer (map-Arm Stmt Arm Jumping Jumping stmt_jumps arm_jumps x) b c
jumps_in x b c = ap (λ (k : Jumping). k b c) (fold-roll-Arm Jumping Jumping jumps_layer arm_jumps_layer x)

labels_in : (x : Arm-F Stmt Arm) → arm_labels (roll-Arm x) ≡ arm_labels_layer (map-Arm Stmt Arm Bool ArmLabels stmt_labelled arm_labels x)
labels_in x = fold-roll-Arm Bool ArmLabels labels_layer arm_labels_layer x

scoped_in : (x : Arm-F Stmt Arm) (scope : Scope) → arm_scoped (roll-Arm x) scope ≡ arm_scoped_layer (map-Arm Stmt Arm Scoped (Scope → Bool) stmt_scoped arm_scoped x) scope
scoped_in x scope = ap (λ (k : Scope → Bool). k scope) (fold-roll-Arm Scoped (Scope → Bool) scoped_layer arm_scoped_layer x)

labels_at : (x : Stmt-F Stmt Arm) → stmt_labelled (roll-Stmt x) ≡ labels_layer (map-Stmt Stmt Arm Bool ArmLabels stmt_labelled arm_labels x)
labels_at x = fold-roll-Stmt Bool ArmLabels labels_layer arm_labels_layer x

scoped_at : (x : Stmt-F Stmt Arm) → stmt_scoped (roll-Stmt x) ≡ scoped_layer (map-Stmt Stmt Arm Scoped (Scope → Bool) stmt_scoped arm_scoped x)
scoped_at x = fold-roll-Stmt Scoped (Scope → Bool) scoped_layer arm_scoped_layer x

declared_at : (scope : Scope) (x : Expr-F Form Target Expr) → names_declared scope (roll-Expr x) ≡ form_names_declared scope x.what
declared_at scope x = fold-roll-Expr Bool Bool Bool form_in (target_in scope) layer_in x

form_declared_at : (scope : Scope) (x : Form-F Form Target Expr) →
    form_names_declared scope (roll-Form x) ≡
    form_in (map-Form Form Target Expr Bool Bool Bool (form_names_declared scope) (target_names_declared scope) (names_declared scope) x)
form_declared_at scope x = fold-roll-Form Bool Bool Bool form_in (target_in scope) layer_in x

target_declared_at : (scope : Scope) (x : Target-F Form Target Expr) →
    target_names_declared scope (roll-Target x) ≡
    target_in scope
    (map-Target Form Target Expr Bool Bool Bool (form_names_declared scope) (target_names_declared scope) (names_declared scope) x)
target_declared_at scope x = fold-roll-Target Bool Bool Bool form_in (target_in scope) layer_in x

module _ (n locals : ℕ) (sizes : ℕ → Option ℕ) (free : ℕ → Bool) where
  named_at : (x : Expr-F Form Target Expr) → is_well_named program n locals sizes free (roll-Expr x) ≡ form_is_well_named program n locals sizes free x.what x.ctype
  named_at x = fold-roll-Expr (CType → Bool) Bool Bool (names_form program n locals sizes free) (names_target program n locals sizes free) (names_layer program n locals sizes free) x

  form_named_at : (x : Form-F Form Target Expr) (t : CType) →
      form_is_well_named program n locals sizes free (roll-Form x) t ≡
      names_form program n locals sizes free
      (map-Form Form Target Expr (CType → Bool) Bool Bool (form_is_well_named program n locals sizes free)
      (target_is_well_named program n locals sizes free) (is_well_named program n locals sizes free) x) t
  form_named_at x t = ap (λ (k : CType → Bool). k t) (fold-roll-Form (CType → Bool) Bool Bool (names_form program n locals sizes free) (names_target program n locals sizes free) (names_layer program n locals sizes free) x)

  target_named_at : (x : Target-F Form Target Expr) →
      target_is_well_named program n locals sizes free (roll-Target x) ≡
      names_target program n locals sizes free
      (map-Target Form Target Expr (CType → Bool) Bool Bool (form_is_well_named program n locals sizes free)
      (target_is_well_named program n locals sizes free) (is_well_named program n locals sizes free) x)
  target_named_at x = fold-roll-Target (CType → Bool) Bool Bool (names_form program n locals sizes free) (names_target program n locals sizes free) (names_layer program n locals sizes free) x

module _ (n locals : ℕ) (sizes : ℕ → Option ℕ) where
  stmt_named_at : (x : Stmt-F Stmt Arm) → stmt_is_well_formed program n locals sizes false (roll-Stmt x) ≡
      stmt_named_layer program n locals sizes false (map-Stmt Stmt Arm Bool Bool (stmt_is_well_formed program n locals sizes false) (arm_is_well_formed program n locals sizes false) x)
  stmt_named_at x = fold-roll-Stmt Bool Bool (stmt_named_layer program n locals sizes false) (arm_named_layer program n locals sizes false) x

  arm_named_at : (x : Arm-F Stmt Arm) → arm_is_well_formed program n locals sizes false (roll-Arm x) ≡
      arm_named_layer program n locals sizes false (map-Arm Stmt Arm Bool Bool (stmt_is_well_formed program n locals sizes false) (arm_is_well_formed program n locals sizes false) x)
  arm_named_at x = fold-roll-Arm Bool Bool (stmt_named_layer program n locals sizes false) (arm_named_layer program n locals sizes false) x

module _ (l : ℕ) where
  abbrev form_local : Form → Bool
  form_local = fold-Form Bool Bool Bool form_names (target_names l) inner_names

  names_at : (x : Expr-F Form Target Expr) → names_local l (roll-Expr x) ≡ form_local x.what
  names_at x = fold-roll-Expr Bool Bool Bool form_names (target_names l) inner_names x

  form_names_at : (x : Form-F Form Target Expr) → form_local (roll-Form x) ≡ form_names (map-Form Form Target Expr Bool Bool Bool form_local (target_names_local l) (names_local l) x)
  form_names_at x = fold-roll-Form Bool Bool Bool form_names (target_names l) inner_names x

  target_names_at : (x : Target-F Form Target Expr) → target_names_local l (roll-Target x) ≡ target_names l (map-Target Form Target Expr Bool Bool Bool form_local (target_names_local l) (names_local l) x)
  target_names_at x = fold-roll-Target Bool Bool Bool form_names (target_names l) inner_names x

-- known functions
module _ (p : Program) where
  abbrev form_known : Form → Bool
  form_known = fold-Form Bool Bool Bool (form_calls_known p) target_in_parts layer_in

  known_at : (x : Expr-F Form Target Expr) → calls_known p (roll-Expr x) ≡ form_known x.what
  known_at x = fold-roll-Expr Bool Bool Bool (form_calls_known p) target_in_parts layer_in x

  form_known_at : (x : Form-F Form Target Expr) → form_known (roll-Form x) ≡ form_calls_known p (map-Form Form Target Expr Bool Bool Bool form_known (target_calls_known p) (calls_known p) x)
  form_known_at x = fold-roll-Form Bool Bool Bool (form_calls_known p) target_in_parts layer_in x

  target_known_at : (x : Target-F Form Target Expr) → target_calls_known p (roll-Target x) ≡ target_in_parts (map-Target Form Target Expr Bool Bool Bool form_known (target_calls_known p) (calls_known p) x)
  target_known_at x = fold-roll-Target Bool Bool Bool (form_calls_known p) target_in_parts layer_in x

module _ (holds : Expr → Bool) where
  abbrev all_arm : Arm → Bool
  all_arm = fold-Arm Bool Bool (all_layer holds) all_arm_layer

  all_at : (x : Stmt-F Stmt Arm) → all_expressions holds (roll-Stmt x) ≡ all_layer holds (map-Stmt Stmt Arm Bool Bool (all_expressions holds) all_arm x)
  all_at x = fold-roll-Stmt Bool Bool (all_layer holds) all_arm_layer x

  all_in : (x : Arm-F Stmt Arm) → all_arm (roll-Arm x) ≡ all_arm_layer (map-Arm Stmt Arm Bool Bool (all_expressions holds) all_arm x)
  all_in x = fold-roll-Arm Bool Bool (all_layer holds) all_arm_layer x

-- counts
expr_nodes_at : (x : Expr-F Form Target Expr) → expr_nodes (roll-Expr x) ≡ 1 + form_nodes x.what
expr_nodes_at x = fold-roll-Expr ℕ ℕ ℕ form_sum target_sum one_more_than x

form_nodes_at : (x : Form-F Form Target Expr) → form_nodes (roll-Form x) ≡ form_sum (map-Form Form Target Expr ℕ ℕ ℕ form_nodes target_nodes expr_nodes x)
form_nodes_at x = fold-roll-Form ℕ ℕ ℕ form_sum target_sum one_more_than x

target_nodes_at : (x : Target-F Form Target Expr) → target_nodes (roll-Target x) ≡ target_sum (map-Target Form Target Expr ℕ ℕ ℕ form_nodes target_nodes expr_nodes x)
target_nodes_at x = fold-roll-Target ℕ ℕ ℕ form_sum target_sum one_more_than x

stmt_nodes_at : (x : Stmt-F Stmt Arm) → stmt_nodes (roll-Stmt x) ≡ stmt_nodes_step (map-Stmt Stmt Arm ℕ ℕ stmt_nodes arm_nodes x)
stmt_nodes_at x = fold-roll-Stmt ℕ ℕ stmt_nodes_step arm_nodes_step x

arm_nodes_at : (x : Arm-F Stmt Arm) → arm_nodes (roll-Arm x) ≡ arm_nodes_step (map-Arm Stmt Arm ℕ ℕ stmt_nodes arm_nodes x)
arm_nodes_at x = fold-roll-Arm ℕ ℕ stmt_nodes_step arm_nodes_step x

-- two functions; `f` has two locals, eight statements, a label, a given value and seven expressions, `main` a statement and two expressions
counted : program_nodes program ≡ 24
counted = simp (stmt_nodes_at, arm_nodes_at, expr_nodes_at, form_nodes_at, target_nodes_at) refl

-- ---- the conditions

f_formed : IsWellFormedFunction program 0 f
f_formed = record {
  parameters_there = omega arith;
  scalars = All-cons (λ (l : Local). l.size ≡ None) an_int [] refl (All-nil _);
  named = simp (stmt_named_at, arm_named_at, named_at, form_named_at, target_named_at, names_at, form_names_at, target_names_at) refl;
  declared = simp (scoped_at, scoped_in, declared_at, form_declared_at, target_declared_at) refl;
  jumps = simp (jumps_at, jumps_in) refl;
  labels = simp (labels_at, labels_in) refl;
  known = simp (all_at, all_in, known_at, form_known_at, target_known_at) refl;
  switches = λ e. absurd (cc);
}

main_formed : IsWellFormedFunction program 1 main
main_formed = record {
  parameters_there = omega arith;
  scalars = All-nil _;
  named = simp (stmt_named_at, named_at, form_named_at) refl;
  declared = simp (scoped_at, declared_at, form_declared_at) refl;
  jumps = simp (jumps_at) refl;
  labels = simp (labels_at) refl;
  known = simp (all_at, known_at, form_known_at) refl;
  switches = λ e. absurd (cc);
}

-- ---- the types

module _ (fn : Function) where
  local_typed : (l : ℕ) → TypedTarget program fn (local l)
  local_typed l = target_made program fn (form.Local l) (form.Local l) refl

  number_typed : (n : ℕ) → IsTypedExpr program fn (number n)
  number_typed n = expr_made program fn int (form.Number n) (form.Number n) refl tt

  call_typed : IsTypedExpr program fn call_f
  call_typed = expr_made program fn int (form.Direct 0 (number 3 ∷ [])) (form.Direct 0 ((number 3, number_typed 3) ∷ [])) refl (f, refl, refl, refl)

local_int : (l : ℕ) → slice_get (local_types f) l ≡ Some int → LvalueHasType program f int (out-Target (local l))
local_int l e = subst (LvalueHasType program f int) (sym (out-roll-Target (form.Local l))) e

read_typed : (l : ℕ) → slice_get (local_types f) l ≡ Some int → IsTypedExpr program f (read l)
read_typed l e = expr_made program f int (form.Read (local l)) (form.Read (local l, local_typed f l)) refl (local_int l e)

clear_typed : IsTypedExpr program f clear_b
clear_typed = expr_made program f int (form.Set (local 1) (number 0)) (form.Set (local 1, local_typed f 1) (number 0, number_typed f 0)) refl (local_int 1 refl, refl)

abbrev S : Stmt → Type 0
S = IsTypedStmt program f

break_typed : S (roll-Stmt stmt.Break)
break_typed = every_made-Stmt (HasTypedParts program f) (λ z. Unit {0}) stmt.Break stmt.Break refl tt

if_typed : S if_a
if_typed =
    every_made-Stmt (HasTypedParts program f) (λ z. Unit {0}) (stmt.If (read 0) (roll-Stmt stmt.Break ∷ []) [])
    (stmt.If (read 0) ((roll-Stmt stmt.Break, break_typed) ∷ []) []) refl (read_typed 0 refl)

set_typed : S set_b
set_typed = every_made-Stmt (HasTypedParts program f) (λ z. Unit {0}) (stmt.Express clear_b) (stmt.Express clear_b) refl clear_typed

abbrev A : Arm → Type 0
A = every-Arm (HasTypedParts program f) (λ z. Unit {0})

case_typed : A case_1
case_typed =
    every_made-Arm (HasTypedParts program f) (λ z. Unit {0}) (record { labels = 1 ∷ []; other = false; body = roll-Stmt stmt.Break ∷ [] })
    (record { labels = 1 ∷ []; other = false; body = (roll-Stmt stmt.Break, break_typed) ∷ [] }) refl tt

default_typed : A default
default_typed =
    every_made-Arm (HasTypedParts program f) (λ z. Unit {0}) (record { labels = []; other = true; body = set_b ∷ [] }) (record { labels = []; other = true; body = (set_b, set_typed) ∷ [] }) refl tt

switch_typed : S switch_a
switch_typed =
    every_made-Stmt (HasTypedParts program f) (λ z. Unit {0}) (stmt.Switch (read 0) (case_1 ∷ default ∷ []))
    (stmt.Switch (read 0) ((case_1, case_typed) ∷ (default, default_typed) ∷ [])) refl (read_typed 0 refl, tt)

declare_typed : S (roll-Stmt (stmt.Clear 1 (read 0 ∷ [])))
declare_typed =
    every_made-Stmt (HasTypedParts program f) (λ z. Unit {0}) (stmt.Clear 1 (read 0 ∷ [])) (stmt.Clear 1 (read 0 ∷ [])) refl
    (int, refl, All-cons (IsTypedAt program f int) (read 0) [] (read_typed 0 refl, refl) (All-nil _))

while_typed : S (roll-Stmt (stmt.While (read 1) (if_a ∷ switch_a ∷ [])))
while_typed =
    every_made-Stmt (HasTypedParts program f) (λ z. Unit {0}) (stmt.While (read 1) (if_a ∷ switch_a ∷ []))
    (stmt.While (read 1) ((if_a, if_typed) ∷ (switch_a, switch_typed) ∷ [])) refl (read_typed 1 refl)

return_typed : S (roll-Stmt (stmt.Return (Some (read 1))))
return_typed = every_made-Stmt (HasTypedParts program f) (λ z. Unit {0}) (stmt.Return (Some (read 1))) (stmt.Return (Some (read 1))) refl (read_typed 1 refl, refl)

f_typed : IsTypedFunction program f
f_typed =
    let last : Stmt = roll-Stmt (stmt.Return (Some (read 1))) in
    let loop : Stmt = roll-Stmt (stmt.While (read 1) (if_a ∷ switch_a ∷ [])) in
    record {
      switches = All-nil _;
      body = All-cons S (roll-Stmt (stmt.Clear 1 (read 0 ∷ []))) (loop ∷ last ∷ []) declare_typed (All-cons S loop (last ∷ []) while_typed (All-cons S last [] return_typed (All-nil S)));
    }

main_typed : IsTypedFunction program main
main_typed = record {
  switches = All-nil _;
  body = All-cons (IsTypedStmt program main) _ [] (every_made-Stmt (HasTypedParts program main) (λ z. Unit {0}) (stmt.Return (Some call_f)) (stmt.Return (Some call_f)) refl (call_typed main, refl)) (All-nil _);
}

-- ---- the whole

formed : (n : ℕ) (g : Function) → slice_get program.functions n ≡ Some g → IsWellFormedFunction program n g
formed zero g e = let same : f ≡ g = cc in subst (IsWellFormedFunction program 0) same f_formed
formed (suc zero) g e = let same : main ≡ g = cc in subst (IsWellFormedFunction program 1) same main_formed
formed (suc (suc n)) g e = absurd (cc)

pub worked_program : IsWellFormed program
worked_program = record {
  typed = record {
    functions = All-cons (IsTypedFunction program) f (main ∷ []) f_typed (All-cons (IsTypedFunction program) main [] main_typed (All-nil _));
    pointers = All-nil _;
    globals = All-nil _;
    entry = record { main = main; defined = refl; bare = refl; result = tt };
  };
  functions = formed;
  globals = All-nil _;
  switches = All-nil _;
  pointers = All-nil _;
  different_pointers = λ i j d lt within. absurd (omega (arith, within));
  entry = λ g e. let same : main ≡ g = cc in ap (λ (x : Function). x.attributed) (sym same);
  limits = record {
    functions = omega arith;
    globals = omega arith;
    parameters = All-cons (λ (g : Function). g.params ≤ 8) f (main ∷ []) (omega arith) (All-cons (λ (g : Function). g.params ≤ 8) main [] (omega arith) (All-nil _));
    pointed_parameters = All-nil _;
    switches = omega arith;
    pointers = omega arith;
    domains = All-nil _;
    own_switches = All-nil _;
    assignments = All-nil _;
    global_elements = All-nil _;
    local_elements =
        All-cons (λ (g : Function). All (λ (l : Local). words_of_size l.size ≤ 262144) g.locals) f (main ∷ [])
        (All-cons (λ (l : Local). words_of_size l.size ≤ 262144) an_int (an_int ∷ []) (omega arith) (All-cons (λ (l : Local). words_of_size l.size ≤ 262144) an_int [] (omega arith) (All-nil _)))
        (All-cons (λ (g : Function). All (λ (l : Local). words_of_size l.size ≤ 262144) g.locals) main [] (All-nil _) (All-nil _));
    nodes = omega (arith, counted);
  };
}
