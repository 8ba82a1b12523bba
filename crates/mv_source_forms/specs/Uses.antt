-- What the expressions of a function name, beside its locals: known functions with their arguments, and switches.
use Rattle.std.specs.Prelude.{ℕ, ◌+◌, Bool, true, ◌&&◌, ◌||◌, not, if◌then◌else◌, length, map, nat_eq, nat_lt}
use Rattle.mv_ast.specs.declared.program.Program.{Program}
use Rattle.mv_ast.specs.declared.program.Function.{Function}
use Rattle.mv_ast.specs.declared.program.Known.{Known}
use Rattle.mv_ast.specs.declared.program.Known.TheVariants.{Getchar, Putchar, Poll, Plan}
use Rattle.mv_ast.specs.declared.program.Expr.{Expr, fold-Expr}
use Rattle.mv_ast.specs.declared.program.Form.{Form-F}
use Rattle.mv_ast.specs.declared.program.Form.TheOpen as form
use Rattle.mv_ast.specs.declared.program.Target.{Target-F, Target, fold-Target}
use Rattle.mv_ast.specs.declared.program.Stmt.{Stmt, Stmt-F, fold-Stmt}
use Rattle.mv_ast.specs.declared.program.Arm.{Arm-F}
use Rattle.mv_ast.specs.Layers.{target_parts, stmt_parts, stmt_expressions}
use Rattle.mv_ast.specs.Switches.{attributed_functions, switch_global}
use Rattle.mv_num.specs.Lists.{is_among}
use Rattle.mv_bindings.specs.OrderNumbers as orders
use Rattle.mv_source_forms.specs.Lists.{all_of}
use Rattle.mv_source_forms.specs.Scopes.{form_in, layer_in}

-- ---- all expressions of a statement

abbrev pub all_layer : (Expr → Bool) → Stmt-F Bool Bool → Bool
all_layer holds s = all_of (map holds (stmt_expressions s)) && all_of (stmt_parts s)

abbrev pub all_arm_layer : Arm-F Bool Bool → Bool
all_arm_layer a = all_of a.body

abbrev pub all_expressions : (Expr → Bool) → Stmt → Bool
all_expressions holds = fold-Stmt Bool Bool (all_layer holds) all_arm_layer

-- ---- known functions

abbrev pub known_parameters : Known → ℕ
known_parameters Getchar = 0
known_parameters Putchar = 1
known_parameters Poll = 0
known_parameters (Plan code index) = 0

-- an order's function is there, or its switch or pointer switch, whose indexes count on behind the switches
abbrev pub order_is_there : Program → (code index : ℕ) → Bool
order_is_there p code index =
    if nat_lt code orders.commit_function then true
    else if nat_lt code orders.commit_references then nat_lt index (length (attributed_functions p))
    else nat_lt code orders.count && nat_lt index (length p.switches + length p.pointers)

abbrev pub known_is_there : Program → Known → Bool
known_is_there p (Plan code index) = order_is_there p code index
known_is_there p _ = true

abbrev pub form_calls_known : Program → Form-F Bool Bool Bool → Bool
form_calls_known p (form.Known k args) = known_is_there p k && (nat_eq (length args) (known_parameters k) && all_of args)
form_calls_known p f = form_in f

abbrev pub target_in_parts : Target-F Bool Bool Bool → Bool
target_in_parts t = all_of (target_parts t)

-- whether the known functions that an expression calls have their arguments
abbrev pub calls_known : Program → Expr → Bool
calls_known p = fold-Expr Bool Bool Bool (form_calls_known p) target_in_parts layer_in

-- the same of an lvalue
abbrev pub target_calls_known : Program → Target → Bool
target_calls_known p = fold-Target Bool Bool Bool (form_calls_known p) target_in_parts layer_in

-- ---- switches

abbrev pub is_switch : Program → ℕ → Bool
is_switch p g = is_among g (map (λ s. s.global) p.switches)

-- whether a global is no switch, or one of a function's
abbrev pub is_own : Program → Function → ℕ → Bool
is_own p f g = not (is_switch p g) || is_among g (map (switch_global p) f.switches)

abbrev pub target_is_own : Program → Function → Target-F Bool Bool Bool → Bool
target_is_own p f (form.Global g) = is_own p f g
target_is_own p f (form.Local l) = true
target_is_own p f (form.GlobalAt g e) = is_own p f g && e
target_is_own p f (form.LocalAt l e) = e

-- whether the switches that an expression names are those of a function
abbrev pub names_own : Program → Function → Expr → Bool
names_own p f = fold-Expr Bool Bool Bool form_in (target_is_own p f) layer_in
