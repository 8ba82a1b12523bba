-- The limits on a program whose parts stand in the order of its text.
use Rattle.std.specs.Prelude.{ℕ, Bool, false, if◌then◌else◌, List, [], ◌∷◌, ◌++◌, map, length, nat_eq, Option, Some, None, unwrap_or}
use Rattle.std.specs.List.{concat}
use Rattle.std.specs.Cmp.Lexicographic.{pointwise}
use Rattle.mv_num.specs.Limits.{parameter_limit}
use Rattle.mv_ast.specs.declared.program.Function.{Function}
use Rattle.mv_ast.specs.declared.program.Global.{Global}
use Rattle.mv_ast.specs.declared.program.Program.{Program}
use Rattle.mv_syntax.specs.declared.unit.Unit as unit
use Rattle.mv_syntax.specs.declared.unit.Item.{Item}
use Rattle.mv_syntax.specs.declared.unit.Declarator.{Declarator, Declarator-F, fold-Declarator}
use Rattle.mv_syntax.specs.declared.unit.Shape.{Shape, Shape-F, fold-Shape}
use Rattle.mv_syntax.specs.declared.unit.Shape.TheOpen as shape
use Rattle.mv_syntax.specs.declared.unit.Param.{Param, Param-F, fold-Param}
use Rattle.mv_syntax.specs.declared.unit.Line.{Line, Line-F, fold-Line}
use Rattle.mv_syntax.specs.declared.unit.Act.{Act, Act-F, fold-Act}
use Rattle.mv_syntax.specs.declared.unit.Act.TheOpen as act
use Rattle.mv_ast.specs.Counts.{elements_of}
use Rattle.mv_check_limits.specs.declared.counts.Counts.{Counts}
use Rattle.mv_check_limits.specs.declared.excess.Exceeded.{Exceeded}
use Rattle.mv_check_limits.specs.Limits.{Limit, functions_limit, globals_limit, parameters_limit, switches_limit, values_limit, switches_of_function_limit, assignments_limit, elements_limit, pointers_limit, first_above, excess, first_some}

-- ---- parameters: a function, or a pointer to one, is declared before its parameters are

abbrev pub of_type : List (List ℕ) → List ℕ
of_type params = length params ∷ concat params

abbrev pub shape_layer : Shape-F (List ℕ) (List ℕ) (List ℕ) → List ℕ
shape_layer shape.Plain = []
shape_layer (shape.Array size) = []
shape_layer (shape.Function params) = of_type params
shape_layer (shape.Pointer constant params) = of_type params
shape_layer (shape.PointerArray constant size params) = of_type params

abbrev pub declarator_layer : Declarator-F (List ℕ) (List ℕ) (List ℕ) → List ℕ
declarator_layer d = d.shape

abbrev pub param_layer : Param-F (List ℕ) (List ℕ) (List ℕ) → List ℕ
param_layer p = p.name

unfoldable pub shape_parameters : Shape → List ℕ
shape_parameters = fold-Shape (List ℕ) (List ℕ) (List ℕ) shape_layer declarator_layer param_layer

unfoldable pub declarator_parameters : Declarator → List ℕ
declarator_parameters = fold-Declarator (List ℕ) (List ℕ) (List ℕ) shape_layer declarator_layer param_layer

unfoldable pub param_parameters : Param → List ℕ
param_parameters = fold-Param (List ℕ) (List ℕ) (List ℕ) shape_layer declarator_layer param_layer

-- the declarators of a body, through all its statements
abbrev pub act_layer : Act-F (List ℕ) (List ℕ) → List ℕ
act_layer (act.Block lines) = concat lines
act_layer (act.Declare specs names) = concat (map declarator_parameters names)
act_layer (act.Express e) = []
act_layer (act.If e first second) = first ++ unwrap_or second []
act_layer (act.While e body) = body
act_layer (act.Do body e) = body
act_layer (act.For first test step body) = unwrap_or first [] ++ body
act_layer (act.Switch e body) = body
act_layer (act.Case e) = []
act_layer act.Default = []
act_layer act.Break = []
act_layer act.Continue = []
act_layer (act.Return e) = []

abbrev pub line_layer : Line-F (List ℕ) (List ℕ) → List ℕ
line_layer l = l.what

unfoldable pub line_parameters : Line → List ℕ
line_parameters = fold-Line (List ℕ) (List ℕ) act_layer line_layer

unfoldable pub act_parameters : Act → List ℕ
act_parameters = fold-Act (List ℕ) (List ℕ) act_layer line_layer

abbrev pub optional_parameters : Option Line → List ℕ
optional_parameters None = []
optional_parameters (Some line) = line_parameters line

abbrev pub item_parameters : Item → List ℕ
item_parameters i = concat (map declarator_parameters i.names) ++ optional_parameters i.body

abbrev pub unit_parameters : unit.Unit → List ℕ
unit_parameters u = concat (map item_parameters u.items)

-- ---- elements: those of a global where its name is declared, and those of a function's locals where it is defined

abbrev pub has_name : List ℕ → Option (List ℕ) → Bool
has_name name None = false
has_name name (Some declared) = pointwise nat_eq name declared

abbrev pub global_elements : Option (List ℕ) → Global → List ℕ
global_elements name g = if has_name g.name name then elements_of g.size ∷ [] else []

abbrev pub local_elements : Option (List ℕ) → Function → List ℕ
local_elements name f = if has_name f.name name then map (λ l. elements_of l.size) f.locals else []

-- a block behind a declarator defines the function
abbrev pub declarator_elements : Program → Option Line → Declarator → List ℕ
declarator_elements p None d = concat (map (global_elements d.name) p.globals)
declarator_elements p (Some body) d = concat (map (local_elements d.name) p.functions)

abbrev pub item_elements : Program → Item → List ℕ
item_elements p i = concat (map (declarator_elements p i.body) i.names)

abbrev pub unit_elements : unit.Unit → Program → List ℕ
unit_elements u p = concat (map (item_elements p) u.items)

-- ---- the limits

-- The counts of a limit as the text has them, and behind them those of the program, which decide nothing where the unit breaks no rule: the text tells what
-- its program exceeds.
abbrev pub in_text : List ℕ → Limit → Limit
in_text told l = record l { counts = told ++ l.counts }

abbrev pub ordered_parameters : unit.Unit → Program → Limit
ordered_parameters u p = in_text (unit_parameters u) (parameters_limit p)

abbrev pub ordered_elements : unit.Unit → Program → Limit
ordered_elements u p = in_text (unit_elements u p) (elements_limit p)

abbrev pub ordered_limits : unit.Unit → Program → List Limit
ordered_limits u p =
    functions_limit p ∷
    globals_limit p ∷
    ordered_parameters u p ∷
    switches_limit p ∷
    values_limit p ∷
    switches_of_function_limit p ∷
    assignments_limit p ∷
    ordered_elements u p ∷
    pointers_limit p ∷
    []

-- the least limit that the program of a unit exceeds, with the first count in the order of the text that exceeds it
abbrev pub first_excess : unit.Unit → Program → Option Exceeded
first_excess u p = first_some (map excess (ordered_limits u p))

-- ---- limits 1 to 4, which a few counts of a unit and its program decide

abbrev pub counts_of : unit.Unit → Program → Counts
counts_of u p = record {
  functions = length p.functions;
  globals = length p.globals;
  parameters = first_above parameter_limit (ordered_parameters u p).counts;
  switches = length p.switches;
}

-- ---- limits 5 to 9, for which the program itself is looked at

abbrev pub exceeded_by_contents : unit.Unit → Program → Option Exceeded
exceeded_by_contents u p =
    first_some (map excess (values_limit p ∷ switches_of_function_limit p ∷ assignments_limit p ∷ ordered_elements u p ∷ pointers_limit p ∷ []))
