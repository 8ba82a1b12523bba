-- Well-formed programs: what a checked program is.
use Rattle.std.specs.Prelude.{◌≡◌, ◌≢◌, ℕ, ◌+◌, ◌≤◌, All, AllPairs, true, false, length, map, sum, take, Some, None, nat_lt, slice_get}
use Rattle.mv_num.specs.Limits.{function_limit, global_limit, parameter_limit, switch_limit, pointer_limit, value_limit, own_switch_limit, assignment_limit, element_limit, node_limit}
use Rattle.mv_ast.specs.declared.program.Program.{Program}
use Rattle.mv_ast.specs.declared.program.Global.{Global}
use Rattle.mv_ast.specs.declared.program.Switch.{Switch}
use Rattle.mv_ast.specs.declared.program.Function.{Function}
use Rattle.mv_ast.specs.Actions.{is_value_of}
use Rattle.mv_ast.specs.Counts.{words_of_size, nodes, assignments}
use Rattle.mv_ast.specs.Switches.{attributed_functions}
use Rattle.mv_source_forms.specs.Typing.{IsInteger, IsTyped}
use Rattle.mv_source_forms.specs.Lists.{all_of}
use Rattle.mv_source_forms.specs.Names.{is_void, stmt_is_well_formed, size_in}
use Rattle.mv_source_forms.specs.Jumps.{all_jump, stmt_jumps}
use Rattle.mv_source_forms.specs.Labels.{stmt_labelled}
use Rattle.mv_source_forms.specs.Scopes.{Scope, all_scoped, stmt_scoped}
use Rattle.mv_source_forms.specs.Uses.{all_expressions, calls_known, names_own}

-- the parameters of a function
abbrev pub parameters : Function → Scope
parameters g l = nat_lt l g.params

-- The function with a number: its parameters are its first locals, and scalars; what its statements name is there and is declared; no `break` or `continue`
-- stands outside a loop or a `switch`; the arms of each `switch` behind its first have labels; and the switches of an attributed one are all that it names.
pub record IsWellFormedFunction (p : Program) (f : ℕ) (g : Function) : Type 0 where
  pub parameters_there : g.params ≤ length g.locals
  pub scalars : All (λ l. l.size ≡ None) (take g.params g.locals)
  pub named : all_of (map (stmt_is_well_formed p f (length g.locals) (size_in g.locals) (is_void g.result)) g.body) ≡ true
  pub declared : all_scoped (map stmt_scoped g.body) (parameters g) ≡ true
  pub jumps : all_jump (map stmt_jumps g.body) false false ≡ true
  pub labels : all_of (map stmt_labelled g.body) ≡ true
  pub known : all_of (map (all_expressions (calls_known p)) g.body) ≡ true
  pub switches : g.attributed ≡ true → all_of (map (all_expressions (names_own p g)) g.body) ≡ true

-- a global is given no more values than it has words, an integer values of its type
pub record IsWellFormedGlobal (g : Global) : Type 0 where
  pub given : length g.first ≤ words_of_size g.size
  pub values : IsInteger g.ctype → All (λ v. is_value_of g.ctype v ≡ true) g.first

-- a switch is a global scalar, and its values are different values of its type
pub record IsWellFormedSwitch (p : Program) (s : Switch) : Type 0 where
  pub global : Global
  pub there : slice_get p.globals s.global ≡ Some global
  pub scalar : global.size ≡ None
  pub values : All (λ v. is_value_of global.ctype v ≡ true) s.values
  pub different : AllPairs (λ m n. m ≢ n) s.values

-- a pointer switch is a global scalar
pub record IsWellFormedPointer (p : Program) (g : ℕ) : Type 0 where
  pub global : Global
  pub there : slice_get p.globals g ≡ Some global
  pub scalar : global.size ≡ None

-- expressions, statements, labels, declared names, parameters and given values
abbrev pub program_nodes : Program → ℕ
program_nodes p = length p.functions + sum (map nodes p.functions) + (length p.globals + sum (map (λ g. length g.first) p.globals))

-- the limits on what a source declares, and on the size of the program
pub record IsWithinLimits (p : Program) : Type 0 where
  pub functions : length p.functions ≤ function_limit
  pub globals : length p.globals ≤ global_limit
  pub parameters : All (λ g. g.params ≤ parameter_limit) p.functions
  pub pointed_parameters : All (λ s. length s.params ≤ parameter_limit) p.signatures
  pub switches : length p.switches ≤ switch_limit
  pub pointers : length p.pointers ≤ pointer_limit
  pub domains : All (λ s. length s.values ≤ value_limit) p.switches
  pub own_switches : All (λ g. length g.switches ≤ own_switch_limit) (attributed_functions p)
  pub assignments : All (λ g. assignments p g ≤ assignment_limit) (attributed_functions p)
  pub global_elements : All (λ g. words_of_size g.size ≤ element_limit) p.globals
  pub local_elements : All (λ g. All (λ l. words_of_size l.size ≤ element_limit) g.locals) p.functions
  pub nodes : program_nodes p ≤ node_limit

-- A program is well formed where it is well typed, its functions, globals, switches and pointer switches are well formed, no pointer switch stands twice, `main`
-- isn't attributed, and it is within the limits.
pub record IsWellFormed (p : Program) : Type 0 where
  pub typed : IsTyped p
  pub functions : (f : ℕ) (g : Function) → slice_get p.functions f ≡ Some g → IsWellFormedFunction p f g
  pub globals : All IsWellFormedGlobal p.globals
  pub switches : All (IsWellFormedSwitch p) p.switches
  pub pointers : All (IsWellFormedPointer p) p.pointers
  pub different_pointers : AllPairs (λ g h. g ≢ h) p.pointers
  pub entry : (g : Function) → slice_get p.functions p.main ≡ Some g → g.attributed ≡ false
  pub limits : IsWithinLimits p
