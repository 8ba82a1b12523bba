-- The bodies of functions that keep the rules are well formed.
use Rattle.std.specs.Prelude.{◌≡◌, ℕ, ◌+◌, ◌≤◌, true, false, List, length, map, Some, None, nat_lt, slice_get}
use Rattle.mv_ast.specs.declared.program.Known.{Known}
use Rattle.mv_ast.specs.declared.program.Known.TheVariants.{Getchar, Putchar, Poll, Plan}
use Rattle.mv_ast.specs.declared.program.Program.{Program}
use Rattle.mv_ast.specs.declared.program.Function.{Function}
use Rattle.mv_ast.specs.declared.program.Local.{Local}
use Rattle.mv_ast.specs.declared.program.Stmt.{Stmt}
use Rattle.mv_syntax.specs.declared.unit.Line.{Line}
use Rattle.mv_syntax.specs.declared.unit.Param.{Param}
use Rattle.mv_bindings.specs.OrderNumbers as orders
use Rattle.mv_num.specs.Lists.{is_among}
use Rattle.mv_ast.specs.Switches.{attributed_functions}
use Rattle.mv_check_scope.specs.declared.meaning.Meaning.{Meaning}
use Rattle.mv_check_scope.specs.declared.meaning.Meaning.TheVariants as meaning
use Rattle.mv_check_scope.specs.declared.meaning.Storage.{Storage}
use Rattle.mv_check_scope.specs.declared.meaning.Storage.TheVariants as storage
use Rattle.mv_check_scope.specs.declared.scope.Scope.{Scope}
use Rattle.mv_check_scope.specs.Scoped.{meaning_of}
use Rattle.mv_check_expressions.specs.Judged.{Good}
use Rattle.mv_check_declarations.specs.Parameters.{parameters_judgement}
use Rattle.mv_check_statements.specs.Statements.{body_judgement}
use Rattle.mv_source_forms.specs.Lists.{all_of}
use Rattle.mv_source_forms.specs.Names.{is_void, is_own_switch, stmt_is_well_formed, size_in}
use Rattle.mv_source_forms.specs.Jumps.{all_jump, stmt_jumps}
use Rattle.mv_source_forms.specs.Labels.{stmt_labelled}
use Rattle.mv_source_forms.specs.Uses.{all_expressions, calls_known}
use Rattle.mv_accepts.specs.Expressions.Soundness.{Fits}
use Rattle.mv_accepts.specs.Statements.Bodies.{Keeps}

-- ---- what names mean, beside their types: in a program, and in its function with a number

-- a local scalar
abbrev pub IsScalar : Function → Storage → Type 0
IsScalar f (storage.Global g) = Unit {0}
IsScalar f (storage.Local l) = (local : Local) × (slice_get f.locals l ≡ Some local) × (local.size ≡ None)

-- a local array, or a global that is none of the function's switches and no pointer switch
abbrev pub IsArray : Program → ℕ → Function → Storage → Type 0
IsArray p own f (storage.Global g) = (is_own_switch p (slice_get p.functions own) g ≡ false) × (is_among g p.pointers ≡ false)
IsArray p own f (storage.Local l) = (local : Local) × (size : ℕ) × (slice_get f.locals l ≡ Some local) × (local.size ≡ Some size)

-- one of the six kinds of orders
abbrev pub IsKindOfOrder : Known → Type 0
IsKindOfOrder Getchar = Unit {0}
IsKindOfOrder Putchar = Unit {0}
IsKindOfOrder Poll = Unit {0}
IsKindOfOrder (Plan code index) = nat_lt code orders.count ≡ true

-- the switch or pointer switch that an object is and the number of an attributed function are there
abbrev pub IsShaped : Program → ℕ → Function → Meaning → Type 0
IsShaped p own f (meaning.Object v) = IsScalar f v.storage × ((n : ℕ) → v.switch ≡ Some n → nat_lt n (length p.switches + length p.pointers) ≡ true)
IsShaped p own f (meaning.Array a) = IsArray p own f a.storage
IsShaped p own f (meaning.Function r) = (g n : ℕ) → r.number ≡ Some g → r.attributed ≡ Some n → nat_lt n (length (attributed_functions p)) ≡ true
IsShaped p own f (meaning.Enumerator v) = Unit {0}
IsShaped p own f (meaning.Tag n) = Unit {0}
IsShaped p own f (meaning.Known k) = IsKindOfOrder k

abbrev pub AreShaped : Program → ℕ → Function → Scope → Type 0
AreShaped p own f scope = (name : List ℕ) (m : Meaning) → meaning_of scope name ≡ Some m → IsShaped p own f m

-- functions have at least as many locals as parameters
abbrev pub HasParameters : Program → Type 0
HasParameters p = (g : ℕ) (callee : Function) → slice_get p.functions g ≡ Some callee → callee.params ≤ length callee.locals

-- ---- bodies

-- The statements of a function with a number name what there is and call known functions with their arguments, their jumps have targets, and the arms of
-- each `switch` have labels.
pub record IsFormedBehind (p : Program) (own : ℕ) (f : Function) (after : Scope) (ss : List Stmt) : Type 0 where
  pub shaped : AreShaped p own f after
  pub named : all_of (map (stmt_is_well_formed p own (length f.locals) (size_in f.locals) (is_void f.result)) ss) ≡ true
  pub jumps : all_jump (map stmt_jumps ss) false false ≡ true
  pub labels : all_of (map stmt_labelled ss) ≡ true
  pub known : all_of (map (all_expressions (calls_known p)) ss) ≡ true

abbrev pub BodyIsFormed : Type 0
BodyIsFormed =
    (p : Program) (own : ℕ) (f : Function) (body : Line) (before after : Scope) (ss : List Stmt) → body_judgement f.result body before ≡ Good (after, ss) →
    Keeps after.signatures p.signatures → Keeps after.locals f.locals → HasParameters p → Fits p f before → AreShaped p own f before → IsFormedBehind p own f after ss

-- What names mean is so behind the parameters of a function that is defined, if it is so before them.
abbrev pub ParametersAreShaped : Type 0
ParametersAreShaped =
    (p : Program) (own : ℕ) (f : Function) (params : List Param) (before after : Scope) → parameters_judgement before params ≡ Good after →
    Keeps after.signatures p.signatures → Keeps after.locals f.locals → Fits p f before → AreShaped p own f before → AreShaped p own f after
