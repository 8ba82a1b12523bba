-- The bodies of functions that keep the rules are well typed.
use Rattle.std.specs.Prelude.{◌≡◌, ℕ, ◌++◌, All, List, length, Some, None, slice_get}
use Rattle.mv_ast.specs.declared.program.CType.{CType}
use Rattle.mv_ast.specs.declared.program.Program.{Program}
use Rattle.mv_ast.specs.declared.program.Function.{Function}
use Rattle.mv_ast.specs.declared.program.Local.{Local}
use Rattle.mv_ast.specs.declared.program.Signature.{Signature}
use Rattle.mv_ast.specs.declared.program.Stmt.{Stmt}
use Rattle.mv_syntax.specs.declared.unit.Line.{Line}
use Rattle.mv_syntax.specs.declared.unit.Param.{Param}
use Rattle.mv_check_scope.specs.declared.scope.Scope.{Scope}
use Rattle.mv_check_expressions.specs.Judged.{Good}
use Rattle.mv_check_declarations.specs.Parameters.{parameters_judgement}
use Rattle.mv_source_forms.specs.Typing.{IsTypedStmt}
use Rattle.mv_check_statements.specs.Statements.{body_judgement}
use Rattle.mv_accepts.specs.Expressions.Soundness.{IsListed, Fits}

-- a list has what another has, at the same places
abbrev pub Keeps : {A : Type 0} → List A → List A → Type 0
Keeps {A} xs ys = (i : ℕ) (x : A) → slice_get xs i ≡ Some x → slice_get ys i ≡ Some x

-- the results of functions are listed where they are pointers
abbrev pub AreListed : List Signature → Type 0
AreListed signatures = (s : ℕ) (signature : Signature) → slice_get signatures s ≡ Some signature → IsListed signatures signature.result

-- From one scope to a later one: locals, signatures and enumerations keep their numbers, and the blocks around are the same.
pub record Grows (before after : Scope) : Type 0 where
  pub locals : Keeps before.locals after.locals
  pub signatures : Keeps before.signatures after.signatures
  pub enumerations : Keeps before.enumerations after.enumerations
  pub around : after.names.around ≡ before.names.around
  pub tags : after.tags.around ≡ before.tags.around
  pub results : AreListed before.signatures → AreListed after.signatures

-- A body that keeps the rules only adds to the scope before it.
abbrev pub BodyGrows : Type 0
BodyGrows = (t : CType) (body : Line) (before after : Scope) (ss : List Stmt) → body_judgement t body before ≡ Good (after, ss) → Grows before after

-- In a program that has the signatures behind the body, and a function that has the locals behind it, what the scope says holds behind the body if it
-- holds before it, and the statements are well typed.
pub record IsTypedBehind (p : Program) (f : Function) (after : Scope) (ss : List Stmt) : Type 0 where
  pub fits : Fits p f after
  pub statements : All (IsTypedStmt p f) ss

abbrev pub BodyIsTyped : Type 0
BodyIsTyped =
    (p : Program) (f : Function) (body : Line) (before after : Scope) (ss : List Stmt) → body_judgement f.result body before ≡ Good (after, ss) →
    Keeps after.signatures p.signatures → Keeps after.locals f.locals → Fits p f before → IsTypedBehind p f after ss

-- ---- parameters

-- so many scalars come behind the locals
abbrev pub AddsScalars : ℕ → Scope → Scope → Type 0
AddsScalars n before after = (more : List Local) × (after.locals ≡ before.locals ++ more) × (length more ≡ n) × All (λ l. l.size ≡ None) more

-- The parameters of a function that is defined are scalars, and what the scope says holds behind them if it holds before them.
pub record AreParameters (before after : Scope) (n : ℕ) : Type 0 where
  pub grows : Grows before after
  pub scalars : AddsScalars n before after
  pub fits : (p : Program) (f : Function) → Keeps after.signatures p.signatures → Keeps after.locals f.locals → Fits p f before → Fits p f after

abbrev pub ParametersFit : Type 0
ParametersFit = (params : List Param) (before after : Scope) → parameters_judgement before params ≡ Good after → AreParameters before after (length params)
