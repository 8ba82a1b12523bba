-- How the functions of a unit are defined.
use Rattle.std.specs.Prelude.{◌≡◌, ℕ, List, Some, slice_get}
use Rattle.mv_ast.specs.declared.program.CType.{CType}
use Rattle.mv_ast.specs.declared.program.Function.{Function}
use Rattle.mv_syntax.specs.declared.unit.Line.{Line}
use Rattle.mv_syntax.specs.declared.unit.Param.{Param}
use Rattle.mv_check_scope.specs.declared.scope.Scope.{Scope}
use Rattle.mv_check_expressions.specs.Judged.{Good}
use Rattle.mv_types.specs.declared.contents.Contents.{Contents}
use Rattle.mv_types.specs.declared.contents.Foreknown.{Foreknown}
use Rattle.mv_types.specs.Contents.{in_scope}
use Rattle.mv_types.specs.Functions.{function_of}
use Rattle.mv_accepts.specs.Names.Declared.{Extends, IsSound}

-- a function that was defined in earlier contents
pub record WasDefined (k : Foreknown) (c : Contents) (f : Function) : Type 0 where
  pub before : Contents
  pub behind : Scope
  pub name : List ℕ
  pub result : CType
  pub params : List Param
  pub body : Line
  pub sound : IsSound k before
  pub judged : function_of k name result params body before.scope ≡ Good (behind, f)
  pub extends : Extends before c
  pub extends_behind : Extends (in_scope before behind) c

abbrev pub WereDefined : Foreknown → Contents → Type 0
WereDefined k c = (g : ℕ) (f : Function) → slice_get c.functions g ≡ Some (Some f) → WasDefined k c f
