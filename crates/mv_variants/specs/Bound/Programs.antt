-- The bodies that are made of the functions of a program, whatever the short bodies are that stand in place of calls.
use Rattle.std.specs.Prelude.{ℕ, List}
use Rattle.mv_ast.specs.declared.program.Program.{Program}
use Rattle.mv_ast.specs.declared.program.Function.{Function}
use Rattle.mv_ir.specs.declared.body.Body.{Body}
use Rattle.mv_ir.specs.Shorts.{Shorts}
use Rattle.mv_lower_spec.specs.Functions.{lower_function}
use Rattle.mv_variants.specs.Bound.Shorts.{AreShortsOf}
use Rattle.mv_variants.specs.Bound.Meant.{IsMadeUnder}
use Rattle.mv_variants.specs.Bound.General.{IsGeneral}

-- the body of which a function's own code is made
pub record IsGeneralOf (p : Program) (g : Function) (b : Body) : Type 0 where
  pub shorts : Shorts
  pub known : AreShortsOf p shorts
  pub general : IsGeneral shorts (lower_function p g) b

-- one that is made under values of its switches
pub record IsMadeOf (p : Program) (g : Function) (ps : List (ℕ × ℕ)) (b : Body) : Type 0 where
  pub shorts : Shorts
  pub known : AreShortsOf p shorts
  pub made : IsMadeUnder shorts ps (lower_function p g) b
