-- The names of locals mean the scalars and the arrays that these are.
use Rattle.std.proofs.Common.{◌≡◌, ℕ, refl, Bool, Some, slice_get}
use Rattle.mv_ast.specs.declared.program.CType.{CType}
use Rattle.mv_ast.specs.declared.program.Program.{Program}
use Rattle.mv_ast.specs.declared.program.Function.{Function}
use Rattle.mv_check_declarations.specs.Locals.{scalar_meaning, array_meaning}
use Rattle.mv_check_declarations.specs.Objects.{scalar, array}
use Rattle.mv_accepts.specs.Bodies.Formed.{IsShaped}

module _ (p : Program) (own : ℕ) (f : Function) where
  pub scalar_shaped : (n : ℕ) (t : CType) (fixed : Bool) → slice_get f.locals n ≡ Some (scalar t) → IsShaped p own f (scalar_meaning n t fixed)
  scalar_shaped n t fixed h = ((scalar t, h, refl), λ s q. absurd (cc))

  pub array_shaped : (n : ℕ) (t : CType) (size : ℕ) (fixed : Bool) → slice_get f.locals n ≡ Some (array t size) → IsShaped p own f (array_meaning n t fixed)
  array_shaped n t size fixed h = (array t size, size, h, refl)
