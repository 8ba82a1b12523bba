-- Lists of types that aren't empty.
use Rattle.std.proofs.Common.{◌≡◌, ◌≤◌, refl, false, List, [], ◌∷◌, length, arith}
use Rattle.mv_ast.specs.declared.program.CType.{CType}
use Rattle.mv_check_scope.specs.Conversions.{same_types}

pub not_none : (types : List CType) → 1 ≤ length types → false ≡ same_types types []
not_none [] some = absurd (omega (arith, some))
not_none (t ∷ types) some = refl
