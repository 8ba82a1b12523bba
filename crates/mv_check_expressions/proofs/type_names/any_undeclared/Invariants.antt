use Rattle.std.proofs.Common.{◌≡◌, drop, map}
use Rattle.mv_check_expressions.specs.TypeNames.{undeclared_enum}
use Rattle.mv_check_expressions.proofs.type_names.any_undeclared.Given as goal
use Rattle.mv_ast.specs.Names.{any_of}

abbrev pub invariant-loop-e : goal.invariant-loop-e
invariant-loop-e l = any_of (map (undeclared_enum l.scope) l.enums) ≡ any_of (map (undeclared_enum l.scope) (drop l.e-index l.enums))
