use Rattle.std.proofs.Common.{◌≡◌, drop, map}
use Rattle.mv_ast.specs.Names.{any_of, names_local}
use Rattle.mv_source_forms.proofs.names.+names.Given as goal

abbrev pub invariant-any_names-loop-e : goal.invariant-any_names-loop-e
invariant-any_names-loop-e l = any_of (map (names_local l.l) (drop l.e-index l.e-items)) ≡ any_of (map (names_local l.l) l.e-items)
