use Rattle.std.proofs.Common.{◌≡◌, ◌≤◌, length, drop}
use Rattle.mv_check_declarations.specs.Turns.{through}
use Rattle.mv_check_declarations.specs.Specifiers.{enum_specifier, nothing_said}
use Rattle.mv_check_declarations.proofs.specifiers.enum_specifiers.Given as goal

abbrev pub invariant-loop-tag : goal.invariant-loop-tag
invariant-loop-tag l = record {
  within : l.said.used ≤ length l.marks;
  rest :
      through (enum_specifier l.holder l.kind l.marks) l.tags (l.fn.scope, nothing_said) ≡
      through (enum_specifier l.holder l.kind l.marks) (drop l.tag-index l.tags) (l.scope, l.said);
}
