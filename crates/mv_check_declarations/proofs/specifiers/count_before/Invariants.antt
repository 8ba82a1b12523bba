use Rattle.std.proofs.Common.{◌≡◌, ◌+◌, drop}
use Rattle.mv_check_declarations.specs.Specifiers.{count_before}
use Rattle.mv_check_declarations.proofs.specifiers.count_before.Given as goal

abbrev pub invariant-loop-mark : goal.invariant-loop-mark
invariant-loop-mark l = record {
  counted : l.count ≡ l.mark-index;
  rest : count_before l.place l.marks ≡ l.count + count_before l.place (drop l.mark-index l.marks);
}
