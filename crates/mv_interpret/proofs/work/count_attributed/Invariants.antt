use Rattle.std.proofs.Common.{◌≡◌, ◌≤◌, take, filter, length}
use Rattle.mv_interpret.proofs.work.count_attributed.Given as goal

abbrev pub invariant-loop-f : goal.invariant-loop-f
invariant-loop-f l = record {
  few : l.number ≤ l.f-index;
  number : l.number ≡ length (filter (λ f. f.attributed) (take l.f-index l.f-items));
}
