use Rattle.std.proofs.Common.{◌≡◌, ◌≤◌, is_some, count_by, take}
use Rattle.mv_types.proofs.counts.count_defined.Given as goal

abbrev pub invariant-loop-function : goal.invariant-loop-function
invariant-loop-function l = record {
  few : l.count ≤ l.function-index;
  counted : l.count ≡ count_by (λ f. is_some f) (take l.function-index l.functions);
}
