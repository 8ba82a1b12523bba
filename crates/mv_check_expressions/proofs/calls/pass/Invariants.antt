use Rattle.std.proofs.Common.{◌≡◌, ◌++◌, ◌&&◌, length}
use Rattle.std.specs.Vec.Iter.{into_iter_items, into_iter_len}
use Rattle.mv_check_expressions.specs.Calls.{passed, all_convert}
use Rattle.mv_check_expressions.proofs.calls.pass.Given as goal

abbrev pub invariant-loop-arg : goal.invariant-loop-arg
invariant-loop-arg l = record {
  values : passed l.fn.params l.fn.args ≡ l.values ++ passed l.params (into_iter_items l.arg-iterator);
  convert : all_convert l.fn.params l.fn.args ≡ (l.convert && all_convert l.params (into_iter_items l.arg-iterator));
  counted : into_iter_len l.arg-iterator ≡ length (into_iter_items l.arg-iterator);
}
