use Rattle.std.proofs.Common.{arith, ap, length}
use Rattle.mv_parts.proofs.Numbers.{numbers_step}
use Rattle.mv_parts.proofs.attributed.attributed_numbers.Goals as goal

pub overflow_add-number : goal.overflow_add-number
overflow_add-number c = omega (arith, ap length c.as_slice-function-items.ensures, c.loop-function.invariant.place, c.requires)

pub loop-function-preserved : goal.loop-function-preserved
loop-function-preserved c = record {
  place = omega (arith, c.loop-function.invariant.place);
  numbers =
      numbers_step c.as_slice-function-items.result.now c.loop-function.function-index c.loop-function.number c.function-item.result c.loop-function.numbers c.push_number.new.numbers
      c.loop-function-test.true c.loop-function.invariant.place c.function-item.is c.loop-function.invariant.numbers c.in_ok-push_number.ensures;
}
