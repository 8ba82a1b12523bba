use Rattle.std.proofs.Common.{sym, arith}
use Rattle.mv_interpret.proofs.OwnNumbers.{own_number, no_number}
use Rattle.mv_interpret.proofs.numbers.number_of.Goals as goal

pub returns-then-function-len : goal.returns-then-function-len
returns-then-function-len c = sym (own_number c.args.program.now c.args.function (omega arith))

pub returns-else-function-len : goal.returns-else-function-len
returns-else-function-len c = sym (no_number c.args.program.now c.args.function (omega arith))
