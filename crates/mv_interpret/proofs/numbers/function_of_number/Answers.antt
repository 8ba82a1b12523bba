use Rattle.std.proofs.Common.{sym, arith}
use Rattle.mv_interpret.proofs.OwnNumbers.{function_found, function_of_null, function_missing}
use Rattle.mv_interpret.proofs.numbers.function_of_number.Goals as goal

pub returns-then-number-eq0 : goal.returns-then-number-eq0
returns-then-number-eq0 c = sym (function_of_null c.args.program.now c.args.number (omega arith))

pub returns-then-number-len : goal.returns-then-number-len
returns-then-number-len c = sym (function_found c.args.program.now c.args.number (omega arith) (omega arith))

pub returns-else-number-len : goal.returns-else-number-len
returns-else-number-len c = sym (function_missing c.args.program.now c.args.number (omega arith))
