use Rattle.std.proofs.Common.{sym}
use Rattle.mv_select_code.proofs.OfStatements.Powers.{power_found}
use Rattle.mv_select_code.proofs.statements.instructions.+power_below.Goals as goal

pub returns-then-n-k : goal.returns-then-n-k
returns-then-n-k m c = sym (power_found c.args.bound c.args.n c.if-bound-eq0.false c.requires c.if-n-k.true)
