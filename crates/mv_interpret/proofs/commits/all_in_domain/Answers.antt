use Rattle.std.proofs.Common.{◌∙◌, sym, arith}
use Rattle.mv_interpret.proofs.Committing.{all_in_domain-end}
use Rattle.mv_interpret.proofs.commits.all_in_domain.Goals as goal

pub returns-then-i-values : goal.returns-then-i-values
returns-then-i-values c =
    sym (all_in_domain-end c.args.program.now c.args.switches.now c.args.values.now c.loop-i.i (omega arith) c.if-i-values.true) ∙ c.loop-i.invariant
