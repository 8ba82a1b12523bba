use Rattle.std.proofs.Common.{sym, ◌∙◌}
use Rattle.mv_check_limits.specs.Limits.{global_sizes, local_sizes}
use Rattle.mv_check_limits.proofs.Turns.{in_first, in_second}
use Rattle.mv_check_limits.proofs.counts.all_elements.Goals as goal

pub returns-in-Some : goal.returns-in-Some
returns-in-Some c = in_first 262144 c.in-Some.count (global_sizes c.args.program.now) (local_sizes c.args.program.now) (sym c.in-Some.is ∙ c.global_elements.ensures)

pub returns-in-None : goal.returns-in-None
returns-in-None c = c.local_elements.ensures ∙ in_second 262144 (global_sizes c.args.program.now) (local_sizes c.args.program.now) (sym c.in-None.is ∙ c.global_elements.ensures)
