use Rattle.std.proofs.Common.{rules}
use Rattle.mv_probe.proofs.Logs.{told_nothing}
use Rattle.mv_machine.proofs.Telling.{changed_told, unchanged_told}
use Rattle.mv_machine.proofs.plans.tell_change.Goals as goal

pub returns-then-ne : goal.returns-then-ne
returns-then-ne g c = changed_told _ _ c.args.function c.args.old.now c.args.new.now c.args.probes.now.items c.tell_all.new.probes.items (search rules) c.tell_all.ensures

pub returns-else-ne : goal.returns-else-ne
returns-else-ne g c = unchanged_told _ _ c.args.function c.args.old.now c.args.new.now c.args.probes.now.items c.args.probes.now.items (search rules) (told_nothing _ _ c.args.probes.now.items c.requires)
