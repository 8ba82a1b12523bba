use Rattle.std.proofs.Common.{sym}
use Rattle.mv_regalloc.proofs.Putting.{item_none}
use Rattle.mv_regalloc.proofs.told.item.Goals as goal

pub returns-in-None : goal.returns-in-None
returns-in-None c = sym (item_none c.args.items.now c.args.place (sym c.in-None.ensures))
