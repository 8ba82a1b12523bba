use Rattle.std.proofs.Common.{sym}
use Rattle.mv_plain.proofs.PlainTrees.{stays_narrow, narrow_number}
use Rattle.mv_plain.proofs.plain.plain_narrow.Goals as goal

pub returns-in-Some : goal.returns-in-Some
returns-in-Some c = narrow_number c.args.kind c.args.a c.in-Some.n c.narrow.result (sym c.in-Some.ensures) c.narrow.ensures

pub returns-in_ok-new-in-None : goal.returns-in_ok-new-in-None
returns-in_ok-new-in-None c = stays_narrow c.args.kind c.args.a c.in_ok-new-in-None.field-0 c.in_ok-new-in-None.ensures
