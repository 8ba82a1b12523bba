use Rattle.std.proofs.Common.{sym}
use Rattle.mv_plain.proofs.PlainTrees.{stays_unary, unary_number}
use Rattle.mv_plain.proofs.plain.plain_unary.Goals as goal

pub returns-in-Some : goal.returns-in-Some
returns-in-Some c = unary_number c.args.operator c.args.a c.in-Some.n c.unary.result (sym c.in-Some.ensures) c.unary.ensures

pub returns-in_ok-new-in-None : goal.returns-in_ok-new-in-None
returns-in_ok-new-in-None c = stays_unary c.args.operator c.args.a c.in_ok-new-in-None.field-0 c.in_ok-new-in-None.ensures
