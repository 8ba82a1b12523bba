use Rattle.mv_plain.proofs.PlainCode.{callee_stays, callee_through}
use Rattle.mv_plain.proofs.plain.plain_callee.Goals as goal

pub returns-in-Direct : goal.returns-in-Direct
returns-in-Direct c = callee_stays c.args.callee.now _ c.in-Direct.is

pub returns-in_ok-plain_tree-in-Through : goal.returns-in_ok-plain_tree-in-Through
returns-in_ok-plain_tree-in-Through c =
    callee_through c.args.callee.now c.in-Through.t c.in_ok-plain_tree-in-Through.field-0 c.in-Through.is c.in_ok-plain_tree-in-Through.ensures

pub returns-in-Switched : goal.returns-in-Switched
returns-in-Switched c = callee_stays c.args.callee.now _ c.in-Switched.is

pub returns-in-Expanded : goal.returns-in-Expanded
returns-in-Expanded c = callee_stays c.args.callee.now _ c.in-Expanded.is
