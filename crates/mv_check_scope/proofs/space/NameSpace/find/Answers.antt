use Rattle.std.proofs.Common.{◌∙◌, ap}
use Rattle.mv_check_scope.proofs.BoundNames.{said, is_meaning}
use Rattle.mv_check_scope.proofs.space.NameSpace.find.Goals as goal

pub returns-in-Some : goal.returns-in-Some
returns-in-Some c = ap said c.in-Some.ensures ∙ is_meaning c.args.self.now c.args.name.now

pub returns-in-None : goal.returns-in-None
returns-in-None c = ap said c.in-None.ensures ∙ is_meaning c.args.self.now c.args.name.now
