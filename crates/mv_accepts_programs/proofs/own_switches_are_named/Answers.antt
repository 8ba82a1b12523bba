use Rattle.mv_accepts_programs.proofs.SwitchStatements.{body_owns}
use Rattle.mv_accepts_programs.proofs.own_switches_are_named.Goals as goal

pub returns : goal.returns
returns c = body_owns
