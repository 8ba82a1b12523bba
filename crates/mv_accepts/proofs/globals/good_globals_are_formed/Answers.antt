use Rattle.mv_accepts.proofs.OfGlobals.Units.{globals_formed}
use Rattle.mv_accepts.proofs.globals.good_globals_are_formed.Goals as goal

pub returns : goal.returns
returns c = globals_formed
