use Rattle.mv_select.proofs.OfFunctions.Alone.{functions_keep, later_keeps, main_keeps}
use Rattle.mv_select.proofs.OfFunctions.EncodedFrames.{frames_encoded}
use Rattle.mv_select.proofs.functions.laws.function_code_law.Goals as goal

pub returns-clause-each : goal.returns-clause-each
returns-clause-each g c = functions_keep _

pub returns-clause-later : goal.returns-clause-later
returns-clause-later g c = later_keeps _

pub returns-clause-main : goal.returns-clause-main
returns-clause-main g c = main_keeps _

pub returns-clause-encoded : goal.returns-clause-encoded
returns-clause-encoded g c = frames_encoded
