use Rattle.mv_ir.proofs.Reaching.{program_reaches}
use Rattle.mv_ir.proofs.laws.ends_are_reached.Goals as goal

pub returns : goal.returns
returns c p numbers program main bound w = program_reaches p numbers program main bound w
