use Rattle.mv_rv32.proofs.Offsets.{branch_offset}
use Rattle.mv_rv32.proofs.field.imm_b.Goals as goal

pub returns : goal.returns
returns c = branch_offset c.args.word c.ranges.word.fits
