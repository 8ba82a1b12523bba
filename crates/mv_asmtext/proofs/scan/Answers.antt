use Rattle.mv_asmtext.proofs.FittingCode.{read_fits}
use Rattle.mv_asmtext.proofs.scan.Goals as goal

pub returns-in-Ok-clause-fits : goal.returns-in-Ok-clause-fits
returns-in-Ok-clause-fits c = read_fits c.args.text.now c.in-Ok.code c.in-Ok.ensures
