use Rattle.mv_harts_one.proofs.Words.{elsewhere, stands_as_called}
use Rattle.mv_harts_one.proofs.glance.place_at.Goals as goal

pub returns-then-word-eq-ECALL : goal.returns-then-word-eq-ECALL
returns-then-word-eq-ECALL c = stands_as_called c.args.word _ _ c.if-word-eq-ECALL.true c.called.ensures

pub returns-else-word-eq-ECALL : goal.returns-else-word-eq-ECALL
returns-else-word-eq-ECALL c = elsewhere c.args.word _ c.ranges.word.fits c.if-word-eq-ECALL.false
