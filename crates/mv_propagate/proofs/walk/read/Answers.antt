use Rattle.std.proofs.Common.{subst}
use Rattle.mv_propagate.specs.Propagating.{Reads, Unwritten}
use Rattle.mv_propagate.proofs.Walked.{reads}
use Rattle.mv_propagate.proofs.walk.read.Goals as goal

pub returns : goal.returns
returns c =
    reads c.args.temps c.args.facts.now c.in_ok-unwritten.field-0 c.args.temp c.args.array c.args.index.now c.in_ok-index.index
    (subst (λ fs. Reads fs c.args.index.now c.in_ok-index.index) c.as_slice.ensures c.in_ok-index.ensures)
    (subst (λ fs. Unwritten c.args.temp fs c.in_ok-unwritten.field-0) c.as_slice-2.ensures c.in_ok-unwritten.ensures)
