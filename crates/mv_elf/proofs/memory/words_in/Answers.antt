use Rattle.std.proofs.Common.{◌∙◌, sym}
use Rattle.mv_elf.specs.Segments.{lies_in}
use Rattle.mv_elf.proofs.SegmentLaws.{reach-none, reached_more, reached_still, reach_words}
use Rattle.mv_elf.proofs.memory.words_in.Goals as goal
use Rattle.mv_elf.proofs.memory.words_in.Goals.{then-lies_in, else-lies_in}

pub loop-i-init : goal.loop-i-init
loop-i-init c = sym (reach-none (lies_in c.args.region) c.args.bytes.now)

pub loop-i-preserved : goal.loop-i-preserved
loop-i-preserved c =
    elim c.if-lies_in.branch [
      | then-lies_in w ↦
          reached_more (lies_in c.args.region) c.args.bytes.now c.loop-i.i _ _ _ c.segment-segment.result c.segment-segment.ensures (sym c.lies_in.ensures ∙ w.if-lies_in.true) c.loop-i.invariant w.end.ensures
          (w.reached-is ∙ w.max-reached.ensures)
      | else-lies_in w ↦
          reached_still (lies_in c.args.region) c.args.bytes.now c.loop-i.i _ _ c.segment-segment.result c.segment-segment.ensures (sym c.lies_in.ensures ∙ w.if-lies_in.false) c.loop-i.invariant w.reached-is
    ]

pub returns-clause-small : goal.returns-clause-small
returns-clause-small c = reach_words c.args.region c.args.bytes.now c.loop-i.i _ _ _ _ c.loop-i.invariant c.start.ensures.value c.saturating_sub.ensures c.div_ceil.ensures
