use Rattle.std.proofs.Common.{◌∙◌, ℕ, ap, sym, arith}
use Rattle.mv_elf.specs.Segments.{is_loaded, is_right, reach}
use Rattle.mv_elf.proofs.SegmentLaws.{reach-none, reached_more, reached_still, right_more}
use Rattle.mv_elf.proofs.programs.first_flaw.Goals as goal
use Rattle.mv_elf.proofs.programs.first_flaw.Goals.{then-is_loaded, else-is_loaded}

pub loop-i-init : goal.loop-i-init
loop-i-init c = record { right = record { there = λ i lt. absurd (omega (arith, lt)); right = λ i lt. absurd (omega (arith, lt)) }; reached = sym (reach-none is_loaded c.args.bytes.now) }

pub loop-i-preserved : goal.loop-i-preserved
loop-i-preserved c = record {
  right = right_more c.args.bytes.now c.loop-i.i c.loop-i.invariant.right (sym c.is_there.ensures ∙ c.if-not-is_there.false)
      (sym (c.is_right.ensures ∙ ap (λ (r : ℕ). is_right r c.segment-segment.result) c.loop-i.invariant.reached ∙ ap (is_right (reach is_loaded c.args.bytes.now c.loop-i.i)) c.segment-segment.ensures) ∙ c.if-not-is_right.false);
  reached = elim c.if-is_loaded.branch [
    | then-is_loaded w ↦
        reached_more is_loaded c.args.bytes.now c.loop-i.i _ _ _ c.segment-segment.result c.segment-segment.ensures (sym c.is_loaded.ensures ∙ w.if-is_loaded.true) c.loop-i.invariant.reached w.end.ensures
        (w.reached-is ∙ w.max-reached.ensures)
    | else-is_loaded w ↦
        reached_still is_loaded c.args.bytes.now c.loop-i.i _ _ c.segment-segment.result c.segment-segment.ensures (sym c.is_loaded.ensures ∙ w.if-is_loaded.false) c.loop-i.invariant.reached w.reached-is
  ];
}
