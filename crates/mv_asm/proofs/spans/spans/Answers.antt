use Rattle.std.proofs.Common.{◌≡◌, ◌++◌, ◌∷◌, [], ap, slice_index, arith}
use Rattle.std.proofs.lemmas.List.{get_or_default}
use Rattle.std.proofs.lemmas.List.Elements.{All-push, All-same}
use Rattle.mv_isa.specs.declared.labelled.Line.TheVariants.{Label}
use Rattle.mv_isa.specs.Code.{line_at, target_index}
use Rattle.mv_asm.specs.Spans.{IsSpan}
use Rattle.mv_asm.proofs.Offsets.{offset-le}
use Rattle.mv_asm.proofs.Targets.{target_at, target-le}
use Rattle.mv_asm.proofs.Turns.{sizing_small}
use Rattle.mv_asm.proofs.Spread.{span_read}
use Rattle.mv_asm.proofs.spans.spans.Goals as goal
use Rattle.mv_asm.proofs.spans.spans.Goals.{then-is_branch+then-sizing-index-eq1+in_ok-push, else-is_branch}

pub offset_bounds-offsets-target : goal.offset_bounds-offsets-target
offset_bounds-offsets-target c =
    omega (
      arith,
      target_at c.args.lines.now c.args.targets.now c.requires.targets c.loop-index.index c.loop-index-test.true,
      target-le c.args.lines.now (line_at c.args.lines.now c.loop-index.index),
      c.requires.sizes.one_each,
      c.requires.offsets.one_more,
    )

pub bounds-offsets-target : goal.bounds-offsets-target
bounds-offsets-target c =
    omega (
      arith,
      target_at c.args.lines.now c.args.targets.now c.requires.targets c.loop-index.index c.loop-index-test.true,
      target-le c.args.lines.now (line_at c.args.lines.now c.loop-index.index),
      c.requires.sizes.one_each,
      c.requires.offsets.one_more,
    )

pub span_of-requires-clause-at : goal.span_of-requires-clause-at
span_of-requires-clause-at c =
    let small = sizing_small c.args.lines.now c.args.sizing.now c.requires.sizes in
    omega (arith, c.requires.offsets.each c.loop-index.index (omega (arith, c.requires.sizes.one_each)), offset-le c.args.sizing.now small c.loop-index.index, c.requires.sizes.one_each, c.requires.offsets.one_more)

pub span_of-requires-clause-to : goal.span_of-requires-clause-to
span_of-requires-clause-to c =
    let small = sizing_small c.args.lines.now c.args.sizing.now c.requires.sizes in
    let target = target_index c.args.lines.now (line_at c.args.lines.now c.loop-index.index) in
    let le = target-le c.args.lines.now (line_at c.args.lines.now c.loop-index.index) in
    let at = target_at c.args.lines.now c.args.targets.now c.requires.targets c.loop-index.index c.loop-index-test.true in
    omega (arith, ap (slice_index c.args.offsets.now) at, c.requires.offsets.each target (omega (arith, le, c.requires.sizes.one_each)), offset-le c.args.sizing.now small target, c.requires.sizes.one_each, c.requires.offsets.one_more)

pub loop-index-preserved : goal.loop-index-preserved
loop-index-preserved c =
    let line = get_or_default c.args.lines.now c.loop-index.index _ (Label 0) c.loop-index-test.true in
    elim c.if-is_branch.branch [
      | then-is_branch+then-sizing-index-eq1+in_ok-push w ↦
          let both = c.is_branch.ensures w.if-is_branch.true in
          let span = span_read c.args.lines.now c.args.sizing.now c.args.offsets.now c.args.targets.now c.loop-index.index c.loop-index-test.true c.requires.sizes c.requires.offsets c.requires.targets _ line both _ w.span_of.ensures in
          let e : c.if-is_branch.spans.items ≡ c.loop-index.spans.items ++ w.span_of.result ∷ [] = cc (w.in_ok-push.ensures.items) in
          All-same (IsSpan c.args.lines.now c.args.sizing.now) _ _ e (All-push (IsSpan c.args.lines.now c.args.sizing.now) _ _ c.loop-index.invariant span)
      | else-is_branch w ↦
          let e : c.if-is_branch.spans.items ≡ c.loop-index.spans.items = cc in
          All-same (IsSpan c.args.lines.now c.args.sizing.now) _ _ e c.loop-index.invariant
    ]
