use Rattle.std.proofs.Common.{◌<◌, ◌∙◌, sym, ap, arith}
use Rattle.mv_elf.specs.Segments.{count_of, is_in_file}
use Rattle.mv_elf.specs.Notes.{is_ours}
use Rattle.mv_elf.proofs.SegmentLaws.{there, note_bytes}
use Rattle.mv_elf.proofs.NoteLaws.{ours, none_more}
use Rattle.mv_elf.proofs.notes.first_note.Goals as goal

pub is_ours-requires : goal.is_ours-requires
is_ours-requires c =
    let lt : c.loop-i.i < count_of c.args.bytes.now = omega (arith, c.loop-i-test.true, c.count-i-end.ensures.value) in
    ap (is_in_file c.args.bytes.now) c.segment-segment.ensures ∙ (there c.args.bytes.now c.loop-i.i (c.requires.segments.there c.loop-i.i lt)).file

pub returns-then-is_ours-clause-some : goal.returns-then-is_ours-clause-some
returns-then-is_ours-clause-some c = (
  c.loop-i.i,
  record {
    within = omega (arith, c.loop-i-test.true, c.count-i-end.ensures.value);
    is = c.segment-segment.ensures;
    ours = sym c.is_ours.ensures ∙ c.if-is_ours.true;
    before = c.loop-i.invariant;
  },
)

pub returns-then-is_ours-clause-there : goal.returns-then-is_ours-clause-there
returns-then-is_ours-clause-there c =
    let lt : c.loop-i.i < count_of c.args.bytes.now = omega (arith, c.loop-i-test.true, c.count-i-end.ensures.value) in
    let file = ap (is_in_file c.args.bytes.now) c.segment-segment.ensures ∙ (there c.args.bytes.now c.loop-i.i (c.requires.segments.there c.loop-i.i lt)).file in
    note_bytes c.args.bytes.now c.segment-segment.result file (ours c.args.bytes.now c.segment-segment.result (sym c.is_ours.ensures ∙ c.if-is_ours.true)).note

pub returns-then-is_ours-clause-head : goal.returns-then-is_ours-clause-head
returns-then-is_ours-clause-head c = (ours c.args.bytes.now c.segment-segment.result (sym c.is_ours.ensures ∙ c.if-is_ours.true)).head

pub returns-clause-none : goal.returns-clause-none
returns-clause-none c = λ i lt. c.loop-i.invariant i (omega (arith, lt, c.loop-i-test.false, c.count-i-end.ensures.value))

pub loop-i-preserved : goal.loop-i-preserved
loop-i-preserved c = none_more c.args.bytes.now c.loop-i.i c.loop-i.invariant (ap (is_ours c.args.bytes.now) (sym c.segment-segment.ensures) ∙ sym c.is_ours.ensures ∙ c.if-is_ours.false)
