use Rattle.std.proofs.Common.{◌≡◌, ◌+◌, ◌-◌, ◌≤◌, [], length, subst, ap, ◌∙◌, arith}
use Rattle.std.specs.Prelude.{slice_index_or}
use Rattle.std.proofs.lemmas.List.{get_or_default}
use Rattle.mv_ir.specs.Live.{marks_length, all_marks}
use Rattle.mv_regalloc.specs.Scan.{scan}
use Rattle.mv_regalloc.specs.Intervals.{beginning, by_first, range, given, allotted}
use Rattle.mv_regalloc.specs.Tracked.{Tracks}
use Rattle.mv_regalloc.proofs.Numbering.{position_more}
use Rattle.mv_regalloc.proofs.Firsts.{temps_of, firsts_known, firsts_before, firsts_intervals}
use Rattle.mv_regalloc.proofs.number.number.Goals as goal

pub number_at-requires : goal.number_at-requires
number_at-requires c =
    let body = c.args.body.now in
    let marks = all_marks body in
    let at = c.loop-at.at in
    let m = body.temps - body.params in
    let all = ap (λ l. length l) c.as_slice-lists.ensures in
    let long = c.in_ok-lists.ensures.long in
    let low : body.params + m ≤ body.temps = omega (arith, c.requires.params) in
    let items : c.as_slice.result.now ≡ temps_of (beginning marks at (range body.params m)) =
    c.as_slice.ensures ∙ c.index-lists-at.is ∙ get_or_default c.as_slice-lists.result.now at c.index-lists-at.result [] c.loop-at-test.true ∙ ap (λ l. slice_index_or l at []) c.as_slice-lists.ensures ∙
    c.in_ok-lists.ensures.items at (omega (arith, c.loop-at-test.true, all, long)) in
    record {
      known = λ k l.
          let known = firsts_known marks body.temps c.args.spans.now c.requires.spans at body.params m low c.as_slice.result.now items k l in
          let count = c.loop-at.invariant.long in
          omega (arith, known, count);
    }

pub loop-at-preserved : goal.loop-at-preserved
loop-at-preserved c =
    let body = c.args.body.now in
    let marks = all_marks body in
    let s = c.args.spans.now in
    let at = c.loop-at.at in
    let m = body.temps - body.params in
    let ts = range body.params m in
    let first = given marks body.params in
    let all = ap (λ l. length l) c.as_slice-lists.ensures in
    let long = c.in_ok-lists.ensures.long in
    let low : body.params + m ≤ body.temps = omega (arith, c.requires.params) in
    let items : c.as_slice.result.now ≡ temps_of (beginning marks at ts) =
    c.as_slice.ensures ∙ c.index-lists-at.is ∙ get_or_default c.as_slice-lists.result.now at c.index-lists-at.result [] c.loop-at-test.true ∙ ap (λ l. slice_index_or l at []) c.as_slice-lists.ensures ∙
    c.in_ok-lists.ensures.items at (omega (arith, c.loop-at-test.true, all, long)) in
    record {
      tracks =
          subst (λ d. Tracks d c.number_at.new.ends c.number_at.new.numbers)
          (ap (scan (scan first (by_first marks ts 0 at))) (firsts_intervals marks body.temps s c.requires.spans at body.params m low c.as_slice.result.now items) ∙ position_more marks first ts at)
          (c.in_ok-number_at.ensures.tracks (scan first (by_first marks ts 0 at)) (firsts_before marks body.temps s c.requires.spans at body.params m low c.as_slice.result.now items) c.loop-at.invariant.tracks);
      long = c.number_at.ensures.length ∙ c.loop-at.invariant.long;
    }

pub returns : goal.returns
returns c =
    let body = c.args.body.now in
    let marks = all_marks body in
    let ts = range body.params (body.temps - body.params) in
    let positions = c.requires.spans.positions 0 in
    let lists = ap (λ l. length l) c.as_slice-lists.ensures in
    let long = c.in_ok-lists.ensures.long in
    let all : c.loop-at.at ≡ marks_length (marks 0) = omega (arith, positions, lists, long) in
    let done : Tracks (allotted body) c.loop-at.ends c.loop-at.numbers =
    subst (λ k. Tracks (scan (given marks body.params) (by_first marks ts 0 k)) c.loop-at.ends c.loop-at.numbers) all c.loop-at.invariant.tracks in
    record {
      used = (let k = done.long in omega (arith, k));
      numbers = λ t l. done.numbered t (let k = c.loop-at.invariant.long in omega (arith, k, l));
    }
