use Rattle.std.proofs.Common.{◌≡◌, ◌-◌, ◌<◌, ◌∷◌, true, ltb, subst, ◌∙◌, ap, arith}
use Rattle.std.specs.Prelude.{slice_index}
use Rattle.std.proofs.lemmas.Bool.{or_right, lt-ltb}
use Rattle.mv_ir.specs.Live.{mark_at, live_at_start, all_marks}
use Rattle.mv_regalloc.specs.Scan.{placed}
use Rattle.mv_regalloc.specs.Intervals.{given}
use Rattle.mv_regalloc.specs.Tracked.{Tracks, interval}
use Rattle.mv_regalloc.proofs.Numbering.{param_before, param_placed}
use Rattle.mv_regalloc.proofs.number.number_params.Goals as goal

pub loop-temp-preserved : goal.loop-temp-preserved
loop-temp-preserved c =
    let body = c.args.body.now in
    let marks = all_marks body in
    let n = body.temps in
    let s = c.args.spans.now in
    let h = c.requires.spans in
    let t = c.loop-temp.temp in
    let low : t < n = omega arith in
    let marked : mark_at (marks t) 0 ≡ true = or_right (live_at_start t body.code) (ltb t body.params) (lt-ltb t body.params c.loop-temp-test.true) in
    let end : c.saturating_sub-end.result ≡ s.positions - slice_index s.ends t = c.saturating_sub-end.ensures ∙ ap (λ v. v - c.end.result) c.positions.ensures ∙ ap (λ v. s.positions - v) c.end.ensures in
    let later = param_before marks n s h t low marked in
    record {
      tracks = λ k.
          let more = c.in_ok-allot.ensures.tracks (given marks t) (omega (arith, end, later)) (c.loop-temp.invariant.tracks k) in
          param_placed marks n s h t low marked c.allot.new.ends c.allot.new.numbers
          (subst (λ v. Tracks (placed (given marks t) (interval t 0 (v - 1)) ∷ given marks t) c.allot.new.ends c.allot.new.numbers) end more);
      long = c.allot.ensures.length ∙ c.loop-temp.invariant.long;
    }
