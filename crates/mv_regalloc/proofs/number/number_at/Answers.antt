use Rattle.std.proofs.Common.{◌≡◌, ◌-◌, ◌∷◌, map, take, get_or, subst, sym, ap, ◌∙◌, arith}
use Rattle.std.specs.Prelude.{slice_index}
use Rattle.mv_regalloc.specs.Scan.{placed, scan}
use Rattle.mv_regalloc.specs.Tracked.{Tracks, interval, interval_from}
use Rattle.mv_regalloc.proofs.Firsts.{scan_more}
use Rattle.mv_regalloc.proofs.number.number_at.Goals as goal

pub loop-temp-preserved : goal.loop-temp-preserved
loop-temp-preserved c =
    let s = c.args.spans.now in
    let at = c.args.at in
    let temps = c.args.temps.now in
    let i = c.loop-temp.temp-index in
    let t = get_or temps i 0 in
    let end : c.saturating_sub-end.result ≡ s.positions - slice_index s.ends t = c.saturating_sub-end.ensures ∙ ap (λ v. v - c.end.result) c.positions.ensures ∙ ap (λ v. s.positions - v) c.end.ensures in
    record {
      tracks = λ done each k.
          let now = scan done (map (interval_from s at) (take i temps)) in
          let before = each i c.loop-temp-test.true in
          let more = c.in_ok-allot.ensures.tracks now (omega (arith, end, before)) (c.loop-temp.invariant.tracks done each k) in
          subst (λ d. Tracks d c.allot.new.ends c.allot.new.numbers) (sym (scan_more s at done temps i c.loop-temp-test.true))
          (subst (λ v. Tracks (placed now (interval t at (v - 1)) ∷ now) c.allot.new.ends c.allot.new.numbers) end more);
      long = c.allot.ensures.length ∙ c.loop-temp.invariant.long;
    }
