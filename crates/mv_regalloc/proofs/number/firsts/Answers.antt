use Rattle.std.proofs.Common.{◌≡◌, ◌+◌, ◌-◌, ◌<◌, ◌≤◌, [], ◌∷◌, ◌++◌, subst, sym, ap, ◌∙◌, arith}
use Rattle.std.specs.Prelude.{slice_index, slice_index_or, slice_set}
use Rattle.mv_regalloc.specs.Tracked.{AreFirsts}
use Rattle.mv_regalloc.proofs.Firsts.{firsts_kept, firsts_more}
use Rattle.mv_regalloc.proofs.number.firsts.Goals as goal
use Rattle.mv_regalloc.proofs.number.firsts.Goals.{then-begin-gt0+in_ok-push_at, else-begin-gt0}

pub loop-temp-preserved : goal.loop-temp-preserved
loop-temp-preserved c =
    let b = c.args.body.now in
    let s = c.args.spans.now in
    let h = c.requires.spans in
    let t = c.loop-temp.temp in
    let lists = c.loop-temp.lists in
    let low : b.params ≤ t = omega arith in
    let high : t < b.temps = omega arith in
    let begin = c.begin-begin.ensures in
    elim c.if-begin-gt0.branch [
      | then-begin-gt0+in_ok-push_at w ↦
          let some : 0 < slice_index s.begins t = (let k = w.if-begin-gt0.true in omega (arith, begin, k)) in
          let place : w.saturating_sub-at.result ≡ s.positions - slice_index s.begins t = w.saturating_sub-at.ensures ∙ ap (λ v. v - c.begin-begin.result) w.positions-then-begin-gt0.ensures ∙ ap (λ v. s.positions - v) begin in
          subst (AreFirsts b (t + 1) s.positions) (sym (w.lists-is ∙ w.in_ok-push_at.ensures ∙ ap (λ k. slice_set lists k (slice_index_or lists k [] ++ t ∷ [])) place))
          (firsts_more b s h t low high lists some c.loop-temp.invariant)
      | else-begin-gt0 w ↦
          let none : slice_index s.begins t ≡ 0 = (let k = w.if-begin-gt0.false in omega (arith, begin, k)) in
          subst (AreFirsts b (t + 1) s.positions) (sym w.lists-is) (firsts_kept b s h t low high lists none c.loop-temp.invariant)
    ]
