use Rattle.std.proofs.Common.{◌≡◌, ◌<◌, ◌-◌, ◌+◌, ◌%◌, ◌∷◌, ◌++◌, [], length, min, subst, sym, ap, ◌∙◌, arith}
use Rattle.std.specs.Prelude.{slice_index}
use Rattle.std.proofs.lemmas.List.{length-append, get_or_default}
use Rattle.mv_regalloc.specs.Tracked.{AreLesser}
use Rattle.mv_regalloc.specs.Paired.{lesser_of, IsPaired}
use Rattle.mv_regalloc.proofs.Pairing.{are_lesser, is_paired, lesser_kept, lesser_push}
use Rattle.mv_regalloc.proofs.ends.+push.Goals as goal
use Rattle.mv_regalloc.proofs.ends.+push.Goals.{Ends::push-then-number-eq1+in_ok-push, Ends::push-else-number-eq1}

pub Ends::push-invariant_of-self-2 : goal.Ends::push-invariant_of-self-2
Ends::push-invariant_of-self-2 t c =
    let ends = c.self.inside.ends.items in
    let pairs = c.self.inside.pairs in
    let end = c.args.end in
    let now = c.if-number-eq1.self-inside in
    let more = ends ++ end ∷ [] in
    let old = are_lesser ends pairs c.self.invariant in
    let some : 0 < length more = (let e = length-append ends (end ∷ []) in omega (arith, e)) in
    let count : c.len-number.result ≡ length ends = omega (arith, c.len-number.ensures) in
    elim c.if-number-eq1.branch [
      | Ends::push-then-number-eq1+in_ok-push w ↦
          let odd : length ends % 2 ≡ 1 = omega (arith, w.if-number-eq1.true, count) in
          let last = c.len-number.result - 1 in
          let next : length ends ≡ last + 1 = omega (arith, odd, count) in
          let even : last % 2 ≡ 0 = omega (arith, odd, next) in
          let same : now.ends.items ≡ ends = ap (λ i. i.ends.items) w.self-inside-is ∙ c.in_ok-reserve.ensures.items in
          let items : c.push_reserved.new.self.items ≡ more = c.push_reserved.ensures.items ∙ ap (λ e. e ++ end ∷ []) same in
          let room : last < length c.reserve.new.self.items = subst (λ e. last < length e) (sym c.in_ok-reserve.ensures.items) (omega (arith, next)) in
          let value : w.min-lesser.result ≡ min (slice_index ends last) end = w.min-lesser.ensures ∙
          ap (λ v. min v end) (w.index.ensures ∙ get_or_default c.reserve.new.self.items last w.index.result.now 0 room ∙ ap (λ e. slice_index e last) c.in_ok-reserve.ensures.items) in
          subst (λ e. IsPaired e now.pairs) (sym items)
          (subst (IsPaired more) (sym (ap (λ i. i.pairs) w.self-inside-is))
          (is_paired more w.push.new.self some
          (subst (AreLesser more) (sym (w.in_ok-push.ensures.ok ∙ ap (λ v. lesser_of pairs ++ v ∷ []) value)) (lesser_push ends (lesser_of pairs) old end last next even))))
      | Ends::push-else-number-eq1 w ↦
          let even : length ends % 2 ≡ 0 = omega (arith, w.if-number-eq1.false, count) in
          let same : now.ends.items ≡ ends = ap (λ i. i.ends.items) w.self-inside-is ∙ c.in_ok-reserve.ensures.items in
          let items : c.push_reserved.new.self.items ≡ more = c.push_reserved.ensures.items ∙ ap (λ e. e ++ end ∷ []) same in
          subst (λ e. IsPaired e now.pairs) (sym items)
          (subst (IsPaired more) (sym (ap (λ i. i.pairs) w.self-inside-is)) (is_paired more pairs some (lesser_kept ends (lesser_of pairs) old end even)))
    ]
