use Rattle.std.proofs.Common.{◌∷◌, [], true, ap, ◌∙◌, sym, subst}
use Rattle.mv_regalloc.specs.Rows.{put_bit}
use Rattle.mv_regalloc.specs.Shared.{AreWithin, bits_at, numbered, sets_at, with_rows}
use Rattle.mv_regalloc.proofs.SharedSets.{mark_at_end, mark_within, same_kept, within_kept}
use Rattle.mv_regalloc.proofs.liveness.Liveness.mark.Goals as goal

pub invariant_of-self-2 : goal.invariant_of-self-2
invariant_of-self-2 c =
    let s = c.self.inside in
    let ns = numbered s.numbers in
    let h = c.in_ok-row.ensures in
    let more = c.with_some.new.parts in
    subst (λ l. AreWithin more (record ns { rows = l })) (sym c.in_ok-push.ensures.items)
    (mark_within s.temps more ns (within_kept s.temps s.parts more h.keeps ns c.self.invariant) c.in_ok-row.row h.within)

pub returns : goal.returns
returns c =
    let s = c.self.inside in
    let ns = numbered s.numbers in
    let h = c.in_ok-row.ensures in
    let more = c.with_some.new.parts in
    let written = c.args.written in
    ap (λ l. sets_at s.temps more (record ns { rows = l })) c.in_ok-push.ensures.items ∙
    mark_at_end s.temps more ns c.in_ok-row.row (put_bit written true (bits_at s.temps s.parts s.numbers.live)) (h.bits s.temps) ∙
    ap (λ v. with_rows v (put_bit written true (bits_at s.temps s.parts s.numbers.live) ∷ [])) (same_kept s.temps s.parts more h.keeps ns c.self.invariant) ∙
    ap (λ v. with_rows v (put_bit written true v.live ∷ [])) c.self.view_is
