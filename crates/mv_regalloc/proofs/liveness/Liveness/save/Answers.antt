use Rattle.std.proofs.Common.{◌<◌, length, sym, ap, ◌∙◌, subst}
use Rattle.mv_regalloc.specs.Shared.{AreWithin, bits_at, numbered, row_of, sets_at, with_saved}
use Rattle.mv_regalloc.proofs.SharedSets.{row_at, row_within, save_at, save_within}
use Rattle.mv_regalloc.proofs.liveness.Liveness.save.Goals as goal

pub invariant_of-self-2 : goal.invariant_of-self-2
invariant_of-self-2 c =
    let s = c.self.inside in
    let ns = numbered s.numbers in
    subst (λ l. AreWithin s.parts (record ns { saved = l })) (sym c.in_ok-push.ensures.items)
    (save_within s.temps s.parts ns c.self.invariant c.of-number.result
    (subst (λ k. k < length s.parts) (sym c.of-number.ensures) (row_within s.temps s.parts ns c.self.invariant c.none-none.result c.none-none.ensures.within c.args.row)))

pub returns-clause-ok : goal.returns-clause-ok
returns-clause-ok c =
    let s = c.self.inside in
    let ns = numbered s.numbers in
    ap (λ l. sets_at s.temps s.parts (record ns { saved = l })) c.in_ok-push.ensures.items ∙
    save_at s.temps s.parts ns c.of-number.result (row_of (sets_at s.temps s.parts ns) c.args.row) (ap (bits_at s.temps s.parts) c.of-number.ensures ∙ row_at s.temps s.parts ns c.none-none.result c.none-none.ensures.words c.args.row) ∙
    ap (λ v. with_saved v (row_of v c.args.row)) c.self.view_is
