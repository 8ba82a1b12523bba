use Rattle.std.proofs.Common.{◌<◌, length, sym, ap, ◌∙◌, subst}
use Rattle.mv_regalloc.specs.Shared.{AreWithin, bits_at, entered, numbered, row_of, sets_at}
use Rattle.mv_regalloc.proofs.SharedSets.{enter_at, enter_within, row_at, row_within}
use Rattle.mv_regalloc.proofs.liveness.Liveness.enter.Goals as goal

pub invariant_of-self-2 : goal.invariant_of-self-2
invariant_of-self-2 c =
    let s = c.self.inside in
    let ns = numbered s.numbers in
    let within = row_within s.temps s.parts ns c.self.invariant c.none-none.result c.none-none.ensures.within in
    subst (λ l. AreWithin s.parts (record ns { levels = l })) (sym c.in_ok-push.ensures.items)
    (enter_within s.temps s.parts ns c.self.invariant (record { behind = c.of-behind.result; start = c.of-start.result })
    (subst (λ k. k < length s.parts) (sym c.of-behind.ensures) (within c.args.behind)) (subst (λ k. k < length s.parts) (sym c.of-start.ensures) (within c.args.start)))

pub returns-clause-ok : goal.returns-clause-ok
returns-clause-ok c =
    let s = c.self.inside in
    let ns = numbered s.numbers in
    let old = sets_at s.temps s.parts ns in
    let at = row_at s.temps s.parts ns c.none-none.result c.none-none.ensures.words in
    ap (λ l. sets_at s.temps s.parts (record ns { levels = l })) c.in_ok-push.ensures.items ∙
    enter_at s.temps s.parts ns (record { behind = c.of-behind.result; start = c.of-start.result }) (row_of old c.args.behind) (row_of old c.args.start)
    (ap (bits_at s.temps s.parts) c.of-behind.ensures ∙ at c.args.behind) (ap (bits_at s.temps s.parts) c.of-start.ensures ∙ at c.args.start) ∙
    ap (λ v. entered v (row_of v c.args.behind) (row_of v c.args.start)) c.self.view_is
