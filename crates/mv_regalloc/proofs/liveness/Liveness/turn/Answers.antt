use Rattle.std.proofs.Common.{◌<◌, length, sym, ap, ◌∙◌, subst}
use Rattle.mv_regalloc.specs.Shared.{bits_at, numbered, row_of, sets_at, with_live}
use Rattle.mv_regalloc.proofs.SharedSets.{row_at, row_within, turn_within}
use Rattle.mv_regalloc.proofs.liveness.Liveness.turn.Goals as goal

pub invariant_of-self : goal.invariant_of-self
invariant_of-self c =
    let s = c.self.inside in
    let ns = numbered s.numbers in
    turn_within s.temps s.parts ns c.self.invariant c.of-self-inside.result
    (subst (λ k. k < length s.parts) (sym c.of-self-inside.ensures) (row_within s.temps s.parts ns c.self.invariant c.none-none.result c.none-none.ensures.within c.args.row))

pub returns : goal.returns
returns c =
    let s = c.self.inside in
    let ns = numbered s.numbers in
    ap (with_live (sets_at s.temps s.parts ns)) (ap (bits_at s.temps s.parts) c.of-self-inside.ensures ∙ row_at s.temps s.parts ns c.none-none.result c.none-none.ensures.words c.args.row) ∙
    ap (λ v. with_live v (row_of v c.args.row)) c.self.view_is
