use Rattle.std.proofs.Common.{◌<◌, length, sym, ap, ◌∙◌, subst}
use Rattle.mv_regalloc.specs.Rows.{either_bits}
use Rattle.mv_regalloc.specs.Shared.{bits_at, numbered, row_of, sets_at, with_live}
use Rattle.mv_regalloc.proofs.PartWords.{on_err_of}
use Rattle.mv_regalloc.proofs.SharedSets.{joined_at, row_at, row_within, same_kept, sets_kept}
use Rattle.mv_regalloc.proofs.liveness.Liveness.join.Goals as goal

pub joined-requires-clause-other : goal.joined-requires-clause-other
joined-requires-clause-other c =
    let s = c.self.inside in
    subst (λ k. k < length s.parts) (sym c.of-other.ensures) (row_within s.temps s.parts (numbered s.numbers) c.self.invariant c.none-none.result c.none-none.ensures.within c.args.row)

pub returns-clause-ok : goal.returns-clause-ok
returns-clause-ok c =
    let s = c.self.inside in
    let ns = numbered s.numbers in
    let live = bits_at s.temps s.parts s.numbers.live in
    let more = c.joined.new.self in
    let h = c.in_ok-self-inside.ensures in
    let made = c.in_ok-self-inside.field-0 in
    let other = c.of-other.result in
    sets_kept s.temps s.parts more h.keeps ns c.self.invariant made (either_bits live (bits_at s.temps s.parts other)) (joined_at s.temps s.parts s.numbers.live more other made h.words) ∙
    ap (λ b. with_live (sets_at s.temps s.parts ns) (either_bits live b)) (ap (bits_at s.temps s.parts) c.of-other.ensures ∙ row_at s.temps s.parts ns c.none-none.result c.none-none.ensures.words c.args.row) ∙
    ap (λ v. with_live v (either_bits v.live (row_of v c.args.row))) c.self.view_is

pub returns-in_err-self-inside-clause-err : goal.returns-in_err-self-inside-clause-err
returns-in_err-self-inside-clause-err c =
    let s = c.self.inside in
    on_err_of c.from_residual.result (same_kept s.temps s.parts c.joined.new.self c.joined.ensures.keeps (numbered s.numbers) c.self.invariant ∙ c.self.view_is)
