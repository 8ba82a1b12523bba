use Rattle.std.proofs.Common.{false, ap, ◌∙◌}
use Rattle.std.specs.Prelude.{slice_set}
use Rattle.mv_regalloc.specs.Shared.{bits_at, numbered, with_live}
use Rattle.mv_regalloc.proofs.PartWords.{on_err_of}
use Rattle.mv_regalloc.proofs.SharedSets.{same_kept, sets_kept}
use Rattle.mv_regalloc.proofs.liveness.Liveness.remove.Goals as goal

pub returns-clause-ok : goal.returns-clause-ok
returns-clause-ok c =
    let s = c.self.inside in
    let temp = c.args.temp in
    let h = c.in_ok-self-inside.ensures in
    sets_kept s.temps s.parts c.with_bit.new.parts h.keeps (numbered s.numbers) c.self.invariant c.in_ok-self-inside.field-0 (slice_set (bits_at s.temps s.parts s.numbers.live) temp false) (h.bits s.temps) ∙
    ap (λ v. with_live v (slice_set v.live temp false)) c.self.view_is

pub returns-in_err-self-inside-clause-err : goal.returns-in_err-self-inside-clause-err
returns-in_err-self-inside-clause-err c =
    let s = c.self.inside in
    on_err_of c.from_residual.result (same_kept s.temps s.parts c.with_bit.new.parts c.with_bit.ensures.keeps (numbered s.numbers) c.self.invariant ∙ c.self.view_is)
