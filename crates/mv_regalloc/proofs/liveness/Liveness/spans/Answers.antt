use Rattle.std.proofs.Common.{false, length, map, reverse, sym, subst}
use Rattle.std.specs.Prelude.{IfOk}
use Rattle.std.proofs.lemmas.List.{length-replicate}
use Rattle.mv_regalloc.specs.Shared.{bits_at}
use Rattle.mv_regalloc.specs.Spanned.{AreRowSpans}
use Rattle.mv_regalloc.proofs.liveness.Liveness.spans.Goals as goal

pub returns : goal.returns
returns c =
    let s = c.self.inside in
    let rows = map (bits_at s.temps s.parts) (reverse s.numbers.rows.items) in
    subst (λ v. IfOk c.of_rows.result (AreRowSpans v.rows (length v.around.none))) c.self.view_is
    (subst (λ n. IfOk c.of_rows.result (AreRowSpans rows n)) (sym (length-replicate s.temps false))
    (subst (λ l. IfOk c.of_rows.result (AreRowSpans (map (bits_at s.temps s.parts) (reverse l)) s.temps)) c.as_slice.ensures.value c.of_rows.ensures))
