use Rattle.std.proofs.Common.{false, ◌≡◌, [], ◌∷◌, length, map, ap, ◌∙◌, subst}
use Rattle.std.proofs.lemmas.List.{append-nil, length-replicate}
use Rattle.mv_regalloc.specs.Rows.{live_before, rows_in_order, sets, stm_rows}
use Rattle.mv_regalloc.specs.Shared.{LiveSets, walked, with_live, with_rows}
use Rattle.mv_regalloc.specs.Spanned.{AreRowSpans, with_params}
use Rattle.mv_regalloc.proofs.BodySpans.{body_spans, first, none, rows}
use Rattle.mv_regalloc.proofs.PartWords.{if_ok_by}
use Rattle.mv_regalloc.proofs.spans.spans_of.Goals as goal

pub returns : goal.returns
returns c =
    let body = c.args.body.now in
    let h = c.in_ok-liveness.ensures in
    let old = c.in_ok-liveness.liveness in
    let fresh : LiveSets = record { live = none body; saved = old.saved; around = record { none = none body; leaves = []; restarts = [] }; rows = [] } in
    let start : old ≡ fresh = λ i. record { live = h.live i; saved = old.saved; around = record { none = h.none i; leaves = h.leaves i; restarts = h.restarts i }; rows = h.rows i } in
    let all = c.in_ok-mark.ensures ∙ ap (λ v. with_rows v (v.live ∷ [])) (c.in_ok-live_params.ensures ∙ ap (λ v. with_live v (with_params body.params v.live)) (c.in_ok-mark_code.ensures ∙
    ap (λ v. walked v (live_before (map stm_rows body.code) (sets v.around v.live)) (rows_in_order (map stm_rows body.code) (sets v.around v.live))) start)) in
    let wide : length (none body) ≡ body.temps = length-replicate body.temps false in
    if_ok_by c.spans.result
    (λ s k. body_spans body s (length (none body)) wide (subst (λ l. AreRowSpans (first body ∷ l) (length (none body)) s) (append-nil (rows body)) (subst (λ v. AreRowSpans v.rows (length v.around.none) s) all k)))
    c.spans.ensures
