use Rattle.std.proofs.Common.{List, slice_index_or, ap, ◌∙◌, arith}
use Rattle.mv_descriptors.specs.declared.rows.SiteRow.{SiteRow}
use Rattle.mv_patch.proofs.standing.site_at.Goals as goal

pub returns-clause-address : goal.returns-clause-address
returns-clause-address c =
    let d : SiteRow = record { address = 0; function = 0 } in
    let fits = c.rows_fit.ensures.sites c.args.site d c.requires in
    let same = ap (λ (rows : List SiteRow). (slice_index_or rows c.args.site d).address) (c.as_slice.ensures ∙ c.sites.ensures) in
    omega (arith, same, fits.next.within, c.within_limits.ensures.text)
