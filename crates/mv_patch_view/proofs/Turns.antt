-- The lines of rows, one row at a time.
use Rattle.std.proofs.Common.{◌≡◌, ◌∙◌, ℕ, ◌+◌, List, ◌++◌, drop, slice_get, Some, ap, sym}
use Rattle.std.proofs.lemmas.List.{append_assoc, at_drop_more}
use Rattle.std.proofs.lemmas.Option.{get_or_from_slice_get, slice_get_within}
use Rattle.mv_descriptors.specs.declared.rows.PointRow.{PointRow}
use Rattle.mv_descriptors.specs.declared.rows.SiteRow.{SiteRow}
use Rattle.mv_image.specs.Spelling.{Fields}
use Rattle.mv_patch_view.specs.PatchView.{point_lines, points_text, site_lines, sites_text}

pub points_more : (image : Fields) (rows : List PointRow) (k : ℕ) (row : PointRow) → slice_get rows k ≡ Some row → points_text image (drop k rows) ≡ point_lines image row ++ points_text image (drop (k + 1) rows)
unfolding points_text
points_more image rows k row e =
    at_drop_more (points_text image) rows k row (slice_get_within rows k row e)
    ∙ ap (λ (r : PointRow). point_lines image r ++ points_text image (drop (k + 1) rows)) (get_or_from_slice_get rows k row row e)

pub sites_more : (image : Fields) (rows : List SiteRow) (k : ℕ) (row : SiteRow) → slice_get rows k ≡ Some row → sites_text image (drop k rows) ≡ site_lines image row ++ sites_text image (drop (k + 1) rows)
unfolding sites_text
sites_more image rows k row e =
    at_drop_more (sites_text image) rows k row (slice_get_within rows k row e)
    ∙ ap (λ (r : SiteRow). site_lines image r ++ sites_text image (drop (k + 1) rows)) (get_or_from_slice_get rows k row row e)

-- what is there and what is left are still all, behind one row more
pub turned : (old lines new later left all : List ℕ) → new ≡ old ++ lines → left ≡ lines ++ later → old ++ left ≡ all → new ++ later ≡ all
turned old lines new later left all added is before = ap (λ out. out ++ later) added ∙ append_assoc old lines later ∙ ap (λ text. old ++ text) (sym is) ∙ before
