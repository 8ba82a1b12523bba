-- Where the variants of functions begin among all.
use Rattle.std.proofs.Common.{ℕ, ◌+◌, ◌<◌, ◌≤◌, length, arith}
use Rattle.std.proofs.lemmas.Option.{slice_get-get_or}
use Rattle.mv_image.specs.Spelling.{Fields}
use Rattle.mv_image.specs.Patched.{variants_before}
use Rattle.mv_patch.proofs.GroupRows.{variants_next}
use Rattle.mv_patch.proofs.TablePlaces.{no_function}

pub variants_ascend : (image : Fields) (function : ℕ) → function < length image.functions → variants_before image function ≤ variants_before image (function + 1)
variants_ascend image function lt =
    let next = variants_next image function _ (slice_get-get_or image.functions function no_function lt) in
    omega (arith, next)
