-- What is printed where a list is empty, and where it isn't.
use Rattle.std.proofs.Common.{◌≡◌, ℕ, zero, suc, ◌<◌, ◌++◌, arith, refl, List, [], ◌∷◌, length}
use Rattle.std.specs.Prelude.{codes}
use Rattle.mv_descriptors.specs.declared.rows.GuardRow.{GuardRow}
use Rattle.mv_image.specs.Spelling.{Fields}
use Rattle.mv_list.specs.Listing.{separator, ranges_text, condition_text}

pub separator_none : (i : ℕ) → i ≡ 0 → separator i ≡ []
separator_none zero h = refl
separator_none (suc i) h = absurd (omega (arith, h))

pub separator_more : (i : ℕ) → 0 < i → separator i ≡ codes ", "
separator_more zero h = absurd (omega (arith, h))
separator_more (suc i) h = refl

pub condition_none : (image : Fields) (switches : List ℕ) (row : GuardRow) → length switches ≡ 0 → condition_text image switches row ≡ codes "always"
condition_none image [] row h = refl
condition_none image (s ∷ ss) row h = absurd (omega (arith, h))

pub condition_more : (image : Fields) (switches : List ℕ) (row : GuardRow) → 0 < length switches →
    condition_text image switches row ≡ codes "when " ++ ranges_text image row 0 switches
condition_more image [] row h = absurd (omega (arith, h))
condition_more image (s ∷ ss) row h = refl
