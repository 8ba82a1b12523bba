-- How many words of an image's text are others under bindings.
use Rattle.std.specs.Prelude.{ℕ, suc, ◌≡◌, ◌≢◌, ◌+◌, ◌*◌, ◌%◌, ◌<◌, ◌≤◌, ◌==◌, if◌then◌else◌, List, [], ◌∷◌, length, slice_index, slice_index_or, is_some, Some, None}
use Rattle.mv_isa.specs.Registers.{x0}
use Rattle.mv_descriptors.specs.declared.rows.FunctionRow.{FunctionRow}
use Rattle.mv_descriptors.specs.declared.rows.SiteRow.{SiteRow}
use Rattle.mv_descriptors.specs.declared.rows.PointRow.{PointRow}
use Rattle.mv_descriptors.specs.declared.rows.VariantRow.{VariantRow}
use Rattle.mv_image.specs.Faults.{Rules}
use Rattle.mv_image.specs.Jumps.{jump}
use Rattle.mv_image.specs.Patched.{Bindings, variant_under, target_under, pointer_number, text_of}
use Rattle.mv_image.specs.Spelling.{Fields}
use Rattle.mv_patch.specs.Pairs.{pairs_between}
use Rattle.mv_patch.specs.Tables.{word_of}

abbrev pub changed_words : Fields → Bindings → ℕ
changed_words image bound = length (pairs_between image.text (text_of image bound))

-- how many of some sites are a function's, given with its number
abbrev pub sites_of : ℕ → List SiteRow → ℕ
sites_of f [] = 0
sites_of f (site ∷ sites) = (if site.function == f then 1 else 0) + sites_of f sites

-- of a function that is bound to a variant: one for its entry, and one for each of its sites
abbrev pub shown_words : Fields → Bindings → ℕ → ℕ
shown_words image bound f = if is_some (variant_under image f (bound f)) then 1 + sites_of f image.sites else 0

-- how many of some pointer sites are a pointer switch's, given with its number
abbrev pub points_of : ℕ → List PointRow → ℕ
points_of q [] = 0
points_of q (point ∷ points) = (if point.pointer == q then 1 else 0) + points_of q points

-- of a pointer switch that is bound to a target: four for each of its sites
abbrev pub shown_through : Fields → Bindings → ℕ → ℕ
shown_through image bound q = if is_some (target_under image (bound (pointer_number image q))) then 4 * points_of q image.points else 0

-- the sum over the numbers of functions, or of pointer switches, from one on
abbrev pub sum_from : {A : Type 0} → (ℕ → ℕ) → ℕ → List A → ℕ
sum_from h f [] = 0
sum_from h f (row ∷ rows) = h f + sum_from h (suc f) rows

-- A variant can be told from its function by the words of text: at the entry stands no jump to it, it stands elsewhere, and its inline body, if it has one,
-- doesn't begin with a JAL.
pub record CanBeTold (image : Fields) (row : FunctionRow) (v : VariantRow) : Type 0 where
  pub entry : word_of image.text row.entry ≢ jump x0 row.entry v.address
  pub elsewhere : v.address ≢ row.entry
  pub inline : v.inlined ≡ 1 → slice_index v.words 0 % 128 ≢ 111

-- Where each function that is bound to a variant can be told from it, at least so many words of text are others: for each of these functions one for its
-- entry, and one for each of its sites; and for each pointer switch that is bound to a target the four of each of its sites.
abbrev pub TextShowsBindings : Type 0
TextShowsBindings =
    (image : Fields) → Rules image → (bound : Bindings) →
    ((f : ℕ) (d : FunctionRow) (v : VariantRow) → f < length image.functions → variant_under image f (bound f) ≡ Some v → CanBeTold image (slice_index_or image.functions f d) v) →
    sum_from (shown_words image bound) 0 image.functions + sum_from (shown_through image bound) 0 image.pointers ≤ changed_words image bound

-- Where all functions are free, and each pointer switch that is bound has no site, no word is another.
abbrev pub FreeTextIsUnchanged : Type 0
FreeTextIsUnchanged =
    (image : Fields) → Rules image → (bound : Bindings) → ((f : ℕ) → f < length image.functions → bound f ≡ None) → ((q : ℕ) → 0 < points_of q image.points → bound (pointer_number image q) ≡ None) →
    changed_words image bound ≡ 0
