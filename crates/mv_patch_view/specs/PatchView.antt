-- The patch view of an image: for each place of its text at which bindings show, what stands there while all is free, and what a commit puts there.
use Rattle.std.specs.Prelude.{ℕ, ◌≡◌, ◌+◌, ◌^◌, ◌<◌, ◌≤◌, List, [], ◌∷◌, ◌++◌, codes, length, map, slice_index, slice_range, Option, Some, None}
use Rattle.std.specs.Fmt.{decimal}
use Rattle.mv_asmtext.specs.Printing.{word_text}
use Rattle.mv_descriptors.specs.declared.rows.FunctionRow.{FunctionRow}
use Rattle.mv_descriptors.specs.declared.rows.PointRow.{PointRow}
use Rattle.mv_descriptors.specs.declared.rows.SiteRow.{SiteRow}
use Rattle.mv_descriptors.specs.declared.rows.TargetRow.{TargetRow}
use Rattle.mv_descriptors.specs.declared.rows.VariantRow.{VariantRow}
use Rattle.mv_image.specs.Patched.{variants_before, at_entry, at_site, after_site, at_point, slot_places}
use Rattle.mv_image.specs.Spelling.{Fields}
use Rattle.mv_list.specs.Listing.{function_name, pointer_name, target_name}
use Rattle.mv_list.specs.Numbers.{address_text}
use Rattle.mv_list.specs.Places.{place_name}
use Rattle.mv_patch.specs.Tables.{word_of}
use Rattle.mv_patch_view.specs.declared.place.Place.{Place}
use Rattle.mv_patch_view.specs.declared.place.Place.TheVariants.{Entry, Site}

-- ---- what stands at a place

-- at an entry or a site, under the variant that its function is bound to
abbrev pub words_at : Fields → Place → Option VariantRow → List ℕ
words_at image (Entry a) shown = at_entry a (word_of image.text a) shown ∷ []
words_at image (Site a) shown = at_site a (word_of image.text a) shown ∷ after_site (a + 4) (word_of image.text (a + 4)) shown ∷ []

-- at a pointer site, under the target that its pointer switch is bound to
abbrev pub words_through : Fields → PointRow → Option TargetRow → List ℕ
words_through image point shown = map (λ a. at_point image point a (word_of image.text a) shown) (slot_places point)

-- ---- its lines

-- a line for each word, behind the name of the state in which it stands there
unfoldable pub word_lines : (state : List ℕ) → List ℕ → List ℕ
word_lines state [] = []
word_lines state (word ∷ words) = codes "  " ++ (state ++ (codes ": " ++ (word_text word ++ (codes "\n" ++ word_lines state words))))

-- an entry or a site under each of some variants, of which the first has this number
unfoldable pub variants_lines : Fields → Place → ℕ → List VariantRow → List ℕ
variants_lines image place n [] = []
variants_lines image place n (row ∷ rows) = word_lines (codes "variant " ++ decimal n) (words_at image place (Some row)) ++ variants_lines image place (n + 1) rows

-- the variants of the function with a number, behind those of the functions before it
abbrev pub variants_of : Fields → ℕ → List VariantRow
variants_of image function = slice_range image.variants (variants_before image function) (variants_before image (function + 1))

-- an entry or a site of a function, while it is free and under each of its variants
abbrev pub place_lines : Fields → Place → (function : ℕ) → List ℕ
place_lines image place function = word_lines (codes "free") (words_at image place None) ++ variants_lines image place 0 (variants_of image function)

-- a pointer site under each of some targets, of which the first has this number
unfoldable pub targets_lines : Fields → PointRow → ℕ → List TargetRow → List ℕ
targets_lines image point n [] = []
targets_lines image point n (row ∷ rows) = word_lines (codes "target " ++ target_name image n) (words_through image point (Some row)) ++ targets_lines image point (n + 1) rows

-- ---- all places

-- the function in whose code a place stands, where the image tells it
abbrev pub within_text : Option (List ℕ) → List ℕ
within_text None = []
within_text (Some name) = codes " in " ++ name

-- what a place is, its address, and of which function or pointer switch it is
unfoldable pub place_line : (what : List ℕ) → (address : ℕ) → (name : List ℕ) → (within : Option (List ℕ)) → List ℕ
place_line what address name within = what ++ (codes " " ++ (address_text address ++ (codes " " ++ (name ++ (within_text within ++ codes "\n")))))

abbrev pub entry_lines : Fields → ℕ → FunctionRow → List ℕ
entry_lines image n row = place_line (codes "entry") row.entry (function_name image n) None ++ place_lines image (Entry row.entry) n

-- the entries of the functions from the n-th on
unfoldable pub entries_text : Fields → ℕ → List FunctionRow → List ℕ
entries_text image n [] = []
entries_text image n (row ∷ rows) = entry_lines image n row ++ entries_text image (n + 1) rows

abbrev pub site_lines : Fields → SiteRow → List ℕ
site_lines image row =
    place_line (codes "site") row.address (function_name image row.function) (place_name image row.address) ++ place_lines image (Site row.address) row.function

unfoldable pub sites_text : Fields → List SiteRow → List ℕ
sites_text image [] = []
sites_text image (row ∷ rows) = site_lines image row ++ sites_text image rows

abbrev pub point_lines : Fields → PointRow → List ℕ
point_lines image row =
    place_line (codes "through") row.address (pointer_name image row.pointer) (place_name image row.address)
    ++ (word_lines (codes "free") (words_through image row None) ++ targets_lines image row 0 image.targets)

unfoldable pub points_text : Fields → List PointRow → List ℕ
points_text image [] = []
points_text image (row ∷ rows) = point_lines image row ++ points_text image rows

unfoldable pub patch_view_text : Fields → List ℕ
patch_view_text image = entries_text image 0 image.functions ++ (sites_text image image.sites ++ points_text image image.points)

-- ---- what is at hand while it is written

-- each word of an entry or a site has an address
abbrev pub IsAddressed : Place → Type 0
IsAddressed (Entry a) = Unit {0}
IsAddressed (Site a) = a + 4 < 2 ^ 32

-- each word of a pointer site, and what it jumps to in the check stub
pub record IsPointAddressed (image : Fields) (point : PointRow) : Type 0 where
  pub last : point.address + 12 < 2 ^ 32
  pub check : image.check + 8 < 2 ^ 32

-- how many variants the functions before each have, and how many all have
pub record AreStarts (image : Fields) (starts : List ℕ) : Type 0 where
  pub count : length starts ≡ length image.functions + 1
  pub each : (function : ℕ) → function ≤ length image.functions → slice_index starts function ≡ variants_before image function
