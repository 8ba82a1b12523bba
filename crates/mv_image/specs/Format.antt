-- What fields keep to be an image, said of the fields alone: nothing of their spelling, or of where a word stands in it.
use Rattle.std.specs.Prelude.{ℕ, ◌≡◌, ◌+◌, ◌*◌, ◌<◌, ◌≤◌, ◌⊎◌, ◌||◌, ◌==◌, true, false, List, length, map, slice_index, slice_index_or, sum_by}
use Rattle.std.specs.Prelude.{All}
use Rattle.mv_num.specs.Bytes.{AreWords}
use Rattle.mv_num.specs.Regions.{text_limit, data_limit}
use Rattle.mv_num.specs.Limits.{function_limit, switch_limit, pointer_limit, row_limit, site_limit}
use Rattle.mv_descriptors.specs.declared.rows.SwitchRow.{SwitchRow}
use Rattle.mv_descriptors.specs.declared.rows.FunctionRow.{FunctionRow}
use Rattle.mv_descriptors.specs.declared.rows.VariantRow.{VariantRow}
use Rattle.mv_descriptors.specs.declared.rows.GuardRow.{GuardRow}
use Rattle.mv_descriptors.specs.declared.rows.SiteRow.{SiteRow}
use Rattle.mv_descriptors.specs.declared.rows.PointRow.{PointRow}
use Rattle.mv_descriptors.specs.declared.rows.TargetRow.{TargetRow}
use Rattle.mv_descriptors.specs.Widths.{SwitchWhole, FunctionWhole, VariantWhole, GuardWhole, SwitchClean, FunctionClean, VariantClean}
use Rattle.mv_image.specs.Spelling.{Fields}
use Rattle.mv_image.specs.Places.{point_limit}
use Rattle.mv_image.specs.Names.{is_letter, is_digit, is_keyword}
use Rattle.mv_image.specs.Patched.{variants_before, guards_before}
use Rattle.mv_image.specs.WellFormed.{IsInText, FitsSwitch, FitsFunction, FitsVariant, FitsSite, FitsGuard, FitsPointer, FitsPoint, FitsTarget}
use Rattle.mv_image.specs.Faults.{Rules, HasNoPointers, lengths_in}

-- Text has a word at least, a run begins in it, and no list is longer than the format allows.
pub record IsWithin (image : Fields) : Type 0 where
  pub some_text : 1 ≤ length image.text
  pub text : length image.text ≤ text_limit
  pub globals : length image.globals ≤ data_limit
  pub switches : length image.switches ≤ switch_limit
  pub functions : length image.functions ≤ function_limit
  pub variants : length image.variants ≤ row_limit
  pub guards : length image.guards ≤ row_limit
  pub sites : length image.sites ≤ site_limit
  pub pointers : length image.pointers ≤ pointer_limit
  pub points : length image.points ≤ point_limit
  pub places : length image.sites + 2 * length image.points ≤ site_limit
  pub targets : length image.targets ≤ function_limit
  pub entry : IsInText image image.entry

-- The version is 1 or 2, and only version 2 has anything of pointers.
pub record HasVersion (image : Fields) : Type 0 where
  pub known : (image.version ≡ 1) ⊎ (image.version ≡ 2)
  pub first : (image.version == 2) ≡ false → HasNoPointers image

-- The check stub has its place where there are pointer sites, and else there is none.
pub record HasCheck (image : Fields) : Type 0 where
  pub none : length image.points ≡ 0 → image.check ≡ 0
  pub check : 0 < length image.points → IsInText image image.check
  pub depth : 0 < length image.points → IsInText image (image.check + 8)

-- Each row has as many words as its kind has.
pub record HasWidths (image : Fields) : Type 0 where
  pub switches : All SwitchWhole image.switches
  pub functions : All FunctionWhole image.functions
  pub variants : All VariantWhole image.variants
  pub guards : All GuardWhole image.guards

-- The numbers that no other condition bounds are words of 32 bits.
pub record HasWords (image : Fields) : Type 0 where
  pub text : AreWords image.text
  pub globals : AreWords image.globals
  pub values : All (λ (row : SwitchRow). AreWords row.values) image.switches
  pub inlined : All (λ (row : VariantRow). AreWords row.words) image.variants
  pub lowest : All (λ (row : GuardRow). AreWords row.low) image.guards
  pub highest : All (λ (row : GuardRow). AreWords row.high) image.guards

-- What the types of code give.
pub record IsTyped (image : Fields) : Type 0 where
  pub widths : HasWidths image
  pub words : HasWords image

-- The words of a row that its own count or flag leaves unused are 0.
pub record LeavesZeros (image : Fields) : Type 0 where
  pub switches : All SwitchClean image.switches
  pub functions : All FunctionClean image.functions
  pub variants : All VariantClean image.variants

-- A guard row is one of a variant's, and the variant one of a function's.
pub record IsGuardOf (image : Fields) (function variant guard : ℕ) : Type 0 where
  pub function_there : function < length image.functions
  pub variant_there : variant < length image.variants
  pub guard_there : guard < length image.guards
  pub first_variant : variants_before image function ≤ variant
  pub last_variant : variant < variants_before image (function + 1)
  pub first_guard : guards_before image variant ≤ guard
  pub last_guard : guard < guards_before image (variant + 1)

-- Each guard row fits the function that it belongs to.
abbrev pub GuardsFit : Fields → Type 0
GuardsFit image = (function variant guard : ℕ) (d : FunctionRow) (e : GuardRow) → IsGuardOf image function variant guard → FitsGuard image (slice_index_or image.functions function d) (slice_index_or image.guards guard e)

-- What each row keeps by its own fields, and a guard row beside its function.
pub record RowsFit (image : Fields) : Type 0 where
  pub switches : All (FitsSwitch image) image.switches
  pub functions : All (FitsFunction image) image.functions
  pub variants : All (FitsVariant image) image.variants
  pub guards : GuardsFit image
  pub sites : All (FitsSite image) image.sites
  pub pointers : All (FitsPointer image) image.pointers
  pub points : All (FitsPoint image) image.points
  pub targets : All (FitsTarget image) image.targets

-- The variants of the functions are all variants, and the guard rows of the variants all guard rows.
pub record CountsAddUp (image : Fields) : Type 0 where
  pub variants : sum_by (λ (row : FunctionRow). row.variants) image.functions ≡ length image.variants
  pub guards : sum_by (λ (row : VariantRow). row.guards) image.variants ≡ length image.guards

-- Entries ascend, sites ascend by their two words and pointer sites by their four, no entry stands in a site or a pointer site, and no site in a pointer site.
pub record AreApart (image : Fields) : Type 0 where
  pub entries : (k : ℕ) (d : FunctionRow) → k + 1 < length image.functions → (slice_index_or image.functions k d).entry < (slice_index_or image.functions (k + 1) d).entry
  pub sites : (k : ℕ) (d : SiteRow) → k + 1 < length image.sites → (slice_index_or image.sites k d).address + 8 ≤ (slice_index_or image.sites (k + 1) d).address
  pub outside : (f k : ℕ) (d : FunctionRow) (e : SiteRow) → f < length image.functions → k < length image.sites
      → ((slice_index_or image.functions f d).entry < (slice_index_or image.sites k e).address) ⊎ ((slice_index_or image.sites k e).address + 8 ≤ (slice_index_or image.functions f d).entry)
  pub points : (k : ℕ) (d : PointRow) → k + 1 < length image.points → (slice_index_or image.points k d).address + 16 ≤ (slice_index_or image.points (k + 1) d).address
  pub outside_points : (f k : ℕ) (d : FunctionRow) (e : PointRow) → f < length image.functions → k < length image.points
      → ((slice_index_or image.functions f d).entry < (slice_index_or image.points k e).address) ⊎ ((slice_index_or image.points k e).address + 16 ≤ (slice_index_or image.functions f d).entry)
  pub beside_points : (j k : ℕ) (d : SiteRow) (e : PointRow) → j < length image.sites → k < length image.points
      → ((slice_index_or image.sites j d).address < (slice_index_or image.points k e).address) ⊎ ((slice_index_or image.points k e).address + 16 ≤ (slice_index_or image.sites j d).address)
  pub targets : (k : ℕ) (d : TargetRow) → k + 1 < length image.targets → (slice_index_or image.targets k d).entry < (slice_index_or image.targets (k + 1) d).entry

-- A name begins with a letter, goes on with letters and digits, and is no keyword.
pub record IsIdentifier (name : List ℕ) : Type 0 where
  pub first : is_letter (slice_index name 0) ≡ true
  pub others : (i : ℕ) → i < length name → (is_letter (slice_index name i) || is_digit (slice_index name i)) ≡ true
  pub no_keyword : is_keyword name ≡ false

-- The names are identifiers, with the lengths that the rows give.
pub record AreNamed (image : Fields) : Type 0 where
  pub identifiers : All IsIdentifier image.names
  pub lengths : map length image.names ≡ lengths_in image

-- What is asked of typed fields.
pub record FitsFormat (image : Fields) : Type 0 where
  pub version : HasVersion image
  pub limits : IsWithin image
  pub check : HasCheck image
  pub fit : RowsFit image
  pub unused : LeavesZeros image
  pub sums : CountsAddUp image
  pub apart : AreApart image
  pub names : AreNamed image

-- Fields that fit the format are an image: their spelling keeps every rule.
abbrev pub TablesAreRules : Type 0
TablesAreRules = (image : Fields) → IsTyped image → FitsFormat image → Rules image

-- And only these are.
abbrev pub RulesAreTables : Type 0
RulesAreTables = (image : Fields) → Rules image → IsTyped image × FitsFormat image
