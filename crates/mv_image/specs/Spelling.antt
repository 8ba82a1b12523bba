-- What an image is, and its one spelling.
use Rattle.std.specs.Prelude.{ℕ, ◌+◌, ◌-◌, ◌*◌, ◌/◌, List, [], ◌∷◌, ◌++◌, length, replicate, ◌==◌, if◌then◌else◌}
use Rattle.std.specs.List.{flat_map}
use Rattle.mv_num.specs.Bytes.{bytes_of}
use Rattle.mv_descriptors.specs.Widths.{switch_words, function_words, variant_words, guard_words, site_words, pointer_words, point_words, target_words}
use Rattle.mv_descriptors.specs.declared.rows.SwitchRow.{SwitchRow}
use Rattle.mv_descriptors.specs.declared.rows.FunctionRow.{FunctionRow}
use Rattle.mv_descriptors.specs.declared.rows.VariantRow.{VariantRow}
use Rattle.mv_descriptors.specs.declared.rows.GuardRow.{GuardRow}
use Rattle.mv_descriptors.specs.declared.rows.SiteRow.{SiteRow}
use Rattle.mv_descriptors.specs.declared.rows.PointerRow.{PointerRow}
use Rattle.mv_descriptors.specs.declared.rows.PointRow.{PointRow}
use Rattle.mv_descriptors.specs.declared.rows.TargetRow.{TargetRow}
use Rattle.mv_image.specs.Places.{magic}

pub record Fields : Type 0 where
  pub version : ℕ
  pub entry : ℕ
  pub text : List ℕ
  pub globals : List ℕ
  pub switches : List SwitchRow
  pub functions : List FunctionRow
  pub variants : List VariantRow
  pub guards : List GuardRow
  pub sites : List SiteRow
  pub pointers : List PointerRow
  pub points : List PointRow
  pub targets : List TargetRow
  pub check : ℕ
  pub names : List (List ℕ)

-- a program without tables, in version 2
abbrev pub bare : ℕ → List ℕ → List ℕ → Fields
bare entry text globals = record {
  version = 2;
  entry = entry;
  text = text;
  globals = globals;
  switches = [];
  functions = [];
  variants = [];
  guards = [];
  sites = [];
  pointers = [];
  points = [];
  targets = [];
  check = 0;
  names = [];
}

abbrev pub joined : List (List ℕ) → List ℕ
joined names = flat_map (λ name. name) names

-- the four words of the header that version 2 alone has
unfoldable pub later_of : Fields → List ℕ
later_of image =
    if image.version == 2 then length image.pointers ∷ length image.points ∷ length image.targets ∷ image.check ∷ [] else []

unfoldable pub header_of : Fields → List ℕ
header_of image =
    magic ∷ image.version ∷ image.entry ∷ length image.text ∷ length image.globals ∷ length image.switches ∷ length image.functions
    ∷ length image.variants ∷ length image.guards ∷ length image.sites ∷ length (joined image.names) ∷ 0 ∷ later_of image

unfoldable pub words_in : Fields → List ℕ
words_in image =
    header_of image ++ image.text ++ image.globals ++ flat_map switch_words image.switches ++ flat_map function_words image.functions
    ++ flat_map variant_words image.variants ++ flat_map guard_words image.guards ++ flat_map site_words image.sites
    ++ flat_map pointer_words image.pointers ++ flat_map point_words image.points ++ flat_map target_words image.targets

-- the least multiple of 4 from a number on
abbrev pub filled : ℕ → ℕ
filled n = 4 * ((n + 3) / 4)

abbrev pub names_in : Fields → List ℕ
names_in image = joined image.names ++ replicate (filled (length (joined image.names)) - length (joined image.names)) 0

unfoldable pub spelling : Fields → List ℕ
spelling image = bytes_of (words_in image) ++ names_in image
