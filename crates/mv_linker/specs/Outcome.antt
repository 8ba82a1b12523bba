-- The image of parts, and why there is none.
use Rattle.std.specs.Prelude.{ℕ, ◌<◌, ◌≤◌, ◌≡◌, List, ◌++◌, length, map, nat_lt, if◌then◌else◌}
pub use Rattle.mv_num.specs.Limits.{site_limit}
pub use Rattle.mv_num.specs.Regions.{data_limit}
use Rattle.mv_isa.specs.Code.{IsLeast, address, label_address, text_start}
use Rattle.mv_asm.specs.Outcome.{AreWordsUnder, PassesText}
use Rattle.mv_image.specs.Spelling.{Fields}
use Rattle.mv_linker.specs.declared.parts.Parts.{Parts}
use Rattle.mv_linker.specs.declared.parts.PartSwitch.{PartSwitch}
use Rattle.mv_linker.specs.declared.parts.PartFunction.{PartFunction}
use Rattle.mv_linker.specs.declared.parts.PartPointer.{PartPointer}
use Rattle.mv_linker.specs.declared.parts.Datum.{Datum}
use Rattle.mv_linker.specs.declared.parts.Datum.TheVariants.{Number, Function}
use Rattle.mv_linker.specs.declared.error.LinkError.{LinkError}
use Rattle.mv_linker.specs.declared.error.LinkError.TheVariants.{Sites, DataLimit, TextLimit, Memory}
use Rattle.mv_linker.specs.Linked.{function_variants, linked_lines, check_label}
use Rattle.mv_linker.specs.Tables.{switch_row, function_row, variant_rows, guards_of, sites_from, points_from, target_rows, pointer_row, pointer_addresses, attributed_numbers, point_count, site_count}

-- a word of data, given the address of each function
abbrev pub datum_word : (ℕ → ℕ) → Datum → ℕ
datum_word address (Number n) = n
datum_word address (Function f) = address f

-- the image of parts with some text, in version 2, given the address of each code's entry and that of each line
abbrev pub image_with : (address at : ℕ → ℕ) → (text : List ℕ) → Parts → Fields
image_with address at text parts = record {
  version = 2;
  entry = text_start;
  text = text;
  globals = map (datum_word address) parts.globals;
  switches = map switch_row parts.switches;
  functions = map (function_row address) parts.attributed;
  variants = variant_rows address (length parts.functions) (function_variants parts.attributed);
  guards = guards_of (function_variants parts.attributed);
  sites = sites_from at (attributed_numbers parts.attributed) 0 (linked_lines parts);
  pointers = map pointer_row parts.pointers;
  points = points_from at (pointer_addresses parts.pointers) 0 (linked_lines parts);
  targets = target_rows address 0 parts.targets;
  check = if nat_lt 0 (point_count (linked_lines parts)) then address check_label else 0;
  names = map (λ (s : PartSwitch). s.name) parts.switches ++ map (λ (a : PartFunction). a.name) parts.attributed
      ++ map (λ (q : PartPointer). q.name) parts.pointers ++ parts.targets;
}

-- ---- limits

abbrev pub HasFewSites : Parts → Type 0
HasFewSites parts = site_count parts ≤ site_limit

abbrev pub WithinLimit : Parts → Type 0
WithinLimit parts = length parts.globals ≤ data_limit

-- ---- outcomes

-- The image has the words of the linked lines, with as many short branches as can be, the data with the addresses of the functions that it names, and
-- the tables with those of the codes and of the slots.
pub record IsLinked (parts : Parts) (image : Fields) : Type 0 where
  pub sites_fit : HasFewSites parts
  pub data_fits : WithinLimit parts
  pub sizing : List ℕ
  pub least : IsLeast (linked_lines parts) sizing
  pub text : List ℕ
  pub text_is : AreWordsUnder text_start (linked_lines parts) sizing text
  pub image_is : image ≡ image_with (label_address text_start (linked_lines parts) sizing) (address text_start sizing) text parts

-- there are so many sites, too many; else so many words of data; else so many words of text
abbrev pub IsRefusal : Parts → LinkError → Type 0
IsRefusal parts (Sites count) = (site_limit < count) × (count ≡ site_count parts)
IsRefusal parts (DataLimit count) = HasFewSites parts × (data_limit < count) × (count ≡ length parts.globals)
IsRefusal parts (TextLimit count) = HasFewSites parts × WithinLimit parts × PassesText text_start (linked_lines parts) count
IsRefusal parts (Memory e) = Unit {0}
