-- The tables of an image, as the linker makes them of parts, and what parts have to keep for it.
use Rattle.std.specs.Prelude.{ℕ, suc, ◌+◌, ◌-◌, ◌*◌, ◌^◌, ◌<◌, ◌≤◌, ◌≡◌, ◌≢◌, ◌==◌, Bool, true, false, if◌then◌else◌, Option, Some, None, is_some, unwrap_or, List, [], ◌∷◌, ◌++◌, length, map, replicate, count_by, sum_by, slice_get, slice_index, All}
use Rattle.std.specs.List.{flat_map}
use Rattle.mv_num.specs.Kinds.{kind_number, is_value, is_at_most}
pub use Rattle.mv_num.specs.Regions.{data_start}
use Rattle.mv_num.specs.Regions.{data_limit}
use Rattle.mv_num.specs.Limits.{name_limit, function_limit, switch_limit, pointer_limit, value_limit, own_switch_limit, assignment_limit}
use Rattle.mv_descriptors.specs.declared.rows.SwitchRow.{SwitchRow}
use Rattle.mv_descriptors.specs.declared.rows.FunctionRow.{FunctionRow}
use Rattle.mv_descriptors.specs.declared.rows.VariantRow.{VariantRow}
use Rattle.mv_descriptors.specs.declared.rows.GuardRow.{GuardRow}
use Rattle.mv_descriptors.specs.declared.rows.SiteRow.{SiteRow}
use Rattle.mv_descriptors.specs.declared.rows.PointerRow.{PointerRow}
use Rattle.mv_descriptors.specs.declared.rows.PointRow.{PointRow}
use Rattle.mv_descriptors.specs.declared.rows.TargetRow.{TargetRow}
use Rattle.mv_isa.specs.declared.labelled.Labelled.{Labelled}
use Rattle.mv_isa.specs.declared.labelled.Line.{Line}
use Rattle.mv_isa.specs.declared.labelled.Line.TheVariants.{Slot, Point}
use Rattle.mv_isa.specs.Code.{line_at, least_words}
use Rattle.mv_image.specs.Format.{IsIdentifier}
use Rattle.mv_linker.specs.declared.parts.Parts.{Parts}
use Rattle.mv_linker.specs.declared.parts.PartSwitch.{PartSwitch}
use Rattle.mv_linker.specs.declared.parts.PartFunction.{PartFunction}
use Rattle.mv_linker.specs.declared.parts.PartVariant.{PartVariant}
use Rattle.mv_linker.specs.declared.parts.PartPointer.{PartPointer}
use Rattle.mv_linker.specs.Linked.{codes}

-- ---- rows

-- words of a row with so many places, the others of which are 0
abbrev pub padded : (places : ℕ) → List ℕ → List ℕ
padded places words = words ++ replicate (places - length words) 0

abbrev pub switch_row : PartSwitch → SwitchRow
switch_row s = record {
  length = length s.name;
  address = data_start + 4 * s.word;
  kind = s.kind;
  count = length s.values;
  values = padded value_limit s.values;
}

-- the row of a function, given the address of each code's entry
abbrev pub function_row : (ℕ → ℕ) → PartFunction → FunctionRow
function_row address a = record {
  length = length a.name;
  entry = address a.function;
  count = length a.switches;
  switches = padded own_switch_limit a.switches;
  variants = length a.variants;
}

-- the row of a variant at an address
abbrev pub variant_row : ℕ → PartVariant → VariantRow
variant_row address v = record {
  address = address;
  inlined = if is_some v.inline then 1 else 0;
  words = unwrap_or v.inline (0 ∷ 0 ∷ []);
  guards = length v.guards;
}

-- the rows of variants whose codes have the numbers from one on
abbrev pub variant_rows : (ℕ → ℕ) → ℕ → List PartVariant → List VariantRow
variant_rows address number [] = []
variant_rows address number (v ∷ rest) = variant_row (address number) v ∷ variant_rows address (suc number) rest

-- the address of a pointer switch's word
abbrev pub pointer_address : PartPointer → ℕ
pointer_address q = data_start + 4 * q.word

abbrev pub pointer_row : PartPointer → PointerRow
pointer_row q = record { length = length q.name; address = pointer_address q }

-- the rows of targets: of functions by their names, the first of which has a number, given the address of each code's entry
abbrev pub target_rows : (ℕ → ℕ) → ℕ → List (List ℕ) → List TargetRow
target_rows address number [] = []
target_rows address number (name ∷ rest) = record { length = length name; entry = address number } ∷ target_rows address (suc number) rest

-- ---- what rows have room for

pub record FitsSwitchRow (s : PartSwitch) : Type 0 where
  pub name : length s.name < 2 ^ 32
  pub word : s.word < data_limit
  pub values : length s.values ≤ value_limit

pub record FitsPointerRow (q : PartPointer) : Type 0 where
  pub name : length q.name < 2 ^ 32
  pub word : q.word < data_limit

-- a function, of so many codes
pub record FitsFunctionRow (count : ℕ) (a : PartFunction) : Type 0 where
  pub name : length a.name < 2 ^ 32
  pub there : a.function < count
  pub switches : length a.switches ≤ own_switch_limit
  pub variants : length a.variants < 2 ^ 32

abbrev pub HasFewGuards : PartVariant → Type 0
HasFewGuards v = length v.guards < 2 ^ 32

-- ---- sites

abbrev pub is_slot : Line → Bool
is_slot (Slot f) = true
is_slot _ = false

abbrev pub slot_count : List Line → ℕ
slot_count lines = count_by is_slot lines

-- the numbers of the attributed functions among all functions
abbrev pub attributed_numbers : List PartFunction → List ℕ
attributed_numbers attributed = map (λ (a : PartFunction). a.function) attributed

-- the place of a number among some, or how many there are where it isn't among them
abbrev pub place_among : List ℕ → ℕ → ℕ
place_among [] f = 0
place_among (n ∷ rest) f = if n == f then 0 else suc (place_among rest f)

-- the sites of lines from an index on, given the address of each line: one for each slot, with the place of its function among the attributed ones
abbrev pub sites_from : (at : ℕ → ℕ) → List ℕ → ℕ → List Line → List SiteRow
sites_from at numbers k [] = []
sites_from at numbers k (Slot f ∷ rest) = record { address = at k; function = place_among numbers f } ∷ sites_from at numbers (suc k) rest
sites_from at numbers k (_ ∷ rest) = sites_from at numbers (suc k) rest

-- ---- pointer sites

abbrev pub is_point : Line → Bool
is_point (Point a) = true
is_point _ = false

abbrev pub point_count : List Line → ℕ
point_count lines = count_by is_point lines

-- the addresses of pointer switches, in order
abbrev pub pointer_addresses : List PartPointer → List ℕ
pointer_addresses pointers = map pointer_address pointers

-- the pointer sites of lines from an index on, given the address of each line: one for each slot of four words, with the place of its pointer switch
abbrev pub points_from : (at : ℕ → ℕ) → List ℕ → ℕ → List Line → List PointRow
points_from at addresses k [] = []
points_from at addresses k (Point a ∷ rest) = record { address = at k; pointer = place_among addresses a } ∷ points_from at addresses (suc k) rest
points_from at addresses k (_ ∷ rest) = points_from at addresses (suc k) rest

-- ---- how many there are of both

-- a slot of four words counts twice
abbrev pub site_weight : List Line → ℕ
site_weight lines = slot_count lines + 2 * point_count lines

-- the slots that the codes of parts have, those of four words counted twice
abbrev pub site_count : Parts → ℕ
site_count parts = sum_by (λ (code : Labelled). site_weight code.items) (codes parts)

-- ---- conditions

-- an identifier of at most 63 bytes
pub record IsName (name : List ℕ) : Type 0 where
  pub identifier : IsIdentifier name
  pub short : length name ≤ name_limit

-- a switch, whose word is among so many of data
pub record FitsPartSwitch (words : ℕ) (s : PartSwitch) : Type 0 where
  pub name : IsName s.name
  pub word : s.word < words
  pub some : 1 ≤ length s.values
  pub few : length s.values ≤ value_limit
  pub values : All (λ v. is_value (kind_number s.kind) v ≡ true) s.values

-- A guard row gives a range of values for each switch of a function, by their kinds, and zeros for no switch.
pub record IsRange (kinds : List ℕ) (row : GuardRow) : Type 0 where
  pub low : (i : ℕ) → i < length kinds → is_value (slice_index kinds i) (slice_index row.low i) ≡ true
  pub high : (i : ℕ) → i < length kinds → is_value (slice_index kinds i) (slice_index row.high i) ≡ true
  pub ordered : (i : ℕ) → i < length kinds → is_at_most (slice_index kinds i) (slice_index row.low i) (slice_index row.high i) ≡ true
  pub low_unused : (i : ℕ) → length kinds ≤ i → i < own_switch_limit → slice_index row.low i ≡ 0
  pub high_unused : (i : ℕ) → length kinds ≤ i → i < own_switch_limit → slice_index row.high i ≡ 0

-- code begins with a line that has words and is no slot
pub record BeginsWithWords (code : Labelled) : Type 0 where
  pub some : 1 ≤ least_words (line_at code.items 0)
  pub no_slot : is_slot (line_at code.items 0) ≡ false
  pub no_point : is_point (line_at code.items 0) ≡ false

-- a variant of a function whose switches have these kinds
pub record FitsPartVariant (kinds : List ℕ) (v : PartVariant) : Type 0 where
  pub begins : BeginsWithWords v.code
  pub some : 1 ≤ length v.guards
  pub ranges : All (IsRange kinds) v.guards

-- the kind of a switch, by number

abbrev pub kind_in : Option PartSwitch → ℕ
kind_in None = 0
kind_in (Some s) = kind_number s.kind

abbrev pub kinds_of : List PartSwitch → List ℕ → List ℕ
kinds_of switches numbers = map (λ n. kind_in (slice_get switches n)) numbers

-- the guard rows of variants, one variant's behind another's
abbrev pub guards_of : List PartVariant → List GuardRow
guards_of variants = flat_map (λ (v : PartVariant). v.guards) variants

-- an attributed function
pub record FitsPartFunction (parts : Parts) (a : PartFunction) : Type 0 where
  pub name : IsName a.name
  pub there : a.function < length parts.functions
  pub begins : (code : Labelled) → slice_get parts.functions a.function ≡ Some code → BeginsWithWords code
  pub few_switches : length a.switches ≤ own_switch_limit
  pub switches : All (λ s. s < length parts.switches) a.switches
  pub ascend : (i : ℕ) → i + 1 < length a.switches → slice_index a.switches i < slice_index a.switches (i + 1)
  pub some : 1 ≤ length a.variants
  pub variants : All (FitsPartVariant (kinds_of parts.switches a.switches)) a.variants
  pub few_guards : length (guards_of a.variants) ≤ assignment_limit

-- a pointer switch, whose word is among so many of data
pub record FitsPartPointer (words : ℕ) (q : PartPointer) : Type 0 where
  pub name : IsName q.name
  pub word : q.word < words

-- a slot of four words calls through one of some pointers
abbrev pub GoesThrough : List ℕ → Line → Type 0
GoesThrough addresses (Point a) = (n : ℕ) × (slice_get addresses n ≡ Some a)
GoesThrough addresses _ = Unit {0}

-- a slot calls one of some functions
abbrev pub CallsAmong : List ℕ → Line → Type 0
CallsAmong numbers (Slot f) = (n : ℕ) × (slice_get numbers n ≡ Some f)
CallsAmong numbers _ = Unit {0}

-- What of parts goes into tables can: attributed functions ascend, and slots call these alone; those of four words go through the pointer switches; and these
-- lead to functions that there are, which have lines.
pub record FitTables (parts : Parts) : Type 0 where
  pub few_switches : length parts.switches ≤ switch_limit
  pub switches : All (FitsPartSwitch (length parts.globals)) parts.switches
  pub few_functions : length parts.attributed ≤ function_limit
  pub functions : All (FitsPartFunction parts) parts.attributed
  pub ascend : (i : ℕ) → i + 1 < length parts.attributed → slice_index (attributed_numbers parts.attributed) i < slice_index (attributed_numbers parts.attributed) (i + 1)
  pub slots : All (λ (code : Labelled). All (CallsAmong (attributed_numbers parts.attributed)) code.items) (codes parts)
  pub few_pointers : length parts.pointers ≤ pointer_limit
  pub pointers : All (FitsPartPointer (length parts.globals)) parts.pointers
  pub through : All (λ (code : Labelled). All (GoesThrough (pointer_addresses parts.pointers)) code.items) (codes parts)
  pub few_targets : length parts.targets ≤ function_limit
  pub targets : All IsName parts.targets
  pub targets_there : length parts.targets ≤ length parts.functions
  pub targets_begin : parts.targets ≢ [] → All BeginsWithWords parts.functions
