-- What the rows of an image keep, each by its own fields.
use Rattle.std.specs.Prelude.{ℕ, ◌≡◌, ◌+◌, ◌-◌, ◌*◌, ◌/◌, ◌%◌, ◌<◌, ◌≤◌, true, length, slice_index, slice_index_or}
use Rattle.mv_num.specs.Kinds.{kind_number, is_value, is_at_most}
use Rattle.mv_num.specs.Regions.{text_start, data_start}
use Rattle.mv_num.specs.Limits.{name_limit, value_limit, own_switch_limit, assignment_limit}
use Rattle.mv_isa.specs.Registers.{ra}
use Rattle.mv_descriptors.specs.declared.rows.SwitchRow.{SwitchRow}
use Rattle.mv_descriptors.specs.declared.rows.FunctionRow.{FunctionRow}
use Rattle.mv_descriptors.specs.declared.rows.VariantRow.{VariantRow}
use Rattle.mv_descriptors.specs.declared.rows.GuardRow.{GuardRow}
use Rattle.mv_descriptors.specs.declared.rows.SiteRow.{SiteRow}
use Rattle.mv_descriptors.specs.declared.rows.PointerRow.{PointerRow}
use Rattle.mv_descriptors.specs.declared.rows.PointRow.{PointRow}
use Rattle.mv_descriptors.specs.declared.rows.TargetRow.{TargetRow}
use Rattle.mv_image.specs.Spelling.{Fields}
use Rattle.mv_image.specs.Jumps.{nop, jump, slot_words}
use Rattle.mv_image.specs.Patched.{kind_of}

-- an address of a word of text
pub record IsInText (image : Fields) (a : ℕ) : Type 0 where
  pub aligned : a % 4 ≡ 0
  pub not_before : text_start ≤ a
  pub within : a < text_start + 4 * length image.text

-- an address of a word of data
pub record IsInData (image : Fields) (a : ℕ) : Type 0 where
  pub aligned : a % 4 ≡ 0
  pub not_before : data_start ≤ a
  pub within : a < data_start + 4 * length image.globals

pub record FitsSwitch (image : Fields) (row : SwitchRow) : Type 0 where
  pub named : 1 ≤ row.length
  pub name : row.length ≤ name_limit
  pub address : IsInData image row.address
  pub some : 1 ≤ row.count
  pub count : row.count ≤ value_limit
  pub values : (i : ℕ) → i < row.count → is_value (kind_number row.kind) (slice_index row.values i) ≡ true

pub record FitsFunction (image : Fields) (row : FunctionRow) : Type 0 where
  pub named : 1 ≤ row.length
  pub name : row.length ≤ name_limit
  pub entry : IsInText image row.entry
  pub count : row.count ≤ own_switch_limit
  pub switches : (i : ℕ) → i < row.count → slice_index row.switches i < length image.switches
  pub ascend : (i : ℕ) → i + 1 < row.count → slice_index row.switches i < slice_index row.switches (i + 1)
  pub some : 1 ≤ row.variants
  pub variants : row.variants ≤ assignment_limit

pub record FitsVariant (image : Fields) (row : VariantRow) : Type 0 where
  pub address : IsInText image row.address
  pub inlined : row.inlined ≤ 1
  pub some : 1 ≤ row.guards
  pub guards : row.guards ≤ assignment_limit

-- A site holds a call of its function, and NOP.
pub record FitsSite (image : Fields) (row : SiteRow) : Type 0 where
  pub address : IsInText image row.address
  pub next : IsInText image (row.address + 4)
  pub function : row.function < length image.functions
  pub call : (d : FunctionRow) → slice_index image.text ((row.address - text_start) / 4) ≡ jump ra row.address (slice_index_or image.functions row.function d).entry
  pub pad : slice_index image.text ((row.address + 4 - text_start) / 4) ≡ nop

pub record FitsPointer (image : Fields) (row : PointerRow) : Type 0 where
  pub named : 1 ≤ row.length
  pub name : row.length ≤ name_limit
  pub address : IsInData image row.address

-- A pointer site holds the four words of a call through its pointer switch.
pub record FitsPoint (image : Fields) (row : PointRow) : Type 0 where
  pub address : IsInText image row.address
  pub last : IsInText image (row.address + 12)
  pub pointer : row.pointer < length image.pointers
  pub slot : (j : ℕ) (d : PointerRow) → j < 4 → slice_index image.text ((row.address + 4 * j - text_start) / 4) ≡ slice_index (slot_words image.check row.address (slice_index_or image.pointers row.pointer d).address) j

pub record FitsTarget (image : Fields) (row : TargetRow) : Type 0 where
  pub named : 1 ≤ row.length
  pub name : row.length ≤ name_limit
  pub entry : IsInText image row.entry

-- A guard row of a function gives a range of values for each of the function's switches, and zeros for no switch.
pub record FitsGuard (image : Fields) (function : FunctionRow) (row : GuardRow) : Type 0 where
  pub low : (i : ℕ) → i < function.count → is_value (kind_of image (slice_index function.switches i)) (slice_index row.low i) ≡ true
  pub high : (i : ℕ) → i < function.count → is_value (kind_of image (slice_index function.switches i)) (slice_index row.high i) ≡ true
  pub ordered : (i : ℕ) → i < function.count → is_at_most (kind_of image (slice_index function.switches i)) (slice_index row.low i) (slice_index row.high i) ≡ true
  pub low_unused : (i : ℕ) → function.count ≤ i → i < own_switch_limit → slice_index row.low i ≡ 0
  pub high_unused : (i : ℕ) → function.count ≤ i → i < own_switch_limit → slice_index row.high i ≡ 0
