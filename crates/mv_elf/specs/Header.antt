-- The header of a file: where each field stands that is looked at, and what it has to hold.
use Rattle.std.specs.Prelude.{ℕ, ◌≡◌, ◌<◌, ◌≤◌, List, length, slice_index, Bool, true, false, ◌&&◌, ◌||◌, ◌==◌, nat_le, if◌then◌else◌}
use Rattle.mv_elf.specs.Numbers.{half_at, word_at}

-- the sizes of the header and of a program header
abbrev pub header_size : ℕ
header_size = 52

abbrev pub program_size : ℕ
program_size = 32

-- the fields, by the offsets at which they begin

abbrev pub magic_at : ℕ
magic_at = 0

abbrev pub class_at : ℕ
class_at = 4

-- the order of bytes, which the format calls data
abbrev pub order_at : ℕ
order_at = 5

abbrev pub format_at : ℕ
format_at = 6

abbrev pub type_at : ℕ
type_at = 16

abbrev pub machine_at : ℕ
machine_at = 18

abbrev pub version_at : ℕ
version_at = 20

abbrev pub entry_at : ℕ
entry_at = 24

-- where the offset of the first program header stands
abbrev pub programs_at : ℕ
programs_at = 28

abbrev pub flags_at : ℕ
flags_at = 36

abbrev pub header_size_at : ℕ
header_size_at = 40

abbrev pub program_size_at : ℕ
program_size_at = 42

-- where the number of program headers stands
abbrev pub count_at : ℕ
count_at = 44

-- what they hold

-- the bytes 7f 45 4c 46
abbrev pub magic : ℕ
magic = 0x464C457F

-- a file that can be executed, for RISC-V
abbrev pub executable : ℕ
executable = 2

abbrev pub riscv : ℕ
riscv = 243

abbrev pub program_limit : ℕ
program_limit = 64

-- Whether the field at an offset holds what it has to. The entry is judged later, and what stands at other offsets isn't looked at.
unfoldable pub field_fits : List ℕ → ℕ → Bool
field_fits bytes at =
    if at == magic_at then word_at bytes at == magic else
    if at == class_at then slice_index bytes at == 1 else
    if at == order_at then slice_index bytes at == 1 else
    if at == format_at then slice_index bytes at == 1 else
    if at == type_at then half_at bytes at == executable else
    if at == machine_at then half_at bytes at == riscv else
    if at == version_at then word_at bytes at == 1 else
    if at == flags_at then word_at bytes at == 0 else
    if at == header_size_at then half_at bytes at == header_size else
    if at == program_size_at then half_at bytes at == program_size else
    if at == count_at then nat_le 1 (half_at bytes at) && nat_le (half_at bytes at) program_limit else
    true

-- Whether a wrong field shows a file of another kind or of another machine: its class, order of bytes, type, machine or flags.
unfoldable pub is_foreign : ℕ → Bool
is_foreign at = at == class_at || at == order_at || at == type_at || at == machine_at || at == flags_at

-- Each field holds what it has to.
pub record HasHeader (bytes : List ℕ) : Type 0 where
  pub whole : header_size ≤ length bytes
  pub fields : (at : ℕ) → at < header_size → field_fits bytes at ≡ true

-- An offset is that of the first field which doesn't.
pub record IsFirstWrong (bytes : List ℕ) (at : ℕ) : Type 0 where
  pub whole : header_size ≤ length bytes
  pub within : at < header_size
  pub before : (k : ℕ) → k < at → field_fits bytes k ≡ true
  pub wrong : field_fits bytes at ≡ false
