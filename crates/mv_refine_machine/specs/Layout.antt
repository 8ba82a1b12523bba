-- Where the data of a program and the frame of a function lie in memory.
use Rattle.std.specs.Prelude.{ℕ, ◌≡◌, ◌+◌, ◌*◌, ◌%◌, ◌<◌, ◌≤◌, ◌⊎◌, max, true, List, length, take, slice_index, sum}
use Rattle.mv_num.specs.Regions.{data_start, stack_start, plan_area, data_limit}
use Rattle.mv_isa.specs.Registers.{sp}
use Rattle.mv_select_code.specs.Statements.Frames.{Site, Cell, IsOwn, IsThere, address}
use Rattle.mv_select.specs.Calls.Convention as convention

-- an address of the data or of the stack
abbrev pub IsOutsideText : ℕ → Type 0
IsOutsideText a = (data_start ≤ a) × (a < plan_area)

-- the frame's own cells lie there
abbrev pub OwnOutsideText : Site → Type 0
OwnOutsideText s = (x : Cell) → IsOwn s x → IsThere s x → IsOutsideText (address s x)

-- the address of the frame: what sp holds
abbrev pub frame_at : Site → ℕ
frame_at s = s.register sp

-- what is kept is a saved word of the frame, or lies in the stack above it
abbrev pub IsKeptApart : (bytes : ℕ) → Site → Type 0
IsKeptApart bytes s = (a : ℕ) → s.is_kept a ≡ true → ((frame_at s ≤ a) × (a < frame_at s + 40)) ⊎ ((frame_at s + bytes ≤ a) × (a < plan_area))

-- The globals lie in order in the data, and the frame, of so many bytes, in the stack: ten words for saved registers, the temporaries from
-- number 9 on, and the arrays in order. What is kept is the saved words, and what lies above the frame. A global or an array of no words lies
-- nowhere.
pub record IsLaidOut (bytes : ℕ) (s : Site) : Type 0 where
  -- each global lies in the data
  pub data_begins : (g : ℕ) → 0 < s.size g → data_start ≤ s.seats.place g
  pub data_ends : (g : ℕ) → 0 < s.size g → s.seats.place g + 4 * s.size g ≤ stack_start
  -- a later global lies behind
  pub globals_ascend : (g h : ℕ) → g < h → 0 < s.size g → 0 < s.size h → s.seats.place g + 4 * s.size g ≤ s.seats.place h
  -- the frame lies in the stack
  pub stack_begins : stack_start ≤ frame_at s
  pub stack_ends : frame_at s + bytes ≤ plan_area
  -- temporary number t lies 4 * (t + 1) bytes above sp
  pub temps_end : 9 < s.temps → 4 * (s.temps + 1) ≤ bytes
  -- each array lies behind the saved words and the temporaries, and in the frame
  pub arrays_behind_saved : (a : ℕ) → 0 < s.array_size a → 40 ≤ s.array_at a
  pub arrays_behind_temps : (a : ℕ) → 0 < s.array_size a → 4 * (s.temps + 1) ≤ s.array_at a
  pub arrays_end : (a : ℕ) → 0 < s.array_size a → s.array_at a + 4 * s.array_size a ≤ bytes
  -- a later array lies behind
  pub arrays_ascend : (a b : ℕ) → a < b → 0 < s.array_size a → 0 < s.array_size b → s.array_at a + 4 * s.array_size a ≤ s.array_at b
  pub kept : IsKeptApart bytes s

-- Globals and arrays of so many words each stand one behind the other: the globals from the start of the data, and the arrays behind the temporaries,
-- or behind the saved words where all temporaries stand in registers. The frame may be longer.
pub record IsPacked (globals arrays : List ℕ) (bytes : ℕ) (s : Site) : Type 0 where
  pub sizes : (g : ℕ) → s.size g ≡ slice_index globals g
  pub places : (g : ℕ) → g < length globals → s.seats.place g ≡ data_start + 4 * sum (take g globals)
  pub data_fits : 4 * sum globals ≤ 4 * data_limit
  pub array_sizes : (a : ℕ) → s.array_size a ≡ slice_index arrays a
  pub array_places : (a : ℕ) → a < length arrays → s.array_at a ≡ 4 * (max 9 s.temps + 1) + 4 * sum (take a arrays)
  pub frame_fits : 4 * (max 9 s.temps + 1) + 4 * sum arrays ≤ bytes
  pub stack_begins : stack_start ≤ frame_at s
  pub stack_ends : frame_at s + bytes ≤ plan_area
  pub kept : IsKeptApart bytes s

-- The globals of a program lie in order in the data, and its stack lies in that of the machine. A global of no words lies nowhere.
pub record IsSetOut (y : convention.Layout) : Type 0 where
  pub data_begins : (g : ℕ) → 0 < y.size g → data_start ≤ y.place g
  pub data_ends : (g : ℕ) → 0 < y.size g → y.place g + 4 * y.size g ≤ stack_start
  pub globals_ascend : (g h : ℕ) → g < h → 0 < y.size g → 0 < y.size h → y.place g + 4 * y.size g ≤ y.place h
  pub stack_begins : stack_start ≤ y.bottom
  pub stack_ends : y.top ≤ plan_area
  pub even : y.bottom % 4 ≡ 0
