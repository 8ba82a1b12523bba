-- How registers and memory show the state of a frame.
use Rattle.std.specs.Prelude.{ℕ, ◌≡◌, ◌≢◌, ◌+◌, ◌*◌, ◌^◌, ◌<◌, ◌≤◌, Bool, true, not, leb, List, length, slice_index, Some, None}
use Rattle.mv_ast.specs.declared.program.Known.{Known}
use Rattle.mv_isa.specs.Execution.{Access, reg}
use Rattle.mv_isa.specs.Registers.{x0, sp, a0}
use Rattle.mv_ir.specs.declared.stm.Array.{Array}
use Rattle.mv_ir.specs.declared.stm.Array.TheVariants as array
use Rattle.mv_ir.specs.declared.tree.Tree.{Tree}
use Rattle.mv_ir.specs.Trees.{found, depth}
use Rattle.mv_ir.specs.World as ir
use Rattle.mv_ir.specs.Outcome.{State}
use Rattle.mv_ir.specs.Meaning.{elements}
use Rattle.mv_select_code.specs.Trees.TreeCode.{Seats, temp_offset}
use Rattle.mv_select_code.specs.Trees.View.{View, is_in_view, AreRegisters, AreScratch, AreSeats}
use Rattle.mv_select_code.specs.declared.statements.elements.Home.{Home}
use Rattle.mv_select_code.specs.declared.statements.elements.Home.TheVariants as home

-- What some code may use of memory: the globals that it reads, those that it writes, and the addresses that it may load.
pub record Reach : Type 0 where
  pub is_read : ℕ → Bool
  pub is_written : ℕ → Bool
  pub may_load : ℕ → Bool

-- Where a frame stands: the address of each global and the register of each temporary that has one, how many words a global has, what the code may use of
-- memory, the address of each function, whether the code may call functions, and which known ones it may ask for, the number of temporaries, the place and
-- size of each array in bytes above sp and in words, and what the code is to leave alone: registers, and words of memory.
pub record Site : Type 0 where
  pub seats : Seats
  pub size : ℕ → ℕ
  pub reach : Reach
  pub entry : ℕ → ℕ
  pub may_call : Bool
  pub may_ask : Known → Bool
  pub temps : ℕ
  pub array_at : ℕ → ℕ
  pub array_size : ℕ → ℕ
  pub is_left : ℕ → Bool
  pub register : ℕ → ℕ
  pub is_kept : ℕ → Bool
  pub kept : ℕ → ℕ

-- a word of memory that the frame counts on
pub data Cell : Type 0 where
  TempCell : ℕ → Cell
  Element : Array → ℕ → Cell
  Kept : ℕ → Cell

module _ (s : Site) where
  -- the code may load elements of an array, and store to them, where it is one of the frame or a global of those that the code reads or writes
  abbrev pub IsRead : Array → Type 0
  IsRead (array.Global g) = s.reach.is_read g ≡ true
  IsRead (array.Local a) = Unit {0}
  IsRead (array.SureGlobal g n) = s.reach.is_read g ≡ true
  IsRead (array.SureLocal a n) = Unit {0}

  abbrev pub IsWritten : Array → Type 0
  IsWritten (array.Global g) = s.reach.is_written g ≡ true
  IsWritten (array.Local a) = Unit {0}
  IsWritten (array.SureGlobal g n) = s.reach.is_written g ≡ true
  IsWritten (array.SureLocal a n) = Unit {0}

  -- it may load all else that the frame counts on, and store to its temporaries
  abbrev pub IsLoaded : Cell → Type 0
  IsLoaded (Element a i) = IsRead a
  IsLoaded _ = Unit {0}

  abbrev pub IsOwn : Cell → Type 0
  IsOwn (TempCell t) = Unit {0}
  IsOwn (Element a i) = IsWritten a
  IsOwn (Kept b) = ⊥

  abbrev pub home_of : Array → Home
  home_of (array.Global g) = home.Data (s.seats.place g)
  home_of (array.Local a) = home.Frame (s.array_at a)
  home_of (array.SureGlobal g n) = home.Data (s.seats.place g)
  home_of (array.SureLocal a n) = home.Frame (s.array_at a)

  abbrev pub size_of : Array → ℕ
  size_of (array.Global g) = s.size g
  size_of (array.Local a) = s.array_size a
  size_of (array.SureGlobal g n) = s.size g
  size_of (array.SureLocal a n) = s.array_size a

  -- whether the code tests an index: not one that is promised to be below a number up to that of the elements
  abbrev pub is_tested : Array → Bool
  is_tested (array.Global g) = true
  is_tested (array.Local a) = true
  is_tested (array.SureGlobal g n) = not (leb n (s.size g))
  is_tested (array.SureLocal a n) = not (leb n (s.array_size a))

  abbrev pub home_address : Home → ℕ
  home_address (home.Data at) = at
  home_address (home.Frame at) = s.register sp + at

  abbrev pub address : Cell → ℕ
  address (TempCell t) = s.register sp + temp_offset t
  address (Element a i) = home_address (home_of a) + 4 * i
  address (Kept b) = b

  -- a temporary that has a register has no cell, and the elements of an array have one each, whatever is promised of an index
  abbrev pub IsThere : Cell → Type 0
  IsThere (TempCell t) = (s.seats.register t ≡ None) × (t < s.temps)
  IsThere (Element (array.Global g) i) = i < s.size g
  IsThere (Element (array.Local a) i) = i < s.array_size a
  IsThere (Element (array.SureGlobal g n) i) = ⊥
  IsThere (Element (array.SureLocal a n) i) = ⊥
  IsThere (Kept b) = s.is_kept b ≡ true

  -- what a state has there
  abbrev pub content : State → Cell → ℕ
  content l (TempCell t) = slice_index l.temps t
  content l (Element a i) = slice_index (elements a l) i
  content l (Kept b) = s.kept b

  -- what the trees of a state are read against
  abbrev pub view_of : ir.Setting → ir.Frame → State → View
  view_of setting frame l = record {
    seats = s.seats;
    is_read = s.reach.is_read;
    globals = l.world.globals;
    bound = frame.bound;
    entry = s.entry;
    numbers = setting.numbers;
    temps = l.temps;
  }

  -- a tree over what the frame has, for which there are registers
  pub record IsFine (setting : ir.Setting) (frame : ir.Frame) (t : Tree) : Type 0 where
    pub named : (l : State) → length l.temps ≡ s.temps → is_in_view (view_of setting frame l) t ≡ true
    pub shallow : depth t ≤ 4

  -- The registers that the code leaves alone, sp among them, are apart from x0, from those that it computes in, a0 among these, and from those of its
  -- temporaries. No number stands in one of these or in a0.
  pub record LeavesAlone : Type 0 where
    pub stack : s.is_left sp ≡ true
    pub real : s.is_left x0 ≡ true → ⊥
    pub result : s.is_left a0 ≡ true → ⊥
    pub scratch : (q : ℕ) → s.is_left q ≡ true → AreScratch q (q + 1) → ⊥
    pub temps : (t q : ℕ) → t < s.temps → s.seats.register t ≡ Some q → s.is_left q ≡ true → ⊥
    pub pinned : (t n q : ℕ) → t < s.temps → s.seats.register t ≡ Some q → s.seats.pinned n ≡ Some q → ⊥
    pub pinned_result : (n : ℕ) → s.seats.pinned n ≡ Some a0 → ⊥

  module _ {M : Type 0} (access : Access M) where
    -- after a store of a word to a cell, which works where the cell can be loaded, it is read back, and the other cells are as they were
    pub record Stored (m : M) (x : Cell) (v : ℕ) : Type 0 where
      pub after : M
      pub stored : access.store m (address x) 4 v ≡ Some after
      pub same : access.load after (address x) 4 ≡ Some v
      pub others : (y : Cell) → IsThere y → address y ≢ address x → access.load after (address y) 4 ≡ access.load m (address y) 4

    -- Memory is fit for the frame: cells can be stored to, no two are the same word, and those that the code may load have such addresses. Temporaries stand in
    -- registers of their own, and others are left alone. Globals that are read have a word and aren't read as bound values; a function's number is its address.
    pub record IsFit (setting : ir.Setting) (frame : ir.Frame) : Type 0 where
      pub seats : AreSeats s.seats
      pub left : LeavesAlone
      pub stores : (m : M) (x : Cell) (v w : ℕ) → IsThere x → v < 2 ^ 32 → access.load m (address x) 4 ≡ Some w → Stored m x v
      pub apart : (x y : Cell) → IsThere x → IsThere y → address x ≡ address y → x ≡ y
      pub addresses : (x : Cell) → IsThere x → address x < 2 ^ 32
      pub sizes : (a : Array) → size_of a < 2 ^ 32
      pub loads : (x : Cell) → IsThere x → IsLoaded x → s.reach.may_load (address x) ≡ true
      pub has_word : (g : ℕ) → s.reach.is_read g ≡ true → 0 < s.size g
      pub free : (g : ℕ) → s.reach.is_read g ≡ true → found frame.bound g ≡ None
      pub entries : (f : ℕ) → f < length setting.numbers → slice_index setting.numbers f ≡ s.entry f
      pub entry_words : (f : ℕ) → f < length setting.numbers → s.entry f < 2 ^ 32

    -- registers and memory show a state
    pub record Shows (l : State) (regs : List ℕ) (m : M) : Type 0 where
      pub are : AreRegisters regs
      pub left : (q : ℕ) → s.is_left q ≡ true → reg regs q ≡ s.register q
      pub count : length l.temps ≡ s.temps
      pub sizes : (a : Array) → length (elements a l) ≡ size_of a
      pub temp_words : (t q : ℕ) → t < s.temps → s.seats.register t ≡ Some q → slice_index l.temps t < 2 ^ 32
      pub in_register : (t q : ℕ) → t < s.temps → s.seats.register t ≡ Some q → reg regs q ≡ slice_index l.temps t
      pub pinned : (n q : ℕ) → s.seats.pinned n ≡ Some q → reg regs q ≡ n
      pub words : (x : Cell) → IsThere x → content l x < 2 ^ 32
      pub in_memory : (x : Cell) → IsThere x → access.load m (address x) 4 ≡ Some (content l x)
