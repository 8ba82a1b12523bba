-- Runs of a machine on which code of a frame stands.
use Rattle.std.specs.Prelude.{ℕ, ◌≡◌, ◌+◌, Bool, true, List, [], length}
use Rattle.mv_isa.specs.Execution.{Access, Goes, step}
use Rattle.mv_ir.specs.World.{World}
use Rattle.mv_select_code.specs.Statements.Frames.{Site}
use Rattle.mv_select_code.specs.Statements.Leads.{limited, Writes}
use Rattle.mv_select_code.specs.Control.Placed.{Text}

-- a machine between two instructions
pub record Spot (M : Type 0) : Type 0 where
  pub regs : List ℕ
  pub pc : ℕ
  pub memory : M

-- A run: where it stands after each number of instructions. `is_calm` tells that
-- memory, and all else besides the registers, is as a world says apart from the globals, and that no commit is under way. `is_sound` is whatever is to
-- hold before each instruction.
pub record Machine (M : Type 0) : Type 0 where
  pub text : Text
  pub is_calm : World → M → Bool
  pub is_sound : Spot M → Bool
  pub run : ℕ → Spot M

-- a world apart from the globals
abbrev pub outside : World → World
outside w = record w { globals = [] }

module _ {M : Type 0} (access : Access M) (s : Site) (machine : Machine M) where
  abbrev pub Calm : World → M → Type 0
  Calm w m = machine.is_calm (outside w) m ≡ true

  -- a time of the run is calm, and the word of text leads from there to a place, loading only what the code may load and storing at most to a cell of the frame's own
  pub record LeadsOn (i : ℕ) (w : World) (next : Spot M) : Type 0 where
    pub calm : Calm w (machine.run i).memory
    pub steps : step (limited access s) (machine.text.word (machine.run i).pc) (machine.run i).regs (machine.run i).pc (machine.run i).memory ≡ Goes next.regs next.pc next.memory
    pub writes : Writes access s (machine.run i).memory next.memory

  -- The run takes such steps, each from a sound place; it has 32 registers; and it stays calm.
  pub record IsRun : Type 0 where
    pub registers : (i : ℕ) → length (machine.run i).regs ≡ 32
    pub goes : (i : ℕ) (w : World) (next : Spot M) → LeadsOn i w next → machine.run (i + 1) ≡ next
    pub sound : (i : ℕ) (w : World) (next : Spot M) → LeadsOn i w next → machine.is_sound (machine.run i) ≡ true
    pub stays : (i : ℕ) (w : World) (next : Spot M) → LeadsOn i w next → Calm w next.memory
