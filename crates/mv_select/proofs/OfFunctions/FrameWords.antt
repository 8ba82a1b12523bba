-- Single instructions over the words of the stack, whatever frame they belong to.
use Rattle.std.proofs.Common.{◌≡◌, ◌≢◌, inl, inr, ℕ, ◌+◌, ◌-◌, ◌/◌, ◌<◌, false, cond, List, ℤ, Some, None, refl, sym, ap, ◌∙◌, arith}
use Rattle.mv_num.specs.Words.{word_of, add}
use Rattle.mv_isa.specs.declared.instr.Instr.{Instr}
use Rattle.mv_isa.specs.declared.instr.Instr.TheVariants.{Lw, Sw}
use Rattle.mv_isa.specs.declared.labelled.Line.TheVariants.{Word}
use Rattle.mv_isa.specs.Execution.{Access, Goes, reg, put, execute}
use Rattle.mv_ir.specs.declared.stm.Array.TheVariants as array
use Rattle.mv_ir.specs.World.{World}
use Rattle.mv_select_code.specs.Trees.View.{AreRegisters}
use Rattle.mv_select_code.proofs.OfTrees.Instructions.{lw_sets}
use Rattle.mv_select_code.specs.Statements.Frames.{Site, Cell, TempCell, Element, Kept, address, Reach}
use Rattle.mv_select_code.proofs.OfStatements.TreesFirst.{add_small}
use Rattle.mv_select_code.proofs.OfStatements.Walks.{sw_moves}
use Rattle.mv_select_code.specs.Control.Placed.{IsPlaced}
use Rattle.mv_select_code.specs.Control.Runs.{Machine, outside, IsRun}
use Rattle.mv_select_code.proofs.OfControl.Walk as walk
use Rattle.mv_select_code.proofs.OfControl.Walk.{line_does, steps_on}
use Rattle.mv_select.specs.Calls.Convention.{Layout}
use Rattle.mv_select.proofs.OfCalls.CallCourse.{CallCourse, call_course}
use Rattle.mv_select.specs.Functions.Functions as functions
use Rattle.mv_select.specs.Functions.Functions.{IsStack, IsWord, IsLaid, IsMemory, StandsInWords, IsAmple, RunsWithin}
use Rattle.mv_select_code.specs.Statements.Leads.{limited}

-- a frame whose own cells are all words of the stack
abbrev pub words_site : Layout → Reach → Site
words_site y reach = record {
  seats = record { place = λ g. 0; register = λ t. None; pinned = λ n. None };
  size = λ g. 0;
  reach = record { is_read = λ g. false; is_written = λ g. false; may_load = reach.may_load };
  entry = y.entry;
  may_call = false;
  may_ask = y.may_ask;
  temps = 0;
  array_at = λ a. 0;
  array_size = λ a. (y.top - y.bottom + 3) / 4;
  is_left = λ q. false;
  register = λ q. y.bottom;
  is_kept = λ b. false;
  kept = λ b. 0;
}

pub words_stand : (y : Layout) (reach : Reach) → IsLaid y → StandsInWords y (words_site y reach)
words_stand y reach laid (TempCell t) own h = absurd (omega (arith, h.1))
words_stand y reach laid (Element (array.Global g) i) own h = absurd (omega (arith, h))
words_stand y reach laid (Element (array.Local a) i) own h = let even = laid.even in inl (omega arith, omega (arith, h), omega (arith, even))
words_stand y reach laid (Element (array.SureGlobal g n) i) own h = absurd h
words_stand y reach laid (Element (array.SureLocal a n) i) own h = absurd h
words_stand y reach laid (Kept b) own h = absurd own

module _ {M : Type 0} (access : Access M) (y : Layout) (laid : IsLaid y) (machine : Machine M) (memory : IsMemory access y machine)
    (reach : Reach) (ample : IsAmple y reach) (runs : RunsWithin access y machine reach) (budget far : ℕ) (place : ℕ → ℕ) where
  abbrev pub ok : IsRun access (words_site y reach) machine
  ok = runs (words_site y reach) (words_stand y reach laid) (λ a h. h)

  abbrev pub frame_course : CallCourse M
  frame_course = call_course access (words_site y reach) machine ok place 0 budget far

  open frame_course use {of.{Placed as P}, Stands as W}

  abbrev pub One : ℕ → ℕ → Instr → Type 0
  One pc next i = IsPlaced machine.text place y.entry pc next (Word i)

  -- from one frame's run to another's
  pub other_frame : (s s' : Site) (o : IsRun access s machine) (o' : IsRun access s' machine) (end end' : ℕ) (place' : ℕ → ℕ) (w : World) (pc : ℕ) (regs : List ℕ) (m : M) (i : ℕ)
      → walk.Stands access s machine o place end budget far w pc regs m i → walk.Stands access s' machine o' place' end' budget far w pc regs m i
  other_frame s s' o o' end end' place' w pc regs m i h = record { is = h.is; calm = h.calm; sound = h.sound }

  on_to : (pc next : ℕ) (i : Instr) → One pc next i → add pc 4 ≡ next
  on_to pc next i p = let here = p.here in add_small pc 4 (omega (arith, here.1)) ∙ sym p.stands.1

  -- an instruction that changes registers
  pub sets : (i : Instr) (w : World) (pc next : ℕ) (regs regs' : List ℕ) (m : M) (t : ℕ) → ((pc : ℕ) → execute (limited access (words_site y reach)) i regs pc m ≡ Goes regs' (add pc 4) m) → One pc next i → W w pc regs m t
      → W w next regs' m (t + 1)
  sets i w pc next regs regs' m t does p a =
      steps_on access (words_site y reach) machine ok place 0 budget far w pc next regs regs' m m t
      (line_does access (words_site y reach) machine ok place 0 budget far w pc next regs m t (Word i) p.stands p a ∙ does pc ∙ ap (λ z. Goes regs' z m) (on_to pc next i p)) (inl refl) a

  -- a word of the stack has been stored to
  pub record Put (b v : ℕ) (w : World) (next : ℕ) (regs : List ℕ) (m : M) (t : ℕ) : Type 0 where
    pub after : M
    pub stands : W w next regs after t
    pub same : access.load after b 4 ≡ Some v
    pub others : (c : ℕ) → IsWord y c → c ≢ b → access.load after c 4 ≡ access.load m c 4

  pub stores_on : (r b : ℕ) (imm : ℤ) (w : World) (pc next : ℕ) (regs : List ℕ) (m : M) (t : ℕ) → add (reg regs 2) (word_of imm) ≡ b → IsStack y b → AreRegisters regs
      → One pc next (Sw 2 r imm) → W w pc regs m t → Put b (reg regs r) w next regs m (t + 1)
  stores_on r b imm w pc next regs m t e stack are p a =
      record {
        after = k.after;
        stands = steps_on access (words_site y reach) machine ok place 0 budget far w pc next regs regs m k.after t
            (line_does access (words_site y reach) machine ok place 0 budget far w pc next regs m t (Word (Sw 2 r imm)) p.stands p a
            ∙ sw_moves (limited access (words_site y reach)) (words_site y reach) 2 r imm regs m k.after b v e refl k.stored pc ∙ ap (λ z. Goes regs z k.after) (on_to pc next (Sw 2 r imm) p))
            (inr (cell, v, tt, there, are.words r, ap (λ z. access.store m z 4 v) at ∙ k.stored)) a;
        same = k.same;
        others = k.others;
      }
    where
      v : ℕ
      v = reg regs r

      k : functions.Kept access y m b (reg regs r)
      k = let old = memory.stack (outside w) m b a.calm stack in memory.stores m b (reg regs r) old.0 (inl stack) (are.words r) old.1

      cell : Cell
      cell = Element (array.Local 0) ((b - y.bottom) / 4)

      at : address (words_site y reach) (Element (array.Local 0) ((b - y.bottom) / 4)) ≡ b
      at = omega (arith, stack.0, stack.2, laid.even)

      there : (b - y.bottom) / 4 < (y.top - y.bottom + 3) / 4
      there = omega (arith, stack.0, stack.1, stack.2, laid.even)

  -- a word of the stack comes into a register
  pub loads_on : (r b v : ℕ) (imm : ℤ) (w : World) (pc next : ℕ) (regs : List ℕ) (m : M) (t : ℕ) → add (reg regs 2) (word_of imm) ≡ b → IsStack y b → access.load m b 4 ≡ Some v
      → One pc next (Lw r 2 imm) → W w pc regs m t → W w next (put regs r v) m (t + 1)
  loads_on r b v imm w pc next regs m t e stack l p a =
      let may : (limited access (words_site y reach)).load m b 4 ≡ Some v = ap (λ c. cond c (access.load m b 4) None) (ample.stack b stack) ∙ l in
      sets (Lw r 2 imm) w pc next regs (put regs r v) m t (lw_sets (limited access (words_site y reach)) m r 2 imm regs b v e may) p a
