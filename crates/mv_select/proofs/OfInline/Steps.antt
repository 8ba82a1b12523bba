-- Two instructions that stand in text, and a call that they come back from.
use Rattle.std.proofs.Common.{◌≡◌, ◌≢◌, inl, inr, ℕ, ◌+◌, ◌≤◌, true, false, List, pos, None, refl, sym, ap, ◌∙◌, subst, arith}
use Rattle.mv_num.specs.Words.{add}
use Rattle.mv_isa.specs.declared.instr.Instr.{Instr}
use Rattle.mv_isa.specs.Code.{IsPlace, nop}
use Rattle.mv_isa.specs.Execution.{Access, Goes, reg, execute}
use Rattle.mv_isa.specs.Standing.{InstrStands}
use Rattle.mv_isa.proofs.LineSteps.{stands_steps}
use Rattle.mv_isa.specs.Registers.{t0 as address_register, a0 as result_register}
use Rattle.mv_ir.specs.declared.stm.Array.TheVariants as array
use Rattle.mv_ir.specs.World.{World}
use Rattle.mv_select_code.specs.Trees.Straight.{Sets}
use Rattle.mv_select_code.specs.Trees.View.{AreRegisters}
use Rattle.mv_select_code.proofs.OfTrees.Instructions.{addi_sets}
use Rattle.mv_select_code.proofs.OfTrees.Registers.{reg_zero}
use Rattle.mv_select_code.proofs.OfTrees.Words.{add_zero}
use Rattle.mv_select_code.specs.Statements.Frames.{Reach, Site, TempCell, Element, Kept}
use Rattle.mv_select_code.specs.Statements.Leads.{limited, Writes}
use Rattle.mv_select_code.proofs.OfStatements.TreesFirst.{add_small}
use Rattle.mv_select_code.specs.Control.Runs.{Spot, Machine, outside, IsRun}
use Rattle.mv_select_code.proofs.OfControl.Walk as walk
use Rattle.mv_select_code.proofs.OfControl.Walk.{put_zero, steps_on, stands_at}
use Rattle.mv_select.specs.Calls.Convention.{Layout, IsSaved, IsAbove, HoldsGlobals, Stands, Returns}
use Rattle.mv_select.specs.Functions.Functions.{StandsInWords, RunsWithin}
use Rattle.mv_select.proofs.OfCalls.CallerShown.{saved_apart}
use Rattle.mv_num.proofs.Numbers.{word_of_pos}

-- a frame that has no cells but the words of globals
abbrev pub globals_site : Layout → Reach → Site
globals_site y reach = record {
  seats = record { place = y.place; register = λ t. None; pinned = λ n. None };
  size = y.size;
  reach = record { is_read = λ g. false; is_written = λ g. true; may_load = reach.may_load };
  entry = y.entry;
  may_call = false;
  may_ask = y.may_ask;
  temps = 0;
  array_at = λ a. 0;
  array_size = λ a. 0;
  is_left = λ q. false;
  register = λ q. 0;
  is_kept = λ b. false;
  kept = λ b. 0;
}

pub globals_stand : (y : Layout) (reach : Reach) → StandsInWords y (globals_site y reach)
globals_stand y reach (TempCell t) own h = absurd (omega (arith, h.1))
globals_stand y reach (Element (array.Global g) i) own h = inr (g, i, h, refl)
globals_stand y reach (Element (array.Local a) i) own h = absurd (omega (arith, h))
globals_stand y reach (Element (array.SureGlobal g n) i) own h = absurd h
globals_stand y reach (Element (array.SureLocal a n) i) own h = absurd h
globals_stand y reach (Kept b) own h = absurd own

-- what a callee sets back isn't t0
saved_address : (q : ℕ) → IsSaved q → q ≢ address_register
saved_address q (inl e) same = omega (arith, e, same)
saved_address q (inr (inl e)) same = omega (arith, e, same)
saved_address q (inr (inr h)) same = omega (arith, h.0, same)

pub nop_sets : {M : Type 0} (access : Access M) (m : M) (regs : List ℕ) → Sets access m nop regs regs
nop_sets access m regs pc =
    addi_sets access m 0 0 (pos 0) regs 0 0 0 (reg_zero regs) (word_of_pos 0 (omega arith)) (add_zero 0 (omega arith)) pc
    ∙ ap (λ r. Goes r (add pc 4) m) (put_zero regs 0)

module _ {M : Type 0} (access : Access M) (y : Layout) (machine : Machine M) (reach : Reach) (runs : RunsWithin access y machine reach) (budget far : ℕ) where
  abbrev pub ok : IsRun access (globals_site y reach) machine
  ok = runs (globals_site y reach) (globals_stand y reach) (λ a h. h)

  abbrev pub own : Access M
  own = limited access (globals_site y reach)

  abbrev pub W : World → ℕ → List ℕ → M → ℕ → Type 0
  W = walk.Stands access (globals_site y reach) machine ok y.entry 0 budget far

  pub begun : (w : World) (pc i : ℕ) → Stands access y machine budget far pc w i → W w pc (machine.run i).regs (machine.run i).memory i
  begun w pc i h =
      stands_at access (globals_site y reach) machine ok y.entry 0 budget far w (machine.run i).pc pc (machine.run i).regs (machine.run i).memory i h.at
      (record { is = refl; calm = h.calm; sound = h.sound })

  -- one instruction that stands in text
  one_step : (j : Instr) (pc next : ℕ) (w : World) (regs after : List ℕ) (m m' : M) (i : ℕ) → InstrStands machine.text.word pc j → add pc 4 ≡ next
      → ((pc : ℕ) → execute own j regs pc m ≡ Goes after (add pc 4) m') → Writes access (globals_site y reach) m m' → W w pc regs m i → W w next after m' (i + 1)
  one_step j pc next w regs after m m' i stands on does writes h =
      steps_on access (globals_site y reach) machine ok y.entry 0 budget far w pc next regs after m m' i
      (stands_steps own m machine.text.word regs pc j stands ∙ does pc ∙ ap (λ z. Goes after z m') on) writes h

  -- Two instructions lead on: the first changes registers alone, the second may store to a global.
  pub record Walked (w : World) (at : ℕ) (mid after : List ℕ) (m m' : M) (i : ℕ) : Type 0 where
    pub middle : W w (at + 4) mid m (i + 1)
    pub stands : W w (at + 8) after m' (i + 2)

  pub two_steps : (one two : Instr) (at : ℕ) → IsPlace at → InstrStands machine.text.word at one → InstrStands machine.text.word (at + 4) two
      → (w : World) (regs mid after : List ℕ) (m m' : M) (i : ℕ) → Sets own m one regs mid → ((pc : ℕ) → execute own two mid pc m ≡ Goes after (add pc 4) m')
      → Writes access (globals_site y reach) m m' → W w at regs m i → Walked w at mid after m m' i
  two_steps one two at here p q w regs mid after m m' i does then writes h =
      let a : W w (at + 4) mid m (i + 1) = one_step one at (at + 4) w regs mid m m i p (add_small at 4 (omega (arith, here.1))) does (inl refl) h in
      let b : W w (at + 8) after m' (i + 1 + 1) = one_step two (at + 4) (at + 8) w mid after m m' (i + 1) q (add_small (at + 4) 4 (omega (arith, here.1)) ∙ omega arith) then writes a in
      record { middle = a; stands = subst (λ t. W w (at + 8) after m' t) (omega arith) b }

  -- what a call of two instructions comes back with
  pub record Came (w : World) (mid after : List ℕ) (spare k i back : ℕ) : Type 0 where
    pub returns : Returns access y machine budget far spare k i back w (i + 2)
    pub middle : (machine.run (i + 1)).regs ≡ mid
    pub last : (machine.run (i + 2)).regs ≡ after

  pub comes : (w w' : World) (at spare k i : ℕ) (mid after : List ℕ) (m' : M) → outside w ≡ outside w' → AreRegisters after
      → ((q : ℕ) → q ≢ result_register → q ≢ address_register → reg after q ≡ reg (machine.run i).regs q)
      → HoldsGlobals access y machine budget far w' m'
      → ((b : ℕ) → IsAbove y (reg (machine.run i).regs 2) b → access.load m' b 4 ≡ access.load (machine.run i).memory b 4)
      → i + (spare + 2) ≤ budget → far ≤ i + k → Walked w at mid after (machine.run i).memory m' i → Came w' mid after spare k i (at + 8)
  comes w w' at spare k i mid after m' same are others globals stack paid asked h = record {
    returns = record {
      stands = record {
        at = ap (λ (x : Spot M). x.pc) h.stands.is;
        calm = subst (λ (m : M). machine.is_calm (outside w') m ≡ true) (sym memory_is) (subst (λ z. machine.is_calm z m' ≡ true) same h.stands.calm);
        sound = h.stands.sound;
        globals = subst (λ (m : M). HoldsGlobals access y machine budget far w' m) (sym memory_is) globals;
        are = subst AreRegisters (sym regs_is) are;
      };
      kept = record {
        registers = λ q s. ap (λ r. reg r q) regs_is ∙ others q (saved_apart q result_register (omega arith) (omega arith) s) (saved_address q s);
        stack = λ b s. ap (λ (m : M). access.load m b 4) memory_is ∙ stack b s;
      };
      paid = omega (arith, paid);
      asked = omega (arith, asked);
    };
    middle = ap (λ (x : Spot M). x.regs) h.middle.is;
    last = regs_is;
  }
    where
      regs_is : (machine.run (i + 2)).regs ≡ after
      regs_is = ap (λ (x : Spot M). x.regs) h.stands.is

      memory_is : (machine.run (i + 2)).memory ≡ m'
      memory_is = ap (λ (x : Spot M). x.memory) h.stands.is
