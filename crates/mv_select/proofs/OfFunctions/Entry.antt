-- The prologue: registers are saved, and parameters come into the registers of temporaries.
use Rattle.std.proofs.Common.{◌≡◌, ◌≢◌, inl, ⊎_elim, ℕ, zero, suc, ◌+◌, ◌*◌, ◌^◌, ◌<◌, ◌≤◌, List, ◌++◌, pos, unwrap_or, Some, refl, sym, ap, ◌∙◌, subst, arith}
use Rattle.std.proofs.lemmas.Bool.{cases_eq}
use Rattle.mv_num.specs.Words.{word_of, add}
use Rattle.mv_isa.specs.declared.instr.Instr.TheVariants.{Lw, Sw, Addi}
use Rattle.mv_isa.specs.declared.labelled.Line.{Line}
use Rattle.mv_isa.specs.Execution.{Access, reg, put}
use Rattle.mv_isa.specs.Registers.{a0}
use Rattle.mv_ir.specs.World.{World}
use Rattle.mv_select_code.specs.Trees.TreeCode.{one, temp_register}
use Rattle.mv_select_code.specs.Trees.View.{AreRegisters}
use Rattle.mv_select_code.proofs.OfTrees.Instructions.{addi_sets}
use Rattle.mv_select_code.proofs.OfTrees.Registers.{IsFree, free_above, free_low, put_same, put_other, put_registers}
use Rattle.mv_select_code.proofs.OfTrees.TreesFit.{register_below}
use Rattle.mv_select_code.proofs.OfTrees.Words.{zero_add, add_word}
use Rattle.mv_select_code.specs.Statements.Frames.{Reach}
use Rattle.mv_select_code.proofs.OfTrees.KeepingSeats.{temp_register_above, temp_register_zero}
use Rattle.mv_select.proofs.OfFunctions.Seats.{one_register, register_low}
use Rattle.mv_select_code.proofs.OfStatements.TreesFirst.{add_small}
use Rattle.mv_select_code.specs.Control.Runs.{Machine, outside}
use Rattle.mv_select_code.proofs.OfControl.Walk.{placed_split, stands_at}
use Rattle.mv_select.specs.Calls.Convention.{Layout}
use Rattle.mv_select.specs.Functions.FunctionCode.{saved_register, save_lines, restore_lines, parameter_lines}
use Rattle.mv_select.specs.Functions.Functions.{IsStack, IsWord, IsLaid, IsMemory, IsAmple, RunsWithin}
use Rattle.mv_select.proofs.OfFunctions.FrameWords.{words_site, ok, sets, Put, stores_on, loads_on, frame_course}
use Rattle.mv_select_code.specs.Statements.Leads.{limited}
use Rattle.mv_num.proofs.Numbers.{word_of_pos}

-- ---- the registers that are saved

pub saved_above : (k : ℕ) → 0 < saved_register k
saved_above zero = omega arith
saved_above (suc t) = omega (arith, register_low t)

pub saved_below : (k : ℕ) → k < 10 → saved_register k < 32
saved_below zero lt = omega arith
saved_below (suc t) lt = register_below t (omega (arith, lt))

saved_free : (k : ℕ) → k < 10 → IsFree (saved_register k)
saved_free zero lt = free_low 1 (omega arith) (omega arith)
saved_free (suc t) lt = free_above (temp_register t) (omega (arith, register_low t)) (register_below t (omega (arith, lt)))

pub saved_apart : (j k : ℕ) → (j ≡ k → ⊥) → saved_register j ≢ saved_register k
saved_apart zero zero ne e = ne refl
saved_apart zero (suc t) ne e = omega (arith, e, register_low t)
saved_apart (suc t) zero ne e = omega (arith, e, register_low t)
saved_apart (suc t) (suc u) ne e = one_register t u (λ q. ne (ap suc q)) e

pub sp_apart : (k : ℕ) → 2 ≢ saved_register k
sp_apart zero e = omega (arith, e)
sp_apart (suc t) e = omega (arith, e, register_low t)

module _ {M : Type 0} (access : Access M) (y : Layout) (laid : IsLaid y) (machine : Machine M) (memory : IsMemory access y machine)
    (reach : Reach) (ample : IsAmple y reach) (runs : RunsWithin access y machine reach) (budget far : ℕ) (place : ℕ → ℕ) where
  open frame_course access y laid machine memory reach ample runs budget far place use {of.{Placed as Ps}, Stands as Ws}

  split : (a b : List Line) (at stop : ℕ) → Ps (a ++ b) at stop → (mid : ℕ) × Ps a at mid × Ps b mid stop
  split = placed_split machine.text place y.entry

  moved : (w : World) (pc to : ℕ) (regs : List ℕ) (m : M) (i : ℕ) → pc ≡ to → Ws w pc regs m i → Ws w to regs m i
  moved w pc to regs m i e h = stands_at access (words_site y reach) machine (ok access y laid machine memory reach ample runs budget far place) place 0 budget far w pc to regs m i e h

  -- ---- registers are saved

  -- so many registers stand in the words above an address, from one of these on, and the other words are as they were
  pub record Saved (first k sp : ℕ) (regs : List ℕ) (m m' : M) : Type 0 where
    pub saved : (j : ℕ) → j < k → access.load m' (sp + 4 * (first + j)) 4 ≡ Some (reg regs (saved_register (first + j)))
    pub others : (b : ℕ) → IsWord y b → ((j : ℕ) → j < k → b ≢ sp + 4 * (first + j)) → access.load m' b 4 ≡ access.load m b 4

  pub record Saves (first k sp : ℕ) (w : World) (next : ℕ) (regs : List ℕ) (m : M) (i : ℕ) : Type 0 where
    pub after : M
    pub stands : Ws w next regs after i
    pub saved : Saved first k sp regs m after

  saved_more : (first k sp : ℕ) (w : World) (next : ℕ) (regs : List ℕ) (m mid : M) (i : ℕ) → ((j : ℕ) → j < suc k → IsStack y (sp + 4 * (first + j))) → Saved first k sp regs m mid
      → Put access y laid machine memory reach ample runs budget far place (sp + 4 * (first + k)) (reg regs (saved_register (first + k))) w next regs mid (i + 1) → Saves first (suc k) sp w next regs m (i + 1)
  saved_more first k sp w next regs m mid i stack before p = record {
    after = p.after;
    stands = p.stands;
    saved = record {
      saved = λ j lt. ⊎_elim (same j) (other j lt) (cases_eq j k);
      others = λ b word away. p.others b word (away k (omega arith)) ∙ before.others b word (λ j lt. away j (omega (arith, lt)));
    };
  }
    where
      same : (j : ℕ) → j ≡ k → access.load p.after (sp + 4 * (first + j)) 4 ≡ Some (reg regs (saved_register (first + j)))
      same j e = subst (λ n. access.load p.after (sp + 4 * (first + n)) 4 ≡ Some (reg regs (saved_register (first + n)))) (sym e) p.same

      other : (j : ℕ) → j < suc k → (j ≡ k → ⊥) → access.load p.after (sp + 4 * (first + j)) 4 ≡ Some (reg regs (saved_register (first + j)))
      other j lt ne = p.others (sp + 4 * (first + j)) (inl (stack j lt)) (λ e. ne (omega (arith, e))) ∙ before.saved j (grind (arith, lt, ne))

  pub save_walk : (first k sp : ℕ) (w : World) (pc next : ℕ) (regs : List ℕ) (m : M) (i : ℕ) → first + k ≤ 10 → reg regs 2 ≡ sp → ((j : ℕ) → j < k → IsStack y (sp + 4 * (first + j))) → AreRegisters regs
      → Ps (save_lines first k) pc next → Ws w pc regs m i → Saves first k sp w next regs m (i + k)
  save_walk first zero sp w pc next regs m i small e stack are p a =
      record {
        after = m;
        stands = subst (Ws w next regs m) (sum_zero i) (moved w pc next regs m i (sym p) a);
        saved = record { saved = λ j lt. absurd (omega (arith, lt)); others = λ b word away. refl };
      }
    where
      sum_zero : (i : ℕ) → i ≡ i + 0
      sum_zero i = omega arith
  save_walk first (suc k) sp w pc next regs m i small e stack are p a =
      let q = split (save_lines first k) (one (Sw 2 (saved_register (first + k)) (pos (4 * (first + k))))) pc next p in
      let before = save_walk first k sp w pc q.0 regs m i (omega (arith, small)) e (λ j lt. stack j (omega (arith, lt))) are q.1 a in
      let here = stack k (omega arith) in
      let at : add (reg regs 2) (word_of (pos (4 * (first + k)))) ≡ sp + 4 * (first + k) =
      add_word (reg regs 2) (4 * (first + k)) ∙ ap (λ z. add z (4 * (first + k))) e ∙ add_small sp (4 * (first + k)) (omega (arith, here.1, laid.top)) in
      let put_at = stores_on access y laid machine memory reach ample runs budget far place (saved_register (first + k)) (sp + 4 * (first + k))
      (pos (4 * (first + k))) w q.0 q.2.0 regs before.after (i + k) at here are q.2.1 before.stands in
      let more = saved_more first k sp w q.2.0 regs m before.after (i + k) stack before.saved put_at in
      let same : i + k + 1 ≡ i + suc k = omega arith in
      record { after = more.after; stands = subst (Ws w next regs more.after) same (moved w q.2.0 next regs more.after (i + k + 1) (sym q.2.2) more.stands); saved = more.saved }

  -- ---- parameters

  pub record Moved (k : ℕ) (regs after : List ℕ) : Type 0 where
    pub are : AreRegisters after
    pub moved : (j : ℕ) → j < k → reg after (temp_register j) ≡ reg regs (a0 + j)
    pub others : (q : ℕ) → ((j : ℕ) → j < k → q ≢ temp_register j) → reg after q ≡ reg regs q

  pub record Moves (k : ℕ) (w : World) (next : ℕ) (regs : List ℕ) (m : M) (i : ℕ) : Type 0 where
    pub after : List ℕ
    pub stands : Ws w next after m i
    pub moved : Moved k regs after

  -- no temporary's register is one of a0 to a7
  argument_apart : (k j : ℕ) → k < 8 → a0 + k ≢ temp_register j
  argument_apart k zero lt e = omega (arith, lt, e, temp_register_zero)
  argument_apart k (suc j) lt e = omega (arith, lt, e, temp_register_above (suc j) (omega arith))

  moved_more : (k : ℕ) (regs mid : List ℕ) → k < 8 → Moved k regs mid → Moved (suc k) regs (put mid (temp_register k) (reg regs (a0 + k)))
  moved_more k regs mid small before = record {
    are = put_registers mid r v before.are (free_above r (omega (arith, register_low k)) (register_below k (omega (arith, small))))
        (subst (λ z. z < 2 ^ 32) (before.others (a0 + k) (λ j lt. argument_apart k j small)) (before.are.words (a0 + k)));
    moved = λ j lt. ⊎_elim (same j) (other j lt) (cases_eq j k);
    others = λ q away. put_other mid r q v above (away k (omega arith)) ∙ before.others q (λ j lt. away j (omega (arith, lt)));
  }
    where
      r : ℕ
      r = temp_register k

      v : ℕ
      v = reg regs (a0 + k)

      above : 0 < temp_register k
      above = omega (arith, register_low k)

      same : (j : ℕ) → j ≡ k → reg (put mid (temp_register k) (reg regs (a0 + k))) (temp_register j) ≡ reg regs (a0 + j)
      same j e = subst (λ n. reg (put mid (temp_register k) (reg regs (a0 + k))) (temp_register n) ≡ reg regs (a0 + n)) (sym e)
          (put_same mid (temp_register k) (reg regs (a0 + k)) above (omega (arith, before.are.count, register_below k (omega (arith, small)))))

      other : (j : ℕ) → j < suc k → (j ≡ k → ⊥) → reg (put mid (temp_register k) (reg regs (a0 + k))) (temp_register j) ≡ reg regs (a0 + j)
      other j lt ne = put_other mid (temp_register k) (temp_register j) (reg regs (a0 + k)) above (one_register j k ne) ∙ before.moved j (grind (arith, lt, ne))

  pub parameter_walk : (k : ℕ) (w : World) (pc next : ℕ) (regs : List ℕ) (m : M) (i : ℕ) → k ≤ 8 → AreRegisters regs → Ps (parameter_lines k) pc next → Ws w pc regs m i → Moves k w next regs m (i + k)
  parameter_walk zero w pc next regs m i small are p a =
      record {
        after = regs;
        stands = subst (Ws w next regs m) (sum_zero i) (moved w pc next regs m i (sym p) a);
        moved = record { are = are; moved = λ j lt. absurd (omega (arith, lt)); others = λ q away. refl };
      }
    where
      sum_zero : (i : ℕ) → i ≡ i + 0
      sum_zero i = omega arith
  parameter_walk (suc k) w pc next regs m i small are p a =
      let q = split (parameter_lines k) (one (Addi (temp_register k) (a0 + k) (pos 0))) pc next p in
      let before = parameter_walk k w pc q.0 regs m i (omega (arith, small)) are q.1 a in
      let v = reg regs (a0 + k) in
      let from : reg before.after (a0 + k) ≡ v = before.moved.others (a0 + k) (λ j lt. argument_apart k j (omega (arith, small))) in
      let after = put before.after (temp_register k) v in
      let b = sets access y laid machine memory reach ample runs budget far place (Addi (temp_register k) (a0 + k) (pos 0)) w q.0 q.2.0 before.after after m (i + k)
      (addi_sets (limited access (words_site y reach)) m (temp_register k) (a0 + k) (pos 0) before.after v 0 v from (word_of_pos 0 (omega arith))
      (zero_add v (subst (λ z. z < 2 ^ 32) from (before.moved.are.words (a0 + k))))) q.2.1 before.stands in
      let same : i + k + 1 ≡ i + suc k = omega arith in
      record { after = after; stands = subst (Ws w next after m) same (moved w q.2.0 next after m (i + k + 1) (sym q.2.2) b); moved = moved_more k regs before.after (omega (arith, small)) before.moved }

  -- ---- registers are restored

  pub record Restored (first k sp : ℕ) (regs after : List ℕ) (m : M) : Type 0 where
    pub are : AreRegisters after
    pub restored : (j : ℕ) (v : ℕ) → j < k → access.load m (sp + 4 * (first + j)) 4 ≡ Some v → reg after (saved_register (first + j)) ≡ v
    pub others : (q : ℕ) → ((j : ℕ) → j < k → q ≢ saved_register (first + j)) → reg after q ≡ reg regs q

  pub record Restores (first k sp : ℕ) (w : World) (next : ℕ) (regs : List ℕ) (m : M) (i : ℕ) : Type 0 where
    pub after : List ℕ
    pub stands : Ws w next after m i
    pub restored : Restored first k sp regs after m

  restored_more : (first k sp v : ℕ) (regs mid : List ℕ) (m : M) → first + k < 10 → v < 2 ^ 32 → access.load m (sp + 4 * (first + k)) 4 ≡ Some v → Restored first k sp regs mid m
      → Restored first (suc k) sp regs (put mid (saved_register (first + k)) v) m
  restored_more first k sp v regs mid m small word load before = record {
    are = put_registers mid r v before.are (saved_free (first + k) small) word;
    restored = λ j u lt e. ⊎_elim (same j u e) (other j u lt e) (cases_eq j k);
    others = λ q away. put_other mid r q v (saved_above (first + k)) (away k (omega arith)) ∙ before.others q (λ j lt. away j (omega (arith, lt)));
  }
    where
      r : ℕ
      r = saved_register (first + k)

      same : (j u : ℕ) → access.load m (sp + 4 * (first + j)) 4 ≡ Some u → j ≡ k → reg (put mid (saved_register (first + k)) v) (saved_register (first + j)) ≡ u
      same j u e is =
          let at : access.load m (sp + 4 * (first + k)) 4 ≡ Some u = subst (λ n. access.load m (sp + 4 * (first + n)) 4 ≡ Some u) is e in
          subst (λ n. reg (put mid (saved_register (first + k)) v) (saved_register (first + n)) ≡ u) (sym is)
          (put_same mid (saved_register (first + k)) v (saved_above (first + k)) (omega (arith, before.are.count, saved_below (first + k) small)) ∙ ap (λ o. unwrap_or o 0) (sym load ∙ at))

      other : (j u : ℕ) → j < suc k → access.load m (sp + 4 * (first + j)) 4 ≡ Some u → (j ≡ k → ⊥) → reg (put mid (saved_register (first + k)) v) (saved_register (first + j)) ≡ u
      other j u lt e ne = put_other mid (saved_register (first + k)) (saved_register (first + j)) v (saved_above (first + k))
          (saved_apart (first + j) (first + k) (λ e. ne (omega (arith, e)))) ∙ before.restored j u (grind (arith, lt, ne)) e

  pub restore_walk : (first k sp : ℕ) (w : World) (pc next : ℕ) (regs : List ℕ) (m : M) (i : ℕ) → first + k ≤ 10 → reg regs 2 ≡ sp → ((j : ℕ) → j < k → IsStack y (sp + 4 * (first + j))) → AreRegisters regs
      → Ps (restore_lines first k) pc next → Ws w pc regs m i → Restores first k sp w next regs m (i + k)
  restore_walk first zero sp w pc next regs m i small e stack are p a =
      record {
        after = regs;
        stands = subst (Ws w next regs m) (sum_zero i) (moved w pc next regs m i (sym p) a);
        restored = record { are = are; restored = λ j v lt l. absurd (omega (arith, lt)); others = λ q away. refl };
      }
    where
      sum_zero : (i : ℕ) → i ≡ i + 0
      sum_zero i = omega arith
  restore_walk first (suc k) sp w pc next regs m i small e stack are p a =
      let q = split (restore_lines first k) (one (Lw (saved_register (first + k)) 2 (pos (4 * (first + k))))) pc next p in
      let before = restore_walk first k sp w pc q.0 regs m i (omega (arith, small)) e (λ j lt. stack j (omega (arith, lt))) are q.1 a in
      let here = stack k (omega arith) in
      let held : reg before.after 2 ≡ sp = before.restored.others 2 (λ j lt. sp_apart (first + j)) ∙ e in
      let at : add (reg before.after 2) (word_of (pos (4 * (first + k)))) ≡ sp + 4 * (first + k) =
      add_word (reg before.after 2) (4 * (first + k)) ∙ ap (λ z. add z (4 * (first + k))) held ∙ add_small sp (4 * (first + k)) (omega (arith, here.1, laid.top)) in
      let old = memory.stack (outside w) m (sp + 4 * (first + k)) a.calm here in
      let word = memory.words m (sp + 4 * (first + k)) old.0 (inl here) old.1 in
      let after = put before.after (saved_register (first + k)) old.0 in
      let b = loads_on access y laid machine memory reach ample runs budget far place (saved_register (first + k)) (sp + 4 * (first + k)) old.0 (pos (4 * (first + k))) w q.0 q.2.0 before.after m (i + k) at here old.1 q.2.1 before.stands in
      let same : i + k + 1 ≡ i + suc k = omega arith in
      record { after = after; stands = subst (Ws w next after m) same (moved w q.2.0 next after m (i + k + 1) (sym q.2.2) b); restored = restored_more first k sp old.0 regs before.after m (omega (arith, small)) word old.1 before.restored }
