-- The steps of entry and return besides saved registers: sp moves, live frames are counted, and a jump goes back.
use Rattle.std.proofs.Common.{◌≡◌, ◌≢◌, inl, ℕ, suc, ◌+◌, ◌-◌, ◌%◌, ◌^◌, ◌<◌, ◌≤◌, Bool, true, false, cond, List, pos, negsuc, ◌-ℤ◌, refl, sym, ap, ◌∙◌, arith}
use Rattle.std.proofs.lemmas.Int.{ints}
use Rattle.std.proofs.lemmas.Bool.{eq-eqb}
use Rattle.mv_num.specs.Words.{word_of, add}
use Rattle.mv_isa.specs.declared.instr.Cause.TheVariants as cause
use Rattle.mv_isa.specs.declared.instr.Instr.TheVariants.{Addi, Jalr}
use Rattle.mv_isa.specs.declared.labelled.Line.TheVariants.{Word}
use Rattle.mv_isa.specs.Execution.{Access, Goes, Faults, reg, put, execute, jumps}
use Rattle.mv_isa.specs.Registers.{ra as link_register, s10 as live_register}
use Rattle.mv_ir.specs.World.{World}
use Rattle.mv_select_code.specs.Trees.Straight.{Sets}
use Rattle.mv_select_code.specs.Trees.TreeCode.{minus_one}
use Rattle.mv_select_code.specs.Trees.View.{AreRegisters}
use Rattle.mv_select_code.proofs.OfTrees.Instructions.{addi_sets}
use Rattle.mv_select_code.proofs.OfTrees.Registers.{free_above, put_same, put_other, put_registers}
use Rattle.mv_select_code.proofs.OfTrees.Words.{zero_add, minus_one_is}
use Rattle.mv_select_code.specs.Statements.Frames.{Reach}
use Rattle.mv_select_code.proofs.OfStatements.TreesFirst.{add_small}
use Rattle.mv_select_code.specs.Control.Runs.{Machine}
use Rattle.mv_select_code.proofs.OfControl.Walk.{line_does, steps_on, stands_at, put_zero}
use Rattle.mv_select.specs.Calls.Convention.{Layout, IsTarget}
use Rattle.mv_select.proofs.OfCalls.Guarded.{one_less}
use Rattle.mv_select.specs.Functions.FunctionCode.{enter_lines, leave_lines}
use Rattle.mv_select.specs.Functions.Functions.{IsLaid, IsMemory, IsAmple, RunsWithin}
use Rattle.mv_select.proofs.OfFunctions.FrameWords.{words_site, ok, One, sets, frame_course}
use Rattle.mv_select_code.specs.Statements.Leads.{limited}
use Rattle.mv_num.proofs.Numbers.{word_of_pos}

-- ---- arithmetic

minus_is : (n : ℕ) → 0 < n → n < 2 ^ 32 → word_of (pos 0 -ℤ pos n) ≡ 2 ^ 32 - n
unfolding word_of
minus_is n above below = let e : pos 0 -ℤ pos n ≡ negsuc (n - 1) = omega (arith, ints) in ap word_of e ∙ at (n - 1) (omega (arith, below)) ∙ omega (arith, above, below)
  where
    at : (k : ℕ) → k < 2 ^ 32 → word_of (negsuc k) ≡ 2 ^ 32 - suc k
    at k h = omega (arith, h)

lowered : (a n : ℕ) → 0 < n → n ≤ a → a < 2 ^ 32 → add a (word_of (pos 0 -ℤ pos n)) ≡ a - n
unfolding add
lowered a n above le below = ap (λ z. (a + z) % 2 ^ 32) (minus_is n above (omega (arith, le, below))) ∙ turned
  where
    turned : (a + (2 ^ 32 - n)) % 2 ^ 32 ≡ a - n
    turned = omega (arith, above, le, below)

pub lowers_sp : {M : Type 0} (access : Access M) (m : M) (n sp : ℕ) (regs : List ℕ) → 0 < n → n ≤ sp → sp < 2 ^ 32 → reg regs 2 ≡ sp → Sets access m (Addi 2 2 (pos 0 -ℤ pos n)) regs (put regs 2 (sp - n))
lowers_sp access m n sp regs above le below e = addi_sets access m 2 2 (pos 0 -ℤ pos n) regs sp (word_of (pos 0 -ℤ pos n)) (sp - n) e refl (lowered sp n above le below)

module _ {M : Type 0} (access : Access M) (y : Layout) (laid : IsLaid y) (machine : Machine M) (memory : IsMemory access y machine)
    (reach : Reach) (ample : IsAmple y reach) (runs : RunsWithin access y machine reach) (budget far : ℕ) (place : ℕ → ℕ) where
  open frame_course access y laid machine memory reach ample runs budget far place use {of.{Placed as Ps}, Stands as Ws}

  -- sp moves down, and up
  pub down : (n sp : ℕ) (w : World) (pc next : ℕ) (regs : List ℕ) (m : M) (i : ℕ) → 0 < n → n ≤ sp → sp < 2 ^ 32 → reg regs 2 ≡ sp
      → One access y laid machine memory reach ample runs budget far place pc next (Addi 2 2 (pos 0 -ℤ pos n)) → Ws w pc regs m i → Ws w next (put regs 2 (sp - n)) m (i + 1)
  down n sp w pc next regs m i above le below e p a =
      sets access y laid machine memory reach ample runs budget far place (Addi 2 2 (pos 0 -ℤ pos n)) w pc next regs (put regs 2 (sp - n)) m i
      (lowers_sp (limited access (words_site y reach)) m n sp regs above le below e) p a

  pub up : (n sp : ℕ) (w : World) (pc next : ℕ) (regs : List ℕ) (m : M) (i : ℕ) → sp + n < 2 ^ 32 → reg regs 2 ≡ sp
      → One access y laid machine memory reach ample runs budget far place pc next (Addi 2 2 (pos n)) → Ws w pc regs m i → Ws w next (put regs 2 (sp + n)) m (i + 1)
  up n sp w pc next regs m i below e p a =
      sets access y laid machine memory reach ample runs budget far place (Addi 2 2 (pos n)) w pc next regs (put regs 2 (sp + n)) m i
      (addi_sets (limited access (words_site y reach)) m 2 2 (pos n) regs sp n (sp + n) e (word_of_pos n (omega (arith, below))) (add_small sp n below)) p a

  -- ---- live frames

  pub record Counted (n : ℕ) (w : World) (next : ℕ) (regs : List ℕ) (m : M) (i : ℕ) : Type 0 where
    pub after : List ℕ
    pub time : ℕ
    pub late : i ≤ time
    pub soon : time ≤ i + 1
    pub stands : Ws w next after m time
    pub are : AreRegisters after
    pub live : reg after live_register ≡ n
    pub others : (q : ℕ) → q ≢ live_register → reg after q ≡ reg regs q

  counted : (n : ℕ) (w : World) (next : ℕ) (regs : List ℕ) (m : M) (i : ℕ) → AreRegisters regs → n < 2 ^ 32 → Ws w next (put regs live_register n) m (i + 1) → Counted n w next regs m i
  counted n w next regs m i are lt a = record {
    after = put regs live_register n;
    time = i + 1;
    late = omega arith;
    soon = omega arith;
    stands = a;
    are = put_registers regs live_register n are (free_above live_register (omega arith) (omega arith)) lt;
    live = put_same regs live_register n (omega arith) (omega (arith, are.count));
    others = λ q ne. put_other regs live_register q n (omega arith) ne;
  }

  uncounted : (n : ℕ) (w : World) (pc next : ℕ) (regs : List ℕ) (m : M) (i : ℕ) → AreRegisters regs → reg regs live_register ≡ n → next ≡ pc → Ws w pc regs m i → Counted n w next regs m i
  uncounted n w pc next regs m i are e same a = record {
    after = regs;
    time = i;
    late = omega arith;
    soon = omega arith;
    stands = stands_at access (words_site y reach) machine (ok access y laid machine memory reach ample runs budget far place) place 0 budget far w pc next regs m i (sym same) a;
    are = are;
    live = e;
    others = λ q ne. refl;
  }

  pub enter_walk : (attributed : Bool) (n : ℕ) (w : World) (pc next : ℕ) (regs : List ℕ) (m : M) (i : ℕ) → AreRegisters regs → n + 1 < 2 ^ 32 → reg regs live_register ≡ n
      → Ps (enter_lines attributed) pc next → Ws w pc regs m i → Counted (n + cond attributed 1 0) w next regs m i
  enter_walk true n w pc next regs m i are lt e p a =
      counted (n + 1) w next regs m i are lt
      (stands_at access (words_site y reach) machine (ok access y laid machine memory reach ample runs budget far place) place 0 budget far w p.0 next (put regs live_register (n + 1)) m (i + 1) (sym p.2)
      (sets access y laid machine memory reach ample runs budget far place (Addi live_register live_register (pos 1)) w pc p.0 regs (put regs live_register (n + 1)) m i
      (addi_sets (limited access (words_site y reach)) m live_register live_register (pos 1) regs n 1 (n + 1) e (word_of_pos 1 (omega arith)) (add_small n 1 lt)) p.1 a))
  enter_walk false n w pc next regs m i are lt e p a = uncounted (n + 0) w pc next regs m i are (e ∙ omega arith) p a

  pub leave_walk : (attributed : Bool) (n : ℕ) (w : World) (pc next : ℕ) (regs : List ℕ) (m : M) (i : ℕ) → AreRegisters regs → n + 1 < 2 ^ 32 → reg regs live_register ≡ n + cond attributed 1 0
      → Ps (leave_lines attributed) pc next → Ws w pc regs m i → Counted n w next regs m i
  leave_walk true n w pc next regs m i are lt e p a =
      counted n w next regs m i are (omega (arith, lt))
      (stands_at access (words_site y reach) machine (ok access y laid machine memory reach ample runs budget far place) place 0 budget far w p.0 next (put regs live_register n) m (i + 1) (sym p.2)
      (sets access y laid machine memory reach ample runs budget far place (Addi live_register live_register minus_one) w pc p.0 regs (put regs live_register n) m i
      (addi_sets (limited access (words_site y reach)) m live_register live_register minus_one regs (n + 1) (2 ^ 32 - 1) n e minus_one_is (one_less n lt)) p.1 a))
  leave_walk false n w pc next regs m i are lt e p a = uncounted n w pc next regs m i are (e ∙ omega arith) p a

  -- ---- the jump back

  jalr_returns : (regs : List ℕ) (pc to : ℕ) (m : M) → reg regs link_register ≡ to → IsTarget to → execute (limited access (words_site y reach)) (Jalr 0 link_register (pos 0)) regs pc m ≡ Goes regs to m
  unfolding execute jumps
  jalr_returns regs pc to m e is =
      let high = is.0 in let even = is.1 in
      let sum : add (reg regs link_register) (word_of (pos 0)) ≡ to = ap (λ z. add z (word_of (pos 0))) e ∙ ap (add to) (word_of_pos 0 (omega arith)) ∙ zero_add to high in
      let same : to - to % 2 ≡ to = omega (arith, even) in
      ap (λ z. jumps (put regs 0 (add pc 4)) m (z - z % 2)) sum ∙ ap (jumps (put regs 0 (add pc 4)) m) same
      ∙ ap (λ b. cond b (Goes (put regs 0 (add pc 4)) to m) (Faults cause.Jump)) (eq-eqb (to % 4) 0 even) ∙ ap (λ r. Goes r to m) (put_zero regs (add pc 4))

  pub back : (to : ℕ) (w : World) (pc next : ℕ) (regs : List ℕ) (m : M) (i : ℕ) → reg regs link_register ≡ to → IsTarget to
      → One access y laid machine memory reach ample runs budget far place pc next (Jalr 0 link_register (pos 0)) → Ws w pc regs m i → Ws w to regs m (i + 1)
  back to w pc next regs m i e is p a =
      steps_on access (words_site y reach) machine (ok access y laid machine memory reach ample runs budget far place) place 0 budget far w pc to regs regs m m i
      (line_does access (words_site y reach) machine (ok access y laid machine memory reach ample runs budget far place) place 0 budget far w pc next regs m i (Word (Jalr 0 link_register (pos 0))) p.stands p a
      ∙ jalr_returns regs pc to m e is) (inl refl) a
