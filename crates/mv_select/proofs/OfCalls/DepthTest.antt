-- What is left of a call that is expanded: a trap where no call is left, in a function that calls others as in one that calls nothing.
use Rattle.std.proofs.Common.{◌≡◌, ℕ, ◌+◌, ◌≤◌, Bool, true, false, cond, eqb, ltb, List, [], ◌∷◌, length, Option, Some, None, refl, sym, ap, ◌∙◌, subst, arith}
use Rattle.std.proofs.lemmas.Bool.{ltb-true, ltb-false, eq-eqb, ne_eqb}
use Rattle.mv_bindings.specs.Traps.{depth_limit}
use Rattle.mv_isa.specs.declared.labelled.Line.TheVariants.{Branch}
use Rattle.mv_isa.specs.Execution.{Access, reg}
use Rattle.mv_isa.specs.LineSteps.{BranchRuns}
use Rattle.mv_isa.specs.Registers.{s11 as left_register}
use Rattle.mv_ir.specs.declared.stm.Callee.TheVariants as callee
use Rattle.mv_ir.specs.declared.stm.Stm.TheOpen as stm
use Rattle.mv_ir.specs.declared.tree.Tree.{Tree}
use Rattle.mv_ir.specs.World as ir
use Rattle.mv_ir.specs.World.{World}
use Rattle.mv_ir.specs.Outcome.{State, Run, Returned, Bound, now}
use Rattle.mv_ir.specs.Meaning.{Inside, made_call, within, call_to, traps}
use Rattle.mv_select_code.specs.Statements.StatementCode.{trap_label}
use Rattle.mv_select_code.specs.Statements.Leads.{limited}
use Rattle.mv_select_code.specs.Statements.Frames.{Site, Shows}
use Rattle.mv_select_code.proofs.OfTrees.Registers.{reg_zero}
use Rattle.mv_select_code.specs.declared.control.enclosing.Enclosing.{Enclosing}
use Rattle.mv_select_code.specs.Control.Placed.{IsPlaced}
use Rattle.mv_select_code.specs.Control.Runs.{Spot, Machine, outside, IsRun}
use Rattle.mv_select_code.specs.Control.Laws.{LinesDo}
use Rattle.mv_select_code.specs.Control.Flow.{AtTrap}
use Rattle.mv_select_code.proofs.OfControl.Walk.{stands_at, line_does, branch_passes, taken, to_stands, to_here}
use Rattle.mv_select.specs.Calls.CallCode.{depth_lines}
use Rattle.mv_select.proofs.OfCalls.CallCourse.{call_course}

module _ {M : Type 0} (access : Access M) (s : Site) (machine : Machine M) (ok : IsRun access s machine) (budget far : ℕ) (place : ℕ → ℕ) (end : ℕ) where
  open call_course access s machine ok place end budget far use {of.{Placed as P, Follows as F}, Stands as W}

  to_trap : (c : ℕ) (w : World) (regs : List ℕ) (m : M) (i : ℕ) → W w (place (trap_label c)) regs m i → i ≤ budget → AtTrap access s machine place end budget far c w i
  to_trap c w regs m i a paid = record {
    at = ap (λ (x : Spot M). x.pc) a.is;
    calm = subst (λ (x : Spot M). machine.is_calm (outside w) x.memory ≡ true) (sym a.is) a.calm;
    sound = a.sound;
    paid = paid;
  }

  -- a branch to the stub of a trap, where a register is 0
  pub zero_traps : (c r : ℕ) (spare k : ℕ) (around : List Enclosing) (pc mid next : ℕ) (l : State) (regs : List ℕ) (m : M) (i : ℕ) → reg regs r ≡ 0
      → IsPlaced machine.text place s.entry pc mid (Branch 0 r 0 (trap_label c)) → W l.world pc regs m i → i + 2 ≤ budget → F spare k around next (traps c l)
  zero_traps c r spare k around pc mid next l regs m i zero p a paid =
      let holds : eqb (reg regs r) (reg regs 0) ≡ true = eq-eqb (reg regs r) (reg regs 0) (zero ∙ sym (reg_zero regs)) in
      let e = subst (λ d. BranchRuns (limited access s) machine.text.word m d pc mid (place (trap_label c)) regs) holds
      (line_does access s machine ok place end budget far l.world pc mid regs m i (Branch 0 r 0 (trap_label c)) p.stands p a) in
      let t = taken access s machine ok place end budget far l.world pc mid (place (trap_label c)) regs m i e a in
      let soon = t.soon in
      (t.time, to_trap c l.world regs m t.time t.stands (omega (arith, soon, paid)))

  pub other_passes : (c r n : ℕ) (w : World) (pc mid : ℕ) (regs : List ℕ) (m : M) (i : ℕ) → reg regs r ≡ n → (n ≡ 0 → ⊥) → IsPlaced machine.text place s.entry pc mid (Branch 0 r 0 (trap_label c))
      → W w pc regs m i → W w mid regs m (i + 1)
  other_passes c r n w pc mid regs m i e ne p a =
      let fails : eqb (reg regs r) (reg regs 0) ≡ false = ne_eqb (reg regs r) (reg regs 0) (λ q. ne (sym e ∙ q ∙ reg_zero regs)) in
      branch_passes access s machine ok place end budget far w pc mid 0 r 0 (trap_label c) regs m i fails p a

  -- ---- the test of the depth

  -- what is left of a call, its test passed
  abbrev Inner : Option ℕ → Bound → State → Run
  Inner result bound l = within bound (λ calls. made_call result l (record { cost = 0; end = Returned None l.world })) l

  passed : (result : Option ℕ) (spare next : ℕ) (around : List Enclosing) (bound : Bound) (l : State) (regs : List ℕ) (m : M) (i : ℕ) → Shows s access l regs m
      → W l.world next regs m (i + 1) → i + 1 + spare ≤ budget → far ≤ i + 1 + length bound → F spare (length bound) around next (Inner result bound l).outcome
  passed result spare next around [] l regs m i f a paid asked =
      (i + 1, record { calm = subst (λ (x : Spot M). machine.is_calm (outside l.world) x.memory ≡ true) (sym a.is) a.calm; sound = a.sound; paid = omega (arith, paid); asked = omega (arith, asked) })
  passed None spare next around (calls ∷ below) l regs m i f a paid asked =
      (i + 1, to_here access s machine ok place end budget far 0 spare (length (calls ∷ below)) next l l.world regs m (i + 1) refl f paid (omega (arith, asked)) a)
  passed (Some t) spare next around (calls ∷ below) l regs m i f a paid asked = tt

  -- in a frame that leaves the number of calls that are left alone
  module _ (frame : ir.Frame) (alone : s.is_left left_register ≡ true) (calls_left : s.register left_register + frame.depth ≡ depth_limit) where
    pub depth_does : (result : Option ℕ) (args : List ℕ) (spare pc next : ℕ) (around : List Enclosing) (bound : Bound) (l : State) (regs : List ℕ) (m : M) (i : ℕ)
        → Shows s access l regs m → P depth_lines pc next → W l.world pc regs m i → i + (spare + 2 + (call_to Inside frame.depth frame.live result args bound l).cost) ≤ budget → far ≤ i + length bound
        → F spare (length bound) around next (call_to Inside frame.depth frame.live result args bound l).outcome
    depth_does result args spare pc next around bound l regs m i f p a paid asked = by_depth (ltb frame.depth 512) refl (omega (arith, paid))
      where
        by_depth : (b : Bool) → ltb frame.depth 512 ≡ b → i + (spare + 2) ≤ budget → F spare (length bound) around next (cond b (Inner result bound l) (now (traps 4 l))).outcome
        by_depth true is paid =
            passed result spare next around bound l regs m i f
            (stands_at access s machine ok place end budget far l.world p.0 next regs m (i + 1) (sym p.2)
            (other_passes 4 left_register (s.register left_register) l.world pc p.0 regs m i (f.left left_register alone) (λ z. omega (arith, z, calls_left, ltb-true frame.depth 512 is)) p.1 a))
            (omega (arith, paid)) (omega (arith, asked))
        by_depth false is paid =
            zero_traps 4 left_register spare (length bound) around pc p.0 next l regs m i (f.left left_register alone ∙ omega (arith, calls_left, ltb-false frame.depth 512 is)) p.1 a (omega (arith, paid))

    -- so the test does what a call that is expanded means
    pub tests_depth : (setting : ir.Setting) (is_fine : Tree → Bool) (top : Bound) (result : Option ℕ)
        → LinesDo access s setting frame machine place end budget far is_fine top depth_lines (stm.Call result callee.Expanded [])
    tests_depth setting is_fine top result spare around pc next bound within p l i h =
        let paid = h.paid in let asked = h.asked in
        let cost = (call_to Inside frame.depth frame.live result [] bound l).cost in
        depth_does result [] spare pc next around bound l (machine.run i).regs (machine.run i).memory i h.shows p
        (to_stands access s machine ok place end budget far 0 (spare + (8 + cost)) (length bound) pc l i h) (omega (arith, paid)) (omega (arith, asked))
