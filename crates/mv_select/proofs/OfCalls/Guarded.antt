-- A call is made where one is left, and is a trap where none is.
use Rattle.std.proofs.Common.{◌≡◌, ℕ, suc, ◌+◌, ◌-◌, ◌^◌, ◌<◌, ◌≤◌, Bool, true, false, cond, ltb, List, [], ◌∷◌, ◌++◌, length, Option, sum_by, refl, sym, ◌∙◌, subst, arith}
use Rattle.std.proofs.lemmas.List.{append-nil}
use Rattle.std.proofs.lemmas.Bool.{ltb-true, ltb-false}
use Rattle.mv_num.specs.Words.{add}
use Rattle.mv_isa.specs.declared.instr.Instr.TheVariants.{Addi}
use Rattle.mv_isa.specs.declared.labelled.Line.{Line}
use Rattle.mv_isa.specs.declared.labelled.Line.TheVariants.{Word, Branch}
use Rattle.mv_isa.specs.Code.{greatest_words}
use Rattle.mv_isa.specs.Execution.{Access, reg, put}
use Rattle.mv_isa.specs.Registers.{s11 as left_register}
use Rattle.mv_ir.specs.declared.tree.Tree.{Tree}
use Rattle.mv_ir.specs.World as ir
use Rattle.mv_ir.specs.World.{World}
use Rattle.mv_ir.specs.Outcome.{State, Bound, now}
use Rattle.mv_ir.specs.Meaning.{made_call, within, call_to, At, traps}
use Rattle.mv_select_code.specs.Trees.TreeCode.{minus_one}
use Rattle.mv_select_code.specs.Trees.Straight.{Straight}
use Rattle.mv_select_code.proofs.OfTrees.Instructions.{addi_sets}
use Rattle.mv_select_code.proofs.OfTrees.Words.{minus_one_is}
use Rattle.mv_select_code.specs.Statements.StatementCode.{trap_label}
use Rattle.mv_select_code.specs.Statements.Leads.{limited, Past}
use Rattle.mv_select_code.specs.Statements.Frames.{Site, IsFit, Shows}
use Rattle.mv_select_code.proofs.OfStatements.Walks.{leads_straight}
use Rattle.mv_select_code.specs.declared.control.enclosing.Enclosing.{Enclosing}
use Rattle.mv_select_code.specs.Control.FlowCode.{fine_target}
use Rattle.mv_select_code.specs.Control.Placed.{IsPlaced}
use Rattle.mv_select_code.specs.Control.Runs.{Spot, Machine, outside, IsRun}
use Rattle.mv_select_code.specs.Control.Laws.{uses_of}
use Rattle.mv_select_code.proofs.OfControl.Composition.{fewer}
use Rattle.mv_select_code.proofs.OfControl.Walk.{placed_split, reaches_more, leads_walk}
use Rattle.mv_select.specs.Calls.CallCode.{back_lines, guarded_lines}
use Rattle.mv_select.specs.Calls.Convention.{Layout, Conventions}
use Rattle.mv_select.specs.Calls.Laws.{IsCaller, IsLinked}
use Rattle.mv_select.proofs.OfCalls.DepthTest.{zero_traps, other_passes}
use Rattle.mv_select.proofs.OfCalls.Transfers.{Transfers, sets_on, call_follows}
use Rattle.mv_select.proofs.OfCalls.CallCourse.{call_course}

-- one less of a number that isn't 0
pub one_less : (n : ℕ) → n + 1 < 2 ^ 32 → add (n + 1) (2 ^ 32 - 1) ≡ n
unfolding add
one_less n h = omega arith

module _ {M : Type 0} (access : Access M) (y : Layout) (s : Site) (setting : ir.Setting) (frame : ir.Frame) (fit : IsFit s access setting frame) (caller : IsCaller y s setting frame)
    (machine : Machine M) (ok : IsRun access s machine) (budget far : ℕ) (place : ℕ → ℕ) (end : ℕ) (linked : IsLinked y (length setting.numbers) place)
    (is_fine : Tree → Bool) where
  open call_course access s machine ok place end budget far use {of.{Placed as P, Follows as F}, Stands as W, Reaches as R}

  abbrev Goes : List Line → ℕ → List ℕ → State → List ℕ → M → Type 0
  Goes = Transfers access y s setting frame fit caller machine ok budget far place end linked is_fine

  -- lines that run one after the other
  pub straight_walk : (ls : List Line) (n : ℕ) (w : World) (pc next : ℕ) (regs after : List ℕ) (m : M) (i : ℕ) → sum_by greatest_words ls ≤ n → P ls pc next
      → Straight (limited access s) m s.entry ls regs after → W w pc regs m i → R w next after m i n
  straight_walk ls n w pc next regs after m i le p runs a =
      reaches_more access s machine ok place end budget far w next after m i i (sum_by greatest_words ls + 0) n (omega arith) (omega (arith, le))
      (leads_walk access s machine ok place end budget far (ls ++ []) (sum_by greatest_words ls + 0) w pc next regs m Past after m i (subst (λ l. P l pc next) (sym (append-nil ls)) p)
      (leads_straight access s ls [] 0 regs after m Past after m runs (refl, (refl, refl))) a)

  left_held : (l : State) (regs : List ℕ) (m : M) → Shows s access l regs m → reg regs left_register ≡ s.register left_register
  left_held l regs m f = f.left left_register caller.counters.1

  -- one call less is left
  counted : (n : ℕ) (l : State) (pc mid : ℕ) (regs : List ℕ) (m : M) (i : ℕ) → n + 1 ≡ s.register left_register → Shows s access l regs m
      → IsPlaced machine.text place s.entry pc mid (Word (Addi left_register left_register minus_one)) → W l.world pc regs m i → W l.world mid (put regs left_register n) m (i + 1)
  counted n l pc mid regs m i e f p a =
      let held = left_held l regs m f ∙ sym e in
      let small : n + 1 < 2 ^ 32 = subst (λ z. z < 2 ^ 32) held (f.are.words left_register) in
      sets_on access y s setting frame fit caller machine ok budget far place end linked is_fine (Addi left_register left_register minus_one) l.world pc mid regs (put regs left_register n) m i
      (addi_sets (limited access s) m left_register left_register minus_one regs (n + 1) (2 ^ 32 - 1) n held minus_one_is (one_less n small)) p a

  -- a call that is left is made, at each bound
  made : (go : List Line) (result : Option ℕ) (f : ℕ) (args : List ℕ) (spare pc mid next : ℕ) (around : List Enclosing) (bound : Bound) (l : State) (regs : List ℕ) (m : M) (i : ℕ)
      → fine_target is_fine s.may_ask s.temps (uses_of s) result ≡ true → (s.register left_register ≡ 0 → ⊥) → Shows s access l regs m → Conventions access y machine budget far setting bound → Goes go f args l regs m
      → IsPlaced machine.text place s.entry pc mid (Branch 0 left_register 0 (trap_label 4)) → P (Word (Addi left_register left_register minus_one) ∷ (go ++ back_lines s.seats result)) mid next
      → W l.world pc regs m i
      → i + (spare + 52 + (within bound (λ calls. made_call result l (calls f args frame.depth frame.live l.world)) l).cost) ≤ budget → far ≤ i + length bound
      → F spare (length bound) around next (within bound (λ calls. made_call result l (calls f args frame.depth frame.live l.world)) l).outcome
  made go result f args spare pc mid next around [] l regs m i fine ne sh keep goes branch p a paid asked =
      (i, record { calm = subst (λ (x : Spot M). machine.is_calm (outside l.world) x.memory ≡ true) (sym a.is) a.calm; sound = a.sound; paid = omega (arith, paid); asked = omega (arith, asked) })
  made go result f args spare pc mid next around (calls ∷ below) l regs m i fine ne sh keep goes branch p a paid asked =
      let n = s.register left_register - 1 in
      let e : n + 1 ≡ s.register left_register = grind (arith, ne) in
      let b = other_passes access s machine ok budget far place end 4 left_register (s.register left_register) l.world pc mid regs m i (left_held l regs m sh) ne branch a in
      let c = counted n l mid p.0 regs m (i + 1) e sh p.1 b in
      let q = placed_split machine.text place s.entry go (back_lines s.seats result) p.0 next p.2 in
      let x = goes calls (length below) n (spare + 2) p.0 q.0 (i + 1 + 1) keep.0 e q.1 c (omega (arith, paid)) (omega (arith, asked)) in
      let end_of = (calls f args frame.depth frame.live l.world).end in
      fewer access s machine place end budget far spare spare (length below) (suc (length below)) around next (made_call result l (calls f args frame.depth frame.live l.world)).outcome (omega arith) (omega arith)
      (call_follows access y s setting frame fit caller machine ok budget far place end linked is_fine result end_of n spare (length below) x.0 q.0 next around l regs m fine e sh x.1 q.2 x.2)

  pub guarded_does : (go : List Line) (result : Option ℕ) (f : ℕ) (args : List ℕ) (spare pc next : ℕ) (around : List Enclosing) (bound : Bound) (l : State) (regs : List ℕ) (m : M) (i : ℕ)
      → fine_target is_fine s.may_ask s.temps (uses_of s) result ≡ true → Shows s access l regs m → Conventions access y machine budget far setting bound → Goes go f args l regs m
      → P (guarded_lines s.seats go result) pc next → W l.world pc regs m i → i + (spare + 52 + (call_to (At f) frame.depth frame.live result args bound l).cost) ≤ budget → far ≤ i + length bound
      → F spare (length bound) around next (call_to (At f) frame.depth frame.live result args bound l).outcome
  guarded_does go result f args spare pc next around bound l regs m i fine sh keep goes p a paid asked = by_depth (ltb frame.depth 512) refl paid
    where
      by_depth : (b : Bool) → ltb frame.depth 512 ≡ b
          → i + (spare + 52 + (cond b (within bound (λ calls. made_call result l (calls f args frame.depth frame.live l.world)) l) (now (traps 4 l))).cost) ≤ budget
          → F spare (length bound) around next (cond b (within bound (λ calls. made_call result l (calls f args frame.depth frame.live l.world)) l) (now (traps 4 l))).outcome
      by_depth true is paid =
          made go result f args spare pc p.0 next around bound l regs m i fine (λ z. omega (arith, z, caller.calls_left, ltb-true frame.depth 512 is)) sh keep goes p.1 p.2 a paid asked
      by_depth false is paid =
          zero_traps access s machine ok budget far place end 4 left_register spare (length bound) around pc p.0 next l regs m i
          (left_held l regs m sh ∙ omega (arith, caller.calls_left, ltb-false frame.depth 512 is)) p.1 a (omega (arith, paid))
