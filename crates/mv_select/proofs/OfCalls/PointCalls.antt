-- The code of a call through a pointer switch does what the call means.
use Rattle.std.proofs.Common.{◌≡◌, ℕ, ◌+◌, ◌*◌, ◌%◌, ◌<◌, ◌≤◌, Bool, true, false, cond, ltb, List, [], ◌∷◌, length, slice_index, Option, Some, None, refl, sym, ap, ◌∙◌, subst, arith}
use Rattle.mv_isa.specs.declared.labelled.Line.TheVariants.{Point}
use Rattle.mv_isa.specs.Execution.{Access, reg}
use Rattle.mv_isa.specs.Registers.{a0 as first_register, s11 as left_register, s10 as live_register}
use Rattle.mv_ir.specs.declared.tree.Tree.{Tree}
use Rattle.mv_ir.specs.World as ir
use Rattle.mv_ir.specs.World.{World}
use Rattle.mv_ir.specs.Outcome.{State, Run, End, Returned, Trapped, More, Stuck, Bound, now}
use Rattle.mv_ir.specs.Meaning.{Goal, Nowhere, Null, At, Inside, goal_of, made_call, within, call_to, traps}
use Rattle.mv_select_code.specs.Trees.View.{AreRegisters}
use Rattle.mv_select_code.specs.Statements.Frames.{Site, IsFit, Shows}
use Rattle.mv_select_code.specs.declared.control.enclosing.Enclosing.{Enclosing}
use Rattle.mv_select_code.specs.Control.FlowCode.{fine_target}
use Rattle.mv_select_code.specs.Control.Runs.{Spot, Machine, outside, IsRun}
use Rattle.mv_select_code.specs.Control.Laws.{uses_of}
use Rattle.mv_select.specs.Calls.CallCode.{back_lines}
use Rattle.mv_select.specs.Calls.Convention as convention
use Rattle.mv_select.specs.Calls.Convention.{Layout, frame_limit, IsAbove, HoldsGlobals, Comes, ReturnsCounted, FollowsCounted, PointsKeep, Conventions, call_within, nothing_within, call_at, call_through}
use Rattle.mv_select.specs.Calls.Laws.{IsCaller, IsLinked}
use Rattle.mv_select.proofs.OfCalls.CallerShown.{globals_held}
use Rattle.mv_select.proofs.OfCalls.Transfers.{Back, FollowsBack, back_follows}
use Rattle.mv_select.proofs.OfCalls.CallCourse.{call_course}

-- ---- what a call means, its result apart

module _ (depth live : ℕ) (args : List ℕ) (l : State) where
  by_depth : (b : Bool) (f : ℕ) (result : Option ℕ) (bound : Bound) →
      cond b (within bound (λ calls. made_call result l (calls f args depth live l.world)) l) (now (traps 4 l)) ≡
      made_call result l (cond b (call_within bound f args depth live l.world) (record { cost = 0; end = Trapped 4 l.world }))
  by_depth true f result (calls ∷ below) = refl
  by_depth true f None [] = refl
  by_depth true f (Some t) [] = refl
  by_depth false f None bound = refl
  by_depth false f (Some t) bound = refl

  inside : (b : Bool) (result : Option ℕ) (bound : Bound) →
      cond b (within bound (λ calls. made_call result l (record { cost = 0; end = Returned None l.world })) l) (now (traps 4 l)) ≡
      made_call result l (cond b (nothing_within bound l.world) (record { cost = 0; end = Trapped 4 l.world }))
  inside true result (calls ∷ below) = refl
  inside true None [] = refl
  inside true (Some t) [] = refl
  inside false None bound = refl
  inside false (Some t) bound = refl

  pub call_is : (x : Goal) (result : Option ℕ) (bound : Bound) → call_to x depth live result args bound l ≡ made_call result l (call_at x bound args depth live l.world)
  call_is Nowhere None bound = refl
  call_is Nowhere (Some t) bound = refl
  call_is Null None bound = refl
  call_is Null (Some t) bound = refl
  call_is (At f) result bound = by_depth (ltb depth 512) f result bound
  call_is Inside result bound = inside (ltb depth 512) result bound

-- the convention of slots of four words at a bound
pub points_keep : {M : Type 0} (access : Access M) (y : Layout) (machine : Machine M) (budget far : ℕ) (setting : ir.Setting) (bound : Bound) → Conventions access y machine budget far setting bound
    → PointsKeep access y machine budget far setting bound
points_keep access y machine budget far setting [] keep = keep
points_keep access y machine budget far setting (calls ∷ below) keep = keep.1

module _ {M : Type 0} (access : Access M) (y : Layout) (s : Site) (setting : ir.Setting) (frame : ir.Frame) (fit : IsFit s access setting frame) (caller : IsCaller y s setting frame)
    (machine : Machine M) (ok : IsRun access s machine) (budget far : ℕ) (place : ℕ → ℕ) (end : ℕ) (linked : IsLinked y (length setting.numbers) place)
    (is_fine : Tree → Bool) where
  open call_course access s machine ok place end budget far use {of.{Placed as P, Follows as F}, Stands as W}

  module _ (args : List ℕ) (pc : ℕ) (l : State) (regs : List ℕ) (m : M) (i : ℕ) (f : Shows s access l regs m) (a : W l.world pc regs m i) where
    regs_is : (machine.run i).regs ≡ regs
    regs_is = ap (λ (x : Spot M). x.regs) a.is

    memory_is : (machine.run i).memory ≡ m
    memory_is = ap (λ (x : Spot M). x.memory) a.is

    is : (q : ℕ) → reg (machine.run i).regs q ≡ reg regs q
    is q = ap (λ rs. reg rs q) regs_is

    sp_is : reg (machine.run i).regs 2 ≡ s.register 2
    sp_is = is 2 ∙ f.left 2 fit.left.stack

    left_is : reg (machine.run i).regs left_register ≡ s.register left_register
    left_is = is left_register ∙ f.left left_register caller.counters.1

    stands : convention.Stands access y machine budget far pc l.world i
    stands = record {
      at = ap (λ (x : Spot M). x.pc) a.is;
      calm = subst (λ (x : M). machine.is_calm (outside l.world) x ≡ true) (sym memory_is) a.calm;
      sound = a.sound;
      globals = subst (λ (x : M). HoldsGlobals access y machine budget far l.world x) (sym memory_is) (globals_held access y s setting frame caller machine budget far l regs m f);
      are = subst AreRegisters (sym regs_is) f.are;
    }

    -- what a slot of four words finds
    comes : ((j : ℕ) → j < length args → reg regs (first_register + j) ≡ slice_index args j) → Comes access y machine budget far frame.depth frame.live args i
    comes held = record {
      arguments = λ j lt. is (first_register + j) ∙ held j lt;
      live = is live_register ∙ f.left live_register caller.counters.0 ∙ caller.live;
      counts = caller.counts;
      left = ap (λ n. n + frame.depth) left_is ∙ caller.calls_left;
      even = subst (λ sp. sp % 4 ≡ 0) (sym sp_is) caller.even;
      room = subst (λ sp. y.bottom + reg (machine.run i).regs left_register * frame_limit ≤ sp) (sym sp_is)
          (subst (λ c. y.bottom + c * frame_limit ≤ s.register 2) (sym left_is) caller.room);
      within = subst (λ sp. sp ≤ y.top) (sym sp_is) caller.within;
    }

    -- what it sets back
    set_back : (spare k back : ℕ) (w : World) (j : ℕ) → ReturnsCounted access y machine budget far spare k i back w j
        → Back access y s setting frame fit caller machine ok budget far place end linked is_fine regs m spare k back w j
    set_back spare k back w j r = record {
      stands = r.stands;
      registers = λ q h ne. r.kept.registers q h ne ∙ is q;
      counted = r.kept.counted ∙ left_is;
      stack = λ b h. r.kept.stack b (subst (λ sp. IsAbove y sp b) (sym sp_is) h) ∙ ap (λ (x : M). access.load x b 4) memory_is;
      paid = r.paid;
      asked = r.asked;
    }

    came_back : (x : End) (spare k back : ℕ) → FollowsCounted access y machine budget far spare k i back x
        → FollowsBack access y s setting frame fit caller machine ok budget far place end linked is_fine regs m spare k back x
    came_back (Returned None w) spare k back h = (h.0, set_back spare k back w h.0 h.1)
    came_back (Returned (Some v) w) spare k back h = (h.0, set_back spare k back w h.0 h.1, h.2)
    came_back (Trapped c w) spare k back h = h
    came_back (More w) spare k back h = h
    came_back Stuck spare k back h = tt

  pub point_does : (result : Option ℕ) (g : ℕ) (args : List ℕ) (spare pc next : ℕ) (around : List Enclosing) (bound : Bound) (l : State) (regs : List ℕ) (m : M) (i : ℕ)
      → fine_target is_fine s.may_ask s.temps (uses_of s) result ≡ true → s.reach.is_read g ≡ true → length args < 9 → Shows s access l regs m → ((j : ℕ) → j < length args → reg regs (first_register + j) ≡ slice_index args j)
      → PointsKeep access y machine budget far setting bound → P (Point (s.seats.place g) ∷ back_lines s.seats result) pc next → W l.world pc regs m i
      → i + (spare + 57 + (call_to (goal_of setting.numbers (setting.switched g l.world)) frame.depth frame.live result args bound l).cost) ≤ budget → far ≤ i + length bound
      → F spare (length bound) around next (call_to (goal_of setting.numbers (setting.switched g l.world)) frame.depth frame.live result args bound l).outcome
  point_does result g args spare pc next around bound l regs m i fine may few f held keep p a paid asked =
      let goal = goal_of setting.numbers (setting.switched g l.world) in
      let call = call_through setting bound g args frame.depth frame.live l.world in
      let same = call_is frame.depth frame.live args l goal result bound in
      let costs : (call_to goal frame.depth frame.live result args bound l).cost ≡ call.cost = ap (λ (r : Run). r.cost) same in
      let came = keep g frame.depth frame.live args pc i (subst (λ n. 0 < n) (caller.sizes g) (fit.has_word g may)) few
      (p.1.stands.0 ∙ ap Some (caller.places g)) (spare + 2) l.world (stands args pc l regs m i f a) (comes args pc l regs m i f a held)
      (omega (arith, paid, costs)) asked in
      subst (λ (r : Run). F spare (length bound) around next r.outcome) (sym same)
      (back_follows access y s setting frame fit caller machine ok budget far place end linked is_fine result call.end spare (length bound) p.0 next around l regs m fine f p.2
      (subst (λ back. FollowsBack access y s setting frame fit caller machine ok budget far place end linked is_fine regs m (spare + 2) (length bound) back call.end) (sym p.1.stands.1)
      (came_back args pc l regs m i f a call.end (spare + 2) (length bound) (pc + 16) came)))
