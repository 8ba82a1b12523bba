-- The code of a call of a function does what the call means.
use Rattle.std.proofs.Common.{◌≡◌, inl, inr, ℕ, suc, ◌+◌, ◌*◌, ◌<◌, ◌≤◌, Bool, true, false, ◌&&◌, ◌||◌, cond, eqb, ltb, List, [], ◌∷◌, ◌++◌, length, map, sum_by, pos, slice_index, Option, Some, None, refl, sym, ap, ◌∙◌, subst, arith, unwrap_or}
use Rattle.std.proofs.lemmas.Bool.{ltb-true, eqb-true, eqb-false}
use Rattle.std.proofs.lemmas.List.{length-map}
use Rattle.std.proofs.lemmas.Option.{none-some}
use Rattle.mv_isa.specs.declared.labelled.Line.{Line}
use Rattle.mv_isa.specs.declared.labelled.Line.TheVariants.{Slot}
use Rattle.mv_num.specs.Words.{add}
use Rattle.mv_isa.specs.Code.{IsPlace, greatest_words, nop}
use Rattle.mv_isa.specs.Execution.{Access, Goes as GoesOn, reg}
use Rattle.mv_isa.specs.Registers.{a0 as first_register, t3 as scratch_register}
use Rattle.mv_ir.specs.declared.tree.Tree.{Tree}
use Rattle.mv_ir.specs.declared.stm.Callee.{Callee}
use Rattle.mv_ir.specs.declared.stm.Callee.TheVariants as callee
use Rattle.mv_ir.specs.declared.stm.Stm.TheOpen as stm
use Rattle.mv_ir.specs.World as ir
use Rattle.mv_ir.specs.World.{World}
use Rattle.mv_ir.specs.Outcome.{State, Run, Bound}
use Rattle.mv_ir.specs.Trees.{nodes, nodes_of_all}
use Rattle.mv_ir.specs.Meaning as meaning
use Rattle.mv_ir.specs.Meaning.{of_tree, Null, At, goal_at, goal, call_cost, callee_nodes, call_to}
use Rattle.mv_ir.specs.WellFormed.{all_true}
use Rattle.mv_select_code.specs.Trees.TreeCode.{tree_lines}
use Rattle.mv_select_code.specs.Trees.Straight.{Sets, Straight}
use Rattle.mv_select_code.proofs.OfTrees.Instructions.{addi_sets}
use Rattle.mv_select_code.proofs.OfTrees.Registers.{reg_zero}
use Rattle.mv_select_code.proofs.OfTrees.TreesAreShort.{trees_are_short}
use Rattle.mv_select_code.proofs.OfTrees.Words.{zero_add}
use Rattle.mv_select_code.specs.Statements.Frames.{Site, IsFine, IsFit, Shows}
use Rattle.mv_select_code.specs.Statements.Leads.{limited}
use Rattle.mv_select_code.proofs.OfStatements.TreesFirst.{tree_first}
use Rattle.mv_select_code.specs.declared.control.enclosing.Enclosing.{Enclosing}
use Rattle.mv_select_code.specs.Control.FlowCode.{fine_target, fine_callee, fine_layer, only_tests}
use Rattle.mv_select_code.specs.Control.Runs.{Machine, IsRun}
use Rattle.mv_select_code.specs.Control.Laws.{uses_of, LinesDo}
use Rattle.mv_select_code.specs.Control.Flow.{IsWithin}
use Rattle.mv_select_code.proofs.OfControl.Walk.{put_zero, placed_split, to_stands}
use Rattle.mv_select.specs.Calls.CallCode.{argument_lines, guarded_lines, entry_lines, jump_lines, pointer_lines, transfer_lines, pad_lines, call_lines}
use Rattle.mv_select.specs.Calls.Convention.{Layout, Conventions}
use Rattle.mv_select.specs.Calls.Laws.{IsCaller, IsLinked}
use Rattle.mv_select.proofs.OfCalls.Arguments.{at_scratch, arguments_short, values, arguments_first}
use Rattle.mv_select.proofs.OfCalls.Transfers.{Transfers, slot_transfers, entry_transfers, jump_transfers}
use Rattle.mv_select.proofs.OfCalls.DepthTest.{zero_traps, other_passes, depth_does}
use Rattle.mv_select.proofs.OfCalls.Guarded.{straight_walk, guarded_does}
use Rattle.mv_select.proofs.OfCalls.PointCalls.{points_keep, point_does}
use Rattle.mv_select.proofs.OfCalls.CallCourse.{call_course}
use Rattle.mv_num.proofs.Booleans.{and_right, and_left}
use Rattle.mv_num.proofs.Numbers.{word_of_pos}

-- where a number is found, a function has it
abbrev pub Found : List ℕ → (v at f : ℕ) → Type 0
Found numbers v at f = (k : ℕ) × (f ≡ at + k) × (k < length numbers) × (slice_index numbers k ≡ v)

by_first : (n : ℕ) (numbers : List ℕ) (v at f : ℕ) (b : Bool) → eqb n v ≡ b → cond b (Some at) (meaning.place numbers v (suc at)) ≡ Some f
    → (meaning.place numbers v (suc at) ≡ Some f → Found numbers v (suc at) f) → Found (n ∷ numbers) v at f
by_first n numbers v at f true is e rest = let same : at ≡ f = ap (λ o. unwrap_or o 0) e in (0, omega (arith, same), omega arith, eqb-true n v is)
by_first n numbers v at f false is e rest = let r = rest e in let same = r.1 in let below = r.2 in (suc r.0, omega (arith, same), omega (arith, below), r.3)

pub place_found : (numbers : List ℕ) (v at f : ℕ) → meaning.place numbers v at ≡ Some f → Found numbers v at f
place_found [] v at f e = absurd (none-some f e)
place_found (n ∷ numbers) v at f e = by_first n numbers v at f (eqb n v) refl e (place_found numbers v (suc at) f)

module _ {M : Type 0} (access : Access M) (y : Layout) (s : Site) (setting : ir.Setting) (frame : ir.Frame) (fit : IsFit s access setting frame) (caller : IsCaller y s setting frame)
    (machine : Machine M) (ok : IsRun access s machine) (budget far : ℕ) (place : ℕ → ℕ) (end : ℕ) (linked : IsLinked y (length setting.numbers) place)
    (is_fine : Tree → Bool) (fine_trees : (t : Tree) → is_fine t ≡ true → IsFine s setting frame t) (is_attributed : ℕ → Bool) where
  open call_course access s machine ok place end budget far use {of.{Placed as P, Follows as F}, Stands as W, Reaches as R}

  abbrev Goes : List Line → ℕ → List ℕ → State → List ℕ → M → Type 0
  Goes = Transfers access y s setting frame fit caller machine ok budget far place end linked is_fine

  abbrev ToGoal : meaning.Goal → Option ℕ → List ℕ → Bound → State → Run
  ToGoal g result args bound l = call_to g frame.depth frame.live result args bound l

  -- what a call finds: the frame is shown, and its arguments stand in their registers
  record Passed (args : List ℕ) (bound : Bound) (l : State) (regs : List ℕ) (m : M) : Type 0 where
    pub few : length args < 9
    pub shown : Shows s access l regs m
    pub held : (j : ℕ) → j < length args → reg regs (first_register + j) ≡ slice_index args j
    pub keep : Conventions access y machine budget far setting bound

  -- a call to the function whose address stands in t3
  by_jump : (result : Option ℕ) (f : ℕ) (args : List ℕ) (spare pc next : ℕ) (around : List Enclosing) (bound : Bound) (l : State) (regs : List ℕ) (m : M) (i : ℕ)
      → fine_target is_fine s.may_ask s.temps (uses_of s) result ≡ true → Passed args bound l regs m → reg regs scratch_register ≡ s.entry f → IsPlace (s.entry f)
      → P (guarded_lines s.seats jump_lines result) pc next → W l.world pc regs m i → i + (spare + 52 + (ToGoal (At f) result args bound l).cost) ≤ budget → far ≤ i + length bound
      → F spare (length bound) around next (ToGoal (At f) result args bound l).outcome
  by_jump result f args spare pc next around bound l regs m i fine x at there p a paid asked =
      guarded_does access y s setting frame fit caller machine ok budget far place end linked is_fine jump_lines result f args spare pc next around bound l regs m i fine x.shown x.keep
      (jump_transfers access y s setting frame fit caller machine ok budget far place end linked is_fine f args l regs m x.few x.shown x.held at there) p a paid asked

  by_slot : (result : Option ℕ) (f : ℕ) (args : List ℕ) (spare pc next : ℕ) (around : List Enclosing) (bound : Bound) (l : State) (regs : List ℕ) (m : M) (i : ℕ)
      → fine_target is_fine s.may_ask s.temps (uses_of s) result ≡ true → Passed args bound l regs m
      → P (guarded_lines s.seats (Slot f ∷ []) result) pc next → W l.world pc regs m i → i + (spare + 52 + (ToGoal (At f) result args bound l).cost) ≤ budget → far ≤ i + length bound
      → F spare (length bound) around next (ToGoal (At f) result args bound l).outcome
  by_slot result f args spare pc next around bound l regs m i fine x p a paid asked =
      guarded_does access y s setting frame fit caller machine ok budget far place end linked is_fine (Slot f ∷ []) result f args spare pc next around bound l regs m i fine x.shown x.keep
      (slot_transfers access y s setting frame fit caller machine ok budget far place end linked is_fine f args l regs m x.few x.shown x.held) p a paid asked

  -- scratch registers behind the arguments may change
  passed_scratch : (args : List ℕ) (bound : Bound) (l : State) (regs after : List ℕ) (m : M) → Passed args bound l regs m → Shows s access l after m
      → ((q : ℕ) → q < scratch_register → reg after q ≡ reg regs q) → Passed args bound l after m
  passed_scratch args bound l regs after m x shown same =
      record { few = x.few; shown = shown; held = λ j lt. same (first_register + j) (omega (arith, lt, x.few)) ∙ x.held j lt; keep = x.keep }

  -- a jump to its entry
  by_entry : (result : Option ℕ) (f : ℕ) (args : List ℕ) (spare pc next : ℕ) (around : List Enclosing) (bound : Bound) (l : State) (regs : List ℕ) (m : M) (i : ℕ)
      → fine_target is_fine s.may_ask s.temps (uses_of s) result ≡ true → Passed args bound l regs m
      → P (guarded_lines s.seats (entry_lines f) result) pc next → W l.world pc regs m i → i + (spare + 52 + (ToGoal (At f) result args bound l).cost) ≤ budget → far ≤ i + length bound
      → F spare (length bound) around next (ToGoal (At f) result args bound l).outcome
  by_entry result f args spare pc next around bound l regs m i fine x p a paid asked =
      guarded_does access y s setting frame fit caller machine ok budget far place end linked is_fine (entry_lines f) result f args spare pc next around bound l regs m i fine x.shown x.keep
      (entry_transfers access y s setting frame fit caller machine ok budget far place end linked is_fine f args l regs m x.few x.shown x.held) p a paid asked

  -- a pointer's value stands in t3: a call through it
  by_value : (result : Option ℕ) (v : ℕ) (args : List ℕ) (spare pc next : ℕ) (around : List Enclosing) (bound : Bound) (l : State) (regs : List ℕ) (m : M) (i : ℕ) (b : Bool) (o : Option ℕ)
      → eqb v 0 ≡ b → meaning.place setting.numbers v 0 ≡ o
      → fine_target is_fine s.may_ask s.temps (uses_of s) result ≡ true → Passed args bound l regs m → reg regs scratch_register ≡ v
      → P (pointer_lines s.seats result) pc next → W l.world pc regs m i
      → i + (spare + 54 + (ToGoal (cond b Null (goal_at o)) result args bound l).cost) ≤ budget → far ≤ i + length bound
      → F spare (length bound) around next (ToGoal (cond b Null (goal_at o)) result args bound l).outcome
  by_value result v args spare pc next around bound l regs m i true o null found fine x holds p a paid asked =
      zero_traps access s machine ok budget far place end 3 scratch_register spare (length bound) around pc p.0 next l regs m i
      (holds ∙ eqb-true v 0 null) p.1 a (omega (arith, paid))
  by_value result v args spare pc next around bound l regs m i false None null found fine x holds p a paid asked = tt
  by_value result v args spare pc next around bound l regs m i false (Some f) null found fine x holds p a paid asked =
      let k = place_found setting.numbers v 0 f found in
      let same : f ≡ k.0 = omega (arith, k.1) in
      let there : f < length setting.numbers = omega (arith, same, k.2) in
      let at : reg regs scratch_register ≡ s.entry f = holds ∙ sym k.3 ∙ ap (slice_index setting.numbers) (sym same) ∙ fit.entries f there in
      let b = other_passes access s machine ok budget far place end 3 scratch_register v l.world pc p.0 regs m i holds (eqb-false v 0 null) p.1 a in
      by_jump result f args spare p.0 next around bound l regs m (i + 1) fine x at (caller.entry_places f there) p.2 b (omega (arith, paid)) (omega (arith, asked))

  -- the call itself, its arguments in their registers, paid for but for an instruction before them
  transfer_does : (result : Option ℕ) (f : Callee) (args : List ℕ) (spare pc next : ℕ) (around : List Enclosing) (bound : Bound) (l : State) (regs : List ℕ) (m : M) (i : ℕ)
      → fine_target is_fine s.may_ask s.temps (uses_of s) result ≡ true → fine_callee is_fine s.may_ask s.temps (uses_of s) f ≡ true → Passed args bound l regs m
      → P (transfer_lines s.seats is_attributed f result) pc next → W l.world pc regs m i
      → i + (spare + (call_cost f + 3 * callee_nodes setting frame f) + (ToGoal (goal setting frame f l) result args bound l).cost) ≤ budget + 1 → far ≤ i + length bound
      → F spare (length bound) around next (ToGoal (goal setting frame f l) result args bound l).outcome
  transfer_does result (callee.Direct f) args spare pc next around bound l regs m i fine trees x p a paid asked = by_kind (is_attributed f) p
    where
      by_kind : (b : Bool) → P (cond b (guarded_lines s.seats (Slot f ∷ []) result) (guarded_lines s.seats (entry_lines f) result)) pc next
          → F spare (length bound) around next (ToGoal (At f) result args bound l).outcome
      by_kind true p = by_slot result f args spare pc next around bound l regs m i fine x p a (omega (arith, paid)) asked
      by_kind false p = by_entry result f args spare pc next around bound l regs m i fine x p a (omega (arith, paid)) asked
  transfer_does result (callee.Through t) args spare pc next around bound l regs m i fine trees x p a paid asked =
      let v = of_tree setting frame t l in
      let z = tree_first access s setting frame fit scratch_register t l regs m at_scratch (fine_trees t trees) x.shown in
      let ls = tree_lines s.seats t scratch_register in
      let q = placed_split machine.text place s.entry ls (pointer_lines s.seats result) pc next p in
      let r = straight_walk access y s setting frame fit caller machine ok budget far place end linked is_fine ls (2 * nodes t) l.world pc q.0 regs z.after m i (trees_are_short s.seats t scratch_register) q.1 z.runs a in
      let late = r.late in let soon = r.soon in
      by_value result v args spare q.0 next around bound l z.after m r.time (eqb v 0) (meaning.place setting.numbers v 0) refl refl fine
      (passed_scratch args bound l regs z.after m x z.shown (λ n lt. z.changes.others n (inl lt))) z.holds q.2 r.stands (omega (arith, paid, soon)) (omega (arith, asked, late))
  transfer_does result (callee.Switched g) args spare pc next around bound l regs m i fine may x p a paid asked =
      point_does access y s setting frame fit caller machine ok budget far place end linked is_fine result g args spare pc next around bound l regs m i fine may x.few x.shown x.held
      (points_keep access y machine budget far setting bound x.keep) p a (omega (arith, paid)) asked
  transfer_does result callee.Expanded args spare pc next around bound l regs m i fine tests x p a paid asked =
      depth_does access s machine ok budget far place end frame caller.counters.1 caller.calls_left result args spare pc next around bound l regs m i x.shown p a (omega (arith, paid)) asked

  -- the functions keep the convention at each lower bound
  conventions_within : (bound top : Bound) → IsWithin bound top → Conventions access y machine budget far setting top → Conventions access y machine budget far setting bound
  conventions_within bound [] e keep = subst (Conventions access y machine budget far setting) (sym e) keep
  conventions_within bound (calls ∷ below) (inl e) keep = subst (Conventions access y machine budget far setting) (sym e) keep
  conventions_within bound (calls ∷ below) (inr h) keep = conventions_within bound below h keep.2

  -- what stands before a call through a pointer switch without arguments changes nothing
  nop_sets : (regs : List ℕ) (m : M) → Sets (limited access s) m nop regs regs
  nop_sets regs m pc =
      addi_sets (limited access s) m 0 0 (pos 0) regs 0 0 0 (reg_zero regs) (word_of_pos 0 (omega arith)) (zero_add 0 (omega arith)) pc ∙ ap (λ rs. GoesOn rs (add pc 4) m) (put_zero regs 0)

  pad_walk : (f : Callee) (args : List Tree) (w : World) (pc next : ℕ) (regs : List ℕ) (m : M) (i : ℕ) → P (pad_lines f args) pc next → W w pc regs m i → R w next regs m i 1
  pad_walk f args w pc next regs m i p a =
      let pad = pads f args in
      straight_walk access y s setting frame fit caller machine ok budget far place end linked is_fine (pad_lines f args) 1 w pc next regs regs m i pad.0 p (pad.1 regs m) a
    where
      pads : (f : Callee) (args : List Tree) → (sum_by greatest_words (pad_lines f args) ≤ 1) × ((regs : List ℕ) (m : M) → Straight (limited access s) m s.entry (pad_lines f args) regs regs)
      pads (callee.Direct f) args = (omega arith, λ regs m. refl)
      pads (callee.Through t) args = (omega arith, λ regs m. refl)
      pads (callee.Switched g) [] = (omega arith, λ regs m. (regs, nop_sets regs m, refl))
      pads (callee.Switched g) (t ∷ ts) = (omega arith, λ regs m. refl)
      pads callee.Expanded args = (omega arith, λ regs m. refl)

  pub call_done : (top : Bound) → Conventions access y machine budget far setting top → (result : Option ℕ) (f : Callee) (args : List Tree) → fine_layer is_fine s.may_ask s.temps (uses_of s) (stm.Call result f args) ≡ true
      → LinesDo access s setting frame machine place end budget far is_fine top (call_lines s.seats is_attributed result f args) (stm.Call result f args)
  call_done top keep result f args fine spare around pc next bound within p l i h =
      let trees = all_true (map is_fine args) in
      let target = fine_target is_fine s.may_ask s.temps (uses_of s) result in
      let callee = fine_callee is_fine s.may_ask s.temps (uses_of s) f in
      let counted = and_right (s.may_call || only_tests f args) (ltb (length args) 9 && (target && (callee && trees))) fine in
      let parts = and_right (ltb (length args) 9) (target && (callee && trees)) counted in
      let both = and_right target (callee && trees) parts in
      let few = ltb-true (length args) 9 (and_left (ltb (length args) 9) (target && (callee && trees)) counted) in
      let m = (machine.run i).memory in
      let regs = (machine.run i).regs in
      let z = arguments_first access y s setting frame fit caller is_fine fine_trees args first_register l regs m (omega arith) (omega (arith, few)) (and_right callee trees both) h.shows in
      let ls = argument_lines s.seats first_register args in
      let go = transfer_lines s.seats is_attributed f result in
      let o = placed_split machine.text place s.entry (pad_lines f args) (ls ++ go) pc next p in
      let q = placed_split machine.text place s.entry ls go o.0 next o.2 in
      let cost = (ToGoal (goal setting frame f l) result (values setting frame args l) bound l).cost in
      let b = pad_walk f args l.world pc o.0 regs m i o.1
      (to_stands access s machine ok place end budget far 0 (spare + (call_cost f + 3 * (callee_nodes setting frame f + nodes_of_all args) + cost)) (length bound) pc l i h) in
      let r = straight_walk access y s setting frame fit caller machine ok budget far place end linked is_fine ls (2 * nodes_of_all args) l.world o.0 q.0 regs z.after m b.time (arguments_short s.seats first_register args) q.1 z.runs
      b.stands in
      let begun = b.late in let begins = b.soon in
      let late = r.late in let soon = r.soon in let paid = h.paid in let asked = h.asked in
      transfer_does result f (values setting frame args l) spare q.0 next around bound l z.after m r.time
      (and_left target (callee && trees) parts) (and_left callee trees both)
      (record {
        few = omega (arith, few, length-map args (λ t. of_tree setting frame t l));
        shown = z.shown;
        held = λ j lt. z.hold j (omega (arith, lt, length-map args (λ t. of_tree setting frame t l)));
        keep = conventions_within bound top within keep;
      })
      q.2 r.stands (omega (arith, paid, soon, begins)) (omega (arith, asked, late, begun))
