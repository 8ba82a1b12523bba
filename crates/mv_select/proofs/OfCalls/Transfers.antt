-- A call goes to its callee, and what follows when it has come back.
use Rattle.std.proofs.Common.{◌≡◌, inl, inr, ⊎_elim, ℕ, ◌+◌, ◌-◌, ◌*◌, ◌%◌, ◌^◌, ◌<◌, ◌≤◌, Bool, true, cond, List, [], ◌∷◌, length, slice_index, pos, Option, Some, None, refl, sym, ap, ◌∙◌, subst, arith}
use Rattle.std.proofs.lemmas.Bool.{ltb-true, eq-eqb, cases_eq, cases_lt}
use Rattle.mv_num.specs.Words.{word_of, add}
use Rattle.mv_isa.specs.declared.instr.Cause.TheVariants as cause
use Rattle.mv_isa.specs.declared.instr.Instr.{Instr}
use Rattle.mv_isa.specs.declared.instr.Instr.TheVariants.{Addi, Jalr}
use Rattle.mv_isa.specs.declared.labelled.Line.{Line}
use Rattle.mv_isa.specs.declared.labelled.Line.TheVariants.{Word, Jump, Slot}
use Rattle.mv_isa.specs.Code.{IsPlace}
use Rattle.mv_isa.specs.Execution.{Access, Goes, Faults, reg, put, execute, jumps, step}
use Rattle.mv_isa.specs.Registers.{ra as link_register, a0 as result_register, s11 as left_register, s10 as live_register, t3 as scratch_register}
use Rattle.mv_ir.specs.declared.tree.Tree.{Tree}
use Rattle.mv_ir.specs.World as ir
use Rattle.mv_ir.specs.World.{World}
use Rattle.mv_ir.specs.Outcome.{State, End, Returned, Trapped, More, Stuck, Calls}
use Rattle.mv_ir.specs.Meaning as meaning
use Rattle.mv_ir.specs.Meaning.{with_world, with_temp, call_end, within}
use Rattle.mv_select_code.specs.Trees.TreeCode.{one}
use Rattle.mv_select_code.specs.Trees.View.{AreRegisters}
use Rattle.mv_select_code.proofs.OfTrees.Instructions.{addi_sets}
use Rattle.mv_select_code.proofs.OfTrees.Registers.{free_above, free_low, put_same, put_other, put_registers}
use Rattle.mv_select_code.proofs.OfTrees.Words.{zero_add}
use Rattle.mv_select_code.specs.Statements.StatementCode.{write_temp}
use Rattle.mv_select_code.specs.Statements.Leads.{limited, Past}
use Rattle.mv_select_code.specs.Statements.Frames.{Site, IsFit, Shows}
use Rattle.mv_select_code.proofs.OfStatements.TreesFirst.{add_small, temp_written}
use Rattle.mv_select_code.proofs.OfStatements.Walks.{leads_one}
use Rattle.mv_select_code.specs.declared.control.enclosing.Enclosing.{Enclosing}
use Rattle.mv_select_code.specs.Control.FlowCode.{fine_target}
use Rattle.mv_select_code.specs.Control.Labels.{call_label}
use Rattle.mv_select_code.specs.Control.Placed.{IsPlaced}
use Rattle.mv_select_code.specs.Control.Runs.{Spot, Machine, outside, IsRun}
use Rattle.mv_select_code.specs.Control.Laws.{uses_of}
use Rattle.mv_select_code.specs.Control.Flow.{AtTrap, IsCut}
use Rattle.mv_select_code.proofs.OfControl.Walk.{stands_at, line_does, steps_on, leads_walk, to_here}
use Rattle.mv_select.specs.Calls.CallCode.{result_lines, back_lines, entry_lines, jump_lines}
use Rattle.mv_select.specs.Calls.Convention as convention
use Rattle.mv_select.specs.Calls.Convention.{Layout, frame_limit, IsSaved, IsAbove, HoldsGlobals, Enters, Returns, FollowsCall, IsTarget, Convention}
use Rattle.mv_select.specs.Calls.Laws.{IsCaller, IsLinked}
use Rattle.mv_select.proofs.OfCalls.CallerShown.{globals_held, shows_after}
use Rattle.mv_select.proofs.OfCalls.CallCourse.{call_course}
use Rattle.mv_num.proofs.Numbers.{word_of_pos}

module _ {M : Type 0} (access : Access M) (y : Layout) (s : Site) (setting : ir.Setting) (frame : ir.Frame) (fit : IsFit s access setting frame) (caller : IsCaller y s setting frame)
    (machine : Machine M) (ok : IsRun access s machine) (budget far : ℕ) (place : ℕ → ℕ) (end : ℕ) (linked : IsLinked y (length setting.numbers) place)
    (is_fine : Tree → Bool) where
  open call_course access s machine ok place end budget far use {of.{Placed as P, Here as H, Follows as F}, Stands as W, Reaches as R}

  -- one instruction that changes registers
  pub sets_on : (i : Instr) (w : World) (pc next : ℕ) (regs regs' : List ℕ) (m : M) (t : ℕ) → ((pc : ℕ) → execute (limited access s) i regs pc m ≡ Goes regs' (add pc 4) m)
      → IsPlaced machine.text place s.entry pc next (Word i) → W w pc regs m t → W w next regs' m (t + 1)
  sets_on i w pc next regs regs' m t sets p a =
      let here = p.here in
      let on : add pc 4 ≡ next = add_small pc 4 (omega (arith, here.1)) ∙ sym p.stands.1 in
      steps_on access s machine ok place end budget far w pc next regs regs' m m t
      (line_does access s machine ok place end budget far w pc next regs m t (Word i) p.stands p a ∙ sets pc ∙ ap (λ z. Goes regs' z m) on) (inl refl) a

  -- the result comes into its temporary
  pub result_stands : (result : Option ℕ) (v spare k pc next : ℕ) (l : State) (w : World) (regs : List ℕ) (m : M) (i : ℕ) → fine_target is_fine s.may_ask s.temps (uses_of s) result ≡ true → reg regs result_register ≡ v
      → Shows s access l regs m → outside l.world ≡ outside w → P (result_lines s.seats result) pc next → W w pc regs m i → i + (spare + 1) ≤ budget → far ≤ i + k
      → (j : ℕ) × H 0 spare k next (meaning.put result v l) j
  result_stands None v spare k pc next l w regs m i fine e f same p a paid asked = (
    i,
    to_here access s machine ok place end budget far 0 spare k next l w regs m i same f (omega (arith, paid)) (omega (arith, asked))
        (stands_at access s machine ok place end budget far w pc next regs m i (sym p) a),
  )
  result_stands (Some t) v spare k pc next l w regs m i fine e f same p a paid asked =
      let below : v < 2 ^ 32 = subst (λ n. n < 2 ^ 32) e (f.are.words result_register) in
      let x = temp_written access s setting frame fit t result_register v l regs m (ltb-true t s.temps fine) below e f in
      let z = leads_walk access s machine ok place end budget far (one (write_temp s.seats t result_register)) 1 w pc next regs m Past x.after x.memory i p
      (leads_one access s (write_temp s.seats t result_register) regs m x.after x.memory x.moves) a in
      let late = z.late in let soon = z.soon in
      (z.time, to_here access s machine ok place end budget far 0 spare k next (with_temp l t v) w x.after x.memory z.time same x.shown (omega (arith, paid, soon)) (omega (arith, asked, late)) z.stands)

  -- ---- the way back

  -- what is set back between time i and a later one, counted from registers and memory before the call
  pub record Was (regs : List ℕ) (n : ℕ) (m : M) (i : ℕ) : Type 0 where
    pub registers : (q : ℕ) → IsSaved q → reg (machine.run i).regs q ≡ reg (put regs left_register n) q
    pub memory : (machine.run i).memory ≡ m

  abbrev FC : (spare k i back : ℕ) → End → Type 0
  FC = FollowsCall access y machine budget far

  abbrev Ret : (spare k i back : ℕ) → World → ℕ → Type 0
  Ret = Returns access y machine budget far

  -- A call has come back at a time: what a callee sets back is as it was before the call, but that s11 counts the call still.
  pub record Back (regs : List ℕ) (m : M) (spare k back : ℕ) (w : World) (j : ℕ) : Type 0 where
    pub stands : convention.Stands access y machine budget far back w j
    pub registers : (q : ℕ) → IsSaved q → (q ≡ left_register → ⊥) → reg (machine.run j).regs q ≡ reg regs q
    pub counted : reg (machine.run j).regs left_register + 1 ≡ s.register left_register
    pub stack : (b : ℕ) → IsAbove y (s.register 2) b → access.load (machine.run j).memory b 4 ≡ access.load m b 4
    pub paid : j + spare ≤ budget
    pub asked : far ≤ j + k

  -- what follows a call, by what was before it
  abbrev pub FollowsBack : (regs : List ℕ) (m : M) (spare k back : ℕ) → End → Type 0
  FollowsBack regs m spare k back (Returned None w) = (j : ℕ) × Back regs m spare k back w j
  FollowsBack regs m spare k back (Returned (Some v) w) = (j : ℕ) × Back regs m spare k back w j × (reg (machine.run j).regs result_register ≡ v)
  FollowsBack regs m spare k back (Trapped c w) = (j : ℕ) × convention.Stops access y machine budget far c w j
  FollowsBack regs m spare k back (More w) = (j : ℕ) × convention.IsLate access y machine budget far w j
  FollowsBack regs m spare k back Stuck = Unit {0}

  left_held : (l : State) (regs : List ℕ) (m : M) → Shows s access l regs m → reg regs left_register ≡ s.register left_register
  left_held l regs m f = f.left left_register caller.counters.1

  -- one call more is left again, and the frame is shown in the world that the call left
  back_shown : (spare k back mid : ℕ) (l : State) (w : World) (regs : List ℕ) (m : M) (j : ℕ) → Shows s access l regs m → Back regs m spare k back w j
      → IsPlaced machine.text place s.entry back mid (Word (Addi left_register left_register (pos 1)))
      → W w mid (put (machine.run j).regs left_register (s.register left_register)) (machine.run j).memory (j + 1)
      × Shows s access (with_world l w) (put (machine.run j).regs left_register (s.register left_register)) (machine.run j).memory
  back_shown spare k back mid l w regs m j f r p = (
    sets_on (Addi left_register left_register (pos 1)) w back mid now after memory j
        (addi_sets (limited access s) memory left_register left_register (pos 1) now n 1 (s.register left_register) refl (word_of_pos 1 (omega arith)) (add_small n 1 small ∙ r.counted)) p
        (stands_at access s machine ok place end budget far w (machine.run j).pc back now memory j r.stands.at (record { is = refl; calm = r.stands.calm; sound = r.stands.sound })),
    shows_after access y s setting frame caller machine budget far l w regs after m memory f r.stands.globals are saved r.stack,
  )
    where
      now : List ℕ
      now = (machine.run j).regs

      memory : M
      memory = (machine.run j).memory

      n : ℕ
      n = reg (machine.run j).regs left_register

      after : List ℕ
      after = put (machine.run j).regs left_register (s.register left_register)

      high : s.register left_register < 2 ^ 32
      high = subst (λ z. z < 2 ^ 32) (left_held l regs m f) (f.are.words left_register)

      small : reg (machine.run j).regs left_register + 1 < 2 ^ 32
      small = subst (λ z. z < 2 ^ 32) (sym r.counted) high

      are : AreRegisters (put (machine.run j).regs left_register (s.register left_register))
      are = put_registers (machine.run j).regs left_register (s.register left_register) r.stands.are (free_above left_register (omega arith) (omega arith)) high

      saved : (q : ℕ) → IsSaved q → reg (put (machine.run j).regs left_register (s.register left_register)) q ≡ reg regs q
      saved q h = ⊎_elim
          (λ (same : q ≡ left_register).
          ap (reg after) same ∙ put_same now left_register (s.register left_register) (omega arith) (omega (arith, r.stands.are.count)) ∙ sym (left_held l regs m f) ∙ ap (reg regs) (sym same))
          (λ (ne : q ≡ left_register → ⊥). put_other now left_register q (s.register left_register) (omega arith) ne ∙ r.registers q h ne)
          (cases_eq q left_register)

  -- a call has come back with a value
  returned : (result : Option ℕ) (v spare k back next : ℕ) (l : State) (w : World) (regs : List ℕ) (m : M) (j : ℕ) → fine_target is_fine s.may_ask s.temps (uses_of s) result ≡ true
      → Shows s access l regs m → Back regs m (spare + 2) k back w j → reg (machine.run j).regs result_register ≡ v → P (back_lines s.seats result) back next
      → (t : ℕ) × H 0 spare k next (meaning.put result v (with_world l w)) t
  returned result v spare k back next l w regs m j fine f r value p =
      let b = back_shown (spare + 2) k back p.0 l w regs m j f r p.1 in
      let paid = r.paid in let asked = r.asked in
      result_stands result v spare k p.0 next (with_world l w) w (put (machine.run j).regs left_register (s.register left_register)) (machine.run j).memory (j + 1) fine
      (put_other (machine.run j).regs left_register result_register (s.register left_register) (omega arith) (λ q. omega (arith, q)) ∙ value) b.1 refl p.2 b.0 (omega (arith, paid)) (omega (arith, asked))

  -- a callee's trap, and where the bound was used up in a callee
  trapped : (c : ℕ) (w : World) (j : ℕ) → convention.Stops access y machine budget far c w j → AtTrap access s machine place end budget far c w j
  trapped c w j h = record { at = h.at ∙ sym (linked.traps c); calm = h.calm; sound = h.sound; paid = h.paid }

  late : (w : World) (j : ℕ) → convention.IsLate access y machine budget far w j → IsCut access s machine place end budget far w j
  late w j h = record { calm = h.calm; sound = h.sound; paid = h.paid; asked = h.asked }

  -- what follows a call for its caller
  pub back_follows : (result : Option ℕ) (x : End) (spare k back next : ℕ) (around : List Enclosing) (l : State) (regs : List ℕ) (m : M)
      → fine_target is_fine s.may_ask s.temps (uses_of s) result ≡ true → Shows s access l regs m → P (back_lines s.seats result) back next
      → FollowsBack regs m (spare + 2) k back x → F spare k around next (call_end result l x)
  back_follows None (Returned None w) spare k back next around l regs m fine f p h =
      returned None (reg (machine.run h.0).regs result_register) spare k back next l w regs m h.0 fine f h.1 refl p
  back_follows None (Returned (Some v) w) spare k back next around l regs m fine f p h = returned None v spare k back next l w regs m h.0 fine f h.1 h.2 p
  back_follows (Some t) (Returned None w) spare k back next around l regs m fine f p h = tt
  back_follows (Some t) (Returned (Some v) w) spare k back next around l regs m fine f p h = returned (Some t) v spare k back next l w regs m h.0 fine f h.1 h.2 p
  back_follows None (Trapped c w) spare k back next around l regs m fine f p h = (h.0, trapped c w h.0 h.1)
  back_follows (Some t) (Trapped c w) spare k back next around l regs m fine f p h = (h.0, trapped c w h.0 h.1)
  back_follows None (More w) spare k back next around l regs m fine f p h = (h.0, late w h.0 h.1)
  back_follows (Some t) (More w) spare k back next around l regs m fine f p h = (h.0, late w h.0 h.1)
  back_follows None Stuck spare k back next around l regs m fine f p h = tt
  back_follows (Some t) Stuck spare k back next around l regs m fine f p h = tt

  -- a callee that finds one call less left sets that back
  set_back : (n spare k i back : ℕ) (l : State) (w : World) (regs : List ℕ) (m : M) (j : ℕ) → n + 1 ≡ s.register left_register → Shows s access l regs m → Was regs n m i
      → Ret spare k i back w j → Back regs m spare k back w j
  set_back n spare k i back l w regs m j e f was r = record {
    stands = r.stands;
    registers = λ q h ne. r.kept.registers q h ∙ was.registers q h ∙ put_other regs left_register q n (omega arith) ne;
    counted = ap (λ z. z + 1) (r.kept.registers left_register left_saved ∙ was.registers left_register left_saved ∙ put_same regs left_register n (omega arith) (omega (arith, f.are.count))) ∙ e;
    stack = λ b h. r.kept.stack b (subst (λ sp. IsAbove y sp b) (sym sp_held) h) ∙ ap (λ (x : M). access.load x b 4) was.memory;
    paid = r.paid;
    asked = r.asked;
  }
    where
      left_saved : IsSaved left_register
      left_saved = inr (inr (omega arith, omega arith))

      sp_held : reg (machine.run i).regs 2 ≡ s.register 2
      sp_held = was.registers 2 (inl refl) ∙ put_other regs left_register 2 n (omega arith) (λ q. omega (arith, q)) ∙ f.left 2 fit.left.stack

  came_back : (x : End) (n spare k i back : ℕ) (l : State) (regs : List ℕ) (m : M) → n + 1 ≡ s.register left_register → Shows s access l regs m → Was regs n m i
      → FC spare k i back x → FollowsBack regs m spare k back x
  came_back (Returned None w) n spare k i back l regs m e f was h = (h.0, set_back n spare k i back l w regs m h.0 e f was h.1)
  came_back (Returned (Some v) w) n spare k i back l regs m e f was h = (h.0, set_back n spare k i back l w regs m h.0 e f was h.1, h.2)
  came_back (Trapped c w) n spare k i back l regs m e f was h = h
  came_back (More w) n spare k i back l regs m e f was h = h
  came_back Stuck n spare k i back l regs m e f was h = tt

  pub call_follows : (result : Option ℕ) (x : End) (n spare k i back next : ℕ) (around : List Enclosing) (l : State) (regs : List ℕ) (m : M)
      → fine_target is_fine s.may_ask s.temps (uses_of s) result ≡ true → n + 1 ≡ s.register left_register → Shows s access l regs m → Was regs n m i → P (back_lines s.seats result) back next
      → FC (spare + 2) k i back x → F spare k around next (call_end result l x)
  call_follows result x n spare k i back next around l regs m fine e f was p h =
      back_follows result x spare k back next around l regs m fine f p (came_back x n (spare + 2) k i back l regs m e f was h)

  -- ---- the way to the callee

  -- Registers with what the callee finds: s11 has one less than the caller had.
  record Ready (args : List ℕ) (n : ℕ) (regs regs' : List ℕ) : Type 0 where
    pub are : AreRegisters regs'
    pub saved : (q : ℕ) → IsSaved q → reg regs' q ≡ reg (put regs left_register n) q
    pub arguments : (j : ℕ) → j < length args → reg regs' (result_register + j) ≡ slice_index args j

  entered : (args : List ℕ) (n pc : ℕ) (l : State) (regs regs' : List ℕ) (m : M) (i : ℕ) → n + 1 ≡ s.register left_register → Shows s access l regs m → Ready args n regs regs'
      → W l.world pc regs' m i → convention.Stands access y machine budget far pc l.world i × Enters access y machine budget far frame.depth frame.live args i × Was regs n m i
  entered args n pc l regs regs' m i e f ready a = (
    record {
      at = ap (λ (x : Spot M). x.pc) a.is;
      calm = subst (λ (x : M). machine.is_calm (outside l.world) x ≡ true) (sym memory_is) a.calm;
      sound = a.sound;
      globals = subst (λ (x : M). HoldsGlobals access y machine budget far l.world x) (sym memory_is) (globals_held access y s setting frame caller machine budget far l regs m f);
      are = subst AreRegisters (sym regs_is) ready.are;
    },
    record {
      arguments = λ j lt. ap (λ r. reg r (result_register + j)) regs_is ∙ ready.arguments j lt;
      live = saved live_register (inr (inr (omega arith, omega arith))) ∙ other live_register (omega arith) ∙ f.left live_register caller.counters.0 ∙ caller.live;
      counts = caller.counts;
      left = omega (arith, left_is, e, caller.calls_left);
      even = subst (λ sp. sp % 4 ≡ 0) (sym sp_is) caller.even;
      room = subst (λ sp. y.bottom + (reg (machine.run i).regs left_register + 1) * frame_limit ≤ sp) (sym sp_is)
          (subst (λ c. y.bottom + c * frame_limit ≤ s.register 2) (sym (ap (λ c. c + 1) left_is ∙ e)) caller.room);
      within = subst (λ sp. sp ≤ y.top) (sym sp_is) caller.within;
    },
    record { registers = saved; memory = memory_is },
  )
    where
      regs_is : (machine.run i).regs ≡ regs'
      regs_is = ap (λ (x : Spot M). x.regs) a.is

      memory_is : (machine.run i).memory ≡ m
      memory_is = ap (λ (x : Spot M). x.memory) a.is

      saved : (q : ℕ) → IsSaved q → reg (machine.run i).regs q ≡ reg (put regs left_register n) q
      saved q h = ap (λ r. reg r q) regs_is ∙ ready.saved q h

      other : (q : ℕ) → q < left_register → reg (put regs left_register n) q ≡ reg regs q
      other q lt = put_other regs left_register q n (omega arith) (λ e. omega (arith, e, lt))

      left_is : reg (machine.run i).regs left_register ≡ n
      left_is = saved left_register (inr (inr (omega arith, omega arith))) ∙ put_same regs left_register n (omega arith) (omega (arith, f.are.count))

      sp_is : reg (machine.run i).regs 2 ≡ s.register 2
      sp_is = saved 2 (inl refl) ∙ other 2 (omega arith) ∙ f.left 2 fit.left.stack

  link_unsaved : (q : ℕ) → IsSaved q → (q ≡ link_register → ⊥)
  link_unsaved q (inl h) e = omega (arith, h, e)
  link_unsaved q (inr (inl h)) e = omega (arith, h, e)
  link_unsaved q (inr (inr h)) e = omega (arith, h.0, e)

  -- s11 has one less, and all else is as it was
  ready : (args : List ℕ) (n : ℕ) (l : State) (regs : List ℕ) (m : M) → length args < 9 → n + 1 ≡ s.register left_register → Shows s access l regs m
      → ((j : ℕ) → j < length args → reg regs (result_register + j) ≡ slice_index args j) → Ready args n regs (put regs left_register n)
  ready args n l regs m few e f held = record {
    are = put_registers regs left_register n f.are (free_above left_register (omega arith) (omega arith)) (omega (arith, e, f.left left_register caller.counters.1, f.are.words left_register));
    saved = λ q h. refl;
    arguments = λ j lt. put_other regs left_register (result_register + j) n (omega arith) (λ q. omega (arith, q, lt, few)) ∙ held j lt;
  }

  -- and the return address stands in ra
  linked_ready : (args : List ℕ) (n back : ℕ) (regs regs' : List ℕ) → length args < 9 → back < 2 ^ 32 → Ready args n regs regs' → Ready args n regs (put regs' link_register back)
  linked_ready args n back regs regs' few top r = record {
    are = put_registers regs' link_register back r.are (free_low link_register (omega arith) (omega arith)) (omega (arith, top));
    saved = λ q h. put_other regs' link_register q back (omega arith) (link_unsaved q h) ∙ r.saved q h;
    arguments = λ j lt. put_other regs' link_register (result_register + j) back (omega arith) (λ q. omega (arith, q)) ∙ r.arguments j lt;
  }

  -- ---- transfers

  -- lines go to a function with one call less left, and come back with what it gives
  abbrev pub Transfers : List Line → ℕ → List ℕ → State → List ℕ → M → Type 0
  Transfers go f args l regs m =
      (calls : Calls) (k n spare at back i : ℕ) → Convention access y machine budget far (length setting.numbers) calls k → n + 1 ≡ s.register left_register → P go at back
      → W l.world at (put regs left_register n) m i → i + (spare + 48 + (calls f args frame.depth frame.live l.world).cost) ≤ budget → far ≤ i + k
      → (t : ℕ) × Was regs n m t × FC spare k t back (calls f args frame.depth frame.live l.world).end

  -- a slot
  pub slot_transfers : (f : ℕ) (args : List ℕ) (l : State) (regs : List ℕ) (m : M) → length args < 9 → Shows s access l regs m
      → ((j : ℕ) → j < length args → reg regs (result_register + j) ≡ slice_index args j) → Transfers (Slot f ∷ []) f args l regs m
  slot_transfers f args l regs m few sh held calls k n spare at back i c e p a paid asked =
      let to = put regs left_register n in
      let x = entered args n at l regs to m i e sh (ready args n l regs m few e sh held) a in
      let end_is : at + 8 ≡ back = sym p.1.stands.1 ∙ sym p.2 in (
        i,
        x.2,
        subst (λ b. FC spare k i b (calls f args frame.depth frame.live l.world).end) end_is
            (c.slots f frame.depth frame.live args at i few p.1.stands.0 spare l.world x.0 x.1 (omega (arith, paid)) asked),
      )

  module _ (f : ℕ) (args : List ℕ) (l : State) (regs : List ℕ) (m : M) (few : length args < 9) (sh : Shows s access l regs m)
      (held : (j : ℕ) → j < length args → reg regs (result_register + j) ≡ slice_index args j) where
    abbrev Called : Calls → (k n spare back : ℕ) → Type 0
    Called calls k n spare back = (t : ℕ) × Was regs n m t × FC spare k t back (calls f args frame.depth frame.live l.world).end

    -- the run has come to the function, with the return address in ra
    called : (calls : Calls) (k n spare to back i : ℕ) → Convention access y machine budget far (length setting.numbers) calls k → n + 1 ≡ s.register left_register → IsTarget back → to ≡ y.entry f
        → W l.world to (put (put regs left_register n) link_register back) m (i + 1) → i + (spare + 48 + (calls f args frame.depth frame.live l.world).cost) ≤ budget → far ≤ i + k → Called calls k n spare back
    called calls k n spare to back i c e is entry a paid asked =
        (i + 1, x.2, c.functions f frame.depth frame.live args back (i + 1) few is ra spare l.world x.0 x.1 (omega (arith, paid)) (omega (arith, asked)))
      where
        from : List ℕ
        from = put regs left_register n

        now : W l.world (y.entry f) (put (put regs left_register n) link_register back) m (i + 1)
        now = stands_at access s machine ok place end budget far l.world to (y.entry f) (put from link_register back) m (i + 1) entry a

        set : Ready args n regs (put regs left_register n)
        set = ready args n l regs m few e sh held

        x : convention.Stands access y machine budget far (y.entry f) l.world (i + 1) × Enters access y machine budget far frame.depth frame.live args (i + 1) × Was regs n m (i + 1)
        x = entered args n (y.entry f) l regs (put from link_register back) m (i + 1) e sh (linked_ready args n back regs from few is.0 set) now

        ra : reg (machine.run (i + 1)).regs link_register ≡ back
        ra = ap (λ (z : Spot M). reg z.regs link_register) now.is ∙ put_same from link_register back (omega arith) (omega (arith, set.are.count))

    -- a jump to the entry of a function; the call of a number that no function has means nothing
    pub entry_transfers : Transfers (entry_lines f) f args l regs m
    entry_transfers calls k n spare at back i c e p a paid asked = ⊎_elim named other (cases_lt f (length setting.numbers))
      where
        from : List ℕ
        from = put regs left_register n

        is : IsTarget back
        is = let here = p.1.here in (omega (arith, here.1, p.1.stands.end_is, p.2), omega (arith, here.2, p.1.stands.end_is, p.2))

        jumps_on : step (limited access s) (machine.text.word at) (put regs left_register n) at m ≡ Goes (put (put regs left_register n) link_register back) (place (call_label f)) m
        jumps_on = line_does access s machine ok place end budget far l.world at p.0 from m i (Jump link_register (call_label f)) p.1.stands p.1 a
            ∙ ap (λ z. Goes (put from link_register z) (place (call_label f)) m) (sym p.2)

        named : f < length setting.numbers → Called calls k n spare back
        named lt =
            called calls k n spare (place (call_label f)) back i c e is (linked.entries f lt)
            (steps_on access s machine ok place end budget far l.world at (place (call_label f)) from (put from link_register back) m m i jumps_on (inl refl) a) paid asked

        other : length setting.numbers ≤ f → Called calls k n spare back
        other le =
            let x = entered args n at l regs from m i e sh (ready args n l regs m few e sh held) a in
            (i, x.2, subst (FC spare k i back) (sym (c.others f frame.depth frame.live args l.world le)) tt)

  -- a jump by a register, to an address of text
  jalr_jumps : (rd rs1 : ℕ) (regs : List ℕ) (pc to : ℕ) (m : M) → reg regs rs1 ≡ to → IsPlace to → execute (limited access s) (Jalr rd rs1 (pos 0)) regs pc m ≡ Goes (put regs rd (add pc 4)) to m
  unfolding execute jumps
  jalr_jumps rd rs1 regs pc to m e is =
      let high = is.1 in let even = is.2 in
      let sum : add (reg regs rs1) (word_of (pos 0)) ≡ to = ap (λ z. add z (word_of (pos 0))) e ∙ ap (add to) (word_of_pos 0 (omega arith)) ∙ zero_add to (omega (arith, high)) in
      let same : to - to % 2 ≡ to = omega (arith, even) in
      ap (λ z. jumps (put regs rd (add pc 4)) m (z - z % 2)) sum ∙ ap (jumps (put regs rd (add pc 4)) m) same
      ∙ ap (λ b. cond b (Goes (put regs rd (add pc 4)) to m) (Faults cause.Jump)) (eq-eqb (to % 4) 0 even)

  pub jump_transfers : (f : ℕ) (args : List ℕ) (l : State) (regs : List ℕ) (m : M) → length args < 9 → Shows s access l regs m
      → ((j : ℕ) → j < length args → reg regs (result_register + j) ≡ slice_index args j) → reg regs scratch_register ≡ s.entry f → IsPlace (s.entry f) → Transfers jump_lines f args l regs m
  jump_transfers f args l regs m few sh held at_entry there calls k n spare at back i c e p a paid asked =
      called f args l regs m few sh held calls k n spare (s.entry f) back i c e is (caller.entries f)
      (steps_on access s machine ok place end budget far l.world at (s.entry f) from (put from link_register back) m m i jumps_on (inl refl) a) paid asked
    where
      from : List ℕ
      from = put regs left_register n

      target : reg (put regs left_register n) scratch_register ≡ s.entry f
      target = put_other regs left_register scratch_register n (omega arith) (λ q. omega (arith, q)) ∙ at_entry

      is : IsTarget back
      is = let here = p.1.here in (omega (arith, here.1, p.1.stands.1, p.2), omega (arith, here.2, p.1.stands.1, p.2))

      end_is : add at 4 ≡ back
      end_is = let here = p.1.here in add_small at 4 (omega (arith, here.1)) ∙ sym p.1.stands.1 ∙ sym p.2

      jumps_on : step (limited access s) (machine.text.word at) (put regs left_register n) at m ≡ Goes (put (put regs left_register n) link_register back) (s.entry f) m
      jumps_on = line_does access s machine ok place end budget far l.world at p.0 from m i (Word (Jalr link_register scratch_register (pos 0))) p.1.stands p.1 a
          ∙ jalr_jumps link_register scratch_register from at (s.entry f) m target there ∙ ap (λ z. Goes (put from link_register z) (s.entry f) m) end_is
