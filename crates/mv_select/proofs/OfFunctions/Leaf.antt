-- A function that keeps its temporaries where arguments come: its entry and return move sp alone, where its arrays have words.
use Rattle.std.proofs.Common.{◌≡◌, ◌≢◌, inl, inr, ⊎_elim, ℕ, ◌+◌, ◌-◌, ◌^◌, ◌<◌, ◌≤◌, Bool, true, false, cond, eqb, max, List, [], ◌∷◌, ◌++◌, slice_index, pos, ◌-ℤ◌, Some, refl, sym, ap, ◌∙◌, subst, append_assoc, arith}
use Rattle.std.proofs.Math.Nat.{le-max_left}
use Rattle.std.proofs.lemmas.Bool.{cases_eq}
use Rattle.mv_num.proofs.Numbers.{word_of_pos}
use Rattle.mv_isa.specs.declared.instr.Instr.TheVariants.{Addi, Jalr}
use Rattle.mv_isa.specs.declared.labelled.Line.{Line}
use Rattle.mv_isa.specs.declared.labelled.Line.TheVariants.{Word, Label, Jump, Branch, Entry, Slot, Point}
use Rattle.mv_isa.specs.Code.{nop}
use Rattle.mv_isa.specs.Execution.{Access, reg, put}
use Rattle.mv_isa.specs.Registers.{a0, ra as link_register, s11 as left_register, s10 as live_register}
use Rattle.mv_ir.specs.declared.body.Body.{Body}
use Rattle.mv_ir.specs.Measures.{total}
use Rattle.mv_ir.specs.World.{World}
use Rattle.mv_ir.specs.Outcome.{State}
use Rattle.mv_select_code.specs.Trees.Straight.{Sets}
use Rattle.mv_select_code.specs.Trees.TreeCode.{one, register_of}
use Rattle.mv_select_code.specs.Trees.View.{AreRegisters}
use Rattle.mv_select_code.specs.declared.trees.places.Keeping.TheVariants.{Arguments}
use Rattle.mv_select_code.specs.declared.trees.places.Pin.{Pin}
use Rattle.mv_select_code.proofs.OfTrees.Instructions.{addi_sets}
use Rattle.mv_select_code.proofs.OfTrees.Registers.{reg_zero, free_low, put_same, put_other, put_registers}
use Rattle.mv_select_code.proofs.OfTrees.Words.{zero_add}
use Rattle.mv_select_code.specs.Statements.Frames.{Kept, Shows, Reach}
use Rattle.mv_select_code.specs.Statements.Leads.{limited}
use Rattle.mv_select_code.specs.Control.Runs.{Machine, outside}
use Rattle.mv_select_code.proofs.OfControl.Walk.{put_zero, placed_split, stands_at}
use Rattle.mv_select.specs.Calls.Convention.{Layout, IsTarget, IsSaved, IsAbove}
use Rattle.mv_select.specs.Functions.FunctionCode.{Shape, seated_of, bytes_of, move_lines, entry_by, return_by, led}
use Rattle.mv_select.specs.Functions.Functions.{IsStack, IsLaid, IsMemory, IsAmple, RunsWithin}
use Rattle.mv_select.proofs.OfFunctions.Entered.{Entered, Unwound}
use Rattle.mv_select.proofs.OfFunctions.EntryShown.{Here, loaded}
use Rattle.mv_select.proofs.OfFunctions.Frame.{shape_at, lowered_by, frame_of, IsFrame, kept_high, room_for_saved}
use Rattle.mv_select.proofs.OfFunctions.FrameWords.{words_site, ok, One, sets, frame_course}
use Rattle.mv_select.specs.Functions.Pins.{pin_lines, StandFrom, ArePins, pins_of}
use Rattle.mv_select.proofs.OfFunctions.Pins.{AreApart, one_seat, pins_apart, pins_below, pins_above}
use Rattle.mv_select.proofs.OfFunctions.PinsChosen.{pins_are}
use Rattle.mv_select.proofs.OfFunctions.PinsCome.{Pinned, pin_walk}
use Rattle.mv_select.proofs.OfFunctions.Seats.{argument_some, argument_leaves, stack_left}
use Rattle.mv_select.proofs.OfFunctions.Steps.{down, up, back}

-- no pin has a register that is set back
saved_unpinned : (t : ℕ) (pins : List Pin) (q : ℕ) → StandFrom Arguments t pins → IsSaved q → AreApart q pins
saved_unpinned t pins q stand saved = pins_apart Arguments t pins q stand (λ u from below e. by u saved (argument_some u q e))
  where
    by : (u : ℕ) → IsSaved q → (u < 8) × (q ≡ 10 + u) → ⊥
    by u (inl h) is = omega (arith, h, is.1)
    by u (inr (inl h)) is = omega (arith, h, is.1)
    by u (inr (inr h)) is = let low = h.0 in omega (arith, low, is.0, is.1)

module _ {M : Type 0} (access : Access M) (y : Layout) (laid : IsLaid y) (machine : Machine M) (memory : IsMemory access y machine)
    (reach : Reach) (ample : IsAmple y reach) (runs : RunsWithin access y machine reach) (budget far : ℕ) (place : ℕ → ℕ) where
  open frame_course access y laid machine memory reach ample runs budget far place use {of.{Placed as Ps}, Stands as Ws}

  at : (w : World) (pc to : ℕ) (regs : List ℕ) (m : M) (i : ℕ) → pc ≡ to → Ws w pc regs m i → Ws w to regs m i
  at w pc to regs m i e h = stands_at access (words_site y reach) machine (ok access y laid machine memory reach ample runs budget far place) place 0 budget far w pc to regs m i e h

  -- ---- entry

  -- sp is moved down by so many bytes, and no other register has changed
  record Moved (n : ℕ) (w : World) (next : ℕ) (regs : List ℕ) (m : M) (i : ℕ) : Type 0 where
    after : List ℕ
    time : ℕ
    late : i ≤ time
    soon : time ≤ i + 1
    stands : Ws w next after m time
    are : AreRegisters after
    sp_is : reg after 2 ≡ n
    others : (q : ℕ) → q ≢ 2 → reg after q ≡ reg regs q

  -- a word that does nothing
  nop_stands : (w : World) (pc next : ℕ) (regs : List ℕ) (m : M) (i : ℕ) → One access y laid machine memory reach ample runs budget far place pc next nop → Ws w pc regs m i
      → Ws w next regs m (i + 1)
  nop_stands w pc next regs m i p a = sets access y laid machine memory reach ample runs budget far place nop w pc next regs regs m i nothing p a
    where
      same : Sets (limited access (words_site y reach)) m nop regs (put regs 0 0)
      same = addi_sets (limited access (words_site y reach)) m 0 0 (pos 0) regs 0 0 0 (reg_zero regs) (word_of_pos 0 (omega arith)) (zero_add 0 (omega arith))

      nothing : Sets (limited access (words_site y reach)) m nop regs regs
      nothing = subst (Sets (limited access (words_site y reach)) m nop regs) (put_zero regs 0) same

  still : (w : World) (next : ℕ) (regs : List ℕ) (m : M) (i time : ℕ) → i ≤ time → time ≤ i + 1 → AreRegisters regs → Ws w next regs m time → Moved (reg regs 2) w next regs m i
  still w next regs m i time late soon are a = record { after = regs; time = time; late = late; soon = soon; stands = a; are = are; sp_is = refl; others = λ q ne. refl }

  -- lines that begin with a word are come to where they stand
  led_walk : (lines : List Line) (w : World) (pc next : ℕ) (regs : List ℕ) (m : M) (i : ℕ) → AreRegisters regs → Ps (led lines) pc next → Ws w pc regs m i
      → (mid : ℕ) × Ps lines mid next × Moved (reg regs 2) w mid regs m i
  led_walk [] w pc next regs m i are p a = (pc, p, still w pc regs m i i (omega arith) (omega arith) are a)
  led_walk (Label l ∷ lines) w pc next regs m i are p a = (p.0, p.2, still w p.0 regs m i (i + 1) (omega arith) (omega arith) are (nop_stands w pc p.0 regs m i p.1 a))
  led_walk (Word instr ∷ lines) w pc next regs m i are p a = (pc, p, still w pc regs m i i (omega arith) (omega arith) are a)
  led_walk (Jump rd l ∷ lines) w pc next regs m i are p a = (pc, p, still w pc regs m i i (omega arith) (omega arith) are a)
  led_walk (Branch funct3 r s l ∷ lines) w pc next regs m i are p a = (pc, p, still w pc regs m i i (omega arith) (omega arith) are a)
  led_walk (Entry rd f ∷ lines) w pc next regs m i are p a = (pc, p, still w pc regs m i i (omega arith) (omega arith) are a)
  led_walk (Slot f ∷ lines) w pc next regs m i are p a = (pc, p, still w pc regs m i i (omega arith) (omega arith) are a)
  led_walk (Point f ∷ lines) w pc next regs m i are p a = (pc, p, still w pc regs m i i (omega arith) (omega arith) are a)

  moved : (n : ℕ) (w : World) (next : ℕ) (regs : List ℕ) (m : M) (i : ℕ) → AreRegisters regs → n < 2 ^ 32 → Ws w next (put regs 2 n) m (i + 1) → Moved n w next regs m i
  moved n w next regs m i are lt a = record {
    after = put regs 2 n;
    time = i + 1;
    late = omega arith;
    soon = omega arith;
    stands = a;
    are = put_registers regs 2 n are (free_low 2 (omega arith) (omega arith)) lt;
    sp_is = put_same regs 2 n (omega arith) (omega (arith, are.count));
    others = λ q ne. put_other regs 2 q n (omega arith) ne;
  }

  -- whether the arrays have no words decides
  lower_walk : (none : Bool) (bytes : ℕ) (rest : List Line) (w : World) (pc next : ℕ) (regs : List ℕ) (m : M) (i : ℕ) → AreRegisters regs → 0 < bytes
      → cond none 0 bytes ≤ reg regs 2 → Ps (led (cond none [] (one (Addi 2 2 (pos 0 -ℤ pos bytes))) ++ rest)) pc next → Ws w pc regs m i
      → (mid : ℕ) × Ps rest mid next × Moved (reg regs 2 - cond none 0 bytes) w mid regs m i
  lower_walk true bytes rest w pc next regs m i are some within p a =
      let r = led_walk rest w pc next regs m i are p a in
      let same : reg regs 2 ≡ reg regs 2 - 0 = omega arith in
      (r.0, r.1, subst (λ n. Moved n w r.0 regs m i) same r.2)
  lower_walk false bytes rest w pc next regs m i are some within p a =
      let word = are.words 2 in (
        p.0,
        p.2,
        moved (reg regs 2 - bytes) w p.0 regs m i are (omega (arith, word))
            (down access y laid machine memory reach ample runs budget far place bytes (reg regs 2) w pc p.0 regs m i some within word refl p.1 a),
      )

  -- ---- return

  raise_walk : (none : Bool) (bytes : ℕ) (rest : List Line) (w : World) (pc next : ℕ) (regs : List ℕ) (m : M) (i : ℕ) → AreRegisters regs
      → reg regs 2 + cond none 0 bytes < 2 ^ 32 → Ps (cond none [] (one (Addi 2 2 (pos bytes))) ++ rest) pc next → Ws w pc regs m i
      → (mid : ℕ) × Ps rest mid next × Moved (reg regs 2 + cond none 0 bytes) w mid regs m i
  raise_walk true bytes rest w pc next regs m i are below p a =
      let same : reg regs 2 ≡ reg regs 2 + 0 = omega arith in
      (pc, p, subst (λ n. Moved n w pc regs m i) same (still w pc regs m i i (omega arith) (omega arith) are a))
  raise_walk false bytes rest w pc next regs m i are below p a =
      (p.0, p.2, moved (reg regs 2 + bytes) w p.0 regs m i are below (up access y laid machine memory reach ample runs budget far place bytes (reg regs 2) w pc p.0 regs m i below refl p.1 a))

  module _ (attributed : Bool) (body : Body) where
    abbrev shape : Shape
    shape = shape_at attributed Arguments body

    abbrev bytes : ℕ
    bytes = bytes_of (shape_at attributed Arguments body)

    -- a temporary's register isn't sp, s10 or s11
    seat_low : (t q : ℕ) → register_of Arguments t ≡ Some q → (2 < q) × (q < 26)
    seat_low t q seat = let s = argument_some t q seat in let lt = s.0 in let is = s.1 in (omega arith, omega arith)

    -- the body is entered, with nothing but sp and the registers of pins changed
    pub record LeafEntered (args : List ℕ) (live : ℕ) (before : List ℕ) (m0 : M) (w : World) (rest : List Line) (next i : ℕ) : Type 0 where
      pub mid : ℕ
      pub placed : Ps rest mid next
      pub entered : Entered access y laid machine memory reach ample runs budget far place (shape_at attributed Arguments body) args live
          (reg before 2 - frame_of (shape_at attributed Arguments body)) before m0 w mid i
      pub memory_is : entered.mem ≡ m0
      pub same : (q : ℕ) → q ≢ 2 → AreApart q (pins_of Arguments body) → reg entered.regs q ≡ reg before q

    pub leaf_entered : attributed ≡ false → body.params ≤ body.temps → (args : List ℕ) (live : ℕ) (before : List ℕ) (m0 : M) (w : World) (rest : List Line) (pc next i : ℕ) → AreRegisters before → reg before live_register ≡ live
        → frame_of (shape_at attributed Arguments body) ≤ reg before 2 → ((j : ℕ) → j < body.params → reg before (a0 + j) ≡ slice_index args j)
        → Ps (led (entry_by Arguments (shape_at attributed Arguments body) ++ rest)) pc next → Ws w pc before m0 i
        → LeafEntered args live before m0 w rest next i
    leaf_entered plain enough args live before m0 w rest pc next i are live_is within held p a = record {
      mid = v.0;
      placed = v.2;
      entered = record {
        regs = f.after;
        mem = m0;
        time = f.time;
        late = let late = f.late in let before = moved.late in omega arith;
        soon = let soon = f.soon in let before = moved.soon in omega (arith, soon, before, pins.few);
        stands = f.stands;
        are = f.are;
        sp_is = f.others 2 (pins_below Arguments (max body.temps 1) (pins_of Arguments body) 2 pins.stand (omega arith)) ∙ moved.sp_is;
        live_is = as_before live_register (λ e. omega (arith, e)) (pins_above Arguments (max body.temps 1) (pins_of Arguments body) live_register pins.stand (omega arith)) ∙ live_is ∙ uncounted
            ∙ ap (λ b. live + cond b 1 0) (sym plain);
        left_is = as_before left_register (λ e. omega (arith, e)) (pins_above Arguments (max body.temps 1) (pins_of Arguments body) left_register pins.stand (omega arith));
        held = λ j q lt seat. others j q (omega (arith, lt, enough)) seat ∙ ap (reg before) (argument_some j q seat).1 ∙ held j lt;
        others = λ t q le lt seat. others t q lt seat;
        pinned = f.holds;
        globals = λ g n lt. refl;
        words = λ b stack away. refl;
      };
      memory_is = refl;
      same = as_before;
    }
      where
        pins : ArePins Arguments body.params body.temps (pins_of Arguments body)
        pins = pins_are Arguments body

        r : (mid : ℕ) × Ps (pin_lines (pins_of Arguments body) ++ rest) mid next
            × Moved (reg before 2 - lowered_by Arguments body.arrays (bytes_of (shape_at attributed Arguments body))) w mid before m0 i
        r = lower_walk (eqb (total body.arrays) 0) (bytes_of (shape_at attributed Arguments body)) (pin_lines (pins_of Arguments body) ++ rest) w pc next before m0 i are
            (omega (arith, room_for_saved (shape_at attributed Arguments body))) within
            (subst (λ ls. Ps (led ls) pc next) (append_assoc (move_lines body.arrays (pos 0 -ℤ pos (bytes_of (shape_at attributed Arguments body)))) (pin_lines (pins_of Arguments body)) rest) p) a

        moved : Moved (reg before 2 - lowered_by Arguments body.arrays (bytes_of (shape_at attributed Arguments body))) w r.0 before m0 i
        moved = r.2

        v : (mid : ℕ) × Ps (pin_lines (pins_of Arguments body)) r.0 mid × Ps rest mid next
        v = placed_split machine.text place y.entry (pin_lines (pins_of Arguments body)) rest r.0 next r.1

        f : Pinned access y laid machine memory reach ample runs budget far place (pins_of Arguments body) w v.0 moved.after m0 moved.time
        f = pin_walk access y laid machine memory reach ample runs budget far place Arguments (max body.temps 1) (pins_of Arguments body) w r.0 v.0 moved.after m0 moved.time pins.stand moved.are v.1 moved.stands

        uncounted : live ≡ live + 0
        uncounted = omega arith

        as_before : (q : ℕ) → q ≢ 2 → AreApart q (pins_of Arguments body) → reg f.after q ≡ reg before q
        as_before q ne apart = f.others q apart ∙ moved.others q ne

        others : (t q : ℕ) → t < body.temps → register_of Arguments t ≡ Some q → reg f.after q ≡ reg before q
        others t q lt seat = as_before q (λ e. omega (arith, e, (seat_low t q seat).0))
            (pins_apart Arguments (max body.temps 1) (pins_of Arguments body) q pins.stand (λ u from below e. omega (arith, one_seat Arguments t u q seat e, lt, from, le-max_left body.temps 1)))

    module _ (live caller : ℕ) (args : List ℕ) (before : List ℕ) (m0 : M) (w0 : World) (next0 i0 : ℕ)
        (e : Entered access y laid machine memory reach ample runs budget far place (shape_at attributed Arguments body) args live (reg before 2 - frame_of (shape_at attributed Arguments body)) before m0 w0 next0 i0)
        (same_memory : e.mem ≡ m0) (same : (q : ℕ) → q ≢ 2 → AreApart q (pins_of Arguments body) → reg e.regs q ≡ reg before q)
        (is : IsFrame y (shape_at attributed Arguments body) (reg e.regs 2) caller) (calm : machine.is_calm (outside w0) e.mem ≡ true) where
      module _ (w : World) (l : State) (regs : List ℕ) (m : M)
          (f : Shows (Here access y laid machine memory budget far reach attributed Arguments body (outside w0) e.regs e.mem caller is calm) access l regs m) where
        above_frame : reg before 2 ≡ caller → (b : ℕ) → IsAbove y (reg before 2) b → access.load m b 4 ≡ access.load m0 b 4
        above_frame from b h =
            let low : caller ≤ b = omega (arith, from, h.0) in
            let stack : IsStack y b = (omega (arith, low, is.low, is.below), h.1, h.2) in
            let kept = kept_high (reg e.regs 2) (reg e.regs 2) caller y.top b h.2 low h.1 in
            f.in_memory (Kept b) kept ∙ sym (loaded access y laid machine memory budget far reach attributed Arguments body (outside w0) e.regs e.mem caller is calm b stack)
            ∙ ap (λ (x : M). access.load x b 4) same_memory

        pub leaf_unwound : (back_to pc next i : ℕ) → reg before 2 ≡ caller → reg before link_register ≡ back_to → IsTarget back_to → Ps (return_by Arguments (shape_at attributed Arguments body)) pc next
            → Ws w pc regs m i → Unwound access y laid machine memory reach ample runs budget far place before m0 back_to w regs m i
        leaf_unwound back_to pc next i from ra target lines a = record {
          after = r.2.after;
          time = r.2.time + 1;
          late = let late = r.2.late in omega (arith, late);
          soon = let soon = r.2.soon in omega (arith, soon);
          stands = back access y laid machine memory reach ample runs budget far place back_to w r.0 r.1.0 r.2.after m r.2.time link_is target r.1.1 r.2.stands;
          are = r.2.are;
          result = r.2.others a0 (λ q. omega (arith, q));
          registers = registers;
          stack = above_frame from;
        }
          where
            sp_held : reg regs 2 ≡ reg e.regs 2
            sp_held = f.left 2 (stack_left Arguments (seated_of (shape_at attributed Arguments body)))

            r : (mid : ℕ) × Ps (one (Jalr 0 link_register (pos 0))) mid next × Moved (reg regs 2 + frame_of (shape_at attributed Arguments body)) w mid regs m i
            r = raise_walk (eqb (total body.arrays) 0) (bytes_of (shape_at attributed Arguments body)) (one (Jalr 0 link_register (pos 0))) w pc next regs m i f.are
                (omega (arith, sp_held, is.below, is.high, laid.top)) lines a

            link_is : reg r.2.after link_register ≡ back_to
            link_is = r.2.others link_register (λ q. omega (arith, q)) ∙ f.left link_register refl
                ∙ same link_register (λ q. omega (arith, q)) (pins_below Arguments (max body.temps 1)
                (pins_of Arguments body) link_register is.pins.stand (omega arith)) ∙ ra

            kept : (q : ℕ) → IsSaved q → q ≢ 2 → reg r.2.after q ≡ reg before q
            kept q saved ne = r.2.others q ne ∙ f.left q (argument_leaves (seated_of (shape_at attributed Arguments body)) q saved)
                ∙ same q ne (saved_unpinned (max body.temps 1) (pins_of Arguments body) q is.pins.stand saved)

            registers : (q : ℕ) → IsSaved q → reg r.2.after q ≡ reg before q
            registers q saved = ⊎_elim
                (λ (at : q ≡ 2). ap (reg r.2.after) at ∙ r.2.sp_is ∙ omega (arith, sp_held, is.below) ∙ sym from ∙ ap (reg before) (sym at))
                (λ (ne : q ≡ 2 → ⊥). kept q saved ne)
                (cases_eq q 2)
