-- The code of a function that saves registers does what its body means, and keeps the calling convention.
use Rattle.std.proofs.Common.{◌≡◌, ◌≢◌, inl, inr, ⊎_elim, ℕ, ◌+◌, ◌-◌, ◌*◌, ◌^◌, ◌<◌, ◌≤◌, ◌⊎◌, Bool, true, false, List, ◌∷◌, ◌++◌, length, slice_index, Some, refl, sym, ap, ◌∙◌, subst, arith}
use Rattle.mv_ast.specs.declared.program.Known.{Known}
use Rattle.mv_isa.specs.declared.labelled.Line.{Line}
use Rattle.mv_isa.specs.declared.labelled.Line.TheVariants.{Label}
use Rattle.mv_isa.specs.Code.{IsPlace}
use Rattle.mv_isa.specs.Execution.{Access, reg, put}
use Rattle.mv_isa.specs.Registers.{a0, ra as link_register, s11 as left_register}
use Rattle.mv_ir.specs.declared.tree.Tree.{Tree}
use Rattle.mv_ir.specs.declared.body.Body.{Body}
use Rattle.mv_ir.specs.World as ir
use Rattle.mv_ir.specs.World.{World}
use Rattle.mv_ir.specs.Outcome.{State, Bound}
use Rattle.mv_ir.specs.Meaning.{body_from}
use Rattle.mv_select_code.specs.Trees.TreeCode.{temp_register, register_of}
use Rattle.mv_select_code.specs.declared.trees.places.Keeping.{Keeping}
use Rattle.mv_select_code.specs.declared.trees.places.Keeping.TheVariants.{Saved, Arguments, Mixed}
use Rattle.mv_select_code.specs.Statements.Frames.{Site, Shows, Reach}
use Rattle.mv_select_code.specs.Control.Placed.{Placed}
use Rattle.mv_select_code.specs.Control.Runs.{Machine, IsRun}
use Rattle.mv_select_code.specs.Control.Laws.{CallsDo}
use Rattle.mv_select_code.proofs.OfControl.Walk.{before_next, placed_split}
use Rattle.mv_select.specs.Calls.CallCode.{calls_of}
use Rattle.mv_select.specs.Calls.Convention as convention
use Rattle.mv_select.specs.Calls.Convention.{Layout, IsTarget, FollowsCall, Conventions}
use Rattle.mv_select.specs.Calls.Environment.{ServesKnown}
use Rattle.mv_select.specs.Calls.Laws.{IsCaller, IsLinked}
use Rattle.mv_select.proofs.OfCalls.FunctionCalls.{call_done}
use Rattle.mv_select.proofs.OfCalls.KnownCalls.{known_done}
use Rattle.mv_select.specs.Functions.FunctionCode.{Shape, first_saved, seated_of, bytes_of, lowered_lines, epilogue_lines, body_lines, later_lines, end_label, seats_of}
use Rattle.mv_select.specs.Functions.Functions.{IsLaid, IsMemory, IsStack, LowersStack, IsAmple, RunsWithin, calls_by, asks_by}
use Rattle.mv_select.proofs.OfFunctions.Begun.{Begun, frame_at}
use Rattle.mv_select.proofs.OfFunctions.BodyKeeps as body_of
use Rattle.mv_select.proofs.OfFunctions.BodyKeeps.{IsKept, is_frame, live_small, body_keeps}
use Rattle.mv_select.proofs.OfFunctions.Contents.{contents_at}
use Rattle.mv_select.proofs.OfFunctions.Entered.{Entered, Unwound}
use Rattle.mv_select.proofs.OfFunctions.Epilogue.{epilogue_walk}
use Rattle.mv_select.proofs.OfFunctions.EntryShown as shown
use Rattle.mv_select.proofs.OfFunctions.Frame.{shape_at, frame_of, lowered_saves, IsFrame, frame_calls}
use Rattle.mv_select.proofs.OfFunctions.FrameWords.{frame_course}
use Rattle.mv_select.specs.Functions.Pins.{first_pin, moving_words, pins_of}
use Rattle.mv_select.proofs.OfFunctions.Pins.{seat_within, one_seat, first_past, pins_apart, pins_above}
use Rattle.mv_select.proofs.OfFunctions.Quiet.{quiet_done}
use Rattle.mv_select.proofs.OfFunctions.Prologue.{Prepared, saved_words, prologue_walk}
use Rattle.mv_select.proofs.OfFunctions.Seats.{saves, saved_few, register_high, behind_left, moving_few, seat_came, others_stay}

-- what saves registers calls, or may neither call nor ask
calling_cases : (k : Keeping) → saves k ≡ true → (k ≡ Saved) ⊎ ((calls_by k ≡ false) × ((may_ask : Known → Bool) (known : Known) → asks_by k may_ask known ≡ false))
calling_cases Saved h = inl refl
calling_cases Arguments h = cc
calling_cases Mixed h = inr (refl, λ may_ask known. refl)

module _ {M : Type 0} (access : Access M) (y : Layout) (laid : IsLaid y) (machine : Machine M) (memory : IsMemory access y machine)
    (reach : Reach) (ample : IsAmple y reach) (runs : RunsWithin access y machine reach) (setting : ir.Setting)
    (entries : (f : ℕ) → f < length setting.numbers → (slice_index setting.numbers f ≡ y.entry f) × IsPlace (y.entry f))
    (budget far : ℕ) (serves : ServesKnown access y machine budget far setting) (levels : Bound) (keep : Conventions access y machine budget far setting levels)
    (attributed : Bool) (k : Keeping) (saved : saves k ≡ true) (bound : List (ℕ × ℕ)) (is_fine : Tree → Bool) (body : Body) (fn : IsKept y setting attributed k bound reach is_fine body)
    (place : ℕ → ℕ) (linked : IsLinked y (length setting.numbers) place) (is_attributed : ℕ → Bool) (pc mid next : ℕ)
    (placed : Placed machine.text place y.entry (later_lines y.place y.size is_attributed (shape_at attributed k body) body.code) mid next)
    (depth live : ℕ) (args : List ℕ) (back i : ℕ) (count : length args ≡ body.params) (target : IsTarget back) (ra : reg (machine.run i).regs link_register ≡ back)
    (w : World) (stands : convention.Stands access y machine budget far pc w i) (begun : Begun y machine attributed depth live args i)
    (lowers : LowersStack machine (bytes_of (shape_at attributed k body)) mid i) where
  abbrev shape : Shape
  shape = shape_at attributed k body

  abbrev caller : ℕ
  caller = reg (machine.run i).regs 2

  abbrev sp : ℕ
  sp = reg (machine.run i).regs 2 - frame_of (shape_at attributed k body)

  open frame_course access y laid machine memory reach ample runs budget far place use {of.{Placed as Ps}, Stands as Ws}

  -- ---- the parts of the code

  abbrev body_code : List Line
  body_code = body_lines y.place y.size is_attributed (shape_at attributed k body) body.code

  abbrev epilogue : List Line
  epilogue = epilogue_lines k attributed (seated_of (shape_at attributed k body)) (bytes_of (shape_at attributed k body))

  abbrev prologue : List Line
  prologue = lowered_lines k attributed body.params (seated_of (shape_at attributed k body)) (pins_of k body)

  p : (m : ℕ) × Ps prologue mid m × Ps (body_code ++ (Label end_label ∷ epilogue)) m next
  p = placed_split machine.text place y.entry prologue (body_code ++ (Label end_label ∷ epilogue)) mid next placed

  q : (mid : ℕ) × Ps body_code p.0 mid × Ps (Label end_label ∷ epilogue) mid next
  q = placed_split machine.text place y.entry body_code (Label end_label ∷ epilogue) p.0 next p.2

  -- ---- entry

  whole : frame_of (shape_at attributed k body) ≡ bytes_of (shape_at attributed k body)
  whole = lowered_saves k body.arrays (bytes_of (shape_at attributed k body)) saved

  framed : IsFrame y (shape_at attributed k body) sp (reg (machine.run i).regs 2)
  framed = is_frame y laid machine setting attributed k bound reach is_fine body fn depth live args i begun

  lowered : Ws w mid (put (machine.run i).regs 2 (reg (machine.run i).regs 2 - frame_of (shape_at attributed k body))) (machine.run i).memory (i + 1)
  lowered = subst (λ n. Ws w mid (put (machine.run i).regs 2 (reg (machine.run i).regs 2 - n)) (machine.run i).memory (i + 1)) (sym whole)
      (record { is = lowers.goes; calm = stands.calm; sound = before_next (λ t. machine.is_sound (machine.run t) ≡ true) i stands.sound lowers.sound })

  few_live : live + 1 < 2 ^ 32
  few_live = live_small y laid machine setting attributed k bound reach is_fine body fn depth live args i begun

  prep : Prepared access y laid machine memory reach ample runs budget far place (shape_at attributed k body) args live sp (machine.run i).regs (machine.run i).memory w p.0 i
  prep = prologue_walk access y laid machine memory reach ample runs budget far place shape args live sp caller (machine.run i).regs (machine.run i).memory w mid p.0 i saved framed fn.params fn.temps refl
      begun.live_is few_live stands.are (λ j lt. begun.arguments j (omega (arith, lt, count))) p.1
      lowered

  entered : Entered access y laid machine memory reach ample runs budget far place (shape_at attributed k body) args live sp (machine.run i).regs (machine.run i).memory w p.0 i
  entered = record {
    regs = prep.regs;
    mem = prep.mem;
    time = prep.time;
    late = prep.late;
    soon = prep.soon;
    stands = prep.stands;
    are = prep.are;
    sp_is = prep.sp_is;
    live_is = prep.live_is;
    left_is = prep.others left_register (λ e. omega (arith, e)) (λ e. omega (arith, e)) (λ j lt e. omega (arith, e, register_high j (omega (arith, lt, moving_few k body.params, fn.params))))
        (pins_above k (first_pin k body.temps) (pins_of k body) left_register framed.pins.stand (omega arith));
    held = λ j r lt seat. ⊎_elim (moved j r) (stayed j r lt seat) (seat_came k body.params j r saved fn.params lt seat);
    others = λ t r le few seat. as_before t r few seat (λ j lt e. others_stay k body.params t r j le seat lt e);
    pinned = prep.pinned;
    globals = λ g n lt. prep.words (y.place g + 4 * n) (inr (g, n, lt, refl))
        (λ j few e. laid.off_stack g n lt (subst (IsStack y) (sym e) (saved_words y shape saved sp caller framed (first_saved k + j) (omega (arith, few, saved_few k (seated_of (shape_at attributed k body)))))));
    words = λ b stack away. prep.words b (inl stack) (λ j few. away (first_saved k + j) (omega (arith, few, saved_few k (seated_of (shape_at attributed k body)))));
  }
    where
      as_before : (t r : ℕ) → t < body.temps → register_of k t ≡ Some r → ((j : ℕ) → j < moving_words k body.params → r ≢ temp_register j) → reg prep.regs r ≡ reg (machine.run i).regs r
      as_before t r few seat away =
          let within = seat_within k t r seat in
          prep.others r (λ e. omega (arith, e, within.0)) (λ e. omega (arith, e, within.1)) away
          (pins_apart k (first_pin k body.temps) (pins_of k body) r framed.pins.stand (λ u from below e. omega (arith, one_seat k t u r seat e, few, from, first_past k body.temps)))

      moved : (j r : ℕ) → (j < moving_words k body.params) × (r ≡ temp_register j) → reg prep.regs r ≡ slice_index args j
      moved j r h = ap (reg prep.regs) h.1 ∙ prep.held j h.0

      stayed : (j r : ℕ) → j < body.params → register_of k j ≡ Some r → (r ≡ a0 + j) × (moving_words k body.params ≡ 0) → reg prep.regs r ≡ slice_index args j
      stayed j r lt seat h = as_before j r (omega (arith, lt, fn.temps)) seat (λ n moves e. omega (arith, moves, h.1)) ∙ ap (reg (machine.run i).regs) h.0 ∙ begun.arguments j (omega (arith, lt, count))

  -- ---- the body

  abbrev S : Site
  S = body_of.S access y laid machine memory reach ample runs setting entries budget far attributed k bound is_fine body fn place pc p.0 depth live args i count w stands begun entered

  abbrev frame : ir.Frame
  frame = frame_at attributed bound depth live

  is : IsFrame y (shape_at attributed k body) (reg entered.regs 2) (reg (machine.run i).regs 2)
  is = body_of.is access y laid machine memory reach ample runs setting entries budget far attributed k bound is_fine body fn place pc p.0 depth live args i count w stands begun entered

  abbrev Calls : Type 0
  Calls = CallsDo access S setting frame machine place end_label budget far is_fine levels (calls_of (seats_of y.place (shape_at attributed k body)) is_attributed)

  okS : IsRun access S machine
  okS = body_of.okS access y laid machine memory reach ample runs setting entries budget far attributed k bound is_fine body fn place pc p.0 depth live args i count w stands begun entered

  calls_done : k ≡ Saved → Calls
  calls_done calling =
      let fit = body_of.fit access y laid machine memory reach ample runs setting entries budget far attributed k bound is_fine body fn place pc p.0 depth live args i count w stands begun entered in
      let trees = body_of.fine_trees access y laid machine memory reach ample runs setting entries budget far attributed k bound is_fine body fn place pc p.0 depth live args i count w stands begun entered in
      let calls : IsCaller y S setting frame =
      frame_calls y laid reach shape (reg entered.regs) caller (shown.word_at access entered.mem) is access machine memory setting frame entries calling entered.live_is begun.counts
      (omega (arith, entered.left_is, begun.left)) (omega (arith, entered.left_is, begun.room, fn.small, entered.sp_is, whole)) in
      record {
        call = call_done access y S setting frame fit calls machine okS budget far place end_label linked is_fine trees is_attributed levels keep;
        known = known_done access y S setting frame fit calls machine okS budget far place end_label linked is_fine trees serves levels;
      }

  none_done : (calls_by k ≡ false) × ((may_ask : Known → Bool) (known : Known) → asks_by k may_ask known ≡ false) → Calls
  none_done quiet =
      quiet_done access S machine okS budget far place end_label setting frame is_fine levels is_attributed quiet.0 (quiet.1 y.may_ask)
      (behind_left k (seated_of (shape_at attributed k body)) left_register saved (omega arith) (omega arith)) (ap (λ n. n + depth) entered.left_is ∙ begun.left)

  calls_do : CallsDo access S setting frame machine place end_label budget far is_fine levels (calls_of (seats_of y.place (shape_at attributed k body)) is_attributed)
  calls_do = ⊎_elim calls_done none_done (calling_cases k saved)

  unwind : (l : State) (regs : List ℕ) (m : M) (j : ℕ) → Shows S access l regs m → Ws l.world q.2.0 regs m j
      → Unwound access y laid machine memory reach ample runs budget far place (machine.run i).regs (machine.run i).memory back l.world regs m j
  unfolding entered
  unwind l regs m j f a =
      epilogue_walk access y laid machine memory reach ample runs budget far place attributed k saved body args live sp caller (machine.run i).regs (machine.run i).memory w p.0 i prep is prep.stands.calm l.world l
      regs m f back q.2.0 next j fn.params fn.temps refl begun.live_is few_live ra target q.2.2 a

  pub later_keeps : (spare : ℕ) → i + (spare + 44 + (body_from setting frame (contents_at access machine (shape_at attributed k body) (length args) i) body args levels w).cost) ≤ budget
      → far ≤ i + length levels
      → FollowsCall access y machine budget far spare (length levels) i back (body_from setting frame (contents_at access machine (shape_at attributed k body) (length args) i) body args levels w).end
  later_keeps =
      body_keeps access y laid machine memory reach ample runs setting entries budget far attributed k bound is_fine body fn place pc p.0 depth live args i count w stands begun entered linked levels is_attributed
      calls_do q.2.0 (at_label q.1) (q.2.1.label ∙ sym q.2.1.stands) back unwind
    where
      -- the label of the end takes no place
      at_label : Ps body_code p.0 q.0 → Ps body_code p.0 q.2.0
      at_label = subst (Ps body_code p.0) (sym q.2.1.stands)
