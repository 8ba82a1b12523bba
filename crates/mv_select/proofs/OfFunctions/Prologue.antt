-- The prologue as a whole.
use Rattle.std.proofs.Common.{◌≡◌, ◌≢◌, ℕ, ◌+◌, ◌*◌, ◌^◌, ◌<◌, ◌≤◌, true, cond, List, ◌++◌, slice_index, Some, sym, ap, ◌∙◌, arith}
use Rattle.mv_isa.specs.Execution.{Access, reg, put}
use Rattle.mv_isa.specs.Registers.{a0, s10 as live_register}
use Rattle.mv_ir.specs.World.{World}
use Rattle.mv_select_code.specs.Trees.TreeCode.{temp_register, pinned_in}
use Rattle.mv_select_code.specs.Trees.View.{AreRegisters}
use Rattle.mv_select_code.proofs.OfTrees.Registers.{free_low, put_same, put_other, put_registers}
use Rattle.mv_select_code.specs.Statements.Frames.{Reach}
use Rattle.mv_select.specs.Functions.Pins.{pin_lines, first_pin, moving_words, ArePins}
use Rattle.mv_select.proofs.OfFunctions.Pins.{AreApart, seat_within, pin_seated, pins_off_moving, pins_below, pins_above}
use Rattle.mv_select.proofs.OfFunctions.PinsCome.{Pinned, pin_walk}
use Rattle.mv_select.proofs.OfFunctions.Seats.{saves, saved_few, moving_few, register_low, register_high}
use Rattle.mv_select_code.specs.Control.Runs.{Machine}
use Rattle.mv_select_code.proofs.OfControl.Walk.{placed_split}
use Rattle.mv_select.specs.Calls.Convention.{Layout}
use Rattle.mv_select.specs.Functions.FunctionCode.{Shape, seated_of, bytes_of, first_saved, saved_count, saved_register, save_lines, parameter_lines, enter_lines, lowered_lines}
use Rattle.mv_select.specs.Functions.Functions.{IsStack, IsWord, IsLaid, IsMemory, IsAmple, RunsWithin}
use Rattle.mv_select.proofs.OfFunctions.Entry.{Saves, Moves, sp_apart, save_walk, parameter_walk}
use Rattle.mv_select.proofs.OfFunctions.Frame.{lowered_saves, IsFrame, room_for_saved}
use Rattle.mv_select.proofs.OfFunctions.FrameWords.{frame_course}
use Rattle.mv_select.proofs.OfFunctions.Steps.{Counted, enter_walk}

-- the words for saved registers are words of the stack
pub saved_words : (y : Layout) (shape : Shape) → saves shape.keeping ≡ true → (sp caller : ℕ) → IsFrame y shape sp caller → (j : ℕ) → j < 10 → IsStack y (sp + 4 * j)
saved_words y shape saved sp caller is j lt =
    let low = is.low in let high = is.high in let even = is.even in
    let below : sp + bytes_of shape ≡ caller = ap (λ n. sp + n) (sym (lowered_saves shape.keeping shape.arrays (bytes_of shape) saved)) ∙ is.below in
    (omega (arith, low), omega (arith, lt, high, below, room_for_saved shape), omega (arith, below, even))

module _ {M : Type 0} (access : Access M) (y : Layout) (laid : IsLaid y) (machine : Machine M) (memory : IsMemory access y machine)
    (reach : Reach) (ample : IsAmple y reach) (runs : RunsWithin access y machine reach) (budget far : ℕ) (place : ℕ → ℕ) where
  open frame_course access y laid machine memory reach ample runs budget far place use {of.{Placed as Ps}, Stands as Ws}

  -- what stands there at the end of a prologue that began with other registers and another memory
  pub record Prepared (shape : Shape) (args : List ℕ) (live sp : ℕ) (before : List ℕ) (m0 : M) (w : World) (next i : ℕ) : Type 0 where
    pub regs : List ℕ
    pub mem : M
    pub time : ℕ
    pub late : i ≤ time
    pub soon : time ≤ i + 20
    pub stands : Ws w next regs mem time
    pub are : AreRegisters regs
    pub sp_is : reg regs 2 ≡ sp
    pub live_is : reg regs live_register ≡ live + cond shape.attributed 1 0
    pub held : (j : ℕ) → j < moving_words shape.keeping shape.params → reg regs (temp_register j) ≡ slice_index args j
    pub pinned : (n q : ℕ) → pinned_in shape.pins n ≡ Some q → reg regs q ≡ n
    pub others : (q : ℕ) → q ≢ 2 → q ≢ live_register → ((j : ℕ) → j < moving_words shape.keeping shape.params → q ≢ temp_register j) → AreApart q shape.pins → reg regs q ≡ reg before q
    pub saved : (j : ℕ) → j < saved_count shape.keeping (seated_of shape) → access.load mem (sp + 4 * (first_saved shape.keeping + j)) 4 ≡ Some (reg before (saved_register (first_saved shape.keeping + j)))
    pub words : (b : ℕ) → IsWord y b → ((j : ℕ) → j < saved_count shape.keeping (seated_of shape) → b ≢ sp + 4 * (first_saved shape.keeping + j)) → access.load mem b 4 ≡ access.load m0 b 4

  temp_low : (q j : ℕ) → q < 9 → q ≢ temp_register j
  temp_low q j lt e = omega (arith, lt, e, register_low j)

  temp_high : (q j : ℕ) → 26 ≤ q → j < 9 → q ≢ temp_register j
  temp_high q j le lt e = omega (arith, le, e, register_high j lt)

  pub prologue_walk : (shape : Shape) (args : List ℕ) (live sp caller : ℕ) (before : List ℕ) (m0 : M) (w : World) (pc next i : ℕ) → saves shape.keeping ≡ true → IsFrame y shape sp caller → shape.params ≤ 8 → shape.params ≤ shape.temps
      → reg before 2 ≡ caller → reg before live_register ≡ live → live + 1 < 2 ^ 32 → AreRegisters before → ((j : ℕ) → j < shape.params → reg before (a0 + j) ≡ slice_index args j)
      → Ps (lowered_lines shape.keeping shape.attributed shape.params (seated_of shape) shape.pins) pc next → Ws w pc (put before 2 sp) m0 (i + 1) → Prepared shape args live sp before m0 w next i
  prologue_walk shape args live sp caller before m0 w pc next i saved is few enough sp_before live_before small are held p a = record {
    regs = d.after;
    mem = b.after;
    time = d.time;
    late = let late = d.late in let before = f.late in omega (arith, late, before);
    soon = let soon = d.soon in let before = f.soon in omega (arith, soon, before, within, moving, few, pins.few);
    stands = d.stands;
    are = d.are;
    sp_is = d.others 2 (λ e. omega (arith, e)) ∙ f.others 2 (pins_below shape.keeping (first_pin shape.keeping shape.temps) shape.pins 2 pins.stand (omega arith)) ∙ c.moved.others 2 (λ j lt. temp_low 2 j (omega arith)) ∙ sp_now;
    live_is = d.live;
    held = λ j lt. d.others (temp_register j) (λ e. omega (arith, e, register_high j (omega (arith, lt, moving, few))))
        ∙ f.others (temp_register j) (pins_off_moving shape.keeping shape.params shape.temps shape.pins j pins enough lt) ∙ c.moved.moved j lt
        ∙ put_other before 2 (a0 + j) sp (omega arith) (λ e. omega (arith, e)) ∙ held j (omega (arith, lt, moving));
    pinned = λ n q e. d.others q (pin_counted n q e) ∙ f.holds n q e;
    others = λ q two live away apart. d.others q live ∙ f.others q apart ∙ c.moved.others q away ∙ put_other before 2 q sp (omega arith) two;
    saved = λ j lt. b.saved.saved j lt ∙ ap Some (put_other before 2 (saved_register (first_saved shape.keeping + j)) sp (omega arith) (λ e. sp_apart (first_saved shape.keeping + j) (sym e)));
    words = b.saved.others;
  }
    where
      within : first_saved shape.keeping + saved_count shape.keeping (seated_of shape) ≤ 10
      within = saved_few shape.keeping (seated_of shape)

      moving : moving_words shape.keeping shape.params ≤ shape.params
      moving = moving_few shape.keeping shape.params

      pins : ArePins shape.keeping shape.params shape.temps shape.pins
      pins = is.pins

      pin_counted : (n q : ℕ) → pinned_in shape.pins n ≡ Some q → q ≢ live_register
      pin_counted n q e same = let r = pin_seated shape.keeping (first_pin shape.keeping shape.temps) shape.pins n q pins.stand e in omega (arith, same, (seat_within shape.keeping r.number q r.seat).1)

      now : List ℕ
      now = put before 2 sp

      sp_now : reg (put before 2 sp) 2 ≡ sp
      sp_now = put_same before 2 sp (omega arith) (omega (arith, are.count))

      below : sp < 2 ^ 32
      below = omega (arith, is.below, is.high, laid.top)

      are_now : AreRegisters (put before 2 sp)
      are_now = put_registers before 2 sp are (free_low 2 (omega arith) (omega arith)) below

      q : (mid : ℕ) × Ps (save_lines (first_saved shape.keeping) (saved_count shape.keeping (seated_of shape))) pc mid
          × Ps (parameter_lines (moving_words shape.keeping shape.params) ++ (pin_lines shape.pins ++ enter_lines shape.attributed)) mid next
      q = placed_split machine.text place y.entry (save_lines (first_saved shape.keeping) (saved_count shape.keeping (seated_of shape)))
          (parameter_lines (moving_words shape.keeping shape.params) ++ (pin_lines shape.pins ++ enter_lines shape.attributed)) pc next p

      u : (mid : ℕ) × Ps (parameter_lines (moving_words shape.keeping shape.params)) q.0 mid × Ps (pin_lines shape.pins ++ enter_lines shape.attributed) mid next
      u = placed_split machine.text place y.entry (parameter_lines (moving_words shape.keeping shape.params)) (pin_lines shape.pins ++ enter_lines shape.attributed) q.0 next q.2

      v : (mid : ℕ) × Ps (pin_lines shape.pins) u.0 mid × Ps (enter_lines shape.attributed) mid next
      v = placed_split machine.text place y.entry (pin_lines shape.pins) (enter_lines shape.attributed) u.0 next u.2

      b : Saves access y laid machine memory reach ample runs budget far place (first_saved shape.keeping) (saved_count shape.keeping (seated_of shape)) sp w q.0 (put before 2 sp) m0 (i + 1 + saved_count shape.keeping (seated_of shape))
      b = save_walk access y laid machine memory reach ample runs budget far place (first_saved shape.keeping) (saved_count shape.keeping (seated_of shape)) sp w pc q.0 now m0 (i + 1) within sp_now
          (λ j lt. saved_words y shape saved sp caller is (first_saved shape.keeping + j) (omega (arith, lt, within))) are_now q.1 a

      c : Moves access y laid machine memory reach ample runs budget far place (moving_words shape.keeping shape.params) w u.0
          (put before 2 sp) b.after (i + 1 + saved_count shape.keeping (seated_of shape) + moving_words shape.keeping shape.params)
      c = parameter_walk access y laid machine memory reach ample runs budget far place
          (moving_words shape.keeping shape.params) w q.0 u.0 now b.after (i + 1 + saved_count shape.keeping (seated_of shape))
          (omega (arith, moving, few)) are_now u.1 b.stands

      f : Pinned access y laid machine memory reach ample runs budget far place shape.pins w v.0 c.after b.after (i + 1 + saved_count shape.keeping (seated_of shape) + moving_words shape.keeping shape.params)
      f = pin_walk access y laid machine memory reach ample runs budget far place shape.keeping
          (first_pin shape.keeping shape.temps) shape.pins w u.0 v.0 c.after b.after
          (i + 1 + saved_count shape.keeping (seated_of shape) + moving_words shape.keeping shape.params)
          pins.stand c.moved.are v.1 c.stands

      live_now : reg f.after live_register ≡ live
      live_now = f.others live_register (pins_above shape.keeping (first_pin shape.keeping shape.temps) shape.pins live_register pins.stand (omega arith))
          ∙ c.moved.others live_register (λ j lt. temp_high live_register j (omega arith) (omega (arith, lt, moving, few)))
          ∙ put_other before 2 live_register sp (omega arith) (λ e. omega (arith, e)) ∙ live_before

      d : Counted access y laid machine memory reach ample runs budget far place (live + cond shape.attributed 1 0) w next f.after b.after f.time
      d = enter_walk access y laid machine memory reach ample runs budget far place shape.attributed live w v.0 next f.after b.after f.time f.are small live_now v.2 f.stands
