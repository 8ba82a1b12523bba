-- What holds of instructions and of lines that are put together holds of the code that enters a function, and of the code that leaves it.
use Rattle.std.proofs.Common.{ℕ, zero, suc, ◌*◌, ◌+◌, Bool, true, false, cond, eqb, List, [], ◌∷◌, ◌++◌, ℤ, pos, ◌-ℤ◌}
use Rattle.mv_isa.specs.declared.instr.Instr.TheVariants.{Lw, Sw, Addi, Jalr}
use Rattle.mv_isa.specs.declared.labelled.Line.{Line}
use Rattle.mv_isa.specs.declared.labelled.Line.TheVariants.{Word, Label, Jump, Branch, Entry, Slot, Point}
use Rattle.mv_isa.specs.Code.{nop}
use Rattle.mv_isa.specs.Registers.{a0, ra as link_register, s10 as live_register}
use Rattle.mv_ir.specs.Measures.{total}
use Rattle.mv_select_code.specs.Trees.TreeCode.{one, two, minus_one, number_lines, temp_register}
use Rattle.mv_select_code.specs.declared.trees.places.Keeping.{Keeping}
use Rattle.mv_select_code.specs.declared.trees.places.Keeping.TheVariants.{Saved, Arguments, Mixed}
use Rattle.mv_select_code.specs.declared.trees.places.Pin.{Pin}
use Rattle.mv_select_code.proofs.OfControl.StatementsAreMade.{LineByLine, words_made, number_made}
use Rattle.mv_select.specs.Functions.Pins.{pin_lines, moving_words}
use Rattle.mv_select.specs.Functions.FunctionCode.{first_saved, saved_count, saved_register, save_lines, restore_lines, parameter_lines, enter_lines, leave_lines, lowered_lines, prologue_lines, epilogue_lines, Shape, seated_of, bytes_of, move_lines, entry_by, return_by, led}

module _ {P : List Line → Type 0} {L J Q : ℕ → Type 0} (made : LineByLine P L J Q) where
  save_made : (first k : ℕ) → P (save_lines first k)
  save_made first zero = made.none
  save_made first (suc k) = let i = Sw 2 (saved_register (first + k)) (pos (4 * (first + k))) in made.after (save_lines first k) (one i) (save_made first k) (made.word i)

  restore_made : (first k : ℕ) → P (restore_lines first k)
  restore_made first zero = made.none
  restore_made first (suc k) = let i = Lw (saved_register (first + k)) 2 (pos (4 * (first + k))) in made.after (restore_lines first k) (one i) (restore_made first k) (made.word i)

  parameter_made : (k : ℕ) → P (parameter_lines k)
  parameter_made zero = made.none
  parameter_made (suc k) = let i = Addi (temp_register k) (a0 + k) (pos 0) in made.after (parameter_lines k) (one i) (parameter_made k) (made.word i)

  pins_made : (pins : List Pin) → P (pin_lines pins)
  pins_made [] = made.none
  pins_made (p ∷ pins) = made.after (number_lines p.number p.register) (pin_lines pins) (number_made made p.number p.register) (pins_made pins)

  enter_made : (attributed : Bool) → P (enter_lines attributed)
  enter_made true = made.word (Addi live_register live_register (pos 1))
  enter_made false = made.none

  leave_made : (attributed : Bool) → P (leave_lines attributed)
  leave_made true = made.word (Addi live_register live_register minus_one)
  leave_made false = made.none

  prologue_made : (k : Keeping) (attributed : Bool) (params seated bytes : ℕ) (pins : List Pin) → P (prologue_lines k attributed params seated bytes pins)
  prologue_made k attributed params seated bytes pins =
      let lower = Addi 2 2 (pos 0 -ℤ pos bytes) in
      made.after (one lower) (lowered_lines k attributed params seated pins) (made.word lower)
      (made.after (save_lines (first_saved k) (saved_count k seated)) (parameter_lines (moving_words k params) ++ (pin_lines pins ++ enter_lines attributed)) (save_made (first_saved k) (saved_count k seated))
      (made.after (parameter_lines (moving_words k params)) (pin_lines pins ++ enter_lines attributed) (parameter_made (moving_words k params))
      (made.after (pin_lines pins) (enter_lines attributed) (pins_made pins) (enter_made attributed))))

  epilogue_made : (k : Keeping) (attributed : Bool) (temps bytes : ℕ) → P (epilogue_lines k attributed temps bytes)
  epilogue_made k attributed temps bytes =
      let raise = Addi 2 2 (pos bytes) in
      let back = Jalr 0 link_register (pos 0) in
      made.after (leave_lines attributed) (restore_lines (first_saved k) (saved_count k temps) ++ two raise back) (leave_made attributed)
      (made.after (restore_lines (first_saved k) (saved_count k temps)) (two raise back) (restore_made (first_saved k) (saved_count k temps)) (words_made made raise back))

  move_made : (sizes : List ℕ) (n : ℤ) → P (move_lines sizes n)
  move_made sizes n = by (eqb (total sizes) 0)
    where
      by : (none : Bool) → P (cond none [] (one (Addi 2 2 n)))
      by true = made.none
      by false = made.word (Addi 2 2 n)

  pub entry_made : (k : Keeping) (shape : Shape) → P (entry_by k shape)
  entry_made Saved shape = prologue_made Saved shape.attributed shape.params (seated_of shape) (bytes_of shape) shape.pins
  entry_made Mixed shape = prologue_made Mixed shape.attributed shape.params (seated_of shape) (bytes_of shape) shape.pins
  entry_made Arguments shape =
      let down = pos 0 -ℤ pos (bytes_of shape) in made.after (move_lines shape.arrays down) (pin_lines shape.pins) (move_made shape.arrays down) (pins_made shape.pins)

  pub return_made : (k : Keeping) (shape : Shape) → P (return_by k shape)
  return_made Saved shape = epilogue_made Saved shape.attributed (seated_of shape) (bytes_of shape)
  return_made Mixed shape = epilogue_made Mixed shape.attributed (seated_of shape) (bytes_of shape)
  return_made Arguments shape =
      let back = Jalr 0 link_register (pos 0) in made.after (move_lines shape.arrays (pos (bytes_of shape))) (one back) (move_made shape.arrays (pos (bytes_of shape))) (made.word back)

  -- also where a word is put before a label
  pub led_made : (lines : List Line) → P lines → P (led lines)
  led_made [] h = h
  led_made (Label l ∷ lines) h = made.after (one nop) (Label l ∷ lines) (made.word nop) h
  led_made (Word i ∷ lines) h = h
  led_made (Jump rd l ∷ lines) h = h
  led_made (Branch funct3 a b l ∷ lines) h = h
  led_made (Entry rd f ∷ lines) h = h
  led_made (Slot f ∷ lines) h = h
  led_made (Point a ∷ lines) h = h
