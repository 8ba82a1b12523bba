-- The fields of the code of entry and return fit, and it has few words.
use Rattle.std.proofs.Common.{ℕ, zero, suc, ◌+◌, ◌*◌, ◌≤◌, Bool, true, false, cond, eqb, max, List, [], ◌++◌, ℤ, pos, ◌-ℤ◌, arith}
use Rattle.std.proofs.lemmas.Int.{ints}
use Rattle.std.proofs.lemmas.List.Elements.{All-nil}
use Rattle.mv_isa.specs.declared.instr.Instr.TheVariants.{Lw, Sw, Addi, Jalr}
use Rattle.mv_isa.specs.Encoding.{IsSigned}
use Rattle.mv_isa.specs.Code.{LineFits}
use Rattle.mv_isa.specs.Registers.{a0, ra as link_register, s10 as live_register}
use Rattle.mv_ir.specs.Measures.{total}
use Rattle.mv_select_code.specs.Trees.TreeCode.{one, two, minus_one, temp_register}
use Rattle.mv_select_code.specs.declared.trees.places.Keeping.{Keeping}
use Rattle.mv_select_code.specs.declared.trees.places.Keeping.TheVariants.{Saved, Arguments, Mixed}
use Rattle.mv_select_code.proofs.OfTrees.TreesFit.{small_fits, register_below}
use Rattle.mv_select_code.specs.Statements.Encoded.{IsCode}
use Rattle.mv_select_code.proofs.OfStatements.EncodedCode.{both, wider, single, pair}
use Rattle.mv_select.specs.Functions.FunctionCode.{Shape, seated_of, bytes_of, move_lines, entry_by, return_by, prologue_lines, epilogue_lines, first_saved, saved_count, saved_register, save_lines, restore_lines, parameter_lines, enter_lines, leave_lines}
use Rattle.mv_select.specs.Functions.Pins.{pin_lines, pin_words, first_pin, moving_words, ArePins}
use Rattle.mv_select.specs.Functions.Encoded.{FramesAreEncoded}
use Rattle.mv_select.proofs.OfFunctions.Entry.{saved_below}
use Rattle.mv_select.proofs.OfFunctions.Pins.{pins_code}
use Rattle.mv_select.proofs.OfFunctions.Seats.{saved_few, moving_few}

save_code : (first k : ℕ) → first + k ≤ 10 → IsCode k (save_lines first k)
save_code first zero h = (All-nil LineFits, omega arith)
save_code first (suc k) h =
    let i = Sw 2 (saved_register (first + k)) (pos (4 * (first + k))) in
    wider (k + 1) (suc k) (save_lines first k ++ one i) (omega arith)
    (both k 1 (save_lines first k) (one i) (save_code first k (omega (arith, h))) (single i (omega arith, saved_below (first + k) (omega (arith, h)), small_fits (4 * (first + k)) (omega (arith, h)))))

restore_code : (first k : ℕ) → first + k ≤ 10 → IsCode k (restore_lines first k)
restore_code first zero h = (All-nil LineFits, omega arith)
restore_code first (suc k) h =
    let i = Lw (saved_register (first + k)) 2 (pos (4 * (first + k))) in
    wider (k + 1) (suc k) (restore_lines first k ++ one i) (omega arith)
    (both k 1 (restore_lines first k) (one i) (restore_code first k (omega (arith, h))) (single i (saved_below (first + k) (omega (arith, h)), omega arith, small_fits (4 * (first + k)) (omega (arith, h)))))

parameter_code : (k : ℕ) → k ≤ 8 → IsCode k (parameter_lines k)
parameter_code zero h = (All-nil LineFits, omega arith)
parameter_code (suc k) h =
    let i = Addi (temp_register k) (a0 + k) (pos 0) in
    wider (k + 1) (suc k) (parameter_lines k ++ one i) (omega arith)
    (both k 1 (parameter_lines k) (one i) (parameter_code k (omega (arith, h))) (single i (register_below k (omega (arith, h)), omega (arith, h), small_fits 0 (omega arith))))

enter_code : (attributed : Bool) → IsCode 1 (enter_lines attributed)
enter_code true = single (Addi live_register live_register (pos 1)) (omega arith, omega arith, small_fits 1 (omega arith))
enter_code false = (All-nil LineFits, omega arith)

leave_code : (attributed : Bool) → IsCode 1 (leave_lines attributed)
leave_code true = single (Addi live_register live_register minus_one) (omega arith, omega arith, (omega (arith, ints), omega (arith, ints)))
leave_code false = (All-nil LineFits, omega arith)

minus_fits : (n : ℕ) → n ≤ 2032 → IsSigned 2048 (pos 0 -ℤ pos n)
minus_fits n h = (omega (arith, ints, h), omega (arith, ints, h))

-- where registers are saved
pub saved_encoded : (k : Keeping) (shape : Shape) → ArePins k shape.params shape.temps shape.pins → shape.params ≤ 8 → bytes_of shape ≤ 2032
    → IsCode 20 (prologue_lines k shape.attributed shape.params (seated_of shape) (bytes_of shape) shape.pins) × IsCode 13 (epilogue_lines k shape.attributed (seated_of shape) (bytes_of shape))
saved_encoded k shape pins few small =
    let first = first_saved k in
    let saved = saved_count k (seated_of shape) in
    let within = saved_few k (seated_of shape) in
    let params = moving_words k shape.params in
    let moving = moving_few k shape.params in
    let attributed = shape.attributed in
    let numbers = pin_lines shape.pins in
    let count = pin_words shape.pins in
    let lower = Addi 2 2 (pos 0 -ℤ pos (bytes_of shape)) in
    let raise = Addi 2 2 (pos (bytes_of shape)) in
    let back = Jalr 0 link_register (pos 0) in (
      wider (1 + (saved + (params + (count + 1)))) 20 (one lower ++ (save_lines first saved ++ (parameter_lines params ++ (numbers ++ enter_lines attributed))))
          (omega (arith, few, moving, pins.few, within))
          (both 1 (saved + (params + (count + 1))) (one lower) (save_lines first saved ++ (parameter_lines params ++ (numbers ++ enter_lines attributed)))
          (single lower (omega arith, omega arith, minus_fits (bytes_of shape) small))
          (both saved (params + (count + 1)) (save_lines first saved) (parameter_lines params ++ (numbers ++ enter_lines attributed)) (save_code first saved within)
          (both params (count + 1) (parameter_lines params) (numbers ++ enter_lines attributed) (parameter_code params (omega (arith, few, moving)))
          (both count 1 numbers (enter_lines attributed) (pins_code k (first_pin k shape.temps) shape.pins pins.stand) (enter_code attributed))))),
      wider (1 + (saved + 2)) 13 (leave_lines attributed ++ (restore_lines first saved ++ two raise back)) (omega (arith, within))
          (both 1 (saved + 2) (leave_lines attributed) (restore_lines first saved ++ two raise back) (leave_code attributed)
          (both saved 2 (restore_lines first saved) (two raise back) (restore_code first saved within)
          (pair raise back (omega arith, omega arith, small_fits (bytes_of shape) (omega (arith, small))) (omega arith, omega arith, small_fits 0 (omega arith))))),
    )

-- where nothing is saved
move_code : (sizes : List ℕ) (n : ℤ) → IsSigned 2048 n → IsCode 1 (move_lines sizes n)
move_code sizes n h = by (eqb (total sizes) 0)
  where
    by : (none : Bool) → IsCode 1 (cond none [] (one (Addi 2 2 n)))
    by true = (All-nil LineFits, omega arith)
    by false = single (Addi 2 2 n) (omega arith, omega arith, h)

pub leaf_encoded : (shape : Shape) → ArePins Arguments shape.params shape.temps shape.pins → bytes_of shape ≤ 2032 → IsCode 9 (entry_by Arguments shape) × IsCode 2 (return_by Arguments shape)
leaf_encoded shape pins small =
    let down = pos 0 -ℤ pos (bytes_of shape) in
    let count = pin_words shape.pins in
    let back = Jalr 0 link_register (pos 0) in (
      wider (1 + count) 9 (entry_by Arguments shape) (omega (arith, pins.few))
          (both 1 count (move_lines shape.arrays down) (pin_lines shape.pins) (move_code shape.arrays down (minus_fits (bytes_of shape) small))
          (pins_code Arguments (max shape.temps 1) shape.pins pins.stand)),
      both 1 1 (move_lines shape.arrays (pos (bytes_of shape))) (one back) (move_code shape.arrays (pos (bytes_of shape)) (small_fits (bytes_of shape) (omega (arith, small))))
          (single back (omega arith, omega arith, small_fits 0 (omega arith))),
    )

pub frames_encoded : FramesAreEncoded
frames_encoded shape pins few small = by shape.keeping pins
  where
    by : (k : Keeping) → ArePins k shape.params shape.temps shape.pins → IsCode 20 (entry_by k shape) × IsCode 13 (return_by k shape)
    by Saved pins = saved_encoded Saved shape pins few small
    by Mixed pins = saved_encoded Mixed shape pins few small
    by Arguments pins =
        let leaf = leaf_encoded shape pins small in (
          wider 9 20 (entry_by Arguments shape) (omega arith) leaf.0,
          wider 2 13 (return_by Arguments shape) (omega arith) leaf.1,
        )
