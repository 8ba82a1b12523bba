-- The code of a whole function: its frame is made, its body carried out, and the frame taken down.
use Rattle.std.specs.Prelude.{ℕ, zero, suc, ◌+◌, ◌-◌, ◌*◌, ◌/◌, Bool, true, false, ◌&&◌, ◌||◌, cond, eqb, leb, ltb, max, min, slice_index, length, List, [], ◌∷◌, ◌++◌, map, ℤ, pos, ◌-ℤ◌}
use Rattle.mv_isa.specs.declared.instr.Instr.TheVariants.{Lw, Sw, Addi, Jalr}
use Rattle.mv_isa.specs.declared.labelled.Line.{Line}
use Rattle.mv_isa.specs.declared.labelled.Line.TheVariants.{Word, Label}
use Rattle.mv_isa.specs.Code.{nop}
use Rattle.mv_isa.specs.Registers.{x0, ra, sp, s1, a0, a7, s2, s10, t3}
use Rattle.mv_ir.specs.declared.stm.Stm.{Stm}
use Rattle.mv_ir.specs.declared.stm.Stm.TheOpen.{Stm-F}
use Rattle.mv_ir.specs.declared.stm.Stm.TheOpen as stm
use Rattle.mv_ir.specs.declared.stm.Stm.TheFolds.{fold-Stm}
use Rattle.mv_ir.specs.WellFormed.{all_true}
use Rattle.mv_ir.specs.Measures.{total}
use Rattle.mv_select_code.specs.Trees.TreeCode.{Seats, one, two, minus_one, temp_register, register_of, pinned_in}
use Rattle.mv_select_code.specs.declared.trees.places.Keeping.{Keeping}
use Rattle.mv_select_code.specs.declared.trees.places.Pin.{Pin}
use Rattle.mv_select_code.specs.declared.trees.places.Keeping.TheVariants.{Saved, Arguments, Mixed}
use Rattle.mv_select_code.specs.Control.FlowCode.{Plan, fall_to, code_of, only_tests}
use Rattle.mv_select.specs.Calls.CallCode.{calls_of}
use Rattle.mv_select.specs.Functions.Pins.{pin_lines, first_pin, moving_words, ArePins}

-- ---- frames, in words above sp: ra and the registers of temporaries, then temporaries, each behind the words of those before it, then the arrays

-- how many of s1 to s9 have a temporary or a number, of so many in all
abbrev pub saved_seats : Keeping → ℕ → ℕ
saved_seats Saved seated = min seated 9
saved_seats Arguments seated = 0
saved_seats Mixed seated = min (seated - 8) 9

-- the first word with a saved register: the word of ra, but that of s1 where nothing is called
abbrev pub first_saved : Keeping → ℕ
first_saved Saved = 0
first_saved Arguments = 1
first_saved Mixed = 1

-- how many registers a frame saves
abbrev pub saved_count : Keeping → ℕ → ℕ
saved_count k seated = suc (saved_seats k seated) - first_saved k

-- the register that has a word
abbrev pub saved_register : ℕ → ℕ
saved_register zero = ra
saved_register (suc t) = temp_register t

-- where the arrays begin
abbrev pub arrays_start : ℕ → ℕ
arrays_start temps = max temps 9 + 1

-- how many words the arrays before one have
abbrev pub words_before : List ℕ → ℕ → ℕ
words_before [] a = 0
words_before (n ∷ sizes) zero = 0
words_before (n ∷ sizes) (suc a) = n + words_before sizes a

-- where an array begins, in bytes
abbrev pub array_offset : ℕ → List ℕ → ℕ → ℕ
array_offset temps sizes a = 4 * (arrays_start temps + words_before sizes a)

-- how many bytes a frame has, a multiple of 16
abbrev pub frame_bytes : ℕ → List ℕ → ℕ
frame_bytes temps sizes = 16 * ((arrays_start temps + total sizes + 3) / 4)

-- ---- entry and return

-- so many registers, from a word on
abbrev pub save_lines : (first count : ℕ) → List Line
save_lines first zero = []
save_lines first (suc k) = save_lines first k ++ one (Sw sp (saved_register (first + k)) (pos (4 * (first + k))))

abbrev pub restore_lines : (first count : ℕ) → List Line
restore_lines first zero = []
restore_lines first (suc k) = restore_lines first k ++ one (Lw (saved_register (first + k)) sp (pos (4 * (first + k))))

-- the parameters come into the registers of the first temporaries
abbrev pub parameter_lines : ℕ → List Line
parameter_lines zero = []
parameter_lines (suc k) = parameter_lines k ++ one (Addi (temp_register k) (a0 + k) (pos 0))

-- an attributed function counts as live
abbrev pub enter_lines : Bool → List Line
enter_lines attributed = cond attributed (one (Addi s10 s10 (pos 1))) []

abbrev pub leave_lines : Bool → List Line
leave_lines attributed = cond attributed (one (Addi s10 s10 minus_one)) []

-- what follows where sp has moved, with so many temporaries and numbers in all; parameters that have their registers already stay there
abbrev pub lowered_lines : Keeping → Bool → (params seated : ℕ) → List Pin → List Line
lowered_lines k attributed params seated pins =
    save_lines (first_saved k) (saved_count k seated) ++ (parameter_lines (moving_words k params) ++ (pin_lines pins ++ enter_lines attributed))

abbrev pub prologue_lines : Keeping → Bool → (params seated bytes : ℕ) → List Pin → List Line
prologue_lines k attributed params seated bytes pins = Word (Addi sp sp (pos 0 -ℤ pos bytes)) ∷ lowered_lines k attributed params seated pins

abbrev pub epilogue_lines : Keeping → Bool → (seated bytes : ℕ) → List Line
epilogue_lines k attributed seated bytes =
    leave_lines attributed ++ (restore_lines (first_saved k) (saved_count k seated) ++ two (Addi sp sp (pos bytes)) (Jalr x0 ra (pos 0)))

-- ---- functions

-- the label of a function's end; those of its body come behind it
abbrev pub end_label : ℕ
end_label = 0

-- a function's own numbers: whether it is attributed, in which registers it keeps its temporaries, how many parameters and temporaries it has, the words of
-- each of its arrays, and its pins
pub record Shape : Type 0 where
  pub attributed : Bool
  pub keeping : Keeping
  pub params : ℕ
  pub temps : ℕ
  pub arrays : List ℕ
  pub pins : List Pin

-- whether a statement calls nothing, neither a function nor a known one, given whether those within it do; the test of the depth that is left of a call doesn't
abbrev pub silent_layer : Stm-F Bool → Bool
silent_layer (stm.If t a b) = all_true a && all_true b
silent_layer (stm.Loop b) = all_true b
silent_layer (stm.Block b) = all_true b
silent_layer (stm.Call r f args) = only_tests f args
silent_layer (stm.Known r k args) = false
silent_layer _ = true

unfoldable pub is_silent : Stm → Bool
is_silent = fold-Stm Bool silent_layer

-- whether some code calls nothing
abbrev pub calls_nothing : List Stm → Bool
calls_nothing code = all_true (map is_silent code)

abbrev pub bytes_of : Shape → ℕ
bytes_of shape = frame_bytes shape.temps shape.arrays

abbrev pub seats_of : (ℕ → ℕ) → Shape → Seats
seats_of place shape = record { place = place; register = register_of shape.keeping; pinned = pinned_in shape.pins }

-- how many registers temporaries and numbers come to in all
abbrev pub seated_of : Shape → ℕ
seated_of shape = first_pin shape.keeping shape.temps + length shape.pins

abbrev pub HasPins : Shape → Type 0
HasPins shape = ArePins shape.keeping shape.params shape.temps shape.pins

-- sp, s10 and s11, and s1 to s9 but so many of them
abbrev pub is_behind : (seated : ℕ) → ℕ → Bool
is_behind seated q = eqb q sp || ((eqb seated 0 && eqb q s1) || (leb (a7 + max (min seated 9) 1) q && ltb q t3))

-- The registers that the body of a function leaves alone: sp, s10 and s11, those of s1 to s9 that no temporary or number has, and ra where it calls nothing.
abbrev pub is_left_by : Keeping → (seated : ℕ) → ℕ → Bool
is_left_by Saved seated q = is_behind seated q
is_left_by Arguments seated q = eqb q ra || (eqb q sp || (eqb q s1 || (leb s2 q && ltb q t3)))
is_left_by Mixed seated q = eqb q ra || is_behind (seated - 8) q

-- what keeps all its temporaries where arguments come has a frame for arrays alone, so none where these have no words
abbrev pub move_lines : List ℕ → ℤ → List Line
move_lines sizes bytes = cond (eqb (total sizes) 0) [] (one (Addi sp sp bytes))

abbrev pub entry_by : Keeping → Shape → List Line
entry_by Saved shape = prologue_lines Saved shape.attributed shape.params (seated_of shape) (bytes_of shape) shape.pins
entry_by Arguments shape = move_lines shape.arrays (pos 0 -ℤ pos (bytes_of shape)) ++ pin_lines shape.pins
entry_by Mixed shape = prologue_lines Mixed shape.attributed shape.params (seated_of shape) (bytes_of shape) shape.pins

abbrev pub return_by : Keeping → Shape → List Line
return_by Saved shape = epilogue_lines Saved shape.attributed (seated_of shape) (bytes_of shape)
return_by Arguments shape = move_lines shape.arrays (pos (bytes_of shape)) ++ one (Jalr x0 ra (pos 0))
return_by Mixed shape = epilogue_lines Mixed shape.attributed (seated_of shape) (bytes_of shape)

-- lines that begin with a word: so no two functions begin at the same address
abbrev pub led : List Line → List Line
led (Label l ∷ lines) = Word nop ∷ Label l ∷ lines
led lines = lines

module _ (place size : ℕ → ℕ) (is_attributed : ℕ → Bool) (shape : Shape) where
  abbrev pub plan : Plan
  plan = record {
    seats = seats_of place shape;
    size = size;
    array_at = array_offset shape.temps shape.arrays;
    array_size = slice_index shape.arrays;
    end = end_label;
    calls = calls_of (seats_of place shape) is_attributed;
  }

  -- behind the body stands the label of the end
  abbrev pub body_lines : List Stm → List Line
  body_lines code = (code_of plan code).lines [] (end_label + 1) (fall_to end_label)

  -- the code behind its first instruction, where the function saves registers
  abbrev pub later_lines : List Stm → List Line
  later_lines code =
      lowered_lines shape.keeping shape.attributed shape.params (seated_of shape) shape.pins
      ++ (body_lines code ++ (Label end_label ∷ epilogue_lines shape.keeping shape.attributed (seated_of shape) (bytes_of shape)))

  abbrev pub function_lines : List Stm → List Line
  function_lines code = led (entry_by shape.keeping shape ++ (body_lines code ++ (Label end_label ∷ return_by shape.keeping shape)))
