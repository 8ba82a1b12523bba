-- What one instruction of a hart came to, as code did it.
use Rattle.std.specs.Prelude.{ℕ, ◌≡◌, ◌⊎◌, Bool, true, false, List, ◌++◌, Option, Some, None, option_map, Result, Ok, Err}
use Rattle.mv_bindings.specs.Acts.{Act}
use Rattle.mv_isa.specs.declared.instr.Instr.{Instr}
use Rattle.mv_isa.specs.declared.instr.Instr.TheVariants.{FenceI}
use Rattle.mv_probe.specs.Ways.{Way, way_after}
use Rattle.mv_machine.specs.declared.machine.Stopped.{Stopped}
use Rattle.mv_machine.specs.declared.machine.Stopped.TheVariants as answer
use Rattle.mv_harts_runs.specs.Harts.{Elsewhere, Store, is_in_text, Hart, Move, executes, fails}
use Rattle.mv_harts_one.specs.declared.seat.Seat.{Seat}
use Rattle.mv_harts_one.specs.Seats.{Sits, is_under}

-- FENCE.I, behind which no commit is under way
abbrev pub is_fence_i : Option Instr → Bool
is_fence_i (Some FenceI) = true
is_fence_i i = false

abbrev pub wants_memory : Option Stopped → Bool
wants_memory (Some answer.Memory) = true
wants_memory stopped = false

-- the instructions that an answer executed: none where a read or a write failed
abbrev pub counted : Option Stopped → ℕ
counted (Some answer.InputFault) = 0
counted (Some answer.OutputFault) = 0
counted stopped = 1

-- the device that failed is the one whose count of faults rose
abbrev pub IsFaultOf : Option Stopped → (input_rose output_rose : Type 0) → Type 0
IsFaultOf (Some answer.InputFault) input_rose output_rose = input_rose
IsFaultOf (Some answer.OutputFault) input_rose output_rose = output_rose
IsFaultOf stopped input_rose output_rose = ⊥

-- It was executed: the seat is the hart behind it, and what this one has written stands in the sink.
pub record HasExecuted (number : ℕ) (o : Hart) (act : Act) (m : Move) (seat : Seat) (now : Bool) (left written written' : Option (List ℕ)) : Type 0 where
  pub bytes : List ℕ
  pub has_left : left ≡ Some bytes
  pub sits : Sits number seat bytes (executes o act m)
  pub under : now ≡ is_under m.under
  pub more : List ℕ
  pub output : m.state.output ≡ o.state.output ++ more
  pub wrote : written' ≡ option_map (λ before. before ++ more) written

-- it is a read or a write that failed, which changes nothing else
pub record HasFailed (number : ℕ) (o : Hart) (m : Move) (seat : Seat) (was now : Bool) (bytes : List ℕ) (left written written' : Option (List ℕ)) (input_rose output_rose : Type 0) : Type 0 where
  pub outside : m.outside ≡ true
  pub place : m.place ≡ Elsewhere
  pub has_left : left ≡ Some bytes
  pub sits : Sits number seat bytes (fails o)
  pub under : now ≡ was
  pub wrote : written' ≡ written
  pub fault : IsFaultOf seat.stop input_rose output_rose

-- a store is into text
abbrev pub is_into_text : Option Store → Bool
is_into_text None = false
is_into_text (Some st) = is_in_text st.address

-- It was executed, and neither another hart nor a device has to do with it: no store is shared, nothing is read or written, and no commit is
-- under way behind it that wasn't before.
pub record HasAdvanced (number : ℕ) (o : Hart) (act : Act) (m : Move) (seat : Seat) (bytes : List ℕ) : Type 0 where
  pub place : m.place ≡ Elsewhere
  pub store : is_into_text m.store ≡ false
  pub sits : Sits number seat bytes (executes o act m)
  pub under : m.under ≡ None
  pub output : m.state.output ≡ o.state.output

-- One instruction, which was handed an act. The answer is whether the commit of hart 0 is under way behind it, as it was before or not; the oracle was asked once.
abbrev pub Did : {E : Type 0} → Result Bool E
    → (number : ℕ) (o : Hart) (act : Act) (m : Move) (seat : Seat) (was : Bool) (bytes : List ℕ) (left written written' : Option (List ℕ))
    (way way' : Option Way) (input_rose output_rose : Type 0) → Type 0
Did (Ok now) number o act m seat was bytes left written written' way way' input_rose output_rose =
    (way' ≡ option_map (λ w. way_after w 1) way)
    × (HasExecuted number o act m seat now left written written' ⊎ HasFailed number o m seat was now bytes left written written' input_rose output_rose)
Did (Err e) number o act m seat was bytes left written written' way way' input_rose output_rose = written' ≡ written
