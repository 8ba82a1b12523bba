-- The layout of a body whose frame is small enough: its arrays lie within the frame, and the code over it is that of the body's own plan.
use Rattle.std.proofs.Common.{◌≡◌, ℕ, zero, suc, ◌+◌, ◌*◌, ◌<◌, ◌≤◌, Bool, true, List, [], ◌∷◌, length, All, refl, ap, ◌∙◌, arith}
use Rattle.std.specs.Prelude.{slice_index}
use Rattle.std.proofs.lemmas.Bool.{ltb-true}
use Rattle.std.proofs.lemmas.List.Elements.{All-nil, All-cons}
use Rattle.mv_ir.specs.declared.body.Body.{Body}
use Rattle.mv_ir.specs.Measures.{total}
use Rattle.mv_ir.specs.WellFormed.{is_there, named, IsWellFormed}
use Rattle.mv_ir.proofs.Rolls.{same_functions}
use Rattle.mv_select_code.specs.declared.control.layout.Space.{Space}
use Rattle.mv_select_code.specs.Control.FlowCode.{CallLines, Plan, code_of}
use Rattle.mv_select_code.specs.Control.Layouts.{array_at_in, array_size_in, IsInFrame, plan_in}
use Rattle.mv_select.specs.Calls.CallCode.{calls_of, is_marked}
use Rattle.mv_select_code.specs.Trees.TreeCode.{seats_at}
use Rattle.mv_select.specs.Functions.FunctionCode.{arrays_start, words_before, array_offset}
use Rattle.mv_select.specs.Functions.Functions.{keeping_of}
use Rattle.mv_select.specs.Functions.Pins.{pins_of}
use Rattle.mv_select.proofs.OfBodies.Lists.{each_true}
use Rattle.mv_select.specs.Selected.{spaces_behind, layout_in, plan_of, FitsFrame}
use Rattle.mv_select.proofs.SameCode.{code_same}

pub sizes_are : (word : ℕ) (sizes : List ℕ) (a : ℕ) → array_size_in (spaces_behind word sizes) a ≡ slice_index sizes a
sizes_are word [] a = refl
sizes_are word (n ∷ sizes) zero = refl
sizes_are word (n ∷ sizes) (suc a) = sizes_are (word + n) sizes a

places_are : (word : ℕ) (sizes : List ℕ) (a : ℕ) → a < length sizes → array_at_in (spaces_behind word sizes) a ≡ 4 * (word + words_before sizes a)
places_are word [] a h = absurd (omega (arith, h))
places_are word (n ∷ sizes) zero h = omega arith
places_are word (n ∷ sizes) (suc a) h = omega (arith, places_are (word + n) sizes a (omega (arith, h)))

spaces_within : (word : ℕ) (sizes : List ℕ) → 4 * (word + total sizes) ≤ 2032 → All IsInFrame (spaces_behind word sizes)
spaces_within word [] h = All-nil IsInFrame
spaces_within word (n ∷ sizes) h =
    let space : Space = record { at = 4 * word; size = n } in
    All-cons IsInFrame space (spaces_behind (word + n) sizes) (omega (arith, h)) (spaces_within (word + n) sizes (omega (arith, h)))

-- a frame that is small enough has so many words
pub few_words : (body : Body) → FitsFrame body → arrays_start body.temps + total body.arrays ≤ 508
few_words body h = omega (arith, h)

pub arrays_within : (attributed : Bool) (body : Body) → FitsFrame body → All IsInFrame (layout_in attributed body).arrays
arrays_within attributed body h = let few = few_words body h in spaces_within (arrays_start body.temps) body.arrays (omega (arith, few))

abbrev pub calls_in : Bool → Body → CallLines
calls_in attributed body = calls_of (seats_at body.rooms (keeping_of attributed body) (pins_of (keeping_of attributed body) body)) (is_marked body.marked)

-- the code over the layout is that of the body's plan
pub layout_code : (attributed : Bool) (body : Body) → IsWellFormed body → code_of (plan_in (layout_in attributed body) (calls_in attributed body)) body.code ≡ code_of (plan_of attributed body) body.code
layout_code attributed body formed =
    let spaces = spaces_behind (arrays_start body.temps) body.arrays in
    let over = plan_in (layout_in attributed body) (calls_in attributed body) in
    let sized : Plan = record over { array_size = slice_index body.arrays } in
    let sizes = same_functions (array_size_in spaces) (slice_index body.arrays) (sizes_are (arrays_start body.temps) body.arrays) in
    ap (λ array_size. code_of (record over { array_size = array_size }) body.code) sizes ∙
    code_same sized (array_offset body.temps body.arrays) (λ a. is_there body.rooms body.arrays a ≡ true) (λ a n there. there)
    (λ a there. places_are (arrays_start body.temps) body.arrays a (ltb-true a (length body.arrays) there))
    body.code (each_true (is_there body.rooms body.arrays) (named body.code) formed.named)
