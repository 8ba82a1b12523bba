-- The code of a body, which bodies have one, and why another has none.
use Rattle.std.specs.Prelude.{ℕ, suc, ◌≡◌, ◌+◌, ◌*◌, ◌<◌, ◌≤◌, Bool, min, List, [], ◌∷◌, All}
use Rattle.mv_num.specs.Limits.{slot_limit}
use Rattle.mv_isa.specs.declared.labelled.Line.{Line}
use Rattle.mv_isa.specs.declared.labelled.Labelled.{Labelled}
use Rattle.mv_ir.specs.declared.body.Body.{Body}
use Rattle.mv_ir.specs.Measures.{total, statements, deepest}
use Rattle.mv_ir.specs.WellFormed.{IsWellFormed}
use Rattle.mv_select_code.specs.Trees.Rooms.{place_in}
use Rattle.mv_select_code.specs.declared.control.layout.Space.{Space}
use Rattle.mv_select_code.specs.declared.control.layout.Layout.{Layout}
use Rattle.mv_select_code.specs.Control.FlowCode.{Plan as PlanOfCode, code_of}
use Rattle.mv_select_code.specs.Control.Labels.{OwnLabels}
use Rattle.mv_select_code.specs.Control.Layouts.{size_in}
use Rattle.mv_select.specs.Calls.CallCode.{is_marked}
use Rattle.mv_select.specs.Calls.Convention.{frame_limit}
use Rattle.mv_select.specs.Functions.FunctionCode.{arrays_start, frame_bytes, end_label, plan, function_lines}
use Rattle.mv_select.specs.Functions.Functions.{keeping_of, shape_of}
use Rattle.mv_select.specs.Functions.Pins.{pins_of}
use Rattle.mv_select.specs.Bodies.SelectedBodies.{IsOrder, knowns}
use Rattle.mv_select.specs.declared.error.SelectError.{SelectError}
use Rattle.mv_select.specs.declared.error.SelectError.TheVariants.{Frame, Memory}

-- ---- layouts

-- the spaces of arrays of so many words each, one behind the other from a word above sp on
abbrev pub spaces_behind : ℕ → List ℕ → List Space
spaces_behind word [] = []
spaces_behind word (n ∷ sizes) = record { at = 4 * word; size = n } ∷ spaces_behind (word + n) sizes

-- where things stand that a body names
abbrev pub layout_in : Bool → Body → Layout
layout_in attributed body = record {
  rooms = body.rooms;
  keeping = keeping_of attributed body;
  pins = pins_of (keeping_of attributed body) body;
  arrays = spaces_behind (arrays_start body.temps) body.arrays;
  end = end_label;
}

-- ---- code

abbrev pub plan_of : Bool → Body → PlanOfCode
plan_of attributed body = plan (place_in body.rooms) (size_in body.rooms) (is_marked body.marked) (shape_of attributed body)

-- the code of a body, with the addresses and sizes that its rooms give
abbrev pub selected_lines : Bool → Body → List Line
selected_lines attributed body = function_lines (place_in body.rooms) (size_in body.rooms) (is_marked body.marked) (shape_of attributed body) body.code

-- how many labels it has: that of its end, and those of its statements
abbrev pub selected_labels : Bool → Body → ℕ
selected_labels attributed body = suc (code_of (plan_of attributed body) body.code).labels

-- ---- bodies

-- A well-formed body with registers for its trees, whose orders are a byte and a word. With a frame that is small enough it is within the limits of
-- selection, as `IsWithin` of `mv_select::bodies` says.
pub record IsSuitable (body : Body) : Type 0 where
  pub formed : IsWellFormed body
  pub shallow : deepest body.code ≤ 4
  pub orders : All IsOrder (knowns body.code)

-- its frame is small enough
abbrev pub FitsFrame : Body → Type 0
FitsFrame body = frame_bytes body.temps body.arrays ≤ frame_limit

-- ---- results

-- Code of a body whose frame is small enough. Each label below `labels` stands once in it, and no other does; these are few.
pub record IsSelected (attributed : Bool) (body : Body) (code : Labelled) : Type 0 where
  pub items : code.items ≡ selected_lines attributed body
  pub frame : FitsFrame body
  pub labels : OwnLabels 0 code.labels code.items
  pub few : code.labels ≤ 3 * statements body.code + 1

-- The frame of a function isn't small enough, and what is named are the function and the frame's bytes, as far as a `u64` goes. Its temporaries and
-- the words of its arrays are many.
pub record PassesFrame (function : ℕ) (body : Body) (named bytes : ℕ) : Type 0 where
  pub is_function : named ≡ function
  pub count : bytes ≡ min (frame_bytes body.temps body.arrays) 18446744073709551615
  pub past : frame_limit < frame_bytes body.temps body.arrays
  pub many : slot_limit < body.temps + total body.arrays

-- a fact of the function and the bytes that are named
abbrev pub OnFrame : SelectError → (ℕ → ℕ → Type 0) → Type 0
OnFrame (Frame function bytes) P = P function bytes
OnFrame (Memory e) P = Unit {0}
