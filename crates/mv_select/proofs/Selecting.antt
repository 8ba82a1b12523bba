-- The code that is written for a body is what is to be selected.
use Rattle.std.proofs.Common.{◌≡◌, ℕ, ◌+◌, ◌<◌, ◌^◌, Bool, List, [], ◌∷◌, ◌++◌, sym, ap, ◌∙◌, subst, arith, append_assoc}
use Rattle.mv_isa.specs.declared.labelled.Line.{Line}
use Rattle.mv_isa.specs.declared.labelled.Line.TheVariants.{Label}
use Rattle.mv_isa.specs.declared.labelled.Labelled.{Labelled}
use Rattle.mv_ir.specs.declared.body.Body.{Body}
use Rattle.mv_ir.specs.declared.body.Room.{Room}
use Rattle.mv_select_code.specs.Trees.TreeCode.{seats_at}
use Rattle.mv_select_code.specs.declared.trees.places.Keeping.{Keeping}
use Rattle.mv_select_code.specs.declared.trees.places.Pin.{Pin}
use Rattle.mv_select_code.specs.declared.control.enclosing.Enclosing.{Enclosing}
use Rattle.mv_select_code.specs.declared.control.layout.Layout.{Layout}
use Rattle.mv_select_code.specs.Control.FlowCode.{Emitted, fall_to, code_of}
use Rattle.mv_select_code.specs.Control.Labels.{OwnLabels}
use Rattle.mv_select_code.specs.Control.Layouts.{plan_in}
use Rattle.mv_select_code.proofs.OfControl.LabelsOwn.{labels_few}
use Rattle.mv_select.specs.Calls.CallCode.{calls_of, is_marked}
use Rattle.mv_select.specs.Functions.FunctionCode.{Shape, entry_by, return_by, led}
use Rattle.mv_select.specs.Functions.Functions.{keeping_of, shape_of}
use Rattle.mv_select.specs.Functions.Pins.{pins_of}
use Rattle.mv_select.specs.Selected.{layout_in, plan_of, selected_lines, selected_labels, IsSuitable, FitsFrame, IsSelected}
use Rattle.mv_select.proofs.Layouts.{calls_in, layout_code}
use Rattle.mv_select.proofs.SelectedLines.{entry, return, inner, selected_labels_own}

abbrev pub own_pins : Bool → Body → List Pin
own_pins attributed body = pins_of (keeping_of attributed body) body

abbrev pub over_layout : Bool → Body → Emitted
over_layout attributed body = code_of (plan_in (layout_in attributed body) (calls_in attributed body)) body.code

-- the labels of a body are words
pub labels_fit : (attributed : Bool) (body : Body) → IsSuitable body → 1 + (over_layout attributed body).labels < 2 ^ 32
labels_fit attributed body suitable =
    let few = labels_few (plan_in (layout_in attributed body) (calls_in attributed body)) body.code in
    let size = suitable.formed.size in
    omega (arith, few, size)

-- the same over what is known to be the layout and the names of calls
pub over_same : (attributed : Bool) (body : Body) (layout : Layout) (k : Keeping) (pins : List Pin) (rooms : List Room) (marked : List ℕ) → layout ≡ layout_in attributed body
    → k ≡ keeping_of attributed body → pins ≡ own_pins attributed body → rooms ≡ body.rooms → marked ≡ body.marked
    → code_of (plan_in layout (calls_of (seats_at rooms k pins) (is_marked marked))) body.code ≡ over_layout attributed body
over_same attributed body layout k pins rooms marked of_layout of_keeping of_pins of_rooms of_marked =
    ap (λ (y : Layout). code_of (plan_in y (calls_of (seats_at rooms k pins) (is_marked marked))) body.code) of_layout ∙
    ap (λ (x : Keeping). code_of (plan_in (layout_in attributed body) (calls_of (seats_at rooms x pins) (is_marked marked))) body.code) of_keeping ∙
    ap (λ (ps : List Pin). code_of (plan_in (layout_in attributed body) (calls_of (seats_at rooms (keeping_of attributed body) ps) (is_marked marked))) body.code) of_pins ∙
    ap (λ (r : List Room). code_of (plan_in (layout_in attributed body) (calls_of (seats_at r (keeping_of attributed body) (own_pins attributed body)) (is_marked marked))) body.code) of_rooms ∙
    ap (λ (m : List ℕ). code_of (plan_in (layout_in attributed body) (calls_of (seats_at body.rooms (keeping_of attributed body) (own_pins attributed body)) (is_marked m))) body.code) of_marked

-- the shape as it is put together
abbrev pub shape_with : Bool → Keeping → Body → List ℕ → List Pin → Shape
shape_with attributed k body arrays pins = record { attributed = attributed; keeping = k; params = body.params; temps = body.temps; arrays = arrays; pins = pins }

pub shaped : (attributed : Bool) (body : Body) (k : Keeping) (arrays : List ℕ) (pins : List Pin) → k ≡ keeping_of attributed body → arrays ≡ body.arrays → pins ≡ own_pins attributed body
    → shape_with attributed k body arrays pins ≡ shape_of attributed body
shaped attributed body k arrays pins of_keeping of_arrays of_pins =
    ap (λ (x : Keeping). shape_with attributed x body arrays pins) of_keeping ∙ ap (λ (xs : List ℕ). shape_with attributed (keeping_of attributed body) body xs pins) of_arrays ∙
    ap (λ (ps : List Pin). shape_with attributed (keeping_of attributed body) body body.arrays ps) of_pins

-- what is written one behind the other
abbrev pub written : Bool → Body → List Line
written attributed body = ((entry attributed body ++ (over_layout attributed body).lines [] 1 (fall_to 0)) ++ (Label 0 ∷ [])) ++ return attributed body

pub written_lines : (attributed : Bool) (body : Body) → IsSuitable body → led (written attributed body) ≡ selected_lines attributed body
written_lines attributed body suitable =
    let start = entry attributed body in
    let stop = return attributed body in
    let over = (over_layout attributed body).lines [] 1 (fall_to 0) in
    let lines = (inner attributed body).lines [] 1 (fall_to 0) in
    let end = Label 0 ∷ [] in
    let same : over ≡ lines = ap (λ (c : Emitted). c.lines [] 1 (fall_to 0)) (layout_code attributed body suitable.formed) in
    ap led (append_assoc (start ++ over) end stop ∙ append_assoc start over (end ++ stop) ∙ ap (λ ls. start ++ (ls ++ (Label 0 ∷ stop))) same)

pub selected : (attributed : Bool) (body : Body) → IsSuitable body → FitsFrame body → (code : Labelled) → code.items ≡ led (written attributed body)
    → code.labels ≡ 1 + (over_layout attributed body).labels → IsSelected attributed body code
selected attributed body suitable fits code items labels =
    let lines : code.items ≡ selected_lines attributed body = items ∙ written_lines attributed body suitable in
    let counts = ap (λ (c : Emitted). c.labels) (layout_code attributed body suitable.formed) in
    let count : code.labels ≡ selected_labels attributed body = omega (arith, labels, counts) in
    let few = labels_few (plan_of attributed body) body.code in
    record {
      items = lines;
      frame = fits;
      labels = subst (λ ls. OwnLabels 0 code.labels ls) (sym lines) (subst (λ n. OwnLabels 0 n (selected_lines attributed body)) (sym count) (selected_labels_own attributed body));
      few = omega (arith, count, few);
    }

-- the parts, each put behind the others
pub put_together : (attributed : Bool) (body : Body) (shape : Shape) (free : ℕ) (around : List Enclosing) (code : Emitted) (none start middle ended last : List Line) →
    shape ≡ shape_of attributed body → free ≡ 1 → around ≡ [] → code ≡ over_layout attributed body → none ≡ [] →
    start ≡ none ++ entry_by shape.keeping shape → middle ≡ start ++ code.lines around free (fall_to 0) → ended ≡ middle ++ (Label 0 ∷ []) →
    last ≡ ended ++ return_by shape.keeping shape → last ≡ written attributed body
put_together attributed body shape free around code none start middle ended last of_shape first outside is nothing at_start at_middle at_end at_last =
    let over = over_layout attributed body in
    let begin = entry attributed body in
    let starts : start ≡ begin = at_start ∙ ap (λ ls. ls ++ entry_by shape.keeping shape) nothing ∙ ap (λ (s : Shape). entry_by s.keeping s) of_shape in
    let inside : code.lines around free (fall_to 0) ≡ over.lines [] 1 (fall_to 0) =
    ap (λ (c : Emitted). c.lines around free (fall_to 0)) is ∙ ap (λ (es : List Enclosing). over.lines es free (fall_to 0)) outside ∙ ap (λ n. over.lines [] n (fall_to 0)) first in
    let middles : middle ≡ begin ++ over.lines [] 1 (fall_to 0) = at_middle ∙ ap (λ ls. ls ++ code.lines around free (fall_to 0)) starts ∙ ap (λ ls. begin ++ ls) inside in
    let ends : ended ≡ (begin ++ over.lines [] 1 (fall_to 0)) ++ (Label 0 ∷ []) = at_end ∙ ap (λ ls. ls ++ (Label 0 ∷ [])) middles in
    at_last ∙ ap (λ ls. ls ++ return_by shape.keeping shape) ends ∙
    ap (λ (s : Shape). ((begin ++ over.lines [] 1 (fall_to 0)) ++ (Label 0 ∷ [])) ++ return_by s.keeping s) of_shape
