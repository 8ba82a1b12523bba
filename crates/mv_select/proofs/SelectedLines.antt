-- The lines of a whole body: its labels, what it names, and its encodings.
use Rattle.std.proofs.Common.{◌≡◌, ⊎_elim, ℕ, suc, ◌+◌, ◌<◌, ◌≤◌, Bool, cond, List, [], ◌∷◌, ◌++◌, All, count_by, refl, ap, subst, arith, eq-eqb}
use Rattle.std.proofs.lemmas.Bool.{cases_lt, ne_eqb}
use Rattle.std.proofs.lemmas.List.Elements.{All-append, All-cons, All-nil}
use Rattle.mv_isa.specs.declared.labelled.Line.{Line}
use Rattle.mv_isa.specs.declared.labelled.Line.TheVariants.{Word, Label, Jump, Branch, Entry, Slot, Point}
use Rattle.mv_isa.specs.Code.{nop, LineFits, StandsOnce, TargetStands, is_label}
use Rattle.mv_ir.specs.declared.body.Body.{Body}
use Rattle.mv_select_code.specs.Trees.Rooms.{place_in}
use Rattle.mv_select_code.specs.Trees.TreeCode.{one, seats_at}
use Rattle.mv_select_code.specs.Trees.View.{IsPin}
use Rattle.mv_select_code.specs.declared.trees.places.Keeping.{Keeping}
use Rattle.mv_select_code.specs.declared.trees.places.Keeping.TheVariants.{Saved, Arguments, Mixed}
use Rattle.mv_select_code.specs.Control.Layouts.{size_in}
use Rattle.mv_select_code.proofs.OfTrees.KeepingSeats.{keeping_seats}
use Rattle.mv_select_code.proofs.OfTrees.TreesFit.{small_fits}
use Rattle.mv_select_code.specs.Statements.Encoded.{IsCode}
use Rattle.mv_select_code.proofs.OfStatements.EncodedCode.{both, wider, single}
use Rattle.mv_select_code.specs.declared.control.enclosing.Enclosing.{Enclosing}
use Rattle.mv_select_code.specs.Control.FlowCode.{Emitted, fall_to, code_of}
use Rattle.mv_select_code.specs.Control.Encoded.{most_words}
use Rattle.mv_select_code.specs.Control.Labels.{Names, CallsName, OwnLabels}
use Rattle.mv_select_code.proofs.OfControl.FlowEncoded.{flow_encoded}
use Rattle.mv_select_code.proofs.OfControl.LabelsOwn.{none, silent_own, both_own, labels_own}
use Rattle.mv_select_code.proofs.OfControl.StatementsAreMade.{names_made}
use Rattle.mv_select_code.proofs.OfControl.TargetsStand.{stand_made, targets_stand}
use Rattle.mv_select_code.proofs.OfControl.TreeNames.{AnyNumber}
use Rattle.mv_select.specs.Calls.CallCode.{is_marked}
use Rattle.mv_select.specs.Calls.Lines.{StubsStand}
use Rattle.mv_select.proofs.OfCalls.CallsEncoded.{calls_encoded}
use Rattle.mv_select.proofs.OfCalls.CallsName.{calls_have_no_labels, call_targets_stand}
use Rattle.mv_select.specs.Functions.FunctionCode.{Shape, bytes_of, entry_by, return_by, led}
use Rattle.mv_select.specs.Functions.Functions.{keeping_of, shape_of}
use Rattle.mv_select.specs.Functions.Pins.{ArePins, first_pin, pins_of}
use Rattle.mv_select.proofs.OfFunctions.Pins.{pins_within}
use Rattle.mv_select.proofs.OfFunctions.PinsChosen.{pins_are}
use Rattle.mv_select.proofs.OfBodies.Addresses.{function_opens}
use Rattle.mv_select.proofs.OfFunctions.EncodedFrames.{saved_encoded, leaf_encoded}
use Rattle.mv_select.proofs.OfFunctions.FramesAreMade.{entry_made, return_made, led_made}
use Rattle.mv_select.specs.Selected.{layout_in, plan_of, selected_lines}
use Rattle.mv_select.specs.Laws.{greatest_length, SelectedIsEncoded, SelectedLabelsAreOwn, SelectedTargetsStand, SelectedOpens, SelectedBegins}
use Rattle.mv_select.proofs.Layouts.{calls_in, arrays_within, layout_code}
use Rattle.mv_select.proofs.Within.{has_small_code}
use Rattle.mv_isa.proofs.Common.{count_append}

module _ (attributed : Bool) (body : Body) where
  abbrev pub entry : List Line
  entry = entry_by (keeping_of attributed body) (shape_of attributed body)

  abbrev pub return : List Line
  return = return_by (keeping_of attributed body) (shape_of attributed body)

  -- the code between them
  abbrev pub inner : Emitted
  inner = code_of (plan_of attributed body) body.code

-- ---- labels

end_here : (l : ℕ) → l < 1 → count_by (is_label l) (Label 0 ∷ []) ≡ 1
end_here l h = ap (λ b. 0 + cond b 1 0) (eq-eqb 0 l (omega (arith, h)))

end_elsewhere : (l : ℕ) → 0 < l → count_by (is_label l) (Label 0 ∷ []) ≡ 0
end_elsewhere l h = ap (λ b. 0 + cond b 1 0) (ne_eqb 0 l (λ e. omega (arith, h, e)))

-- the labels of a body behind that of its end
end_own : (n : ℕ) (b rest : List Line) → OwnLabels 1 n b → All (Names AnyNumber) rest → OwnLabels 0 (suc n) (b ++ (Label 0 ∷ rest))
end_own n b rest h names = record {
  own = λ l p q.
      ⊎_elim (λ lt. omega (arith, count_append l b (Label 0 ∷ rest), count_append l (Label 0 ∷ []) rest, none AnyNumber rest names l, h.before l lt, end_here l lt))
      (λ le. omega (arith, count_append l b (Label 0 ∷ rest), count_append l (Label 0 ∷ []) rest, none AnyNumber rest names l, h.own l le (omega (arith, q)), end_elsewhere l (omega (arith, le))))
      (cases_lt l 1);
  before = λ l p. absurd (omega (arith, p));
  after = λ l p.
      omega (arith, count_append l b (Label 0 ∷ rest), count_append l (Label 0 ∷ []) rest, none AnyNumber rest names l, h.after l (omega (arith, p)), end_elsewhere l (omega (arith, p)));
}

-- a word before them has no label
led_own : (n : ℕ) (lines : List Line) → OwnLabels 0 n lines → OwnLabels 0 n (led lines)
led_own n [] h = h
led_own n (Label l ∷ lines) h =
    let count : 0 + n ≡ n = omega arith in
    subst (λ m. OwnLabels 0 m (Word nop ∷ Label l ∷ lines)) count (both_own 0 0 n (one nop) (Label l ∷ lines) (silent_own AnyNumber 0 (one nop) ((names_made AnyNumber).word nop)) h)
led_own n (Word i ∷ lines) h = h
led_own n (Jump rd l ∷ lines) h = h
led_own n (Branch funct3 a b l ∷ lines) h = h
led_own n (Entry rd f ∷ lines) h = h
led_own n (Slot f ∷ lines) h = h
led_own n (Point a ∷ lines) h = h

pub selected_labels_own : SelectedLabelsAreOwn
selected_labels_own attributed body =
    let start = entry attributed body in
    let stop = return attributed body in
    let code = inner attributed body in
    let k = keeping_of attributed body in
    let shape = shape_of attributed body in
    let lines = code.lines [] 1 (fall_to 0) in
    let calls = calls_have_no_labels (seats_at body.rooms k (pins_of k body)) (is_marked body.marked) in
    let rest = end_own code.labels lines stop (labels_own (plan_of attributed body) calls body.code [] 1 (fall_to 0))
    (return_made (names_made AnyNumber) k shape) in
    let count : 0 + suc code.labels ≡ suc code.labels = omega arith in
    subst (λ n. OwnLabels 0 n (selected_lines attributed body)) count
    (led_own (0 + suc code.labels) (start ++ (lines ++ (Label 0 ∷ stop)))
    (both_own 0 0 (suc code.labels) start (lines ++ (Label 0 ∷ stop)) (silent_own AnyNumber 0 start (entry_made (names_made AnyNumber) k shape)) rest))

-- ---- what it names

pub selected_targets_stand : SelectedTargetsStand
selected_targets_stand whole attributed body h =
    let start = entry attributed body in
    let stop = return attributed body in
    let k = keeping_of attributed body in
    let shape = shape_of attributed body in
    let lines = (inner attributed body).lines [] 1 (fall_to 0) in
    let P = StandsOnce whole in
    let stubs : StubsStand whole = record { null = h.traps 3 (omega arith) (omega arith); depth = h.traps 4 (omega arith) (omega arith); commit = h.commit } in
    let calls : CallsName P (calls_in attributed body) = call_targets_stand whole stubs (seats_at body.rooms k (pins_of k body)) (is_marked body.marked) in
    let within = targets_stand whole (plan_of attributed body) calls body.code [] 1 (fall_to 0) (record {
      behind = h.own 0 (omega arith);
      own = λ l p q. h.own l (omega (arith, q));
      starts = All-nil (λ (e : Enclosing). P e.start);
      ends = All-nil (λ (e : Enclosing). P e.end);
      end = h.own 0 (omega arith);
      division = h.traps 1 (omega arith) (omega arith);
      index = h.traps 2 (omega arith) (omega arith);
      functions = h.named;
      entries = h.entries;
      check = h.check;
    }) in
    led_made (stand_made whole) (start ++ (lines ++ (Label 0 ∷ stop)))
    (All-append (TargetStands whole) start (lines ++ (Label 0 ∷ stop)) (entry_made (stand_made whole) k shape)
    (All-append (TargetStands whole) lines (Label 0 ∷ stop) within
    (All-cons (TargetStands whole) (Label 0) stop tt (return_made (stand_made whole) k shape))))

-- ---- encodings

-- a word at most is put before lines
led_code : (n : ℕ) (lines : List Line) → IsCode n lines → IsCode (n + 1) (led lines)
led_code n [] h = wider n (n + 1) [] (omega arith) h
led_code n (Label l ∷ lines) h =
    wider (1 + n) (n + 1) (Word nop ∷ Label l ∷ lines) (omega arith) (both 1 n (one nop) (Label l ∷ lines) (single nop (omega arith, omega arith, small_fits 0 (omega arith))) h)
led_code n (Word i ∷ lines) h = wider n (n + 1) (Word i ∷ lines) (omega arith) h
led_code n (Jump rd l ∷ lines) h = wider n (n + 1) (Jump rd l ∷ lines) (omega arith) h
led_code n (Branch funct3 a b l ∷ lines) h = wider n (n + 1) (Branch funct3 a b l ∷ lines) (omega arith) h
led_code n (Entry rd f ∷ lines) h = wider n (n + 1) (Entry rd f ∷ lines) (omega arith) h
led_code n (Slot f ∷ lines) h = wider n (n + 1) (Slot f ∷ lines) (omega arith) h
led_code n (Point a ∷ lines) h = wider n (n + 1) (Point a ∷ lines) (omega arith) h

-- what is around the lines of a body has at most 33 words, where it is entered by a word or by one less
around : (shape : Shape) → shape.params ≤ 8 → bytes_of shape ≤ 2032 → (n : ℕ) (lines : List Line) → IsCode n lines → (k : Keeping)
    → ArePins k shape.params shape.temps shape.pins → IsCode (33 + n) (led (entry_by k shape ++ (lines ++ (Label 0 ∷ return_by k shape))))
around shape few fits n lines within k = by k
  where
    end : IsCode 0 (Label 0 ∷ [])
    end = (All-cons LineFits (Label 0) [] tt (All-nil LineFits), omega arith)

    parts : (k : Keeping) (a b : ℕ) → IsCode a (entry_by k shape) → IsCode b (return_by k shape) → IsCode (a + (n + (0 + b))) (entry_by k shape ++ (lines ++ (Label 0 ∷ return_by k shape)))
    parts k a b first last =
        let stop = return_by k shape in
        both a (n + (0 + b)) (entry_by k shape) (lines ++ (Label 0 ∷ stop)) first (both n (0 + b) lines (Label 0 ∷ stop) within (both 0 b (Label 0 ∷ []) stop end last))

    by : (k : Keeping) → ArePins k shape.params shape.temps shape.pins → IsCode (33 + n) (led (entry_by k shape ++ (lines ++ (Label 0 ∷ return_by k shape))))
    by Saved pins =
        let frames = saved_encoded Saved shape pins few fits in
        wider (20 + (n + (0 + 13))) (33 + n) (entry_by Saved shape ++ (lines ++ (Label 0 ∷ return_by Saved shape))) (omega arith) (parts Saved 20 13 frames.0 frames.1)
    by Mixed pins =
        let frames = saved_encoded Mixed shape pins few fits in
        wider (20 + (n + (0 + 13))) (33 + n) (entry_by Mixed shape ++ (lines ++ (Label 0 ∷ return_by Mixed shape))) (omega arith) (parts Mixed 20 13 frames.0 frames.1)
    by Arguments pins =
        let frames = leaf_encoded shape pins fits in
        let all = entry_by Arguments shape ++ (lines ++ (Label 0 ∷ return_by Arguments shape)) in
        wider (9 + (n + (0 + 2)) + 1) (33 + n) (led all) (omega arith) (led_code (9 + (n + (0 + 2))) all (parts Arguments 9 2 frames.0 frames.1))

pub selected_encoded : SelectedIsEncoded
selected_encoded attributed body suitable fits =
    let k = keeping_of attributed body in
    let lines = (inner attributed body).lines [] 1 (fall_to 0) in
    let n = most_words body.code + 0 in
    let pins = pins_are k body in
    let real : All IsPin (pins_of k body) = pins_within k (first_pin k body.temps) (pins_of k body) pins.stand in
    let over = flow_encoded (layout_in attributed body) (arrays_within attributed body fits) real (calls_in attributed body)
    (calls_encoded (seats_at body.rooms k (pins_of k body)) (keeping_seats (place_in body.rooms) k (pins_of k body) real) (is_marked body.marked)) body.code (has_small_code attributed body suitable fits).1 [] 1 (fall_to 0) in
    let within : IsCode n lines = subst (λ (c : Emitted). IsCode n (c.lines [] 1 (fall_to 0))) (layout_code attributed body suitable.formed) over in
    wider (33 + n) (greatest_length body) (selected_lines attributed body) (omega arith) (around (shape_of attributed body) suitable.formed.params fits n lines within k pins)

-- ---- the first line

pub selected_opens : SelectedOpens
selected_opens attributed body = function_opens (place_in body.rooms) (size_in body.rooms) (is_marked body.marked) (shape_of attributed body) body.code

pub selected_begins : SelectedBegins
selected_begins body = (_, refl)
