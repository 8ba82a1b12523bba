-- What the code of a whole function names.
use Rattle.std.proofs.Common.{◌≡◌, ℕ, ◌+◌, ◌<◌, Bool, true, List, [], ◌∷◌, ◌++◌, None, All, inl, inr, refl, arith, lit≤}
use Rattle.std.proofs.lemmas.List.Elements.{All-nil, All-weaker}
use Rattle.mv_isa.specs.declared.labelled.Line.TheVariants.{Label}
use Rattle.mv_ir.specs.declared.stm.Stm.{Stm}
use Rattle.mv_select_code.specs.Statements.StatementCode.{trap_label}
use Rattle.mv_select_code.specs.declared.control.enclosing.Enclosing.{Enclosing}
use Rattle.mv_select_code.specs.Control.FlowCode.{fall_to}
use Rattle.mv_select_code.specs.Control.Labels.{call_label, functions, pointers}
use Rattle.mv_select_code.proofs.OfControl.TreeNames.{AnyNumber, all_any}
use Rattle.mv_select_code.proofs.OfControl.CodeIsMade.{code_made}
use Rattle.mv_select.specs.Calls.CallCode.{commit_label}
use Rattle.mv_select.proofs.OfCalls.CallsAreMade.{call_made, known_made}
use Rattle.mv_select.specs.Functions.FunctionCode.{Shape, seats_of, end_label, plan, body_lines, entry_by, return_by, function_lines}
use Rattle.mv_select.proofs.OfFunctions.FramesAreMade.{entry_made, return_made, led_made}
use Rattle.mv_select.specs.Bodies.Lines.{IsGoal, IsCalled, IsApart, labels_of, LinesAreNamed}
use Rattle.mv_select.proofs.OfBodies.LinesNamed.{AllName, names_made, stub_names, slot_names, point_names}

module _ (place size : ℕ → ℕ) (is_attributed : ℕ → Bool) (shape : Shape) (code : List Stm) where
  module _ (L P C Q S A : ℕ → Type 0) (null : P (trap_label 3)) (depth : P (trap_label 4)) (commit : C commit_label) (slots : (f : ℕ) → Q f → is_attributed f ≡ true → S f)
      (called : All (λ f. C (call_label f)) (functions code))
      (division : P (trap_label 1)) (index : P (trap_label 2)) (own : (l : ℕ) → l < labels_of place size is_attributed shape code → L l × P l) (named : All Q (functions code))
      (points : All (λ g. A (place g)) (pointers code)) where
    function_named : AllName L P C Q S A (function_lines place size is_attributed shape code)
    function_named =
        let made = names_made L P C Q S A in
        let seats = seats_of place shape in
        let start = entry_by shape.keeping shape in
        let stop = return_by shape.keeping shape in
        let body = body_lines place size is_attributed shape code in
        let end = own end_label (omega arith) in
        let call = call_made made (slot_names L P C Q S A) (λ f. stub_names L P C Q S A (call_label f)) (point_names L P C Q S A) null depth seats is_attributed slots in
        let known = known_made made (stub_names L P C Q S A commit_label commit) seats in
        led_made made (start ++ (body ++ (Label end_label ∷ stop)))
        (made.after start (body ++ (Label end_label ∷ stop)) (entry_made made shape.keeping shape)
        (made.after body (Label end_label ∷ stop)
        (code_made made (plan place size is_attributed shape) (λ f. C (call_label f)) (λ g. A (place g)) call known end.1 division index code []
        (All-nil (λ (e : Enclosing). P e.start)) (All-nil (λ (e : Enclosing). P e.end)) (fall_to end_label) end.1 (end_label + 1)
        (λ l from to. own l (omega (arith, to))) named called points)
        (made.after (Label end_label ∷ []) stop (made.label end_label end.0) (return_made made shape.keeping shape))))

  -- whatever it names, slots stand where they may
  pub function_apart : IsApart None (function_lines place size is_attributed shape code)
  function_apart =
      (function_named AnyNumber AnyNumber AnyNumber AnyNumber AnyNumber AnyNumber tt tt tt (λ f named marked. tt)
      (all_any (functions code)) tt tt (λ l lt. (tt, tt)) (all_any (functions code)) (all_any (pointers code))).1

pub lines_named : LinesAreNamed
lines_named place size is_attributed shape code is_named is_pointer named points =
    let labels = labels_of place size is_attributed shape code in
    (function_named place size is_attributed shape code (λ l. l < labels) (IsGoal labels) (IsCalled is_named) (λ f. is_named f ≡ true)
    (λ f. (is_named f ≡ true) × (is_attributed f ≡ true)) (λ a. is_pointer a ≡ true) (inr (lit≤ tt, lit≤ tt)) (inr (lit≤ tt, lit≤ tt)) (inl refl) (λ f there marked. (there, marked))
    (All-weaker (λ f. is_named f ≡ true) (λ f. IsCalled is_named (call_label f)) (λ f h. inr (f, refl, h)) (functions code) named) (inr (lit≤ tt, lit≤ tt)) (inr (lit≤ tt, lit≤ tt))
    (λ l lt. (lt, inl lt)) named points).0
