-- Which labels the code of calls names; no label stands there.
use Rattle.std.proofs.Common.{ℕ, Bool, List, [], ◌∷◌, ◌++◌, All}
use Rattle.std.proofs.lemmas.List.Elements.{All-append, All-cons, All-nil}
use Rattle.mv_isa.specs.declared.labelled.Line.TheVariants.{Word, Jump, Slot, Point}
use Rattle.mv_isa.specs.declared.labelled.Line.{Line}
use Rattle.mv_isa.specs.Code.{StandsOnce}
use Rattle.mv_isa.specs.Labels.{check_label}
use Rattle.mv_select_code.specs.Trees.TreeCode.{Seats, minus_one}
use Rattle.mv_isa.specs.declared.instr.Instr.TheVariants.{Addi}
use Rattle.mv_isa.specs.Registers.{ra as link_register, s11 as left_register}
use Rattle.mv_select_code.specs.Statements.StatementCode.{trap_label}
use Rattle.mv_select_code.specs.Control.Labels.{Names, CallsName, call_label}
use Rattle.mv_select_code.proofs.OfControl.StatementsAreMade.{names_made}
use Rattle.mv_select.specs.Calls.CallCode.{commit_label, slot_lines, entry_lines, calls_of}
use Rattle.mv_select.specs.Calls.Lines.{CallsHaveNoLabels, CallTargetsStand}
use Rattle.mv_select.proofs.OfCalls.Closing.{Closes}
use Rattle.mv_select.proofs.OfCalls.CallsAreMade.{call_made, known_made}

module _ (P : ℕ → Type 0) (null : P (trap_label 3)) (depth : P (trap_label 4)) (commit : P commit_label) where
  slot_names : (f : ℕ) → P f → All (Names P) (Word (Addi left_register left_register minus_one) ∷ slot_lines f)
  slot_names f h = All-cons (Names P) (Word (Addi left_register left_register minus_one)) (slot_lines f) tt (All-cons (Names P) (Slot f) [] h (All-nil (Names P)))

  entry_names : (f : ℕ) → P (call_label f) → All (Names P) (entry_lines f)
  entry_names f h = All-cons (Names P) (Jump link_register (call_label f)) [] h (All-nil (Names P))

  point_names : (front : List Line) (a : ℕ) → P check_label → All (Names P) front → Closes front → All (Names P) (front ++ (Point a ∷ []))
  point_names front a h p c = All-append (Names P) front (Point a ∷ []) p (All-cons (Names P) (Point a) [] h (All-nil (Names P)))

  pub calls_name : (s : Seats) (is_attributed : ℕ → Bool) → CallsName P (calls_of s is_attributed)
  calls_name s is_attributed = record {
    call = call_made (names_made P) slot_names entry_names point_names null depth s is_attributed (λ f named marked. named);
    known = known_made (names_made P) (All-cons (Names P) (Jump link_register commit_label) [] commit (All-nil (Names P))) s;
  }

pub calls_have_no_labels : CallsHaveNoLabels
calls_have_no_labels = calls_name (λ l. Unit {0}) tt tt tt

pub call_targets_stand : CallTargetsStand
call_targets_stand whole stubs = calls_name (StandsOnce whole) stubs.null stubs.depth stubs.commit
