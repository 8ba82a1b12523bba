-- Each label that the code of statements names stands.
use Rattle.std.proofs.Common.{List, [], ◌∷◌, All}
use Rattle.std.proofs.lemmas.List.Elements.{All-append, All-cons, All-nil, All-weaker}
use Rattle.mv_isa.specs.declared.labelled.Line.{Line}
use Rattle.mv_isa.specs.declared.labelled.Line.TheVariants.{Word, Label, Jump, Branch, Entry, Slot, Point}
use Rattle.mv_isa.specs.Code.{StandsOnce, TargetStands}
use Rattle.mv_isa.specs.Labels.{check_label}
use Rattle.mv_select_code.specs.Control.Labels.{Names, call_label, TargetsStand}
use Rattle.mv_select_code.proofs.OfControl.StatementsAreMade.{LineByLine}
use Rattle.mv_select_code.proofs.OfControl.CodeIsMade.{code_made}

module _ (whole : List Line) where
  stands : (line : Line) → Names (StandsOnce whole) line → TargetStands whole line
  stands (Word i) h = tt
  stands (Label l) h = tt
  stands (Jump rd l) h = h
  stands (Branch f a b l) h = h
  stands (Entry rd l) h = h
  stands (Slot l) h = h
  stands (Point a) h = h

  named : (xs : List Line) → All (Names (StandsOnce whole)) xs → All (TargetStands whole) xs
  named = All-weaker (Names (StandsOnce whole)) (TargetStands whole) stands

  alone : (line : Line) → TargetStands whole line → All (TargetStands whole) (line ∷ [])
  alone line h = All-cons (TargetStands whole) line [] h (All-nil (TargetStands whole))

  pub stand_made : LineByLine (All (TargetStands whole)) (λ l. Unit {0}) (StandsOnce whole) (StandsOnce whole)
  stand_made = record {
    none = All-nil (TargetStands whole);
    after = All-append (TargetStands whole);
    word = λ i. alone (Word i) tt;
    label = λ l h. alone (Label l) tt;
    jump = λ l h. alone (Jump 0 l) h;
    branch = λ funct3 a b l h. alone (Branch funct3 a b l) h;
    entry = λ r f h. alone (Entry r f) h;
  }

pub targets_stand : TargetsStand
targets_stand whole plan calls code around label way h =
    code_made (stand_made whole) plan (λ f. StandsOnce whole (call_label f)) (λ g. StandsOnce whole check_label) (λ r f args names called points. named whole _ (calls.call r f args names called points))
    (λ r k args names. named whole _ (calls.known r k args names)) h.end h.division h.index code around h.starts h.ends way h.behind label (λ l p q. (tt, h.own l p q)) h.functions h.entries h.check
