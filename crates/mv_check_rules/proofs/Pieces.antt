-- The arms of a `switch` that pieces make are those that are made one piece after the other.
use Rattle.std.proofs.Common.{◌≡◌, refl, sym, ◌∙◌, ap, Bool, true, false, ◌||◌, if◌then◌else◌, List, [], ◌∷◌, ◌++◌}
use Rattle.std.proofs.lemmas.List.{append_assoc, append-nil}
use Rattle.mv_ast.specs.declared.program.Arm.{Arm}
use Rattle.mv_ast.specs.declared.program.Stmt.{Stmt}
use Rattle.mv_check_statements.specs.declared.arms.Arms.{Arms}
use Rattle.mv_check_statements.specs.SwitchBodies.{no_arm, no_arms, has_statements, at_label, with_case, with_default, with_statement, arms_of}
use Rattle.mv_check_statements.proofs.Labels.{labels_kept}
use Rattle.mv_check_rules.specs.Rules.{is_empty}
use Rattle.mv_check_rules.specs.Statements.{Piece, Labelled, Otherwise, Statement, labels, has_default, arms, arms_behind, labelled_behind, with_label, with_other}
use Rattle.mv_check_rules.proofs.Parts.{or_true, or_false}

-- the arms with one more piece
abbrev pub with_piece : Piece → Arms → Arms
with_piece (Labelled v) a = with_case v a
with_piece Otherwise a = with_default a
with_piece (Statement s) a = with_statement s a

abbrev pub gather : List Piece → Arms → Arms
gather [] a = a
gather (p ∷ ps) a = gather ps (with_piece p a)

abbrev pub gathered : List Piece → Arms
gathered ps = gather ps no_arms

gather_more : (ps : List Piece) (p : Piece) (a : Arms) → gather (ps ++ p ∷ []) a ≡ with_piece p (gather ps a)
gather_more [] p a = refl
gather_more (q ∷ ps) p a = gather_more ps p (with_piece q a)

pub gathered_more : (ps : List Piece) (p : Piece) → gathered (ps ++ p ∷ []) ≡ with_piece p (gathered ps)
gathered_more ps p = gather_more ps p no_arms

other_kept : (a : Arms) → (at_label a).other ≡ a.other
unfolding at_label
other_kept a = by (has_statements a.last.body)
  where
    by : (b : Bool) → (if b then record a { done = a.done ++ a.last ∷ []; last = no_arm } else a).other ≡ a.other
    by true = refl
    by false = refl

labels_gather : (ps : List Piece) (a : Arms) → (gather ps a).labels ≡ a.labels ++ labels ps
labels_gather [] a = sym (append-nil a.labels)
labels_gather (Labelled v ∷ ps) a =
    labels_gather ps (with_case v a) ∙ (ap (λ vs. (vs ++ v ∷ []) ++ labels ps) (labels_kept a) ∙ append_assoc a.labels (v ∷ []) (labels ps))
labels_gather (Otherwise ∷ ps) a = labels_gather ps (with_default a) ∙ ap (λ vs. vs ++ labels ps) (labels_kept a)
labels_gather (Statement s ∷ ps) a = labels_gather ps (with_statement s a)

pub labels_agree : (ps : List Piece) → (gathered ps).labels ≡ labels ps
labels_agree ps = labels_gather ps no_arms

other_gather : (ps : List Piece) (a : Arms) → (gather ps a).other ≡ (a.other || has_default ps)
other_gather [] a = or_false a.other
other_gather (Labelled v ∷ ps) a = other_gather ps (with_case v a) ∙ ap (λ b. b || has_default ps) (other_kept a)
other_gather (Otherwise ∷ ps) a = other_gather ps (with_default a) ∙ or_true a.other
other_gather (Statement s ∷ ps) a = other_gather ps (with_statement s a)

pub other_agrees : (ps : List Piece) → (gathered ps).other ≡ has_default ps
other_agrees ps = other_gather ps no_arms

-- a label behind a statement begins the next arm
label_agrees : (a : Arms) (label : Arm → Arm) (ps : List Piece) →
    (at_label a).done ++ arms_behind (label (at_label a).last) ps ≡ a.done ++ labelled_behind label a.last (λ b. arms_behind b ps)
unfolding at_label
label_agrees a label ps = by a.last.body
  where
    by : (ss : List Stmt) →
        (if has_statements ss then record a { done = a.done ++ a.last ∷ []; last = no_arm } else a).done ++
        arms_behind (label (if has_statements ss then record a { done = a.done ++ a.last ∷ []; last = no_arm } else a).last) ps ≡
        a.done ++ (if is_empty ss then arms_behind (label a.last) ps else a.last ∷ arms_behind (label no_arm) ps)
    by [] = refl
    by (s ∷ ss) = append_assoc a.done (a.last ∷ []) (arms_behind (label no_arm) ps)

arms_gather : (ps : List Piece) (a : Arms) → arms_of (gather ps a) ≡ a.done ++ arms_behind a.last ps
arms_gather [] a = refl
arms_gather (Labelled v ∷ ps) a = arms_gather ps (with_case v a) ∙ label_agrees a (with_label v) ps
arms_gather (Otherwise ∷ ps) a = arms_gather ps (with_default a) ∙ label_agrees a with_other ps
arms_gather (Statement s ∷ ps) a = arms_gather ps (with_statement s a)

pub arms_agree : (ps : List Piece) → arms_of (gathered ps) ≡ arms ps
arms_agree ps = arms_gather ps no_arms
