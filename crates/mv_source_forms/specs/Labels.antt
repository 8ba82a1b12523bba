-- The labels of a `switch` (C11 6.8.4.2): each of its arms has a label or is `default`, and at most one is `default`.
-- Its first arm may have none: these are the statements before the first label, to which no value leads.
use Rattle.std.specs.Prelude.{ℕ, Bool, true, false, not, ◌&&◌, ◌||◌, if◌then◌else◌, List, [], ◌∷◌, map}
use Rattle.mv_ast.specs.declared.program.Stmt.{Stmt, Stmt-F, fold-Stmt}
use Rattle.mv_ast.specs.declared.program.Stmt.TheOpen as stmt
use Rattle.mv_ast.specs.declared.program.Arm.{Arm, Arm-F, fold-Arm}
use Rattle.mv_ast.specs.Names.{any_of}
use Rattle.mv_source_forms.specs.Lists.{all_of}

abbrev pub at_most_one : List Bool → Bool
at_most_one [] = true
at_most_one (b ∷ bs) = if b then not (any_of bs) else at_most_one bs

abbrev pub has_label : List ℕ → Bool
has_label [] = false
has_label (l ∷ ls) = true

-- an arm: whether it is `default`, whether it has a label or is so, and whether all in it is labelled as it should be
pub record ArmLabels : Type 0 where
  pub is_default : Bool
  pub is_labelled : Bool
  pub holds : Bool

-- the arms behind the first
abbrev pub later_arms : List ArmLabels → List ArmLabels
later_arms [] = []
later_arms (a ∷ arms) = arms

abbrev pub arms_labelled : List ArmLabels → Bool
arms_labelled arms = at_most_one (map (λ a. a.is_default) arms) && (all_of (map (λ a. a.is_labelled) (later_arms arms)) && all_of (map (λ a. a.holds) arms))

abbrev pub labels_layer : Stmt-F Bool ArmLabels → Bool
labels_layer (stmt.Block body) = all_of body
labels_layer (stmt.Clear l values) = true
labels_layer (stmt.Express e) = true
labels_layer (stmt.If e yes_part no_part) = all_of yes_part && all_of no_part
labels_layer (stmt.While e body) = all_of body
labels_layer (stmt.Do body e) = all_of body
labels_layer (stmt.For first test step body) = all_of first && all_of body
labels_layer (stmt.Switch e arms) = arms_labelled arms
labels_layer stmt.Break = true
labels_layer stmt.Continue = true
labels_layer (stmt.Return e) = true

abbrev pub arm_labels_layer : Arm-F Bool ArmLabels → ArmLabels
arm_labels_layer a = record { is_default = a.other; is_labelled = has_label a.labels || a.other; holds = all_of a.body }

-- whether the arms of each `switch` in a statement are labelled as they should be
abbrev pub stmt_labelled : Stmt → Bool
stmt_labelled = fold-Stmt Bool ArmLabels labels_layer arm_labels_layer

abbrev pub arm_labels : Arm → ArmLabels
arm_labels = fold-Arm Bool ArmLabels labels_layer arm_labels_layer
