-- A property of the statements in the arms of a `switch` is left by labels.
use Rattle.std.proofs.Common.{Bool, true, false, if◌then◌else◌, [], ◌∷◌, ◌++◌}
use Rattle.std.specs.List.{AllByRecursion}
use Rattle.mv_ast.specs.declared.program.Arm.{Arm}
use Rattle.mv_ast.specs.declared.program.Stmt.{Stmt}
use Rattle.mv_check_statements.specs.declared.arms.Arms.{Arms}
use Rattle.mv_check_statements.specs.SwitchBodies.{no_arm, has_statements, at_label, with_statement, arms_of}
use Rattle.mv_accepts.proofs.OfStatements.Lists.{all_last}

module _ (P : Stmt → Type 0) where
  abbrev pub BodyHas : Arm → Type 0
  BodyHas a = AllByRecursion P a.body

  abbrev pub BodiesHave : Arms → Type 0
  BodiesHave y = AllByRecursion BodyHas y.done × AllByRecursion P y.last.body

  pub arms_have : (y : Arms) → BodiesHave y → AllByRecursion BodyHas (arms_of y)
  arms_have y h = all_last BodyHas y.done y.last h.0 h.1

  pub label_leaves : (y : Arms) → BodiesHave y → BodiesHave (at_label y)
  unfolding at_label
  label_leaves y h = by (has_statements y.last.body)
    where
      by : (b : Bool) → BodiesHave (if b then record y { done = y.done ++ y.last ∷ []; last = no_arm } else y)
      by true = (arms_have y h, tt)
      by false = h

  pub statement_has : (s : Stmt) (y : Arms) → P s → BodiesHave y → BodiesHave (with_statement s y)
  statement_has s y h k = (k.0, all_last P y.last.body s k.1 h)
