-- A new arm keeps the labels.
use Rattle.std.proofs.Common.{◌≡◌, ◌++◌, Bool, true, false, refl, [], ◌∷◌, if◌then◌else◌}
use Rattle.mv_check_statements.specs.declared.arms.Arms.{Arms}
use Rattle.mv_check_statements.specs.SwitchBodies.{no_arm, has_statements, at_label}

pub labels_kept : (a : Arms) → (at_label a).labels ≡ a.labels
unfolding at_label
labels_kept a = by (has_statements a.last.body)
  where
    by : (b : Bool) → (if b then record a { done = a.done ++ a.last ∷ []; last = no_arm } else a).labels ≡ a.labels
    by true = refl
    by false = refl
