-- The arms of a `switch` (C11 6.8.4.2): how they come from the labels and the statements in its block.
use Rattle.std.specs.Prelude.{ℕ, Bool, true, false, not, if◌then◌else◌, List, [], ◌∷◌, ◌++◌}
use Rattle.mv_syntax.specs.declared.place.Place.{Place}
use Rattle.mv_ast.specs.declared.program.Arm.{Arm}
use Rattle.mv_ast.specs.declared.program.CType.{CType}
use Rattle.mv_ast.specs.declared.program.Form.TheVariants as form
use Rattle.mv_ast.specs.declared.program.Stmt.{Stmt}
use Rattle.mv_ast.specs.Operators.{converted}
use Rattle.mv_num.specs.Lists.{is_among}
use Rattle.mv_check_scope.specs.Constants.{converts}
use Rattle.mv_check_scope.specs.Conversions.{typed}
use Rattle.mv_check_expressions.specs.RuleNumbers as rules
use Rattle.mv_check_expressions.specs.declared.constant.Constant.{Constant}
use Rattle.mv_check_expressions.specs.Judged.{Judged, Good, Broken}
use Rattle.mv_check_statements.specs.declared.arms.Arms.{Arms}

abbrev pub no_arm : Arm
no_arm = record { labels = []; other = false; body = [] }

-- Before the first label there is an arm without labels, to which no value leads.
abbrev pub no_arms : Arms
no_arms = record { labels = []; other = false; done = []; last = no_arm }

abbrev pub has_statements : List Stmt → Bool
has_statements [] = false
has_statements (s ∷ ss) = true

-- consecutive labels are those of one arm
unfoldable pub at_label : Arms → Arms
at_label a = if has_statements a.last.body then record a { done = a.done ++ a.last ∷ []; last = no_arm } else a

abbrev pub labelled : ℕ → Arms → Arms
labelled v a = record a { labels = a.labels ++ v ∷ []; last = record a.last { labels = a.last.labels ++ v ∷ [] } }

abbrev pub labelled_other : Arms → Arms
labelled_other a = record a { other = true; last = record a.last { other = true } }

abbrev pub with_case : ℕ → Arms → Arms
with_case v a = labelled v (at_label a)

abbrev pub with_default : Arms → Arms
with_default a = labelled_other (at_label a)

abbrev pub with_statement : Stmt → Arms → Arms
with_statement s a = record a { last = record a.last { body = a.last.body ++ s ∷ [] } }

abbrev pub arms_of : Arms → List Arm
arms_of a = a.done ++ a.last ∷ []

-- ---- the rules of labels

-- the expression of a constant's value
abbrev pub converts_constant : Constant → CType → Bool
converts_constant c t = converts (typed c.ctype (form.Number c.value)) t

-- A `case` in a `switch` on a value of this type after promotion. Conversions: the constant doesn't convert to it; labels: the label is
-- repeated, after conversion.
unfoldable pub case_label : Place → CType → Constant → Arms → Judged Arms
case_label place t c a =
    if not (converts_constant c t) then Broken place rules.conversions
    else if is_among (converted t c.value) a.labels then Broken place rules.labels
    else Good (with_case (converted t c.value) a)

-- labels: `default` is repeated
unfoldable pub default_label : Place → Arms → Judged Arms
default_label place a = if a.other then Broken place rules.labels else Good (with_default a)
