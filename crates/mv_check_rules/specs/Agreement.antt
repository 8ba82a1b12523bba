-- The judgement by rules, and the judgement in the order in which the checker works.
use Rattle.std.specs.Prelude.{◌≡◌}
use Rattle.mv_syntax.specs.declared.unit.Unit as tree
use Rattle.mv_types.specs.Units.{unit_judgement}
use Rattle.mv_check_rules.specs.Units.{judged_by_rules}

-- they are the same for each unit
abbrev pub JudgedByRulesIsUnitJudgement : Type 0
JudgedByRulesIsUnitJudgement = (u : tree.Unit) → judged_by_rules u ≡ unit_judgement u
