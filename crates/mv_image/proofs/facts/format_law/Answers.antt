use Rattle.mv_image.proofs.TablesAreRules.{tables_are_rules}
use Rattle.mv_image.proofs.RulesAreTables.{rules_are_tables}
use Rattle.mv_image.proofs.GroupsAreRows.{groups_are_rows}
use Rattle.mv_image.proofs.facts.format_law.Goals as goal

pub returns-clause-enough : goal.returns-clause-enough
returns-clause-enough c = tables_are_rules

pub returns-clause-needed : goal.returns-clause-needed
returns-clause-needed c = rules_are_tables

pub returns-clause-groups : goal.returns-clause-groups
returns-clause-groups c = groups_are_rows
