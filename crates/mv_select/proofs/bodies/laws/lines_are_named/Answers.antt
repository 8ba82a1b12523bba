use Rattle.mv_select.proofs.OfBodies.FunctionNames.{lines_named}
use Rattle.mv_select.proofs.OfBodies.Addresses.{firsts_are_no_labels, no_link_is_slot}
use Rattle.mv_select.proofs.bodies.laws.lines_are_named.Goals as goal

pub returns-clause-names : goal.returns-clause-names
returns-clause-names c = lines_named

pub returns-clause-first : goal.returns-clause-first
returns-clause-first c = firsts_are_no_labels

pub returns-clause-links : goal.returns-clause-links
returns-clause-links c = no_link_is_slot
