use Rattle.mv_variants.proofs.OfBound.Fitting.{is_led, grouped_is_led}
use Rattle.mv_variants.proofs.OfBound.Tables.{variants_led}
use Rattle.mv_variants.proofs.OfBound.Led.{combinations_led, bodies_made}
use Rattle.mv_variants.proofs.OfBound.Switches.{functions_led}
use Rattle.mv_variants.proofs.OfBound.Groups.{groups_fit}
use Rattle.mv_variants.proofs.bound.rows_lead_to_variants.Goals as goal

pub returns-clause-leads : goal.returns-clause-leads
returns-clause-leads c = is_led

pub returns-clause-tables : goal.returns-clause-tables
returns-clause-tables c = variants_led

pub returns-clause-combinations : goal.returns-clause-combinations
returns-clause-combinations c = combinations_led

pub returns-clause-groups : goal.returns-clause-groups
returns-clause-groups c = groups_fit

pub returns-clause-bodies : goal.returns-clause-bodies
returns-clause-bodies c = bodies_made

pub returns-clause-functions : goal.returns-clause-functions
returns-clause-functions c = functions_led

pub returns-clause-grouped : goal.returns-clause-grouped
returns-clause-grouped c = grouped_is_led
