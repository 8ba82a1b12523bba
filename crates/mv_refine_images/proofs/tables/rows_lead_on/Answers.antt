use Rattle.mv_refine_images.proofs.OfTables.Images.{attributed_tabled}
use Rattle.mv_refine_images.proofs.OfTables.Leading.{leads}
use Rattle.mv_refine_images.proofs.OfTables.Rows.{has_row}
use Rattle.mv_refine_images.proofs.tables.rows_lead_on.Goals as goal

pub returns-clause-tables : goal.returns-clause-tables
returns-clause-tables c = attributed_tabled

pub returns-clause-leads : goal.returns-clause-leads
returns-clause-leads c = leads c.rows_lead_to_variants.ensures.functions c.made_bodies_are_variants.ensures.all

pub returns-clause-rows : goal.returns-clause-rows
returns-clause-rows c = has_row c.inline_law.ensures.fits c.inline_law.ensures.same
