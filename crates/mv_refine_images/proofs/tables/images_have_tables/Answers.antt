use Rattle.mv_refine_images.proofs.OfTables.Images.{have_tables}
use Rattle.mv_refine_images.proofs.tables.images_have_tables.Goals as goal

pub returns : goal.returns
returns c = have_tables c.rows_lead_on.ensures.leads c.parts_law.ensures.counts
