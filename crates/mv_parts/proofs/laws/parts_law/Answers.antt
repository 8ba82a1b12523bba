use Rattle.mv_parts.proofs.FrontCounts.{sizes_counted}
use Rattle.mv_parts.proofs.LinkedCode.{Laws}
use Rattle.mv_parts.proofs.LinkedCounts.{are_counted}
use Rattle.mv_parts.proofs.LinkedSwitches.{data_counted, switches_there}
use Rattle.mv_parts.proofs.LinkedTables.{can_be_linked}
use Rattle.mv_parts.proofs.laws.parts_law.Goals as goal

pub returns-clause-switches : goal.returns-clause-switches
returns-clause-switches c = switches_there

pub returns-clause-data : goal.returns-clause-data
returns-clause-data c = data_counted c.data_law.ensures.count

pub returns-clause-parts : goal.returns-clause-parts
returns-clause-parts c =
    let laws : Laws = record {
      there = c.lowered_names_are_there.ensures.functions;
      pointers = c.lowered_names_are_there.ensures.pointers;
      well_formed = c.lowered_forms_are_right.ensures.well_formed;
      name_no_more = c.variants_can_be_selected.ensures.names;
      made = c.made_bodies_are_variants.ensures.all;
      encoded = c.selection_law.ensures.encoded;
      labels_own = c.selection_law.ensures.labels;
      opens = c.selection_law.ensures.opens;
      named = c.lines_are_named.ensures.names;
    } in
    can_be_linked laws c.rows_lead_to_variants.ensures.bodies c.rows_lead_to_variants.ensures.groups c.rows_lead_to_variants.ensures.grouped c.data_law.ensures.count c.data_law.ensures.functions

pub returns-clause-counts : goal.returns-clause-counts
returns-clause-counts c =
    are_counted c.rows_lead_to_variants.ensures.bodies c.rows_lead_to_variants.ensures.groups c.code_is_short.ensures.text c.code_is_short.ensures.slots

pub returns-clause-sizes : goal.returns-clause-sizes
returns-clause-sizes c = sizes_counted c.rows_lead_to_variants.ensures.groups c.code_is_short.ensures.fronts
