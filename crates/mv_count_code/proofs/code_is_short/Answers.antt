use Rattle.mv_variants.proofs.OfBound.Patchable.{slots_called}
use Rattle.mv_count_code.proofs.Sizes.{code_short, lines_short, variants_short, frames_fit, frames_pass, lowered_frames_pass}
use Rattle.mv_count_code.proofs.Texts.{texts_pass}
use Rattle.mv_count_code.proofs.Fronts.{fronts_counted}
use Rattle.mv_count_code.proofs.Sites.{code_slots, slots_counted}
use Rattle.mv_count_code.proofs.code_is_short.Goals as goal

pub returns-clause-code : goal.returns-clause-code
returns-clause-code c = code_short c.made_bodies_are_variants.ensures.all c.lowered_forms_are_right.ensures.small

pub returns-clause-lines : goal.returns-clause-lines
returns-clause-lines c = lines_short c.made_bodies_are_variants.ensures.all c.lowered_forms_are_right.ensures.small c.selection_law.ensures.encoded

pub returns-clause-variants : goal.returns-clause-variants
returns-clause-variants c =
    variants_short c.made_bodies_are_variants.ensures.all c.lowered_forms_are_right.ensures.small c.rows_lead_to_variants.ensures.bodies c.rows_lead_to_variants.ensures.groups

pub returns-clause-frames : goal.returns-clause-frames
returns-clause-frames c = frames_fit c.made_bodies_are_variants.ensures.all c.lowered_forms_are_right.ensures.small

pub returns-clause-passes : goal.returns-clause-passes
returns-clause-passes c = frames_pass c.made_bodies_are_variants.ensures.all c.lowered_forms_are_right.ensures.small

pub returns-clause-lowered : goal.returns-clause-lowered
returns-clause-lowered c = lowered_frames_pass c.made_bodies_are_variants.ensures.all c.lowered_forms_are_right.ensures.small

pub returns-clause-text : goal.returns-clause-text
returns-clause-text c =
    texts_pass (lines_short c.made_bodies_are_variants.ensures.all c.lowered_forms_are_right.ensures.small c.selection_law.ensures.encoded)

pub returns-clause-sites : goal.returns-clause-sites
returns-clause-sites c = slots_called

pub returns-clause-slots : goal.returns-clause-slots
returns-clause-slots c =
    let counted = c.slots_are_counted.ensures in
    slots_counted (code_slots c.lowered_forms_are_right.ensures.calls counted.general counted.own counted.few) counted.patchable slots_called

pub returns-clause-fronts : goal.returns-clause-fronts
returns-clause-fronts c =
    let counted = c.slots_are_counted.ensures in
    fronts_counted (lines_short c.made_bodies_are_variants.ensures.all c.lowered_forms_are_right.ensures.small c.selection_law.ensures.encoded)
    (code_slots c.lowered_forms_are_right.ensures.calls counted.general counted.own counted.few) slots_called
