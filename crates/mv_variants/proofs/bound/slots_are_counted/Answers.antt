use Rattle.mv_variants.proofs.OfBound.Slots.{slots_are_calls, points_are_calls, slots_weigh}
use Rattle.mv_variants.proofs.OfBound.FewSlots.{few_slots, own_few_slots, general_few_slots, all_few_slots, variant_few_slots}
use Rattle.mv_variants.proofs.OfBound.Patchable.{slots_patchable}
use Rattle.mv_variants.proofs.bound.slots_are_counted.Goals as goal

pub returns-clause-code : goal.returns-clause-code
returns-clause-code c = slots_are_calls

pub returns-clause-points : goal.returns-clause-points
returns-clause-points c = points_are_calls

pub returns-clause-weights : goal.returns-clause-weights
returns-clause-weights c = slots_weigh

pub returns-clause-few : goal.returns-clause-few
returns-clause-few c = few_slots

pub returns-clause-own : goal.returns-clause-own
returns-clause-own c = own_few_slots

pub returns-clause-general : goal.returns-clause-general
returns-clause-general c = general_few_slots

pub returns-clause-all : goal.returns-clause-all
returns-clause-all c = all_few_slots

pub returns-clause-variants : goal.returns-clause-variants
returns-clause-variants c = variant_few_slots

pub returns-clause-patchable : goal.returns-clause-patchable
returns-clause-patchable c = slots_patchable
