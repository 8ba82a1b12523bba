use Rattle.mv_count_slots.proofs.Calls.{marked_slots, attributed_slots, source_slots}
use Rattle.mv_count_slots.proofs.Callees.{callees_have_slots}
use Rattle.mv_count_slots.proofs.Pointers.{pointers_have_slots}
use Rattle.mv_count_slots.proofs.each_call_has_a_slot.Goals as goal

pub returns-clause-marked : goal.returns-clause-marked
returns-clause-marked c = marked_slots c.slots_are_counted.ensures.code

pub returns-clause-attributed : goal.returns-clause-attributed
returns-clause-attributed c = attributed_slots c.slots_are_counted.ensures.code

pub returns-clause-source : goal.returns-clause-source
returns-clause-source c = source_slots c.slots_are_counted.ensures.code c.lowered_forms_are_right.ensures.calls

pub returns-clause-callees : goal.returns-clause-callees
returns-clause-callees c = callees_have_slots c.slots_are_counted.ensures.weights c.lowered_forms_are_right.ensures.calls

pub returns-clause-pointers : goal.returns-clause-pointers
returns-clause-pointers c = pointers_have_slots c.slots_are_counted.ensures.points c.lowered_forms_are_right.ensures.calls c.lowered_forms_are_right.ensures.well_formed
