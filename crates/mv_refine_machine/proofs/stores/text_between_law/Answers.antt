use Rattle.mv_refine_machine.specs.Stores.Laws.{RoomsAreWhole}
use Rattle.mv_refine_machine.proofs.OfStores.InRange.{all_in_range}
use Rattle.mv_refine_machine.proofs.OfStores.Stored.{is_stored}
use Rattle.mv_refine_machine.proofs.OfStores.Tested.{between_told, between_tested}
use Rattle.mv_refine_machine.proofs.OfStores.Settled.{one_choice, same_told, same_tested}
use Rattle.mv_refine_machine.proofs.OfStores.Whole.{settled_whole, fenced_whole, whole_settles, store_whole}
use Rattle.mv_refine_machine.proofs.stores.text_between_law.Goals as goal

rooms : RoomsAreWhole
rooms = record {
  settles = whole_settles;
  settled = settled_whole;
  store = store_whole;
  fence = fenced_whole;
  one = one_choice;
  same = λ text h. (same_told text h, same_tested text h);
}

pub returns-clause-range : goal.returns-clause-range
returns-clause-range c = all_in_range

pub returns-clause-between : goal.returns-clause-between
returns-clause-between c = is_stored

pub returns-clause-tested : goal.returns-clause-tested
returns-clause-tested c old new h = (between_told old new h, between_tested old new h)

pub returns-clause-whole : goal.returns-clause-whole
returns-clause-whole c = rooms
