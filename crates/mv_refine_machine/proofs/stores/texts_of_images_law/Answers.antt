use Rattle.mv_refine_machine.proofs.OfStores.Images.{texts_are, all_show, plain_stays, pairs_fit}
use Rattle.mv_refine_machine.proofs.OfStores.Left.{is_left, finds_room}
use Rattle.mv_refine_machine.proofs.stores.texts_of_images_law.Goals as goal

pub returns-clause-texts : goal.returns-clause-texts
returns-clause-texts c image r some other = record {
  texts = texts_are image some other r;
  fit = pairs_fit image some other r;
  show = all_show image some other;
  plain = plain_stays image some other r;
}

pub returns-clause-left : goal.returns-clause-left
returns-clause-left c = is_left

pub returns-clause-room : goal.returns-clause-room
returns-clause-room c = finds_room
