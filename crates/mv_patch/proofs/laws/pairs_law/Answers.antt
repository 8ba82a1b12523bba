use Rattle.std.proofs.Common.{ℕ, List, length, refl, arith}
use Rattle.mv_patch.specs.Laws.{PairsAre, PairsAt}
use Rattle.mv_patch.specs.Pairs.{text_start, place, pairs_between}
use Rattle.mv_patch.proofs.Pairs.{pairs_march, difference_has_pair, all_differ, ascending, none_differ}
use Rattle.mv_patch.proofs.Only.{the_only}
use Rattle.mv_patch.proofs.PlacePairs.{at_places, few_at}
use Rattle.mv_patch.proofs.TablePlaces.{climbing, has_contained}
use Rattle.mv_patch.proofs.laws.pairs_law.Goals as goal

pairs_are : (old new : List ℕ) → PairsAre old new
pairs_are old new = record {
  all = λ k o n e f ne. difference_has_pair text_start k (place k) o n old new refl e f ne;
  only = all_differ old new 0 (pairs_between old new) (pairs_march old new);
  ascend = λ i j d lt below. (let up = ascending old new 0 i j d (pairs_between old new) (pairs_march old new) lt below in omega (arith, up));
  none = λ size none. none_differ text_start old new size none;
}

pairs_at_are : (old new places : List ℕ) → PairsAt old new places
pairs_at_are old new places = record {
  few = few_at old new places;
  all = λ size are all.
      at_places old new size places
      (climbing (length old) 0 places are.in_text are.ascend (λ lt. (let x = are.in_text 0 lt in let at = x.2 in omega (arith, at))))
      (λ k o n e f ne. has_contained (place k) places (all k o n e f ne));
}

pub returns-clause-differences : goal.returns-clause-differences
returns-clause-differences c = pairs_are

pub returns-clause-only : goal.returns-clause-only
returns-clause-only c = the_only

pub returns-clause-places : goal.returns-clause-places
returns-clause-places c = pairs_at_are
