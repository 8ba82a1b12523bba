use Rattle.std.proofs.Common.{length}
use Rattle.mv_image.specs.Spelling.{Fields}
use Rattle.mv_image.specs.Faults.{Rules}
use Rattle.mv_image.specs.Patched.{Bindings}
use Rattle.mv_patch.specs.Laws.{TablesTell, PairsOfTables}
use Rattle.mv_patch.specs.Tables.{patched_places}
use Rattle.mv_patch.proofs.TablePlaces.{places_count, places_climb, climb_ascends, climb_place, shown_listed, contains_has}
use Rattle.mv_patch.proofs.TablePairs.{tables_tell, few_pairs}
use Rattle.mv_patch.proofs.laws.tables_law.Goals as goal

tell : (image : Fields) → TablesTell image
tell image = record {
  count = places_count image;
  places = λ r. record {
    in_text = λ i lt. climb_place (length image.text) 0 i (patched_places image) (places_climb image r) lt;
    ascend = λ i j lt below. climb_ascends (length image.text) 0 i j (patched_places image) (places_climb image r) lt below;
  };
  shown = λ f a shows. contains_has a (patched_places image) (shown_listed image f a shows);
}

pairs : (image : Fields) → Rules image → (some other : Bindings) → PairsOfTables image some other
pairs image r some other = record { tell = tables_tell image r some other; few = few_pairs image r some other }

pub returns-clause-places : goal.returns-clause-places
returns-clause-places c = tell

pub returns-clause-pairs : goal.returns-clause-pairs
returns-clause-pairs c = pairs
