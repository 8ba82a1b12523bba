-- Stores of whole words into text, one after the other.
use Rattle.std.specs.Prelude.{◌-◌, List, [], ◌∷◌, slice_index, slice_set}
use Rattle.mv_fetch.specs.Held.{Room, index_of, remember}
use Rattle.mv_patch.specs.declared.prepared.Pair.{Pair}

-- a word is put at an address of text, where the present word gets the newest of the older ones
unfoldable pub stored : Room → Pair → Room
stored room pair =
    let k = index_of pair.address in
    record {
      held = record room.held { text = slice_set room.held.text k pair.word; older = remember room.held.older k (slice_index room.held.text k) };
      spare = room.spare - 1;
      reserve = room.reserve;
    }

unfoldable pub stored_all : Room → List Pair → Room
stored_all room [] = room
stored_all room (pair ∷ pairs) = stored_all (stored room pair) pairs
