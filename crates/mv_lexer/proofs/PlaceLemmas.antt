-- The place behind more bytes.
use Rattle.std.proofs.Common.{◌≡◌, ℕ, ◌+◌, ◌<◌, List, drop, length, get_or, ap}
use Rattle.std.proofs.lemmas.List.{drop_more}
use Rattle.mv_lexer.specs.Place.{place_next, place_after}
use Rattle.mv_syntax.specs.declared.place.Place.{Place}

-- the place behind the rest, one byte on
pub place_more : (at : Place) (bytes : List ℕ) (i : ℕ) → i < length bytes → place_after at (drop i bytes) ≡ place_after (place_next at (get_or bytes i 0)) (drop (i + 1) bytes)
place_more at bytes i below = ap (place_after at) (drop_more bytes i 0 below)
