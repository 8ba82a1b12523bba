-- Cursors that go through owners as their things are gone through.
use Rattle.std.specs.Prelude.{ℕ, ◌≡◌, ◌≤◌, ◌-◌, List}
use Rattle.mv_image.specs.declared.places.Cursor.{Cursor}
use Rattle.mv_image.specs.declared.places.Owners.{Owners}
use Rattle.mv_image.specs.Places.{sum_below, variants_of, guards_of, function_rows, variant_rows}

-- A cursor stands at an owner of n whose things begin at or before a thing.
pub record HasReached (count : ℕ → ℕ) (n thing : ℕ) (cursor : Cursor) : Type 0 where
  pub owner : cursor.owner ≤ n - 1
  pub start : cursor.start ≡ sum_below count cursor.owner
  pub before : cursor.start ≤ thing

pub record HaveReached (ws : List ℕ) (guard : ℕ) (owners : Owners) : Type 0 where
  pub variant : HasReached (guards_of ws) (variant_rows ws) guard owners.variant
  pub function : HasReached (variants_of ws) (function_rows ws) owners.variant.owner owners.function
