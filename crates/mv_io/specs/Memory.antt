-- What the objects in memory hold.
use Rattle.std.specs.Prelude.{ℕ, ◌-◌, List, length}
use Rattle.std.specs.Prelude.{map, Vec, string_bytes, String}
use Rattle.std.specs.declared.alloc.Global.{Global}
use Rattle.std.specs.Map.{lookup}
use Rattle.std.specs.Str.{bytes_eq}
use Rattle.mv_io.specs.Schedules.{Schedule}
use Rattle.mv_io.specs.Shelves.{Files}

pub record SourceInMemory : Type 0 where
  pub left : List ℕ
  pub schedule : Schedule

-- room is for all the bytes, those that are written too; piece is the most that one write takes
pub record SinkInMemory : Type 0 where
  pub written : List ℕ
  pub room : ℕ
  pub piece : ℕ
  pub schedule : Schedule

abbrev pub room_left : SinkInMemory → ℕ
room_left s = s.room - length s.written

-- files are names with their bytes
pub record ShelfInMemory : Type 0 where
  pub files : List (List ℕ × List ℕ)
  pub schedule : Schedule

-- the bytes under a name
abbrev pub file_of : ShelfInMemory → Files
file_of shelf name = lookup (bytes_eq name) shelf.files

-- the texts of names beside the bytes of their files
abbrev pub named_bytes : List (String Global × Vec ℕ Global) → List (List ℕ × List ℕ)
named_bytes = map (λ file. (string_bytes file.0, file.1.items))
