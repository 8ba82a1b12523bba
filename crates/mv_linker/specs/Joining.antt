-- Codes joined one behind the other.
use Rattle.std.specs.Prelude.{◌+◌, List, [], ◌∷◌, ◌++◌, length}
use Rattle.mv_isa.specs.declared.labelled.Labelled.{Labelled}
use Rattle.mv_linker.specs.declared.joined.Joined.{Joined}
use Rattle.mv_linker.specs.Linked.{function_part}

-- a code behind those that are joined
abbrev pub with_code : Joined → Labelled → Joined
with_code joined code = record {
  code = record { items = joined.code.items ++ function_part (length joined.entries) joined.code.labels code; labels = joined.code.labels + code.labels };
  entries = joined.entries ++ length joined.code.items ∷ [];
}

-- and some codes
abbrev pub with_codes : Joined → List Labelled → Joined
with_codes joined [] = joined
with_codes joined (code ∷ rest) = with_codes (with_code joined code) rest
