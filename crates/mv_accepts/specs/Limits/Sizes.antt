-- The unit of a source has no more nodes than the source has bytes.
use Rattle.std.specs.Prelude.{◌≤◌, ℕ, List, length}
use Rattle.mv_syntax.specs.declared.unit.Unit as unit
use Rattle.mv_parse_reading.specs.Texts.{ReadsAs}
use Rattle.mv_accepts.specs.Limits.Nodes.{unit_nodes}

abbrev pub UnitsOfTextsAreSmall : Type 0
UnitsOfTextsAreSmall = (text : List ℕ) (u : unit.Unit) → ReadsAs text u → unit_nodes u ≤ length text
