-- The way of an oracle that words name, as it stands.
use Rattle.std.specs.Prelude.{Option, Some}
use Rattle.mv_probe.specs.Ways.{Way, Freshest, Eldest, Listed}
use Rattle.mv_top.specs.declared.picking.Named.{Named}
use Rattle.mv_top.specs.declared.picking.Named.TheVariants.{Fresh, Oldest, Table}

abbrev pub way_named : Named → Option Way
way_named Fresh = Some Freshest
way_named Oldest = Some Eldest
way_named (Table table) = Some (Listed table.values.items table.place)
