-- By which way the fetches of words are picked.
use Rattle.std.specs.Prelude.{ℕ, List, Option, Some}
use Rattle.mv_command.specs.Commands.{PicksBy}
use Rattle.mv_command.specs.declared.oracles.Oracle.{Oracle}
use Rattle.mv_command.specs.declared.oracles.Oracle.TheVariants.{Fresh, Oldest, Table}
use Rattle.mv_probe.specs.Ways.{Way, Freshest, Eldest, Listed}

-- the way of an oracle that words name; a table begins with its first number
abbrev pub way_of : Oracle → Way
way_of Fresh = Freshest
way_of Oldest = Eldest
way_of (Table numbers) = Listed numbers 0

-- this holds of the way of the oracle that the words name, and of some way behind it
abbrev pub ByWords : (words : List (List ℕ)) → (Fact : (way later : Option Way) → Type 0) → Type 0
ByWords words Fact = (oracle : Oracle) → PicksBy words oracle → (later : Option Way) × Fact (Some (way_of oracle)) later
