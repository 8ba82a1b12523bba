-- What picks the words that fetches give, as it is named: `fresh`, `oldest`, or numbers, joined by commas.
use Prim.Native.Char.{code}
use Rattle.std.specs.Prelude.{ℕ, ◌≡◌, ◌≢◌, ◌≤◌, List, [], map, All, Option, Some, None}
use Rattle.std.specs.List.{join_with_byte}
use Rattle.std.specs.Fmt.{decimal}
use Rattle.clap.specs.Walk.{Text}
use Rattle.mv_command.specs.declared.oracles.Oracle.{Oracle}
use Rattle.mv_command.specs.declared.oracles.Oracle.TheVariants.{Fresh, Oldest, Table}
use Rattle.mv_command.specs.Spelled.{fresh, oldest, most_pick}

-- the text is the list of these numbers, with a comma between each two
pub record AreNumbers (text : Text) (numbers : List ℕ) : Type 0 where
  pub spelled : text ≡ join_with_byte (code ",") (map decimal numbers)
  pub some : numbers ≢ []
  pub each : All (λ n. n ≤ most_pick) numbers

-- the text names this oracle
abbrev pub Names : Text → Oracle → Type 0
Names text Fresh = text ≡ fresh
Names text Oldest = text ≡ oldest
Names text (Table numbers) = AreNumbers text numbers

-- the oracle that this value names, or where there is none the one that always picks the oldest word
abbrev pub IsOracle : Option Text → Oracle → Type 0
IsOracle None oracle = oracle ≡ Oldest
IsOracle (Some text) oracle = Names text oracle
