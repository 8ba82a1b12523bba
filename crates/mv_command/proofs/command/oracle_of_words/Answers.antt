use Rattle.std.proofs.Common.{map, sym, subst}
use Rattle.std.specs.String.{string_bytes}
use Rattle.mv_command.specs.Commands.{PicksBy, asked, by_command, by_none}
use Rattle.mv_command.proofs.command.oracle_of_words.Goals as goal

pub returns-in-Some : goal.returns-in-Some
returns-in-Some c =
    let found = rw c.in-Some.is at c.in_ok-command.ensures in
    subst (PicksBy (map string_bytes c.args.words.now)) (sym c.oracle_asked.ensures) (by_command (asked c.in-Some.command) found)

pub returns-in-None : goal.returns-in-None
returns-in-None c = by_none (rw c.in-None.is at c.in_ok-command.ensures)
