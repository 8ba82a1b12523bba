-- What stands around a statement (C11 6.8.6).
use Rattle.std.specs.Prelude.{true, false}
use Rattle.mv_ast.specs.declared.program.CType.{CType}
use Rattle.mv_check_statements.specs.declared.around.Around.{Around}

abbrev pub in_function : CType → Around
in_function t = record { breaks = false; continues = false; returns = t }

abbrev pub in_loop : Around → Around
in_loop around = record around { breaks = true; continues = true }

-- a `break` leaves the `switch`, a `continue` goes on with a loop around it
abbrev pub in_switch : Around → Around
in_switch around = record around { breaks = true }
