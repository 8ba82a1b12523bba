use Rattle.std.proofs.Common.{◌≡◌, ◌++◌, drop, map}
use Rattle.mv_command.specs.Commands.{argument_of}
use Rattle.mv_command.specs.Help.{lines_text}
use Rattle.mv_command.proofs.help.push_lines.Given as goal

abbrev pub invariant-loop-argument : goal.invariant-loop-argument
invariant-loop-argument l = l.out.items ++ lines_text (map argument_of (drop l.argument-index l.arguments)) ≡ l.initial.out.items ++ lines_text (map argument_of l.arguments)
