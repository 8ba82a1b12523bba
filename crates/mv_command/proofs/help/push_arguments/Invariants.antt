use Rattle.std.proofs.Common.{◌≡◌, ◌++◌, drop, map}
use Rattle.mv_command.specs.Commands.{argument_of}
use Rattle.mv_command.specs.Help.{arguments_text}
use Rattle.mv_command.proofs.help.push_arguments.Given as goal

abbrev pub invariant-loop-argument : goal.invariant-loop-argument
invariant-loop-argument l = l.out.items ++ arguments_text (map argument_of (drop l.argument-index l.arguments)) ≡ l.initial.out.items ++ arguments_text (map argument_of l.arguments)
