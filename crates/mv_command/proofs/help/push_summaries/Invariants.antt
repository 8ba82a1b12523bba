use Rattle.std.proofs.Common.{◌≡◌, ◌++◌, drop, map}
use Rattle.mv_command.specs.Commands.{form_of}
use Rattle.mv_command.specs.Help.{summaries_text}
use Rattle.mv_command.proofs.help.push_summaries.Given as goal

abbrev pub invariant-loop-form : goal.invariant-loop-form
invariant-loop-form l = l.out.items ++ summaries_text (map form_of (drop l.form-index l.forms)) ≡ l.initial.out.items ++ summaries_text (map form_of l.forms)
