use Rattle.std.proofs.Common.{◌≡◌, drop, map}
use Rattle.mv_command.specs.Commands.{form_of}
use Rattle.mv_command.specs.Help.{form_named}
use Rattle.mv_command.proofs.help.form_named.Given as goal

abbrev pub invariant-loop-form : goal.invariant-loop-form
invariant-loop-form l = form_named l.name (map form_of (drop l.form-index l.forms)) ≡ form_named l.name (map form_of l.forms)
