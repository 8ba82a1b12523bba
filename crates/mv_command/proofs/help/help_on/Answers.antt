use Rattle.std.proofs.Common.{rules, ◌≡◌, option_map, Some, None, sym, ap, ◌∙◌}
use Rattle.std.specs.Option.{option_copied}
use Rattle.mv_command.specs.Spelled.{commands}
use Rattle.mv_command.specs.Commands.{form_of}
use Rattle.mv_command.specs.Help.{details, form_named, help_on}
use Rattle.mv_command.proofs.help.help_on.Goals as goal

pub returns-in_ok-details-in-Some-form_named : goal.returns-in_ok-details-in-Some-form_named
returns-in_ok-details-in-Some-form_named c =
    let given : option_copied c.args.name ≡ Some c.in-Some.name.now = search rules in
    let found : Some (form_of c.in-Some-form_named.form.now) ≡ form_named c.in-Some.name.now commands = c.in-Some-form_named.ensures in
    ap Some c.in_ok-details-in-Some-form_named.ensures ∙ ap (option_map details) found ∙ sym (ap help_on given)

pub returns-in-None : goal.returns-in-None
returns-in-None c =
    let given : option_copied c.args.name ≡ Some c.in-Some.name.now = search rules in
    let found : None ≡ form_named c.in-Some.name.now commands = c.in-None.ensures in
    ap (option_map details) found ∙ sym (ap help_on given)
