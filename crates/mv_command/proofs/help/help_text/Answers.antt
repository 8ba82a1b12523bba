use Rattle.std.proofs.Common.{ℕ, List, ◌++◌, ap, ◌∙◌}
use Rattle.mv_command.specs.Spelled.{commands}
use Rattle.mv_command.specs.Help.{summaries_text}
use Rattle.mv_command.proofs.help.help_text.Goals as goal

pub returns : goal.returns
returns c = c.in_ok-push_summaries.ensures ∙ ap (λ (t : List ℕ). t ++ summaries_text commands) c.in_ok-text.ensures
