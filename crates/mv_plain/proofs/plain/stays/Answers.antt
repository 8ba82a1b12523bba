use Rattle.std.proofs.Common.{sym, ◌∙◌}
use Rattle.mv_plain.specs.Plain.{truth_stays, word_stays}
use Rattle.mv_plain.proofs.plain.stays.Goals as goal

pub returns-then-is_truth : goal.returns-then-is_truth
returns-then-is_truth c = λ e. truth_stays c.args.kind c.args.tree.now (sym c.is_truth.ensures ∙ c.if-is_truth.true)

pub returns : goal.returns
returns c = λ e. word_stays c.args.kind c.args.tree.now (sym c.is_whole.ensures ∙ e)
