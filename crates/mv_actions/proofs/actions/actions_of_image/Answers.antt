use Rattle.std.proofs.Common.{List, length, arith, ap, ◌∙◌, subst}
use Rattle.std.proofs.lemmas.Result.{IfOk-weaker}
use Rattle.mv_actions.specs.declared.controls.Control.{Control}
use Rattle.mv_actions.specs.Operator.{AreActions}
use Rattle.mv_actions.proofs.Fitting.{all_words, all_fit_in}
use Rattle.mv_actions.proofs.Rows.{few_rows}
use Rattle.mv_actions.proofs.actions.actions_of_image.Goals as goal

pub actions_on-requires-clause-few : goal.actions_on-requires-clause-few
actions_on-requires-clause-few c =
    let same = c.as_slice.ensures.value ∙ c.in_ok-switches.ensures in
    omega (arith, ap length same, few_rows c.args.image.now, c.within_limits.ensures.switches)

pub returns-clause-fit : goal.returns-clause-fit
returns-clause-fit c =
    let image = c.args.image.now in
    let items = c.args.items.now in
    let same = c.as_slice.ensures.value ∙ c.in_ok-switches.ensures in
    IfOk-weaker c.actions_on.result _ _ (λ actions are. all_fit_in image items actions.items (subst (λ (s : List Control). AreActions s items actions.items) same are)) c.actions_on.ensures.ok

pub returns-clause-words : goal.returns-clause-words
returns-clause-words c = IfOk-weaker c.actions_on.result _ _ (λ actions are. all_words c.as_slice.result.now c.args.items.now actions.items are) c.actions_on.ensures.ok
