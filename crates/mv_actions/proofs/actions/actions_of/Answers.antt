use Rattle.std.proofs.Common.{List, ◌∙◌, subst}
use Rattle.std.proofs.lemmas.Result.{IfOk-weaker}
use Rattle.mv_actions.specs.declared.controls.Control.{Control}
use Rattle.mv_actions.specs.Operator.{AreActions}
use Rattle.mv_actions.proofs.Fitting.{all_words, all_fit}
use Rattle.mv_actions.proofs.actions.actions_of.Goals as goal

pub returns-clause-fit : goal.returns-clause-fit
returns-clause-fit c =
    let program = c.args.program.now in
    let items = c.args.items.now in
    let same = c.as_slice.ensures.value ∙ c.in_ok-switches.ensures in
    IfOk-weaker c.actions_on.result _ _ (λ actions are. all_fit program items actions.items (subst (λ (s : List Control). AreActions s items actions.items) same are)) c.actions_on.ensures.ok

pub returns-clause-words : goal.returns-clause-words
returns-clause-words c = IfOk-weaker c.actions_on.result _ _ (λ actions are. all_words c.as_slice.result.now c.args.items.now actions.items are) c.actions_on.ensures.ok
