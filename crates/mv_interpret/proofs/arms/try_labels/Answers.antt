use Rattle.std.proofs.Common.{◌≡◌, ◌∙◌, ap, arith, drop}
use Rattle.std.proofs.lemmas.List.{drop_all}
use Rattle.mv_meaning.specs.Meaning.{tried_labels}
use Rattle.mv_interpret.proofs.LabelTests.{nothing_counted}
use Rattle.mv_interpret.proofs.arms.try_labels.Goals as goal

pub returns-clause-counted : goal.returns-clause-counted
returns-clause-counted c =
    let l = c.loop-label in
    let none : (tried_labels c.args.value (drop l.label-index c.args.labels.now)).labels ≡ 0 =
    ap (λ x. (tried_labels c.args.value x).labels) (drop_all l.label-index c.args.labels.now (omega arith)) in
    nothing_counted l.state _ l.invariant.in_range none ∙ l.invariant.counted
