use Rattle.std.proofs.Common.{◌∙◌, subst, sym}
use Rattle.std.proofs.lemmas.List.Elements.{Contains-get_or}
use Rattle.mv_propagate.specs.Propagating.{Unstored}
use Rattle.mv_propagate.proofs.Staying.{stay_more}
use Rattle.mv_propagate.proofs.facts.unstored.Goals.{then-not-goes_by+in_ok-push, else-not-goes_by}
use Rattle.mv_propagate.proofs.facts.unstored.Goals as goal

pub loop-known-preserved : goal.loop-known-preserved
loop-known-preserved c = elim c.if-not-goes_by.branch [
  | then-not-goes_by+in_ok-push w ↦ stay_more _ c.args.facts.now c.loop-known.kept _ _ c.loop-known.invariant (Contains-get_or c.args.facts.now _ _ c.loop-known-test.true)
      (sym c.goes_by.ensures ∙ w.if-not-goes_by.true) (w.kept-is ∙ w.in_ok-push.ensures.ok)
  | else-not-goes_by w ↦ subst (Unstored c.args.array c.args.facts.now) (sym w.kept-is) c.loop-known.invariant
]
