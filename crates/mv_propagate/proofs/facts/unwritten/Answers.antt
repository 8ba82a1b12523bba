use Rattle.std.proofs.Common.{◌∙◌, subst, sym}
use Rattle.std.proofs.lemmas.List.Elements.{Contains-get_or}
use Rattle.mv_propagate.specs.Propagating.{Unwritten}
use Rattle.mv_propagate.proofs.Staying.{stay_more}
use Rattle.mv_propagate.proofs.facts.unwritten.Goals.{then-not-names+in_ok-push, else-not-names}
use Rattle.mv_propagate.proofs.facts.unwritten.Goals as goal

pub loop-known-preserved : goal.loop-known-preserved
loop-known-preserved c = elim c.if-not-names.branch [
  | then-not-names+in_ok-push w ↦ stay_more _ c.args.facts.now c.loop-known.kept _ _ c.loop-known.invariant (Contains-get_or c.args.facts.now _ _ c.loop-known-test.true)
      (sym c.names.ensures ∙ w.if-not-names.true) (w.kept-is ∙ w.in_ok-push.ensures.ok)
  | else-not-names w ↦ subst (Unwritten c.args.temp c.args.facts.now) (sym w.kept-is) c.loop-known.invariant
]
