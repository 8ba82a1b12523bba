use Rattle.std.proofs.Common.{◌∙◌, subst, sym}
use Rattle.std.proofs.lemmas.List.Elements.{Contains-get_or}
use Rattle.std.proofs.lemmas.Bool.{or_from}
use Rattle.mv_propagate.specs.Propagating.{Uncalled}
use Rattle.mv_propagate.proofs.Staying.{stay_more}
use Rattle.mv_propagate.proofs.facts.uncalled.Goals.{then-not-is_element+then-not-names_result+in_ok-push, else-not-is_element}
use Rattle.mv_propagate.proofs.facts.uncalled.Goals as goal

pub loop-known-preserved : goal.loop-known-preserved
loop-known-preserved c = elim c.if-not-is_element.branch [
  | then-not-is_element+then-not-names_result+in_ok-push w ↦
      stay_more _ c.args.facts.now c.loop-known.kept _ _ c.loop-known.invariant (Contains-get_or c.args.facts.now _ _ c.loop-known-test.true)
      (or_from _ _ (sym c.is_element.ensures ∙ w.if-not-is_element.true) (sym w.names_result.ensures ∙ w.if-not-names_result.true)) (w.kept-is ∙ w.in_ok-push.ensures.ok)
  | else-not-is_element w ↦ subst (Uncalled c.args.result_temp c.args.facts.now) (sym w.kept-is) c.loop-known.invariant
]
