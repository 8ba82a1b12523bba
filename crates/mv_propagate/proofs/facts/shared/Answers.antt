use Rattle.std.proofs.Common.{◌∙◌, refl, subst, sym}
use Rattle.std.proofs.lemmas.List.Elements.{Contains-get_or}
use Rattle.mv_propagate.specs.Propagating.{Fewer}
use Rattle.mv_propagate.proofs.Staying.{stay_more}
use Rattle.mv_propagate.proofs.facts.shared.Goals.{then-is_among+in_ok-push, else-is_among}
use Rattle.mv_propagate.proofs.facts.shared.Goals as goal

pub loop-known-preserved : goal.loop-known-preserved
loop-known-preserved c = elim c.if-is_among.branch [
  | then-is_among+in_ok-push w ↦ (
    stay_more _ c.args.facts.now c.loop-known.kept _ _ c.loop-known.invariant.0 (Contains-get_or c.args.facts.now _ _ c.loop-known-test.true) refl (w.kept-is ∙ w.in_ok-push.ensures.ok),
    stay_more _ c.args.others.now c.loop-known.kept _ _ c.loop-known.invariant.1 (c.is_among.ensures w.if-is_among.true) refl (w.kept-is ∙ w.in_ok-push.ensures.ok),
  )
  | else-is_among w ↦ (subst (Fewer c.args.facts.now) (sym w.kept-is) c.loop-known.invariant.0, subst (Fewer c.args.others.now) (sym w.kept-is) c.loop-known.invariant.1)
]
