use Rattle.std.proofs.Common.{ℕ, Some, refl, subst, sym}
use Rattle.std.proofs.lemmas.Result.{IfOk-weaker}
use Rattle.mv_num.specs.declared.list.List.{List as Items}
use Rattle.mv_ir.specs.World.{World}
use Rattle.mv_ir.specs.Outcome.{State}
use Rattle.mv_ir.specs.Meaning.{put, with_world}
use Rattle.mv_ranges.specs.declared.facts.Fact.{Fact}
use Rattle.mv_ranges.specs.Facts.{AllHold, AreAsLong, AreSameBut}
use Rattle.mv_ranges.proofs.Steps.{same_but, as_long}
use Rattle.mv_ranges.proofs.walk.called.Goals as goal

pub returns-in-Some : goal.returns-in-Some
returns-in-Some c = IfOk-weaker c.without.result _ _ gives c.without.ensures
  where
    gives : (after : Items Fact) → ((s s' : State) → AllHold s c.as_slice.result.now → AreSameBut c.in-Some.temp s s' → AreAsLong s s' → AllHold s' after) →
        (s : State) (w : World) (v : ℕ) → AllHold s c.args.facts.now → AllHold (put c.args.target v (with_world s w)) after
    gives after h s w v k = subst (λ r. AllHold (put r v (with_world s w)) after) (sym c.in-Some.is)
        (h (with_world s w) (put (Some c.in-Some.temp) v (with_world s w)) (subst (AllHold (with_world s w)) (sym c.as_slice.ensures) (c.in_ok-kept.ensures s (with_world s w) k refl))
        (same_but (with_world s w) c.in-Some.temp v) (as_long (with_world s w) c.in-Some.temp v))

pub returns-in-None : goal.returns-in-None
returns-in-None c s w v k = subst (λ r. AllHold (put r v (with_world s w)) c.in_ok-kept.kept) (sym c.in-None.is) (c.in_ok-kept.ensures s (with_world s w) k refl)
