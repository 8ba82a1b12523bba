use Rattle.std.proofs.Common.{ℕ, subst, sym}
use Rattle.std.proofs.lemmas.Result.{on_ok_weaker}
use Rattle.mv_ir.specs.Outcome.{State}
use Rattle.mv_ranges.specs.Facts.{AllHold, AreKnown}
use Rattle.mv_ranges.specs.Following.{OnReach}
use Rattle.mv_ranges.proofs.walk.checked_reach.Goals as goal

pub returns-in-Knowing : goal.returns-in-Knowing
returns-in-Knowing c = on_ok_weaker c.checked.result gives c.checked.ensures
  where
    gives : ((s : State) → AllHold s c.as_slice.result.now → AllHold s c.args.claimed.now) → (temps : ℕ) (s : State) → OnReach temps c.args.reach.now s → AreKnown temps c.args.claimed.now s
    gives h temps s k =
        let known : AreKnown temps c.in-Knowing.facts s = subst (λ r. OnReach temps r s) c.in-Knowing.is k in
        record { enough = known.enough; true = h s (subst (AllHold s) (sym c.as_slice.ensures) known.true) }
