use Rattle.std.proofs.Common.{◌≡◌, ℕ, List, subst, sym}
use Rattle.mv_ir.specs.Outcome.{State}
use Rattle.mv_ranges.specs.declared.facts.Fact.{Fact}
use Rattle.mv_ranges.specs.declared.walk.Reach.{Reach}
use Rattle.mv_ranges.specs.declared.walk.Reach.TheVariants.{Knowing}
use Rattle.mv_ranges.specs.Facts.{AllHold, AreKnown}
use Rattle.mv_ranges.specs.Following.{OnReach}
use Rattle.mv_ranges.proofs.walk.joined_reach.Goals as goal

from : (temps : ℕ) (r : Reach) (facts slice both : List Fact) (s : State) → r ≡ Knowing facts → slice ≡ facts → (AllHold s slice → AllHold s both) → OnReach temps r s → AreKnown temps both s
from temps r facts slice both s e f h k =
    let known : AreKnown temps facts s = subst (λ z. OnReach temps z s) e k in
    record { enough = known.enough; true = h (subst (AllHold s) (sym f) known.true) }

pub returns-in_ok-joined-in-Knowing-Knowing-clause-first : goal.returns-in_ok-joined-in-Knowing-Knowing-clause-first
returns-in_ok-joined-in-Knowing-Knowing-clause-first c temps s = from temps _ _ _ _ s c.in-Knowing-Knowing.is-0 c.as_slice.ensures (c.in_ok-joined-in-Knowing-Knowing.ensures.first s)

pub returns-in_ok-joined-in-Knowing-Knowing-clause-second : goal.returns-in_ok-joined-in-Knowing-Knowing-clause-second
returns-in_ok-joined-in-Knowing-Knowing-clause-second c temps s = from temps _ _ _ _ s c.in-Knowing-Knowing.is-1 c.as_slice-in-Knowing-Knowing.ensures (c.in_ok-joined-in-Knowing-Knowing.ensures.second s)
