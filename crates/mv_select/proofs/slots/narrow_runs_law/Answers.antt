use Rattle.mv_select.proofs.OfSlots.Bindings.{bindings_are_told}
use Rattle.mv_select.proofs.OfSlots.Forms.{alike, runs, slots, jumps, firsts}
use Rattle.mv_select.proofs.OfSlots.Points.{points_under, arrivals_follow}
use Rattle.mv_select.proofs.slots.narrow_runs_law.Goals as goal

pub returns-clause-told : goal.returns-clause-told
returns-clause-told g c = bindings_are_told

pub returns-clause-alike : goal.returns-clause-alike
returns-clause-alike g c = alike _

pub returns-clause-runs : goal.returns-clause-runs
returns-clause-runs g c = runs _

pub returns-clause-slots : goal.returns-clause-slots
returns-clause-slots g c = slots _

pub returns-clause-jumps : goal.returns-clause-jumps
returns-clause-jumps g c = jumps _

pub returns-clause-firsts : goal.returns-clause-firsts
returns-clause-firsts g c = firsts _

pub returns-clause-points : goal.returns-clause-points
returns-clause-points g c = points_under _

pub returns-clause-arrivals : goal.returns-clause-arrivals
returns-clause-arrivals g c = arrivals_follow _
