-- What carrying numbers through the temporaries of a body gives.
use Rattle.std.specs.Prelude.{◌≡◌, ◌≤◌, []}
use Rattle.mv_ir.specs.declared.body.Body.{Body}
use Rattle.mv_ir.specs.Keeps.{KeepsBody}
use Rattle.mv_ir.specs.Live.{IsWhole, HasTemps, most_intervals}
use Rattle.mv_ir.specs.WellFormed.{IsWellFormed}
use Rattle.mv_fold.specs.Folded.{IsNoGreater}
use Rattle.mv_carry.specs.declared.facts.Reach.TheVariants.{Knowing}
use Rattle.mv_carry.specs.Carrying.{outermost, carried_code}

-- The second body means what the first means, at no greater cost. It is whole, and well formed, where the first is. Its code is what carrying makes of the
-- first's, at whose start nothing is known.
pub record IsCarried (body result : Body) : Type 0 where
  pub means : KeepsBody body result
  pub code : result.code ≡ (carried_code body.temps outermost (Knowing []) body.code).code
  pub smaller : IsNoGreater body.code result.code
  pub whole : IsWhole body → IsWhole result
  pub has_temps : HasTemps body → HasTemps result
  pub well_formed : IsWellFormed body → IsWellFormed result
  pub intervals : most_intervals result ≤ most_intervals body
  pub params : result.params ≡ body.params
  pub temps : result.temps ≡ body.temps
  pub sizes : result.arrays ≡ body.arrays
  pub rooms : result.rooms ≡ body.rooms
  pub marked : result.marked ≡ body.marked
  pub switches : result.switches ≡ body.switches
