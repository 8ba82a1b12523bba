-- What a body is with the arms of its `switch`es reached by one jump.
use Rattle.std.specs.Prelude.{◌≡◌, []}
use Rattle.mv_ir.specs.declared.body.Body.{Body}
use Rattle.mv_ir.specs.Keeps.{KeepsBody}
use Rattle.mv_ir.specs.Live.{IsWhole, HasTemps}
use Rattle.mv_ir.specs.WellFormed.{IsWellFormed}
use Rattle.mv_fold.specs.Folded.{IsNoGreater}
use Rattle.mv_arms.specs.Arms.{Arms}

-- The second body means what the first means, at no greater cost. It is whole, and well formed, where the first is.
pub record IsArmed (body result : Body) : Type 0 where
  pub means : KeepsBody body result
  pub code : Arms body.temps [] body.code result.code
  pub smaller : IsNoGreater body.code result.code
  pub whole : IsWhole body → IsWhole result
  pub has_temps : HasTemps body → HasTemps result
  pub well_formed : IsWellFormed body → IsWellFormed result
  pub params : result.params ≡ body.params
  pub temps : result.temps ≡ body.temps
  pub sizes : result.arrays ≡ body.arrays
  pub rooms : result.rooms ≡ body.rooms
  pub marked : result.marked ≡ body.marked
  pub switches : result.switches ≡ body.switches
