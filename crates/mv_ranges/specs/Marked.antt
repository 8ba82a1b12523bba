-- What it gives to mark the accesses of a body whose indices are below the length.
use Rattle.std.specs.Prelude.{◌≡◌}
use Rattle.mv_ir.specs.declared.body.Body.{Body}
use Rattle.mv_ir.specs.Keeps.{KeepsBody}
use Rattle.mv_ranges.specs.Plain.{plain_code}

-- The second body means what the first means, at no greater cost, and is the same but for promises that indices are below a number.
pub record IsMarkedBody (body result : Body) : Type 0 where
  pub means : KeepsBody body result
  pub code : plain_code result.code ≡ plain_code body.code
  pub params : result.params ≡ body.params
  pub temps : result.temps ≡ body.temps
  pub sizes : result.arrays ≡ body.arrays
  pub rooms : result.rooms ≡ body.rooms
  pub marked : result.marked ≡ body.marked
  pub switches : result.switches ≡ body.switches
