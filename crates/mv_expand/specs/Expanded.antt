-- What a body with short bodies in place of calls is.
use Rattle.std.specs.Prelude.{ℕ, ◌≡◌, ◌+◌, ◌≤◌, false, Contains}
use Rattle.mv_ir.specs.declared.body.Body.{Body}
use Rattle.mv_ir.specs.Measures.{scalars_read, arrays_read, calls, deepest}
use Rattle.mv_ir.specs.Live.{IsWhole, HasTemps}
use Rattle.mv_ir.specs.WellFormed.{IsWellFormed}
use Rattle.mv_ir.specs.Shorts.{Shorts, KeepsBodyWith}
use Rattle.mv_expand.specs.Straight.{short_temps}
use Rattle.mv_expand.specs.Expanding.{Expands}

-- The second body means what the first means, at no greater cost, over callees of which it is known that they do what the short bodies do. It is whole, and
-- well formed, where the first is. Its temporaries are those of the first and, where room was made for them, those of short bodies behind.
pub record IsExpanded (shorts : Shorts) (body result : Body) : Type 0 where
  pub means : KeepsBodyWith shorts body result
  pub code : Expands shorts body.temps false body.code result.code
  pub scalars : (g : ℕ) → Contains (scalars_read result.code) g → Contains (scalars_read body.code) g
  pub arrays : (g : ℕ) → Contains (arrays_read result.code) g → Contains (arrays_read body.code) g
  pub deepest : deepest body.code ≤ 4 → deepest result.code ≤ 4
  pub calls : calls result.code ≤ calls body.code
  pub whole : IsWhole body → IsWhole result
  pub has_temps : HasTemps body → HasTemps result
  pub well_formed : IsWellFormed body → IsWellFormed result
  pub params : result.params ≡ body.params
  pub temps : result.temps ≤ body.temps + short_temps
  pub sizes : result.arrays ≡ body.arrays
  pub rooms : result.rooms ≡ body.rooms
  pub marked : result.marked ≡ body.marked
  pub switches : result.switches ≡ body.switches
