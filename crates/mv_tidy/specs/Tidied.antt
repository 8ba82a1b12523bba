-- What tidying a body gives.
use Rattle.std.specs.Prelude.{ℕ, ◌≡◌, List}
use Rattle.mv_ir.specs.declared.stm.Stm.{Stm}
use Rattle.mv_ir.specs.declared.body.Body.{Body}
use Rattle.mv_ir.specs.Keeps.{KeepsBody}
use Rattle.mv_ir.specs.Live.{IsWhole, HasTemps, nowhere}
use Rattle.mv_ir.specs.WellFormed.{IsWellFormed}
use Rattle.mv_fold.specs.Folded.{IsNoGreater}
use Rattle.mv_plain.specs.Plain.{PlainCode}
use Rattle.mv_tidy.specs.Tidying.{IsJoinedCode}
use Rattle.mv_tidy.specs.Choosing.{Chosen}

-- the code of a body with so many temporaries, with plainer trees, then with statements joined
pub record IsPlainJoined (temps : ℕ) (code joined : List Stm) : Type 0 where
  pub plain : List Stm
  pub is_plain : PlainCode code plain
  pub is_joined : IsJoinedCode temps plain joined

-- the code of a body with so many temporaries, with plainer trees, then with statements joined, then with choices put together
pub record IsTidiedCode (temps : ℕ) (code result : List Stm) : Type 0 where
  pub plain : List Stm
  pub joined : List Stm
  pub is_plain : PlainCode code plain
  pub is_joined : IsJoinedCode temps plain joined
  pub is_chosen : Chosen temps (λ t. nowhere) joined result

-- The second body means what the first means, at no greater cost. It is whole, and well formed, where the first is. Its code is the first's, tidied.
pub record IsTidied (body result : Body) : Type 0 where
  pub means : KeepsBody body result
  pub code : IsTidiedCode body.temps body.code result.code
  pub smaller : IsNoGreater body.code result.code
  pub whole : IsWhole body → IsWhole result
  pub has_temps : HasTemps body → HasTemps result
  pub well_formed : IsWellFormed body → IsWellFormed result
  pub params : result.params ≡ body.params
  pub temps : result.temps ≡ body.temps
  pub sizes : result.arrays ≡ body.arrays
  pub rooms : result.rooms ≡ body.rooms
  pub marked : result.marked ≡ body.marked
  pub switches : result.switches ≡ body.switches
