-- What folding a body gives.
use Rattle.std.specs.Prelude.{ℕ, ◌≡◌, ◌≤◌, Bool, List, Contains}
use Rattle.mv_ir.specs.declared.stm.Stm.{Stm}
use Rattle.mv_ir.specs.declared.body.Body.{Body}
use Rattle.mv_ir.specs.Keeps.{KeepsBody}
use Rattle.mv_ir.specs.Measures.{scalars_read, arrays_read, statements, tree_nodes, calls, deepest}
use Rattle.mv_ir.specs.Live.{IsWhole, HasTemps, most_intervals}
use Rattle.mv_ir.specs.WellFormed.{IsWellFormed}
use Rattle.mv_fold.specs.Simple.{simple_code}
use Rattle.mv_fold.specs.Shortened.{shortened}
use Rattle.mv_fold.specs.Needed.{code_uses, IsNeeded, needed_code}
use Rattle.mv_fold.specs.Form.{IsFoldedForm}

-- the code of a body with so many temporaries, constants computed and its end shortened
abbrev pub simple_body : ℕ → List Stm → List Stm
simple_body temps code = shortened temps (simple_code code)

-- and then without the sets that aren't needed
abbrev pub IsFoldedCode : ℕ → List Stm → List Stm → Type 0
IsFoldedCode temps code folded = (needed : ℕ → Bool) × IsNeeded needed (code_uses (simple_body temps code)) × (folded ≡ needed_code needed (simple_body temps code))

-- The second code reads no other globals, and no count of it is greater.
pub record IsNoGreater (code result : List Stm) : Type 0 where
  pub scalars : (g : ℕ) → Contains (scalars_read result) g → Contains (scalars_read code) g
  pub arrays : (g : ℕ) → Contains (arrays_read result) g → Contains (arrays_read code) g
  pub deepest : deepest result ≤ deepest code
  pub statements : statements result ≤ statements code
  pub tree_nodes : tree_nodes result ≤ tree_nodes code
  pub calls : calls result ≤ calls code

-- The second body means what the first means, at no greater cost, and has the folded form. It is whole, and
-- well formed, where the first is. Its code is the first's, folded.
pub record IsFolded (body result : Body) : Type 0 where
  pub means : KeepsBody body result
  pub form : IsFoldedForm result.code
  pub code : IsFoldedCode body.temps body.code result.code
  pub smaller : IsNoGreater body.code result.code
  pub whole : IsWhole body → IsWhole result
  pub has_temps : HasTemps body → HasTemps result
  pub well_formed : IsWellFormed body → IsWellFormed result
  pub intervals : most_intervals result ≤ most_intervals body
  pub params : result.params ≡ body.params
  pub temps : result.temps ≡ body.temps
  pub sizes : result.arrays ≡ body.arrays
  pub rooms : result.rooms ≡ body.rooms
  pub marked : result.marked ≡ body.marked
  pub switches : result.switches ≡ body.switches
