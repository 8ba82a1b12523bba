-- How a function's bodies are grouped while its rows are made, each for one assignment.
use Rattle.std.specs.Prelude.{ℕ, ◌-◌, ◌<◌, ◌≡◌, ◌⊎◌, List, [], ◌∷◌, ◌++◌, length, replicate, slice_index_or, slice_get, Some}
use Rattle.mv_num.specs.Bytes.{AreWords}
use Rattle.mv_ir.specs.declared.body.Body.{Body}
use Rattle.mv_ir.specs.Combinations.{In, AllApart}
use Rattle.mv_descriptors.specs.declared.rows.GuardRow.{GuardRow}
use Rattle.mv_merge.specs.declared.rows.Bound.{Bound}
use Rattle.mv_merge.specs.declared.rows.Guarded.{Guarded}
use Rattle.mv_merge.specs.Guards.{bodies_led_to}

-- the values, and then zeros up to six words
abbrev pub padded : List ℕ → List ℕ
padded vs = vs ++ replicate (6 - length vs) 0

-- the row that holds of these values alone
abbrev pub single : List ℕ → GuardRow
single vs = record { low = padded vs; high = padded vs }

-- each guard leads to the body that came with the assignment of which it holds
abbrev pub Leads : List Body → List Bound → List Guarded → Type 0
Leads bodies [] [] = Unit {0}
Leads bodies [] (g ∷ guards) = ⊥
Leads bodies (r ∷ rows) [] = ⊥
Leads bodies (r ∷ rows) (g ∷ guards) = ((g.row ≡ single r.assignment.values) × (slice_get bodies g.body ≡ Some r.body)) × Leads bodies rows guards

abbrev pub HaveWords : List Bound → Type 0
HaveWords [] = Unit {0}
HaveWords (r ∷ rows) = AreWords r.assignment.values × HaveWords rows

-- how a function's bodies under its assignments are grouped: one row for each of them, in order, and no two equal
-- bodies, each with a row
pub record IsGrouped (rows : List Bound) (bodies : List Body) (guards : List Guarded) : Type 0 where
  pub words : HaveWords rows
  pub leads : Leads bodies rows guards
  pub apart : AllApart bodies
  pub used : (i : ℕ) → i < length bodies → In i (bodies_led_to guards)

-- one row more: its guard stands last, and its body is there already, or is new and stands last
pub record IsAdded (bodies : List Body) (guards : List Guarded) (row : Bound) (bodies' : List Body) (guards' : List Guarded) : Type 0 where
  pub place : ℕ
  pub words : AreWords row.assignment.values
  pub led : guards' ≡ guards ++ record { body = place; row = single row.assignment.values } ∷ []
  pub body : slice_get bodies' place ≡ Some row.body
  pub grown : (bodies' ≡ bodies) ⊎ ((bodies' ≡ bodies ++ row.body ∷ []) × (place ≡ length bodies) × ((k : ℕ) (d : Body) → k < length bodies → slice_index_or bodies k d ≡ row.body → ⊥))
