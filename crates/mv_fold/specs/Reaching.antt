-- The search for the needed temporaries: from what the body reads, along what each temporary found is computed from.
use Rattle.std.specs.Prelude.{ℕ, ◌+◌, ◌≡◌, ◌<◌, ◌≤◌, ◌⊎◌, Bool, true, eqb, List, ◌++◌, map, length, Option, Some, None, Contains, filter, sum_by, slice_index_or, Vec}
use Rattle.std.specs.Global.{Global}
use Rattle.mv_num.specs.Words.{as_word}
use Rattle.mv_fold.specs.declared.uses.Use.{Use}
use Rattle.mv_ast.specs.Flags.{is_set}

-- the body's row is the first
abbrev pub row : Option ℕ → ℕ
row None = 0
row (Some t) = t + 1

-- its temporaries are among so many
abbrev pub Fits : ℕ → Use → Type 0
Fits n x = (x.used < n) × (row x.user ≤ n)

-- what is read for the row, in order
abbrev pub read_by : ℕ → List Use → List ℕ
read_by k uses = map (λ x. x.used) (filter (λ x. eqb (row x.user) k) uses)

pub record AreRows (count : ℕ) (uses : List Use) (rows : List (Vec ℕ Global)) : Type 0 where
  pub long : length rows ≡ count + 1
  pub each : (k : ℕ) (d : Vec ℕ Global) → k < length rows → (slice_index_or rows k d).items ≡ read_by k uses

-- a list of what is flagged, each once
pub record IsReached (flags : List Bool) (order : List ℕ) : Type 0 where
  pub listed : (t : ℕ) → is_set flags t ≡ true → Contains order t
  pub flagged : (t : ℕ) → Contains order t → is_set flags t ≡ true
  pub counted : sum_by as_word flags ≡ length order

-- what is read was flagged, and nothing else
pub record IsVisited (read : List ℕ) (flags : List Bool) (order : List ℕ) (flags' : List Bool) (order' : List ℕ) : Type 0 where
  pub reached : IsReached flags' order'
  pub long : length flags' ≡ length flags
  pub behind : (more : List ℕ) × (order' ≡ order ++ more)
  pub kept : (t : ℕ) → is_set flags t ≡ true → is_set flags' t ≡ true
  pub found : (t : ℕ) → Contains read t → is_set flags' t ≡ true
  pub only : (t : ℕ) → is_set flags' t ≡ true → (is_set flags t ≡ true) ⊎ Contains read t
