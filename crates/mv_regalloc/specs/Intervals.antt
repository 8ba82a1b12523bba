-- The intervals of a body in the order of their first positions, and the numbers that a scan of them gives.
use Rattle.std.specs.Prelude.{ℕ, zero, suc, ◌+◌, ◌-◌, ◌≡◌, ◌<◌, ◌≤◌, Bool, cond, eqb, ◌&&◌, List, [], ◌∷◌, ◌++◌}
use Rattle.mv_ir.specs.declared.body.Body.{Body}
use Rattle.mv_ir.specs.Keeps.{KeepsBody}
use Rattle.mv_ir.specs.Live.{marks_length, all_marks, most_intervals, IsWhole, HasTemps}
use Rattle.mv_ir.specs.WellFormed.{IsWellFormed}
use Rattle.mv_ir.specs.Measures.{statements, calls, tree_nodes, deepest, scalars_read, arrays_read}
use Rattle.mv_regalloc.specs.Scan.{Interval, Placed, scan}
use Rattle.mv_regalloc.specs.Rename.{renamed}
use Rattle.mv_ast.specs.Names.{any_of}

-- the first and the last marked position, where the list begins at a position and one is marked
abbrev pub first_from : ℕ → List Bool → ℕ
first_from at [] = at
first_from at (x ∷ xs) = cond x at (first_from (suc at) xs)

abbrev pub last_from : ℕ → List Bool → ℕ
last_from at [] = at
last_from at (x ∷ xs) = cond (any_of xs) (last_from (suc at) xs) at

abbrev pub span : (ℕ → List Bool) → ℕ → Interval
span marks t = record { temp = t; first = first_from 0 (marks t); last = last_from 0 (marks t) }

-- the intervals of some temporaries that begin at a position
abbrev pub beginning : (ℕ → List Bool) → ℕ → List ℕ → List Interval
beginning marks at [] = []
beginning marks at (t ∷ ts) = cond (any_of (marks t) && eqb (first_from 0 (marks t)) at) (span marks t ∷ beginning marks at ts) (beginning marks at ts)

-- those that begin at one of so many positions from one on, in the order of these
abbrev pub by_first : (ℕ → List Bool) → List ℕ → ℕ → ℕ → List Interval
by_first marks ts at zero = []
by_first marks ts at (suc steps) = beginning marks at ts ++ by_first marks ts (suc at) steps

-- n numbers from a on
abbrev pub range : ℕ → ℕ → List ℕ
range a zero = []
range a (suc n) = range a n ++ (a + n) ∷ []

-- the parameters keep their numbers
abbrev pub given : (ℕ → List Bool) → ℕ → List Placed
given marks zero = []
given marks (suc n) = record { interval = span marks n; number = n } ∷ given marks n

-- how many positions a body has
abbrev pub positions : Body → ℕ
positions b = marks_length (all_marks b 0)

-- the intervals of the temporaries that aren't parameters, in the order of their first positions
abbrev pub others : Body → List Interval
others b = by_first (all_marks b) (range b.params (b.temps - b.params)) 0 (positions b)

-- the parameters, and then the others
abbrev pub allotted : Body → List Placed
allotted b = scan (given (all_marks b) b.params) (others b)

-- The second body means what the first means, at no greater cost. It has as many temporaries as there are intervals
-- over one position at most, and no more intervals over a position. It is whole as well, its temporaries are its own,
-- and it is well formed where the first is. Nothing but the numbers of the temporaries has changed, and those of the parameters stay: so it has as many
-- statements, calls and tree nodes, trees as deep, and reads the same globals.
pub record IsRenamed (b result : Body) : Type 0 where
  pub keeps : KeepsBody b result
  pub temps : result.temps ≡ most_intervals b
  pub intervals : most_intervals result ≤ most_intervals b
  pub whole : IsWhole result
  pub has_temps : HasTemps result
  pub well_formed : IsWellFormed b → IsWellFormed result
  pub numbers : ℕ → ℕ
  pub changes : result ≡ renamed numbers result.temps b
  pub params : (t : ℕ) → t < b.params → numbers t ≡ t
  pub statements : statements result.code ≡ statements b.code
  pub calls : calls result.code ≡ calls b.code
  pub tree_nodes : tree_nodes result.code ≡ tree_nodes b.code
  pub deepest : deepest result.code ≡ deepest b.code
  pub scalars : scalars_read result.code ≡ scalars_read b.code
  pub arrays : arrays_read result.code ≡ arrays_read b.code
