-- What is known of temporaries at a place of some code.
use Rattle.std.specs.Prelude.{ℕ, ◌-◌, not, cond, eqb, ltb, List, [], ◌∷◌, ◌++◌, length, drop, Option, Some, None}
use Rattle.std.specs.List.{filter}
pub use Rattle.mv_ir.specs.Live.{is as is_number}
use Rattle.mv_carry.specs.declared.facts.Fact.{Fact}
use Rattle.mv_carry.specs.declared.facts.Reach.{Reach}
use Rattle.mv_carry.specs.declared.facts.Reach.TheVariants.{Never, Knowing}

-- the number that a temporary is known to hold
abbrev pub number_of : List Fact → ℕ → Option ℕ
number_of [] t = None
number_of (f ∷ fs) t = cond (eqb f.temp t) (Some f.number) (number_of fs t)

-- all that is known of other temporaries
abbrev pub without : ℕ → List Fact → List Fact
without t fs = filter (λ f. not (eqb f.temp t)) fs

-- the last 31, so that there is room for one more
abbrev pub newest : List Fact → List Fact
newest fs = drop (length fs - 31) fs

-- what is known behind a write of a temporary, whose value is known or not; temporaries are below `temps`
abbrev pub behind_write : (temps t : ℕ) → Option ℕ → List Fact → List Fact
behind_write temps t None fs = without t fs
behind_write temps t (Some n) fs = cond (ltb t temps) (without t (newest fs) ++ record { temp = t; number = n } ∷ []) (without t fs)

-- what is known on both of two ways
abbrev pub shared : List Fact → List Fact → List Fact
shared fs gs = filter (λ f. is_number (number_of gs f.temp) f.number) fs

-- ---- places

-- nothing is known where control never comes
abbrev pub known : Reach → List Fact
known Never = []
known (Knowing fs) = fs

abbrev pub with_facts : (List Fact → List Fact) → Reach → Reach
with_facts f Never = Never
with_facts f (Knowing fs) = Knowing (f fs)

-- where two ways meet
abbrev pub meet : Reach → Reach → Reach
meet Never r = r
meet (Knowing fs) Never = Knowing fs
meet (Knowing fs) (Knowing gs) = Knowing (shared fs gs)
