-- What a function of the parser answers, against what reading takes.
use Rattle.std.specs.Prelude.{◌≡◌, Bool, true, Some, None, Result, Ok, Err, List, ◌∷◌, length}
use Rattle.mv_parse_grammar.specs.Terminals.{Terminal}
use Rattle.mv_parse_grammar.specs.Reader.{Read, Ends, Deep, next_two}
use Rattle.mv_parse_nodes.specs.declared.fault.Fault.{Fault}
use Rattle.mv_parse_nodes.specs.declared.fault.Fault.TheVariants.{Memory, Syntax}

abbrev pub Fails : {A : Type 0} → Result A Fault → List Terminal → Type 0
Fails (Ok a) s = ⊥
Fails (Err Memory) s = Unit {0}
Fails (Err (Syntax left)) s = left ≡ length s

abbrev pub Takes : {A X : Type 0} → (A → X × List Terminal) → Result A Fault → X → List Terminal → Type 0
Takes view (Ok a) x s = (x ≡ (view a).0) × (s ≡ (view a).1)
Takes view (Err Memory) x s = Unit {0}
Takes view (Err (Syntax left)) x s = ⊥

abbrev pub Told : {A X : Type 0} → (A → X × List Terminal) → Result A Fault → Read X → Type 0
Told view r Deep = Unit {0}
Told view r (Ends None s) = Fails r s
Told view r (Ends (Some x) s) = Takes view r x s

-- The answer is what was read: a value and the tokens after it, or how many tokens are left where no phrase goes on. Memory
-- may run out, and nothing is said where the bound on the reading is too small.
pub record Gives {A X : Type 0} (view : A → X × List Terminal) (r : Result A Fault) (read : Read X) : Type 0 where
  pub told : Told view r read

-- the first token, and those after it
pub record IsTaken (test : Terminal → Bool) (ts : List Terminal) (t : Terminal) (rest : List Terminal) : Type 0 where
  pub whole : ts ≡ t ∷ rest
  pub kind : test t ≡ true

-- the first token, and those after it, of which the next is of another kind
pub record IsTakenBefore (test then : Terminal → Bool) (ts : List Terminal) (t : Terminal) (rest : List Terminal) : Type 0 where
  pub taken : IsTaken test ts t rest
  pub both : next_two test then ts ≡ true
