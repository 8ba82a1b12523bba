-- The judgement on a part of a unit: what it is found to be, or the first place at which a rule is broken, with the rule.
use Rattle.std.specs.Prelude.{◌≡◌, ℕ, Bool, if◌then◌else◌, List, [], ◌∷◌, Option, Some, None, Result, Ok, Err}
use Rattle.mv_syntax.specs.declared.place.Place.{Place}
use Rattle.mv_check_expressions.specs.declared.error.RuleError.{RuleError}
use Rattle.mv_check_expressions.specs.declared.error.RuleError.TheVariants as error

pub data Judged (A : Type 0) : Type 0 where
  Good : A → Judged A
  Broken : Place → ℕ → Judged A

module _ {A B : Type 0} where
  -- a part that breaks no rule, and then the next; where one breaks a rule nothing behind it is judged
  abbrev pub and_then : Judged A → (A → Judged B) → Judged B
  and_then (Good a) next = next a
  and_then (Broken place rule) next = Broken place rule

-- the first rule that is broken, of rules in their order
abbrev pub first_broken : List (ℕ × Bool) → Option ℕ
first_broken [] = None
first_broken (b ∷ bs) = if b.1 then Some b.0 else first_broken bs

module _ {A : Type 0} where
  -- what a part at a place is found to be, unless it breaks a rule
  abbrev pub unless_broken : Place → Option ℕ → A → Judged A
  unless_broken place None found = Good found
  unless_broken place (Some rule) found = Broken place rule

  -- parts in their order
  abbrev pub each : List (Judged A) → Judged (List A)
  each [] = Good []
  each (j ∷ js) = and_then j (λ a. and_then (each js) (λ rest. Good (a ∷ rest)))

  -- what a result shows of a judgement: want of memory shows nothing
  abbrev pub Shows : Judged A → Result A RuleError → Type 0
  Shows judged (Ok a) = judged ≡ Good a
  Shows judged (Err (error.Rule place rule)) = judged ≡ Broken place rule
  Shows judged (Err error.Memory) = Unit {0}

-- a judgement is what a result shows
pub record IsJudged {A : Type 0} (judged : Judged A) (result : Result A RuleError) : Type 0 where
  pub shown : Shows judged result
