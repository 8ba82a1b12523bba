-- Parts that are judged one behind the other, each in the state that the one before it left.
use Rattle.std.specs.Prelude.{◌≡◌, List, [], ◌∷◌, ◌++◌, Result, Ok, Err}
use Rattle.mv_check_scope.specs.declared.scope.Scope.{Scope}
use Rattle.mv_check_expressions.specs.declared.error.RuleError.{RuleError}
use Rattle.mv_check_expressions.specs.declared.error.RuleError.TheVariants as error
use Rattle.mv_check_expressions.specs.Judged.{Judged, Good, Broken, and_then}

-- the state behind the last of some parts
module _ {S X : Type 0} (step : X → S → Judged S) where
  abbrev pub through : List X → S → Judged S
  through [] s = Good s
  through (x ∷ xs) s = and_then (step x s) (through xs)

-- what a part of a unit gives, and the scope behind it
abbrev pub Behind : Type 0 → Type 0
Behind A = Judged (Scope × A)

module _ {A : Type 0} where
  abbrev pub next_part : (Scope → Behind A) → Scope × List A → Behind (List A)
  next_part part d = and_then (part d.0) (λ e. Good (e.0, d.1 ++ e.1 ∷ []))

  -- what some parts give in their order, behind what those before them gave
  abbrev pub in_turn : List (Scope → Behind A) → Scope × List A → Behind (List A)
  in_turn = through next_part

module _ {A : Type 0} where
  -- what a result and the scope behind it show of a judgement: want of memory shows nothing
  abbrev pub ShowsBehind : Behind A → Result A RuleError → Scope → Type 0
  ShowsBehind judged (Ok a) s = judged ≡ Good (s, a)
  ShowsBehind judged (Err (error.Rule place rule)) s = judged ≡ Broken place rule
  ShowsBehind judged (Err error.Memory) s = Unit {0}

-- a judgement is what a result and the scope behind it show
pub record IsBehind {A : Type 0} (judged : Behind A) (result : Result A RuleError) (s : Scope) : Type 0 where
  pub shown : ShowsBehind judged result s

-- what a result shows of a judgement on the scope behind a part
abbrev pub ShowsScope : Judged Scope → Result (Unit {0}) RuleError → Scope → Type 0
ShowsScope judged (Ok done) s = judged ≡ Good s
ShowsScope judged (Err (error.Rule place rule)) s = judged ≡ Broken place rule
ShowsScope judged (Err error.Memory) s = Unit {0}

pub record IsLeft (judged : Judged Scope) (result : Result (Unit {0}) RuleError) (s : Scope) : Type 0 where
  pub shown : ShowsScope judged result s
