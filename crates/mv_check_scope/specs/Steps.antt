-- A name space by the steps that led to it.
use Rattle.std.specs.Prelude.{◌≡◌, ℕ, ◌≤◌, length, get_or, nat_eq, List, [], ◌∷◌, Some, None}
use Rattle.std.specs.Map.{lookup}
use Rattle.mv_check_outline.specs.Names.{place_of}
use Rattle.mv_check_scope.specs.declared.meaning.Meaning.{Meaning}
use Rattle.mv_check_scope.specs.declared.step.Step.{Step}
use Rattle.mv_check_scope.specs.declared.step.Step.TheVariants.{Declared, Entered}
use Rattle.mv_check_scope.specs.Names.{Space}
use Rattle.mv_check_scope.specs.Scopes.{no_names, with_name, entered}
use Rattle.mv_check_scope.specs.Bindings.{binding, binding_among, Entries}

-- the name that has a number
abbrev pub name_at : List (List ℕ) → ℕ → List ℕ
name_at names n = get_or names n []

abbrev pub stepped : List (List ℕ) → Space → Step → Space
stepped names space (Declared d) = with_name space (name_at names d.number) d.meaning
stepped names space Entered = entered space

abbrev pub led_to : List (List ℕ) → Space → List Step → Space
led_to names space [] = space
led_to names space (step ∷ steps) = led_to names (stepped names space step) steps

-- a declaration has the number of its name, and keeps what it hides
abbrev pub Keeps : List (List ℕ) → Space → Step → Type 0
Keeps names space (Declared d) = (place_of (name_at names d.number) names ≡ Some d.number) × (d.hidden ≡ binding space (name_at names d.number))
Keeps names space Entered = Unit {0}

abbrev pub KeepAll : List (List ℕ) → Space → List Step → Type 0
KeepAll names space [] = Unit {0}
KeepAll names space (step ∷ steps) = Keeps names space step × KeepAll names (stepped names space step) steps

-- some steps, the depth of the block that they led to, and what decides the meaning of each name there; the number of the next name has nothing yet
pub record Represents (names : List (List ℕ)) (steps : List Step) (depth : ℕ) (entries : Entries) : Type 0 where
  pub keep : KeepAll names no_names steps
  pub deep : depth ≡ length (led_to names no_names steps).around
  pub bound : (name : List ℕ) → binding_among names entries name ≡ binding (led_to names no_names steps) name
  pub fresh : (n : ℕ) → length names ≤ n → lookup (nat_eq n) entries ≡ None

-- one space has one declaration more than another
abbrev pub HasDeclared : Space → Space → Type 0
HasDeclared space fewer = (name : List ℕ) × (m : Meaning) × (space ≡ with_name fewer name m)
