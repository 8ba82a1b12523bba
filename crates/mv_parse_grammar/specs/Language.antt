-- Languages of terminals. A phrase of a language is a list of terminals that stands for a value.
use Rattle.std.specs.Prelude.{◌≡◌, ℕ, zero, suc, Bool, true, Option, Some, None, List, [], ◌∷◌, ◌++◌, ◌⊎◌}
use Rattle.mv_syntax.specs.declared.place.Place.{Place}
use Rattle.mv_ast.specs.Marks as marks
use Rattle.mv_parse_grammar.specs.Terminals.{Terminal, is_mark}

abbrev pub Language : Type 0 → Type 1
Language X = X → List Terminal → Type 0

-- the empty phrase
pub record IsGiven {X : Type 0} (x y : X) (ts : List Terminal) : Type 0 where
  pub value : y ≡ x
  pub empty : ts ≡ []

-- one terminal of a class
pub record IsToken (test : Terminal → Bool) (t : Terminal) (ts : List Terminal) : Type 0 where
  pub one : ts ≡ t ∷ []
  pub kind : test t ≡ true

-- a phrase, and a phrase after it that may depend on the first one's value
pub record IsThen {X Y : Type 0} (A : X → List Terminal → Type 0) (F : X → Y → List Terminal → Type 0) (y : Y) (ts : List Terminal) : Type 0 where
  pub middle : X
  pub front : List Terminal
  pub back : List Terminal
  pub whole : ts ≡ front ++ back
  pub first : A middle front
  pub second : F middle y back

abbrev pub give : {X : Type 0} → X → X → List Terminal → Type 0
give x = IsGiven x

abbrev pub token : (Terminal → Bool) → Terminal → List Terminal → Type 0
token test = IsToken test

infixl 10 ◌>>=◌
abbrev pub ◌>>=◌ : {X Y : Type 0} → (X → List Terminal → Type 0) → (X → Y → List Terminal → Type 0) → Y → List Terminal → Type 0
A >>= F = IsThen A F

-- one or the other
infixr 5 ◌or◌
abbrev pub ◌or◌ : {X : Type 0} → (X → List Terminal → Type 0) → (X → List Terminal → Type 0) → X → List Terminal → Type 0
(A or B) x ts = A x ts ⊎ B x ts

-- the place of the first terminal
abbrev pub place_of : List Terminal → Place
place_of [] = record { line = 0; column = 0 }
place_of (t ∷ ts) = t.place

-- a phrase, with its place
pub record IsMarked {X : Type 0} (A : X → List Terminal → Type 0) (p : Place × X) (ts : List Terminal) : Type 0 where
  pub place : p.0 ≡ place_of ts
  pub phrase : A p.1 ts

abbrev pub marked : {X : Type 0} → (X → List Terminal → Type 0) → Place × X → List Terminal → Type 0
marked A = IsMarked A

-- n phrases, each of which goes on from the value before it
abbrev pub turns : {X : Type 0} → (X → X → List Terminal → Type 0) → ℕ → X → X → List Terminal → Type 0
turns F zero x = give x
turns F (suc n) x = F x >>= turns F n

-- any number of such phrases
pub record IsChain {X : Type 0} (F : X → X → List Terminal → Type 0) (x y : X) (ts : List Terminal) : Type 0 where
  pub count : ℕ
  pub phrases : turns F count x y ts

abbrev pub chain : {X : Type 0} → (X → X → List Terminal → Type 0) → X → X → List Terminal → Type 0
chain F x = IsChain F x

-- a phrase under a condition
pub record IsWhen {X : Type 0} (K : Type 0) (A : X → List Terminal → Type 0) (x : X) (ts : List Terminal) : Type 0 where
  pub condition : K
  pub phrase : A x ts

abbrev pub when : {X : Type 0} → Type 0 → (X → List Terminal → Type 0) → X → List Terminal → Type 0
when K A = IsWhen K A

-- a phrase or none
abbrev pub optional : {X : Type 0} → (X → List Terminal → Type 0) → Option X → List Terminal → Type 0
optional A = (A >>= λ x. give (Some x)) or give None

-- a phrase after those of a list
abbrev pub pushed : {X : Type 0} → (X → List Terminal → Type 0) → List X → List X → List Terminal → Type 0
pushed A xs = A >>= λ x. give (xs ++ x ∷ [])

-- "," phrase
abbrev pub comma_pushed : {X : Type 0} → (X → List Terminal → Type 0) → List X → List X → List Terminal → Type 0
comma_pushed A xs = token (is_mark marks.comma) >>= λ _. pushed A xs

-- phrase ("," phrase)*
abbrev pub comma_list : {X : Type 0} → (X → List Terminal → Type 0) → List X → List Terminal → Type 0
comma_list A = A >>= λ x. chain (comma_pushed A) (x ∷ [])

-- [","]
abbrev pub last_comma : {X : Type 0} → X → X → List Terminal → Type 0
last_comma x = (token (is_mark marks.comma) >>= λ _. give x) or give x

-- "{" phrase ("," phrase)* [","] "}"
abbrev pub braced_list : {X : Type 0} → (X → List Terminal → Type 0) → List X → List Terminal → Type 0
braced_list A = token (is_mark marks.open_brace) >>= λ _. comma_list A >>= λ xs. last_comma xs >>= λ ys. token (is_mark marks.close_brace) >>= λ _. give ys
