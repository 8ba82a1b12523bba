-- Judgements on parts in their order agree where those on each part do.
use Rattle.std.proofs.Common.{◌≡◌, ℕ, refl, sym, ◌∙◌, ap, Bool, true, false, not, ◌&&◌, ◌||◌, if◌then◌else◌, List, [], ◌∷◌, ◌++◌, map}
use Rattle.mv_syntax.specs.declared.place.Place.{Place}
use Rattle.mv_check_scope.specs.declared.scope.Scope.{Scope}
use Rattle.mv_check_expressions.specs.Judged.{Judged, Good, Broken, and_then, first_broken, unless_broken}
use Rattle.mv_check_declarations.specs.Turns.{through, next_part, in_turn}
use Rattle.mv_check_rules.specs.Declarations.{Found, in_order, found_next}
use Rattle.mv_check_rules.proofs.Agreement.{mapped}

pub or_true : (b : Bool) → true ≡ b || true
or_true true = refl
or_true false = refl

pub or_false : (b : Bool) → b ≡ b || false
or_false true = refl
or_false false = refl

-- of two tests and of those behind them, by those that fail
pub none_fails : (a b rest : Bool) → ((a && b) && not rest) ≡ (a && not (not b || rest))
none_fails true true rest = refl
none_fails true false rest = refl
none_fails false b rest = refl

-- what holds of what is found, if it is
abbrev pub IfGood : {A : Type 0} → (A → Type 0) → Judged A → Type 0
IfGood P (Good a) = P a
IfGood P (Broken place rule) = Unit {0}

-- ---- a part and what follows it

module _ {A B : Type 0} (next rest : A → Judged B) (agree : (a : A) → next a ≡ rest a) where
  after : (j : Judged A) → and_then j next ≡ and_then j rest
  after (Good a) = agree a
  after (Broken place rule) = refl

  pub then_same : (j k : Judged A) → j ≡ k → and_then j next ≡ and_then k rest
  then_same j k e = ap (λ x. and_then x next) e ∙ after k

module _ {A C B D : Type 0} (f : A → C) (g : B → D) (next : C → Judged D) (rest : A → Judged B) (agree : (a : A) → next (f a) ≡ mapped g (rest a)) where
  after_mapped : (j : Judged A) → and_then (mapped f j) next ≡ mapped g (and_then j rest)
  after_mapped (Good a) = agree a
  after_mapped (Broken place rule) = refl

  pub then_mapped : (j : Judged C) (k : Judged A) → j ≡ mapped f k → and_then j next ≡ mapped g (and_then k rest)
  then_mapped j k e = ap (λ x. and_then x next) e ∙ after_mapped k

module _ {A B D : Type 0} (g : B → D) (next : A → Judged D) (rest : A → Judged B) (agree : (a : A) → next a ≡ mapped g (rest a)) where
  after_to : (j : Judged A) → and_then j next ≡ mapped g (and_then j rest)
  after_to (Good a) = agree a
  after_to (Broken place rule) = refl

  pub then_to : (j k : Judged A) → j ≡ k → and_then j next ≡ mapped g (and_then k rest)
  then_to j k e = ap (λ x. and_then x next) e ∙ after_to k

module _ {A C B : Type 0} (f : A → C) (next : C → Judged B) (rest : A → Judged B) (agree : (a : A) → next (f a) ≡ rest a) where
  after_from : (j : Judged A) → and_then (mapped f j) next ≡ and_then j rest
  after_from (Good a) = agree a
  after_from (Broken place rule) = refl

  pub then_from : (j : Judged C) (k : Judged A) → j ≡ mapped f k → and_then j next ≡ and_then k rest
  then_from j k e = ap (λ x. and_then x next) e ∙ after_from k

module _ {A B C : Type 0} (next : A → Judged B) (rest : B → Judged C) where
  pub then_then : (j : Judged A) → and_then (and_then j next) rest ≡ and_then j (λ a. and_then (next a) rest)
  then_then (Good a) = refl
  then_then (Broken place rule) = refl

-- ---- parts in their order

module _ {S T X : Type 0} (f : S → T) (part : X → T → Judged T) (step : X → S → Judged S) (agree : (x : X) (s : S) → part x (f s) ≡ mapped f (step x s)) where
  pub in_order_mapped : (xs : List X) (s : S) → in_order part xs (f s) ≡ mapped f (through step xs s)
  in_order_mapped [] s = refl
  in_order_mapped (x ∷ xs) s = then_mapped f f (in_order part xs) (through step xs) (in_order_mapped xs) (part x (f s)) (step x s) (agree x s)

module _ {S X : Type 0} (part step : X → S → Judged S) (agree : (x : X) (s : S) → part x s ≡ step x s) where
  pub in_order_same : (xs : List X) (s : S) → in_order part xs s ≡ through step xs s
  in_order_same [] s = refl
  in_order_same (x ∷ xs) s = then_same (in_order part xs) (through step xs) (in_order_same xs) (part x s) (step x s) (agree x s)

module _ {S X : Type 0} (part : X → S → Judged S) where
  pub in_order_append : (xs ys : List X) (s : S) → in_order part (xs ++ ys) s ≡ and_then (in_order part xs s) (in_order part ys)
  in_order_append [] ys s = refl
  in_order_append (x ∷ xs) ys s =
      then_same (in_order part (xs ++ ys)) (λ t. and_then (in_order part xs t) (in_order part ys)) (in_order_append xs ys) (part x s) (part x s) refl ∙
      sym (then_then (in_order part xs) (in_order part ys) (part x s))

module _ {X A : Type 0} (part turn : X → Scope → Found A) (agree : (x : X) (s : Scope) → part x s ≡ turn x s) where
  pub found_in_turn : (xs : List X) (d : Scope × List A) → in_order (found_next part) xs d ≡ in_turn (map turn xs) d
  found_in_turn [] d = refl
  found_in_turn (x ∷ xs) d =
      then_same (in_order (found_next part) xs) (in_turn (map turn xs)) (found_in_turn xs) (found_next part x d) (next_part (turn x) d)
      (ap (λ (j : Found A). and_then j (λ e. Good (e.0, d.1 ++ e.1 ∷ []))) (agree x d.0))

-- ---- a rule that may be broken

module _ {A : Type 0} (place : Place) (a : A) where
  pub one_rule : (rule : ℕ) (b : Bool) → unless_broken place (first_broken ((rule, b) ∷ [])) a ≡ (if b then Broken place rule else Good a)
  one_rule rule true = refl
  one_rule rule false = refl
