-- What holds of each good outcome of a judgement.
use Rattle.std.proofs.Common.{◌≡◌, ℕ, Bool, true, false, refl, subst, List, [], ◌∷◌}
use Rattle.std.specs.List.{AllByRecursion}
use Rattle.mv_syntax.specs.declared.place.Place.{Place}
use Rattle.mv_check_expressions.specs.Judged.{Judged, Good, Broken, and_then}
use Rattle.mv_check_declarations.specs.Turns.{through}
use Rattle.std.proofs.Common.{if◌then◌else◌}

module _ {A : Type 0} where
  abbrev pub IfGood : Judged A → (A → Type 0) → Type 0
  IfGood (Good a) P = P a
  IfGood (Broken place rule) P = Unit {0}

  pub of_good : (P : A → Type 0) (j : Judged A) → IfGood j P → (a : A) → j ≡ Good a → P a
  of_good P j h a q = subst (λ x. IfGood x P) q h

  pub by_good : (P : A → Type 0) (j : Judged A) → ((a : A) → j ≡ Good a → P a) → IfGood j P
  by_good P (Good a) h = h a refl
  by_good P (Broken place rule) h = tt

  pub if_any : (j : Judged A) → IfGood j (λ a. Unit {0})
  if_any (Good a) = tt
  if_any (Broken place rule) = tt

  pub if_more : (P Q : A → Type 0) (j : Judged A) → ((a : A) → P a → Q a) → IfGood j P → IfGood j Q
  if_more P Q (Good a) f h = f a h
  if_more P Q (Broken place rule) f h = tt

  -- a rule that is broken or not
  pub if_kept : (P : A → Type 0) (b : Bool) (place : Place) (rule : ℕ) (j : Judged A) → (b ≡ false → IfGood j P) → IfGood (if b then Broken place rule else j) P
  if_kept P true place rule j h = tt
  if_kept P false place rule j h = h refl

  pub if_so : (P : A → Type 0) (b : Bool) (place : Place) (rule : ℕ) (j : Judged A) → (b ≡ true → IfGood j P) → IfGood (if b then j else Broken place rule) P
  if_so P true place rule j h = h refl
  if_so P false place rule j h = tt

module _ {A B : Type 0} where
  pub if_then : (P : A → Type 0) (Q : B → Type 0) (j : Judged A) (next : A → Judged B) → IfGood j P → ((a : A) → P a → IfGood (next a) Q) → IfGood (and_then j next) Q
  if_then P Q (Good a) next h k = k a h
  if_then P Q (Broken place rule) next h k = tt

-- parts in their order, each of which is a step of a relation
module _ {S X : Type 0} (step : X → S → Judged S) (R : S → S → Type 0) (G : X → Type 0) (same : (s : S) → R s s)
    (joined : (s t u : S) → R s t → R t u → R s u) (each : (x : X) → G x → (s : S) → IfGood (step x s) (R s)) where
  pub if_through : (xs : List X) → AllByRecursion G xs → (s : S) → IfGood (through step xs s) (R s)
  if_through [] h s = same s
  if_through (x ∷ xs) h s =
      if_then (R s) (R s) (step x s) (through step xs) (each x h.0 s)
      (λ t r. if_more (R t) (R s) (through step xs t) (λ u. joined s t u r) (if_through xs h.1 t))

-- ---- lists

pub if_both : {A : Type 0} (P Q : A → Type 0) (j : Judged A) → IfGood j P → IfGood j Q → IfGood j (λ a. P a × Q a)
if_both P Q (Good a) h k = (h, k)
if_both P Q (Broken place rule) h k = tt
