-- The words of the grammar's language: what holds of the value of each phrase among whose terminals each name is one.
use Rattle.std.proofs.Common.{◌≡◌, ℕ, zero, suc, ◌≤◌, true, Option, Some, None, List, [], ◌∷◌, ◌++◌, inl, inr, length, length-append, sym, subst, arith}
use Rattle.std.specs.List.{AllByRecursion}
use Rattle.mv_parse_grammar.specs.Terminals.{Terminal, is_name}
use Rattle.mv_parse_grammar.specs.Language as L
use Rattle.mv_parse_grammar.specs.Language.{turns}
use Rattle.mv_source_facts.specs.Facts.{IsName}

-- ---- lists

all_append : {A : Type 0} (P : A → Type 0) (xs ys : List A) → AllByRecursion P xs → AllByRecursion P ys → AllByRecursion P (xs ++ ys)
all_append P [] ys h k = k
all_append P (x ∷ xs) ys h k = (h.0, all_append P xs ys h.1 k)

pub all_last : {A : Type 0} (P : A → Type 0) (xs : List A) (y : A) → AllByRecursion P xs → P y → AllByRecursion P (xs ++ y ∷ [])
all_last P xs y h k = all_append P xs (y ∷ []) h (k, tt)

pub all_parts : {A : Type 0} (P : A → Type 0) (xs ys : List A) → AllByRecursion P (xs ++ ys) → AllByRecursion P xs × AllByRecursion P ys
all_parts P [] ys h = (tt, h)
all_parts P (x ∷ xs) ys h = let r = all_parts P xs ys h.1 in ((h.0, r.0), r.1)

-- ---- terminals

abbrev pub IsNamed : Terminal → Type 0
IsNamed t = is_name t ≡ true → IsName t.spelling

abbrev pub AreNamed : List Terminal → Type 0
AreNamed = AllByRecursion IsNamed

parts : (ts front back : List Terminal) → AreNamed ts → ts ≡ front ++ back → AreNamed front × AreNamed back
parts ts front back h e = all_parts IsNamed front back (subst AreNamed e h)

-- ---- phrases

pub record Gives {X : Type 0} (P : X → Type 0) (A : X → List Terminal → Type 0) : Type 0 where
  pub holds : (x : X) (ts : List Terminal) → AreNamed ts → A x ts → P x

pub given : {X : Type 0} {P : X → Type 0} {x : X} → P x → Gives P (L.give x)
given {X} {P} {x} h = record { holds = λ y ts n k. subst P (sym k.value) h }

-- any phrase, and a phrase after it
pub past : {X Y : Type 0} {P : Y → Type 0} {A : X → List Terminal → Type 0} {F : X → Y → List Terminal → Type 0}
    → ((x : X) → Gives P (F x)) → Gives P (L.◌>>=◌ A F)
past h = record { holds = λ y ts n k. (h k.middle).holds y k.back (parts ts k.front k.back n k.whole).1 k.second }

pub after : {X Y : Type 0} {Q : X → Type 0} {P : Y → Type 0} {A : X → List Terminal → Type 0} {F : X → Y → List Terminal → Type 0}
    → Gives Q A → ((x : X) → Q x → Gives P (F x)) → Gives P (L.◌>>=◌ A F)
after a h = record {
  holds = λ y ts n k.
      let p = parts ts k.front k.back n k.whole in
      (h k.middle (a.holds k.middle k.front p.0 k.first)).holds y k.back p.1 k.second;
}

-- a name
pub name : Gives (λ (t : Terminal). IsName t.spelling) (L.token is_name)
name = record { holds = λ t ts n k. (subst AreNamed k.one n).0 k.kind }

pub either : {X : Type 0} {P : X → Type 0} {A B : X → List Terminal → Type 0} → Gives P A → Gives P B → Gives P (L.◌or◌ A B)
either a b = record { holds = λ x ts n k. elim k [ inl h ↦ a.holds x ts n h | inr h ↦ b.holds x ts n h ] }

pub placed : {X : Type 0} {P : X → Type 0} {A : X → List Terminal → Type 0} → Gives P A → Gives (λ p. P p.1) (L.marked A)
placed a = record { holds = λ p ts n k. a.holds p.1 ts n k.phrase }

turned : {X : Type 0} (P : X → Type 0) (F : X → X → List Terminal → Type 0) → ((x : X) → P x → Gives P (F x))
    → (k : ℕ) (x y : X) (ts : List Terminal) → AreNamed ts → P x → turns F k x y ts → P y
turned P F h zero x y ts n p g = subst P (sym g.value) p
turned P F h (suc k) x y ts n p g =
    let q = parts ts g.front g.back n g.whole in
    turned P F h k g.middle y g.back q.1 ((h x p).holds g.middle g.front q.0 g.first) g.second

-- again and again
pub chained : {X : Type 0} {P : X → Type 0} {F : X → X → List Terminal → Type 0} {x : X} → P x → ((x : X) → P x → Gives P (F x)) → Gives P (L.chain F x)
chained {X} {P} {F} {x} p h = record { holds = λ y ts n k. turned P F h k.count x y ts n p k.phrases }

abbrev pub IfSome : {X : Type 0} → (X → Type 0) → Option X → Type 0
IfSome P None = Unit {0}
IfSome P (Some x) = P x

pub optional : {X : Type 0} {P : X → Type 0} {A : X → List Terminal → Type 0} → Gives P A → Gives (IfSome P) (L.optional A)
optional a = either (after a (λ x h. given h)) (given tt)

-- ---- lists of phrases

module _ {X : Type 0} {P : X → Type 0} {A : X → List Terminal → Type 0} (a : Gives P A) where
  pub pushed : (xs : List X) → AllByRecursion P xs → Gives (AllByRecursion P) (L.pushed A xs)
  pushed xs h = after a (λ x p. given (all_last P xs x h p))

  pub commas : Gives (AllByRecursion P) (L.comma_list A)
  commas = after a (λ x p. chained (p, tt) (λ xs h. past (λ _. pushed xs h)))

-- a list that isn't empty
abbrev pub HasSome : {X : Type 0} → List X → Type 0
HasSome xs = 1 ≤ length xs

module _ {X : Type 0} {A : X → List Terminal → Type 0} where
  pub some_commas : Gives HasSome (L.comma_list A)
  some_commas =
      past (λ x. chained (omega arith) (λ xs h. past (λ _. past (λ y. given (omega (arith, length-append xs (y ∷ [])))))))

  pub some_braced : Gives HasSome (L.braced_list A)
  some_braced =
      past (λ _. after some_commas (λ xs h. after (either (past (λ _. given h)) (given h)) (λ ys k. past (λ _. given k))))
