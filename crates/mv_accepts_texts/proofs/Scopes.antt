-- What a part of a function's text does to the scope: it hides what it declares, and what is made of it names the globals that the names in it mean.
use Rattle.std.proofs.Common.{◌≡◌, ℕ, Bool, true, false, not, ◌&&◌, ◌||◌, refl, sym, ◌∙◌, ap, if◌then◌else◌, List, [], ◌∷◌, ◌++◌, map, length, append-nil, nat_eq, nat_lt, Option, Some, None}
use Rattle.std.proofs.lemmas.List.Folds.{list_any-append, find-append}
use Rattle.std.specs.Option.{option_or}
use Rattle.std.specs.Cmp.Lexicographic.{pointwise, same_text}
use Rattle.mv_check_scope.specs.declared.meaning.Meaning.{Meaning}
use Rattle.mv_check_scope.specs.declared.scope.Scope.{Scope}
use Rattle.mv_check_scope.specs.Known.{known_function}
use Rattle.mv_check_scope.specs.Scoped.{unless_declared, meaning_of, declared, block_entered, block_left}
use Rattle.mv_check_scope.specs.Scopes.{sought}
use Rattle.mv_check_scope.specs.Spaces.{named, or_else, meaning_in}
use Rattle.mv_check_scope.proofs.BoundNames.{named_last}
use Rattle.mv_check_limits.specs.Limits.{first_above}
use Rattle.mv_check_limits.proofs.Told.{both_none}
use Rattle.mv_check_outline.specs.Names.{is_among, same_name}
use Rattle.mv_accepts.proofs.OfStatements.Names.{entered_means, left_is}
use Rattle.mv_accepts_texts.specs.Expressions.{NameList}
use Rattle.mv_accepts_texts.specs.Meanings.{is_global, names_global}
use Rattle.mv_accepts_texts.specs.Texts.{Part, undeclared, naming, declaring, next, block}

-- ---- what is hidden

-- from one scope to another: what these names mean is hidden
abbrev pub Hides : NameList → Scope → Scope → Type 0
Hides names s t = (g : ℕ) (n : List ℕ) → is_global g (meaning_of t n) ≡ (not (is_among n names) && is_global g (meaning_of s n))

pub hides_none : (s : Scope) → Hides [] s s
hides_none s g n = refl

pub hides_names : (s t : Scope) → t.names ≡ s.names → Hides [] s t
hides_names s t q g n = ap (λ names. is_global g (unless_declared (sought names n) (known_function n))) q

twice : (a b c : Bool) → (not a && (not b && c)) ≡ (not (a || b) && c)
twice true b c = refl
twice false b c = refl

pub hides_joined : (xs ys : NameList) (s t u : Scope) → Hides xs s t → Hides ys t u → Hides (ys ++ xs) s u
hides_joined xs ys s t u h k g n =
    k g n ∙
    (ap (λ b. not (is_among n ys) && b) (h g n) ∙
    (twice (is_among n ys) (is_among n xs) (is_global g (meaning_of s n)) ∙
    ap (λ b. not b && is_global g (meaning_of s n)) (sym (list_any-append (same_name n) ys xs))))

pub hides_same : (xs ys : NameList) (s t : Scope) → ((n : List ℕ) → is_among n xs ≡ is_among n ys) → Hides xs s t → Hides ys s t
hides_same xs ys s t q h g n = h g n ∙ ap (λ b. not b && is_global g (meaning_of s n)) (q n)

-- a name that is new to the block, and means no global
pub hides_declared : (s : Scope) (name : List ℕ) (m : Meaning) → named name s.names.here ≡ None → ((g : ℕ) → is_global g (Some m) ≡ false) →
    Hides (name ∷ []) s (declared s name m)
hides_declared s name m new local g n =
    ap (λ o. is_global g (unless_declared (or_else o (meaning_in s.names.around n)) (known_function n))) (named_last n s.names.here (name, m)) ∙
    by (pointwise nat_eq n name) refl
  where
    none_here : pointwise nat_eq n name ≡ true → named n s.names.here ≡ None
    none_here q = ap (λ x. named x s.names.here) (same_text n name (sym q)) ∙ new

    by_here : (o : Option Meaning) → or_else o None ≡ o
    by_here None = refl
    by_here (Some x) = refl

    by : (b : Bool) → pointwise nat_eq n name ≡ b →
        is_global g (unless_declared (or_else (or_else (named n s.names.here) (if b then Some m else None)) (meaning_in s.names.around n)) (known_function n)) ≡
        (not (b || false) && is_global g (meaning_of s n))
    by true q = ap (λ o. is_global g (unless_declared (or_else (or_else o (Some m)) (meaning_in s.names.around n)) (known_function n))) (none_here q) ∙ local g
    by false q = ap (λ o. is_global g (unless_declared (or_else o (meaning_in s.names.around n)) (known_function n))) (by_here (named n s.names.here))

-- the names that are hidden mean no global
pub names_behind : (declared : NameList) (s t : Scope) → Hides declared s t → (g : ℕ) (names : NameList) →
    names_global g t names ≡ names_global g s (undeclared declared names)
names_behind declared s t h g [] = refl
names_behind declared s t h g (n ∷ names) =
    ap (λ b. b || names_global g t names) (h g n) ∙
    (ap (λ b. (not (is_among n declared) && is_global g (meaning_of s n)) || b) (names_behind declared s t h g names) ∙ by (not (is_among n declared)))
  where
    by : (b : Bool) → ((b && is_global g (meaning_of s n)) || names_global g s (undeclared declared names)) ≡
        names_global g s (if b then n ∷ undeclared declared names else undeclared declared names)
    by true = refl
    by false = refl

-- ---- how many parameters the types of functions have

abbrev pub few : List ℕ → Type 0
few counts = first_above 8 counts ≡ None

abbrev pub FewIn : Scope → Type 0
FewIn s = few (map (λ f. length f.params) s.signatures)

pub few_both : (xs ys : List ℕ) → few (xs ++ ys) → few xs × few ys
few_both xs ys h = both_none (first_above 8 xs) (first_above 8 ys) (sym (find-append (λ c. nat_lt 8 c) xs ys) ∙ h)

pub few_more : (xs ys : List ℕ) → few xs → few ys → few (xs ++ ys)
few_more xs ys h k = find-append (λ c. nat_lt 8 c) xs ys ∙ (ap (λ o. option_or o (first_above 8 ys)) h ∙ k)

pub few_alone : (xs : List ℕ) → few xs → few (xs ++ [])
few_alone xs h = ap (first_above 8) (append-nil xs) ∙ h

-- ---- a part

-- no block is left, and where a text has no type of too many parameters there is none
pub record Moves (counts : List ℕ) (s t : Scope) : Type 0 where
  pub around : t.names.around ≡ s.names.around
  pub few : few counts → FewIn s → FewIn t

pub moves_same : (s : Scope) → Moves [] s s
moves_same s = record { around = refl; few = λ h k. k }

pub moves_joined : (xs ys : List ℕ) (s t u : Scope) → Moves xs s t → Moves ys t u → Moves (xs ++ ys) s u
moves_joined xs ys s t u h k = record {
  around = k.around ∙ h.around;
  few = λ f i. let b = few_both xs ys f in k.few b.1 (h.few b.0 i);
}

pub moves_block : (counts : List ℕ) (s t : Scope) → Moves counts (block_entered s) t → Moves counts s (block_left t)
moves_block counts s t h = record {
  around = ap (λ names. names.around) (left_is s.names t.names h.around);
  few = h.few;
}

-- From the scope at the beginning of the function.
module _ (start : Scope) where
  -- a part with these counts, and whether what is made of it names a global
  pub record Tells (part : Part) (counts : List ℕ) (s t : Scope) (made : ℕ → Bool) : Type 0 where
    pub moves : Moves counts s t
    pub hidden : (d : NameList) → Hides d start s → Hides (part d).0 start t
    pub named : (d : NameList) (g : ℕ) → Hides d start s → made g ≡ names_global g start (part d).1

  pub tells_made : (part : Part) (counts : List ℕ) (s t : Scope) (a b : ℕ → Bool) → ((g : ℕ) → b g ≡ a g) → Tells part counts s t a → Tells part counts s t b
  tells_made part counts s t a b q h = record { moves = h.moves; hidden = h.hidden; named = λ d g k. q g ∙ h.named d g k }

  pub tells_counts : (part : Part) (xs ys : List ℕ) (s t : Scope) (a : ℕ → Bool) → (few ys → few xs) → Tells part xs s t a → Tells part ys s t a
  tells_counts part xs ys s t a q h =
      record { moves = record { around = h.moves.around; few = λ f. h.moves.few (q f) }; hidden = h.hidden; named = h.named }

  -- what is neither a name nor a signature makes no difference
  pub tells_same : (part : Part) (counts : List ℕ) (s t u : Scope) (a : ℕ → Bool) → u.names ≡ t.names → u.signatures ≡ t.signatures → Tells part counts s t a →
      Tells part counts s u a
  tells_same part counts s t u a q r h = record {
    moves = record { around = ap (λ names. names.around) q ∙ h.moves.around; few = λ f k. rw r (h.moves.few f k) };
    hidden = λ d k. hides_joined (part d).0 [] start t u (h.hidden d k) (hides_names t u q);
    named = h.named;
  }

  pub tells_naming : (names : NameList) (s : Scope) (made : ℕ → Bool) → ((g : ℕ) → made g ≡ names_global g s names) → Tells (naming names) [] s s made
  tells_naming names s made h = record {
    moves = moves_same s;
    hidden = λ d k. k;
    named = λ d g k. h g ∙ names_behind d start s k g names;
  }

  pub tells_declaring : (names : NameList) (counts : List ℕ) (s t : Scope) → Hides names s t → Moves counts s t → Tells (declaring names) counts s t (λ g. false)
  tells_declaring names counts s t h m = record {
    moves = m;
    hidden = λ d k. hides_joined d names start s t k h;
    named = λ d g k. refl;
  }

  pub tells_next : (p q : Part) (xs ys : List ℕ) (s t u : Scope) (a b : ℕ → Bool) → Tells p xs s t a → Tells q ys t u b →
      Tells (next p q) (xs ++ ys) s u (λ g. a g || b g)
  tells_next p q xs ys s t u a b h k = record {
    moves = moves_joined xs ys s t u h.moves k.moves;
    hidden = λ d i. k.hidden (p d).0 (h.hidden d i);
    named = λ d g i.
        ap (λ x. x || b g) (h.named d g i) ∙
        (ap (λ x. names_global g start (p d).1 || x) (k.named (p d).0 g (h.hidden d i)) ∙
        sym (list_any-append (λ name. is_global g (meaning_of start name)) (p d).1 (q (p d).0).1));
  }

  pub entered : (d : NameList) (s : Scope) → Hides d start s → Hides d start (block_entered s)
  entered d s h g n = ap (is_global g) (entered_means s n) ∙ h g n

  pub tells_block : (p : Part) (counts : List ℕ) (s t : Scope) (a : ℕ → Bool) → Tells p counts (block_entered s) t a → Tells (block p) counts s (block_left t) a
  tells_block p counts s t a h = record {
    moves = moves_block counts s t h.moves;
    hidden = λ d k. hides_joined d [] start s (block_left t) k (hides_names s (block_left t) (left_is s.names t.names h.moves.around));
    named = λ d g k. h.named d g (entered d s k);
  }
