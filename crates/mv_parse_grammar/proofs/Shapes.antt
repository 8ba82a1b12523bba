-- Exactness, with what the goal tells left out: a proof for a production has the production's shape.
use Rattle.std.proofs.Common.{◌≡◌, ℕ, suc, ◌+◌, ◌*◌, ◌<◌, ◌≤◌, Bool, true, false, Option, None, List, [], ◌∷◌, ◌++◌, inl, inr, length, refl, sym, ap, ◌∙◌, arith}
use Rattle.mv_parse_grammar.specs.Terminals.{Terminal}
use Rattle.mv_parse_grammar.specs.Language as L
use Rattle.mv_parse_grammar.specs.Reader as R
use Rattle.mv_parse_grammar.specs.Reader.{Read, next}
use Rattle.mv_parse_grammar.proofs.Exact.{Exact, ExactIn, Free, Begins, Leads, none, none_next, leads_token, leads_then, leads_any, shorter, not_longer, exact_give, exact_token, exact_then, exact_room, exact_eased, exact_choice, exact_guarded, exact_chain, chain_opened}
use Rattle.mv_parse_grammar.proofs.Classes.{either, or_none}
use Rattle.std.proofs.lemmas.Bool.{or_parts}

-- The bound n is b above three times the number of terminals.
pub record Room (n b l : ℕ) : Type 0 where
  pub enough : 3 * l + b ≤ n

pub room_down : (n b l m : ℕ) → l ≤ m → Room n b m → Room n b l
room_down n b l m h r = record { enough = let e : 3 * m + b ≤ n = r.enough in omega arith }

-- how phrases begin

-- a phrase that begins with a terminal of a class
pub leads_first : {X : Type 0} (test : Terminal → Bool) {F : Terminal → X → List Terminal → Type 0} → Leads test (L.◌>>=◌ (L.token test) F)
leads_first test {F} = leads_then test (L.token test) F (leads_token test)

pub leads_wider : {X : Type 0} {test wider : Terminal → Bool} {F : Terminal → X → List Terminal → Type 0} → ((t : Terminal) → test t ≡ true → wider t ≡ true) → Leads wider (L.◌>>=◌ (L.token test) F)
leads_wider {X} {test} {wider} {F} h = leads_any test wider (L.◌>>=◌ (L.token test) F) h (leads_first test)

-- a phrase or none, and a phrase after it
pub leads_maybe : {X Y : Type 0} (test : Terminal → Bool) (A : X → List Terminal → Type 0) (x : X) (F : X → Y → List Terminal → Type 0) → Leads test A → ((x : X) → Leads test (F x)) → Leads test (L.◌>>=◌ (L.◌or◌ A (L.give x)) F)
leads_maybe test A x F l m y b c = go c.first
  where
    go : (L.◌or◌ A (L.give x)) c.middle c.front → Begins test b
    go (inl d) = let h : Begins test c.front = l c.middle c.front d in record { head = h.head; tail = h.tail ++ c.back; whole = c.whole ∙ ap (λ z. z ++ c.back) h.whole; kind = h.kind }
    go (inr e) = let h : Begins test c.back = m c.middle y c.back c.second in record { head = h.head; tail = h.tail; whole = c.whole ∙ (ap (λ z. z ++ c.back) e.empty ∙ h.whole); kind = h.kind }

pub leads_optional : {X Y : Type 0} (test : Terminal → Bool) (A : X → List Terminal → Type 0) (F : Option X → Y → List Terminal → Type 0) → Leads test A → ((x : Option X) → Leads test (F x)) → Leads test (L.◌>>=◌ (L.optional A) F)
leads_optional test A F l m = leads_maybe test _ None F (leads_then test A _ l) m

-- a chain, and a phrase after it
pub leads_chain : {X Y : Type 0} (test : Terminal → Bool) (F : X → X → List Terminal → Type 0) (x : X) (G : X → Y → List Terminal → Type 0) → ((x : X) → Leads test (F x)) → ((x : X) → Leads test (G x)) → Leads test (L.◌>>=◌ (L.chain F x) G)
leads_chain test F x G l m y b c =
    leads_maybe test (L.◌>>=◌ (F x) (L.chain F)) x G (leads_then test (F x) (L.chain F) (l x)) m y b
    (record { middle = c.middle; front = c.front; back = c.back; whole = c.whole; first = chain_opened F x c.middle c.front c.first; second = c.second })

-- what never follows doesn't begin a phrase of this language either, nor what follows it
abbrev pub Apart : {X : Type 0} → (Terminal → Bool) → (X → List Terminal → Type 0) → (X → Terminal → Bool) → (Terminal → Bool) → Type 0
Apart {X} never A more outer = (x : X) (b r : List Terminal) → A x b → Free (more x) r → Free outer r → Free never (b ++ r)

pub apart_none : {X : Type 0} (A : X → List Terminal → Type 0) (more : X → Terminal → Bool) (outer : Terminal → Bool) → Apart none A more outer
apart_none A more outer x b r c h k = none_next (b ++ r)

pub apart_give : {X : Type 0} (never : Terminal → Bool) (x : X) (more : X → Terminal → Bool) → Apart never (L.give x) more never
apart_give never x more y b r c h k = ap (λ z. next never (z ++ r)) c.empty ∙ k

pub apart_leads : {X : Type 0} (never test : Terminal → Bool) (A : X → List Terminal → Type 0) (more : X → Terminal → Bool) (outer : Terminal → Bool)
    → Leads test A → ((t : Terminal) → test t ≡ true → never t ≡ false) → Apart never A more outer
apart_leads never test A more outer l h x b r c k m = let s : Begins test b = l x b c in ap (λ z. next never (z ++ r)) s.whole ∙ h s.head s.kind

-- an empty phrase, where what never follows outside covers what never does inside
pub apart_given : {X : Type 0} (never outer : Terminal → Bool) (x : X) (more : X → Terminal → Bool) → ((t : Terminal) → outer t ≡ false → never t ≡ false) → Apart never (L.give x) more outer
apart_given never outer x more h y b [] c k m = ap (λ z. next never (z ++ [])) c.empty
apart_given never outer x more h y b (t ∷ r) c k m = ap (λ z. next never (z ++ (t ∷ r))) c.empty ∙ h t m

pub apart_or : {X : Type 0} (never : Terminal → Bool) (A B : X → List Terminal → Type 0) (more : X → Terminal → Bool) (outer : Terminal → Bool) → Apart never A more outer → Apart never B more outer → Apart never (L.◌or◌ A B) more outer
apart_or never A B more outer a d x b r (inl c) k m = a x b r c k m
apart_or never A B more outer a d x b r (inr c) k m = d x b r c k m

-- the words

pub given : {X : Type 0} {K : ℕ → Type 0} {never before : Terminal → Bool} {x : X} {more : X → Terminal → Bool} → before ≡ more x → ExactIn K never before (L.give x) (L.give x) (R.give x) more
given {X} {K} {never} {before} {x} {more} same = exact_give K never before x more (λ t h. ap (λ z. z t) (sym same) ∙ h) (λ t h k. ap (λ z. z t) same ∙ h)

-- where what goes on never follows
pub ended : {X : Type 0} {K : ℕ → Type 0} {never before : Terminal → Bool} {x : X} → ((t : Terminal) → never t ≡ false → before t ≡ false) → ExactIn K never before (L.give x) (L.give x) (R.give x) (λ _. none)
ended {X} {K} {never} {before} {x} h = exact_give K never before x (λ _. none) (λ t k. refl) (λ t k n. h t n)

pub taken : {K : ℕ → Type 0} {never before test : Terminal → Bool} (sample : Terminal) → test sample ≡ true →
    ((t : Terminal) → test t ≡ true → before t ≡ false) → ExactIn K never before (L.token test) (L.token test) (R.token test) (λ _ _. false)
taken {K} {never} {before} {test} sample good apart = exact_token K never before test sample good apart

-- after a terminal the bound has three more to spare
pub first : {Y : Type 0} {n b : ℕ} {never before test : Terminal → Bool} {F F' : Terminal → Y → List Terminal → Type 0} {f : Terminal → List Terminal → Read Y} {more : Y → Terminal → Bool}
    → Exact (Room n b) before (L.token test) (L.token test) (R.token test) (λ _ _. false) → ((x : Terminal) → ExactIn (Room n (b + 3)) never (λ _. false) (F x) (F' x) (f x) more)
    → ExactIn (Room n b) never before (L.◌>>=◌ (L.token test) F) (L.◌>>=◌ (L.token test) F') (R.◌>>=◌ (R.token test) f) more
first {Y} {n} {b} {never} {before} {test} {F} {F'} {f} {more} a g = exact_then (Room n b) (Room n (b + 3)) none never before (L.token test) (L.token test) (R.token test) (λ _ _. false) F F' f more a g
    (λ x. apart_none (F' x) more never)
    (λ ts x s u h. let l : length s < length ts = shorter test (L.token test) (λ _ _. false) ts x s (leads_token test) u in let m : 3 * length ts + b ≤ n = h.enough in record { enough = omega arith })

-- after a phrase that isn't empty, likewise
pub beyond : {X Y : Type 0} {n b : ℕ} {never before : Terminal → Bool} {A A' : X → List Terminal → Type 0} {p : List Terminal → Read X} {inner : X → Terminal → Bool}
    {F F' : X → Y → List Terminal → Type 0} {f : X → List Terminal → Read Y} {more : Y → Terminal → Bool} (test : Terminal → Bool)
    → Leads test A → Exact (Room n b) before A A' p inner → ((x : X) → ExactIn (Room n (b + 3)) never (inner x) (F x) (F' x) (f x) more) → ExactIn (Room n b) never before (L.◌>>=◌ A F) (L.◌>>=◌ A' F') (R.◌>>=◌ p f) more
beyond {X} {Y} {n} {b} {never} {before} {A} {A'} {p} {inner} {F} {F'} {f} {more} test l a g = exact_then (Room n b) (Room n (b + 3)) none never before A A' p inner F F' f more a g
    (λ x. apart_none (F' x) more never)
    (λ ts x s u h. let k : length s < length ts = shorter test A inner ts x s l u in let m : 3 * length ts + b ≤ n = h.enough in record { enough = omega arith })

pub after : {X Y : Type 0} {n b : ℕ} {never before : Terminal → Bool} {A A' : X → List Terminal → Type 0} {p : List Terminal → Read X} {inner : X → Terminal → Bool}
    {F F' : X → Y → List Terminal → Type 0} {f : X → List Terminal → Read Y} {more : Y → Terminal → Bool}
    → Exact (Room n b) before A A' p inner → ((x : X) → ExactIn (Room n b) never (inner x) (F x) (F' x) (f x) more) → ExactIn (Room n b) never before (L.◌>>=◌ A F) (L.◌>>=◌ A' F') (R.◌>>=◌ p f) more
after {X} {Y} {n} {b} {never} {before} {A} {A'} {p} {inner} {F} {F'} {f} {more} a g = exact_then (Room n b) (Room n b) none never before A A' p inner F F' f more a g
    (λ x. apart_none (F' x) more never)
    (λ ts x s u h. room_down n b (length s) (length ts) (not_longer A inner ts x s u) h)

-- the same, after a phrase behind which some classes never stand
pub after_in : {X Y : Type 0} {n b : ℕ} {never_first never before : Terminal → Bool} {A A' : X → List Terminal → Type 0} {p : List Terminal → Read X} {inner : X → Terminal → Bool}
    {F F' : X → Y → List Terminal → Type 0} {f : X → List Terminal → Read Y} {more : Y → Terminal → Bool}
    → ((x : X) → Apart never_first (F' x) more never)
    → ExactIn (Room n b) never_first before A A' p inner → ((x : X) → ExactIn (Room n b) never (inner x) (F x) (F' x) (f x) more) → ExactIn (Room n b) never before (L.◌>>=◌ A F) (L.◌>>=◌ A' F') (R.◌>>=◌ p f) more
after_in {X} {Y} {n} {b} {never_first} {never} {before} {A} {A'} {p} {inner} {F} {F'} {f} {more} apart a g = exact_then (Room n b) (Room n b) never_first never before A A' p inner F F' f more a g
    apart
    (λ ts x s u h. room_down n b (length s) (length ts) (not_longer A inner ts x s u) h)

pub beyond_in : {X Y : Type 0} {n b : ℕ} {never_first never before : Terminal → Bool} {A A' : X → List Terminal → Type 0} {p : List Terminal → Read X} {inner : X → Terminal → Bool}
    {F F' : X → Y → List Terminal → Type 0} {f : X → List Terminal → Read Y} {more : Y → Terminal → Bool} (test : Terminal → Bool)
    → Leads test A → ((x : X) → Apart never_first (F' x) more never)
    → ExactIn (Room n b) never_first before A A' p inner → ((x : X) → ExactIn (Room n (b + 3)) never (inner x) (F x) (F' x) (f x) more) → ExactIn (Room n b) never before (L.◌>>=◌ A F) (L.◌>>=◌ A' F') (R.◌>>=◌ p f) more
beyond_in {X} {Y} {n} {b} {never_first} {never} {before} {A} {A'} {p} {inner} {F} {F'} {f} {more} test l apart a g = exact_then (Room n b) (Room n (b + 3)) never_first never before A A' p inner F F' f more a g
    apart
    (λ ts x s u h. let k : length s < length ts = shorter test A inner ts x s l u in let m : 3 * length ts + b ≤ n = h.enough in record { enough = omega arith })

pub chosen : {X : Type 0} {K : ℕ → Type 0} {never before test : Terminal → Bool} {A A' B B' : X → List Terminal → Type 0} {p q : List Terminal → Read X} {more : X → Terminal → Bool} (wider : Terminal → Bool)
    → ((t : Terminal) → (before t ≡ false) → (test t ≡ false) → wider t ≡ false) → ((t : Terminal) → wider t ≡ false → (before t ≡ false) × (test t ≡ false))
    → Leads test A' → ExactIn K never before A A' p more → ExactIn K never wider B B' q more → ExactIn K never before (L.◌or◌ A B) (L.◌or◌ A' B') (R.choice test p q) more
chosen {X} {K} {never} {before} {test} {A} {A'} {B} {B'} {p} {q} {more} wider wide narrow leads a b = exact_choice K never before test wider A A' B B' p q more wide narrow leads a b

-- the second where no terminal of the first class comes
pub picked : {X : Type 0} {K : ℕ → Type 0} {never before test : Terminal → Bool} {A A' B B' : X → List Terminal → Type 0} {p q : List Terminal → Read X} {more : X → Terminal → Bool}
    → Leads test A' → ExactIn K never before A A' p more → ExactIn K never (either before test) B B' q more → ExactIn K never before (L.◌or◌ A B) (L.◌or◌ A' B') (R.choice test p q) more
picked {X} {K} {never} {before} {test} l a b = chosen (either before test) (λ t h k. or_none (before t) (test t) h k) (λ t h. or_parts (before t) (test t) h) l a b

-- a part that asks for less than there is to spare
pub later : {X : Type 0} {n : ℕ} (a b : ℕ) {never before : Terminal → Bool} {A A' : X → List Terminal → Type 0} {p : List Terminal → Read X} {more : X → Terminal → Bool}
    → a ≤ b → ExactIn (Room n a) never before A A' p more → ExactIn (Room n b) never before A A' p more
later {X} {n} a b {never} {before} {A} {A'} {p} {more} l e = exact_room (Room n b) (Room n a) never before A A' p more (λ k h. let m : 3 * k + b ≤ n = h.enough in record { enough = omega arith }) e

-- one production inside another
pub stepped : {X : Type 0} {n w : ℕ} (b : ℕ) {never before : Terminal → Bool} {A A' : X → List Terminal → Type 0} {p : List Terminal → Read X} {more : X → Terminal → Bool}
    → w ≡ suc b → ExactIn (Room n b) never before A A' p more → ExactIn (Room (suc n) w) never before A A' p more
stepped {X} {n} {w} b {never} {before} {A} {A'} {p} {more} e a = exact_room (Room (suc n) w) (Room n b) never before A A' p more (λ l h. let m : 3 * l + w ≤ suc n = h.enough in record { enough = omega arith }) a

-- what may go on from a phrase never follows it
pub eased : {X : Type 0} {K : ℕ → Type 0} (wider : Terminal → Bool) {before : Terminal → Bool} {A A' : X → List Terminal → Type 0} {p : List Terminal → Read X} {more : X → Terminal → Bool}
    → ((x : X) (t : Terminal) → wider t ≡ false → more x t ≡ false) → Exact K before A A' p more → ExactIn K wider before A A' p (λ _. none)
eased {X} {K} wider {before} {A} {A'} {p} {more} h a = exact_eased K none wider before A A' p more (λ _. none) (λ x t k. refl) (λ x t k m. (h x t m, refl)) a

-- what is exact whatever follows is so where some classes never do
pub inside : {X : Type 0} {K : ℕ → Type 0} {never before : Terminal → Bool} {A A' : X → List Terminal → Type 0} {p : List Terminal → Read X} {more : X → Terminal → Bool}
    → Exact K before A A' p more → ExactIn K never before A A' p more
inside {X} {K} {never} {before} {A} {A'} {p} {more} a = exact_eased K none never before A A' p more more (λ x t k. k) (λ x t k m. (k, refl)) a

-- again and again, after something was taken
pub chained_in : {X : Type 0} {n b : ℕ} {never : Terminal → Bool} (test : Terminal → Bool) {F F' : X → X → List Terminal → Type 0}
    {f : X → List Terminal → Read X} (inner more : X → Terminal → Bool) →
    0 < b → ((t : Terminal) → test t ≡ true → never t ≡ false) →
    ((x : X) (t : Terminal) → (inner x t ≡ false) → (test t ≡ false) → more x t ≡ false) →
    ((x : X) (t : Terminal) → more x t ≡ false → (inner x t ≡ false) × (test t ≡ false)) → ((x : X) → Leads test (F x)) →
    ((x : X) → Leads test (F' x)) → ((x : X) → ExactIn (Room n b) never (inner x) (F x) (F' x) (f x) inner) → (x : X) →
    ExactIn (Room n b) never (inner x) (L.chain F x) (L.chain F' x) (R.chain test f n x) more
chained_in {X} {n} {b} {never} test {F} {F'} {f} inner more l apart wide narrow leads leads' step x =
    exact_chain (Room n b) (room_down n b) never test F F' f inner more apart wide narrow leads leads' step n x (λ k h. let m : 3 * k + b ≤ n = h.enough in omega arith)

pub chained : {X : Type 0} {n b : ℕ} (test : Terminal → Bool) {F F' : X → X → List Terminal → Type 0} {f : X → List Terminal → Read X} (inner more : X → Terminal → Bool)
    → 0 < b → ((x : X) (t : Terminal) → (inner x t ≡ false) → (test t ≡ false) → more x t ≡ false) → ((x : X) (t : Terminal) → more x t ≡ false → (inner x t ≡ false) × (test t ≡ false))
    → ((x : X) → Leads test (F x)) → ((x : X) → Leads test (F' x)) → ((x : X) → Exact (Room n b) (inner x) (F x) (F' x) (f x) inner) → (x : X) → Exact (Room n b) (inner x) (L.chain F x) (L.chain F' x) (R.chain test f n x) more
chained test inner more l wide narrow leads leads' step x = chained_in test inner more l (λ t h. refl) wide narrow leads leads' step x

-- again and again, where the phrases leave nothing open: what goes on is another of them
pub repeated : {X : Type 0} {n b : ℕ} {never : Terminal → Bool} (test : Terminal → Bool) {F F' : X → X → List Terminal → Type 0}
    {f : X → List Terminal → Read X} →
    0 < b → ((t : Terminal) → test t ≡ true → never t ≡ false) → ((x : X) → Leads test (F x)) → ((x : X) → Leads test (F' x)) →
    ((x : X) → ExactIn (Room n b) never none (F x) (F' x) (f x) (λ _. none)) → (x : X) →
    ExactIn (Room n b) never none (L.chain F x) (L.chain F' x) (R.chain test f n x) (λ _. test)
repeated test l apart leads leads' step x = chained_in test (λ _. none) (λ _. test) l apart (λ _ t h k. k) (λ _ t h. (refl, h)) leads leads' step x

pub guarded : {X : Type 0} {K : ℕ → Type 0} {Q : Type 0} {never before test : Terminal → Bool} {A A' B B' : X → List Terminal → Type 0} {p q : List Terminal → Read X} {more : X → Terminal → Bool} (wider : Terminal → Bool)
    → ((t : Terminal) → (before t ≡ false) → (test t ≡ false) → wider t ≡ false) → ((t : Terminal) → wider t ≡ false → (before t ≡ false) × (test t ≡ false))
    → ((t : Terminal) → (before t ≡ false) → test t ≡ true → Q)
    → Leads test A' → (Q → ExactIn K never before A A' p more) → ExactIn K never wider B B' q more → ExactIn K never before (L.◌or◌ (L.when Q A) B) (L.◌or◌ (L.when Q A') B') (R.choice test p q) more
guarded {X} {K} {Q} {never} {before} {test} {A} {A'} {B} {B'} {p} {q} {more} wider wide narrow known leads a b = exact_guarded K Q never before test wider A A' B B' p q more wide narrow known leads a b
