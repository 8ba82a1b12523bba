-- A reader that takes exactly the phrases of a language, and fails at the first token with which no phrase begins.
use Rattle.std.proofs.Common.{◌≡◌, ℕ, zero, suc, ◌<◌, ◌≤◌, Bool, true, false, cond, Option, Some, None, List, [], ◌∷◌, ◌++◌, inl, inr, length, refl, sym, ap, subst, ◌∙◌, append_assoc, length-append, arith}
use Rattle.std.proofs.lemmas.List.{append_cancel_right}
use Rattle.mv_syntax.specs.declared.place.Place.{Place}
use Rattle.mv_parse_grammar.specs.Terminals.{Terminal}
use Rattle.mv_parse_grammar.specs.Language as L
use Rattle.mv_parse_grammar.specs.Language.{IsGiven, place_of, turns}
use Rattle.mv_parse_grammar.specs.Reader as R
use Rattle.mv_parse_grammar.specs.Reader.{Read, Ends, Deep, next, go_on}

-- no token of this kind comes next
abbrev pub Free : (Terminal → Bool) → List Terminal → Type 0
Free test ts = next test ts ≡ false

-- a phrase was taken, up to a token that doesn't go on from it
pub record Got {X : Type 0} (J : X → List Terminal → Type 0) (more : X → Terminal → Bool) (ts : List Terminal) (x : X) (r : List Terminal) : Type 0 where
  pub front : List Terminal
  pub whole : ts ≡ front ++ r
  pub phrase : J x front
  pub stop : Free (more x) r

-- what was taken begins a phrase
pub record Lost {X : Type 0} (J : X → List Terminal → Type 0) (ts : List Terminal) (r : List Terminal) : Type 0 where
  pub front : List Terminal
  pub rest : List Terminal
  pub value : X
  pub whole : ts ≡ front ++ r
  pub phrase : J value (front ++ rest)

abbrev pub Judged : {X : Type 0} → (X → List Terminal → Type 0) → (X → Terminal → Bool) → List Terminal → Option X → List Terminal → Type 0
Judged J more ts (Some x) r = Got J more ts x r
Judged J more ts None r = Lost J ts r

abbrev pub Found : {X : Type 0} → Read X → X → List Terminal → Type 0
Found Deep x r = Unit {0}
Found (Ends None s) x r = ⊥
Found (Ends (Some y) s) x r = (y ≡ x) × (s ≡ r)

-- some phrase
pub record Any {X : Type 0} (J : X → List Terminal → Type 0) : Type 0 where
  pub value : X
  pub tokens : List Terminal
  pub phrase : J value tokens

-- no class
abbrev pub none : Terminal → Bool
none _ = false

-- J has what the reader finds, and the reader finds what C has. No phrase begins with a terminal of `before`, and the
-- terminal after a phrase is none of `more`, nor one of `never`, of which the reader itself makes nothing.
-- The reader's bound is large enough for the lengths of K.
pub record ExactIn {X : Type 0} (K : ℕ → Type 0) (never before : Terminal → Bool) (J : X → List Terminal → Type 0) (C : X → List Terminal → Type 0) (p : List Terminal → Read X) (more : X → Terminal → Bool) : Type 0 where
  pub judged : (ts : List Terminal) (o : Option X) (r : List Terminal) → Free before ts → p ts ≡ Ends o r → Judged J more ts o r
  pub local : (b : List Terminal) (t : Terminal) (q q' : List Terminal) (o : Option X) (r : List Terminal) → Free before (b ++ (t ∷ q)) → p (b ++ (t ∷ q)) ≡ Ends o (r ++ (t ∷ q)) → p (b ++ (t ∷ q')) ≡ Ends o (r ++ (t ∷ q'))
  pub clean : (x : X) (b r : List Terminal) → C x b → Free (more x) r → Free never r → Free before (b ++ r)
  pub complete : (x : X) (b r : List Terminal) → C x b → Free (more x) r → Free never r → Found (p (b ++ r)) x r
  pub some : Any J
  pub total : (ts : List Terminal) → Free before ts → K (length ts) → p ts ≡ Deep → ⊥

-- the same, whatever follows
abbrev pub Exact : {X : Type 0} → (ℕ → Type 0) → (Terminal → Bool) → (X → List Terminal → Type 0) → (X → List Terminal → Type 0) → (List Terminal → Read X) → (X → Terminal → Bool) → Type 0
Exact K before J C p more = ExactIn K none before J C p more

pub none_next : (ts : List Terminal) → next none ts ≡ false
none_next [] = refl
none_next (t ∷ ts) = refl

-- a class within another
pub free_within : (wide narrow : Terminal → Bool) → ((t : Terminal) → wide t ≡ false → narrow t ≡ false) → (ts : List Terminal) → Free wide ts → Free narrow ts
free_within wide narrow h [] k = refl
free_within wide narrow h (t ∷ ts) k = h t k

free_after : {X : Type 0} (more : X → Terminal → Bool) (x y : X) (ts r : List Terminal) → x ≡ y → ts ≡ r → Free (more x) ts → Free (more y) r
free_after more x y ts r e f h = ap (λ z. next (more z) r) (sym e) ∙ (ap (next (more x)) (sym f) ∙ h)

never_shorter : (t : Terminal) (q r : List Terminal) → q ≡ r ++ (t ∷ q) → ⊥
never_shorter t q r e = omega (arith, ap length e, length-append r (t ∷ q))

-- give

give_judged : {X : Type 0} (x : X) (before : Terminal → Bool) (more : X → Terminal → Bool) → ((t : Terminal) → before t ≡ false → more x t ≡ false) →
    (ts : List Terminal) (o : Option X) (r : List Terminal) → Free before ts → Ends (Some x) ts ≡ Ends o r → Judged (L.give x) more ts o r
give_judged x before more stops ts (Some y) r h e =
    let same : x ≡ y = cc in
    let rest : ts ≡ r = cc in
    record { front = []; whole = rest; phrase = record { value = sym same; empty = refl }; stop = free_after more x y ts r same rest (free_within before (more x) stops ts h) }
give_judged x before more stops ts None r h e = absurd (cc)

give_local : {X : Type 0} (x : X) (b : List Terminal) (t : Terminal) (q q' : List Terminal) (o : Option X) (r : List Terminal) → Ends (Some x) (b ++ (t ∷ q)) ≡ Ends o (r ++ (t ∷ q)) → Ends (Some x) (b ++ (t ∷ q')) ≡ Ends o (r ++ (t ∷ q'))
give_local x b t q q' o r e =
    let same : Some x ≡ o = cc in
    let rest : b ++ (t ∷ q) ≡ r ++ (t ∷ q) = cc in
    let front : b ≡ r = append_cancel_right b r (t ∷ q) rest in
    ap (λ z. Ends z (b ++ (t ∷ q'))) same ∙ ap (λ z. Ends o (z ++ (t ∷ q'))) front

give_clean : {X : Type 0} (x : X) (never before : Terminal → Bool) (more : X → Terminal → Bool) →
    ((t : Terminal) → more x t ≡ false → never t ≡ false → before t ≡ false) → (y : X) (b r : List Terminal) → IsGiven x y b → Free (more y) r →
    Free never r → Free before (b ++ r)
give_clean x never before more clears y b [] c h k = ap (λ z. next before (z ++ [])) c.empty
give_clean x never before more clears y b (t ∷ r) c h k = ap (λ z. next before (z ++ (t ∷ r))) c.empty ∙ clears t (ap (λ z. more z t) (sym c.value) ∙ h) k

pub exact_give : {X : Type 0} (K : ℕ → Type 0) (never before : Terminal → Bool) (x : X) (more : X → Terminal → Bool)
    → ((t : Terminal) → before t ≡ false → more x t ≡ false) → ((t : Terminal) → more x t ≡ false → never t ≡ false → before t ≡ false) → ExactIn K never before (L.give x) (L.give x) (R.give x) more
exact_give K never before x more stops clears = record {
  judged = λ ts o r h e. give_judged x before more stops ts o r h e;
  local = λ b t q q' o r h e. give_local x b t q q' o r e;
  clean = give_clean x never before more clears;
  complete = λ y b r c h k. (sym c.value, ap (λ z. z ++ r) c.empty);
  some = record { value = x; tokens = []; phrase = record { value = refl; empty = refl } };
  total = λ ts h l e. absurd (cc);
}

-- token

token_judged : (test : Terminal → Bool) (sample : Terminal) → test sample ≡ true → (ts : List Terminal) (o : Option Terminal) (r : List Terminal) → R.token test ts ≡ Ends o r → Judged (L.token test) (λ _ _. false) ts o r
token_judged test sample good [] (Some y) r e = absurd (cc)
token_judged test sample good [] None r e =
    record { front = []; rest = sample ∷ []; value = sample; whole = cc; phrase = record { one = refl; kind = good } }
token_judged test sample good (t ∷ q) o r e = go (test t) refl o e
  where
    ended : (v : List Terminal) → next (λ _. false) v ≡ false
    ended [] = refl
    ended (u ∷ us) = refl

    go : (v : Bool) → test t ≡ v → (o : Option Terminal) → cond v (Ends (Some t) q) (Ends None (t ∷ q)) ≡ Ends o r → Judged (L.token test) (λ _ _. false) (t ∷ q) o r
    go true k (Some y) e =
        let same : t ≡ y = cc in
        let rest : q ≡ r = cc in
        record { front = t ∷ []; whole = ap (λ z. t ∷ z) rest; phrase = record { one = ap (λ z. z ∷ []) same; kind = ap test (sym same) ∙ k }; stop = ended r }
    go true k None e = absurd (cc)
    go false k (Some y) e = absurd (cc)
    go false k None e =
        record { front = []; rest = sample ∷ []; value = sample; whole = cc; phrase = record { one = refl; kind = good } }

token_local : (test : Terminal → Bool) (b : List Terminal) (t : Terminal) (q q' : List Terminal) (o : Option Terminal) (r : List Terminal) →
    R.token test (b ++ (t ∷ q)) ≡ Ends o (r ++ (t ∷ q)) → R.token test (b ++ (t ∷ q')) ≡ Ends o (r ++ (t ∷ q'))
token_local test [] t q q' o r e = go (test t) o e
  where
    go : (v : Bool) → (o : Option Terminal) → cond v (Ends (Some t) q) (Ends None (t ∷ q)) ≡ Ends o (r ++ (t ∷ q)) → cond v (Ends (Some t) q') (Ends None (t ∷ q')) ≡ Ends o (r ++ (t ∷ q'))
    go true o e = let rest : q ≡ r ++ (t ∷ q) = cc in absurd (never_shorter t q r rest)
    go false o e =
        let same : None ≡ o = cc in
        let rest : [] ++ (t ∷ q) ≡ r ++ (t ∷ q) = cc in
        let front : [] ≡ r = append_cancel_right [] r (t ∷ q) rest in
        ap (λ z. Ends z (t ∷ q')) same ∙ ap (λ z. Ends o (z ++ (t ∷ q'))) front
token_local test (u ∷ b) t q q' o r e = go (test u) o e
  where
    go : (v : Bool) → (o : Option Terminal) → cond v (Ends (Some u) (b ++ (t ∷ q))) (Ends None (u ∷ (b ++ (t ∷ q)))) ≡ Ends o (r ++ (t ∷ q)) → cond v (Ends (Some u) (b ++ (t ∷ q'))) (Ends None (u ∷ (b ++ (t ∷ q')))) ≡ Ends o (r ++ (t ∷ q'))
    go true o e =
        let same : Some u ≡ o = cc in
        let rest : b ++ (t ∷ q) ≡ r ++ (t ∷ q) = cc in
        let front : b ≡ r = append_cancel_right b r (t ∷ q) rest in
        ap (λ z. Ends z (b ++ (t ∷ q'))) same ∙ ap (λ z. Ends o (z ++ (t ∷ q'))) front
    go false o e =
        let same : None ≡ o = cc in
        let rest : (u ∷ b) ++ (t ∷ q) ≡ r ++ (t ∷ q) = cc in
        let front : u ∷ b ≡ r = append_cancel_right (u ∷ b) r (t ∷ q) rest in
        ap (λ z. Ends z ((u ∷ b) ++ (t ∷ q'))) same ∙ ap (λ z. Ends o (z ++ (t ∷ q'))) front

token_taken : (test : Terminal → Bool) (t : Terminal) (r : List Terminal) → test t ≡ true → R.token test (t ∷ r) ≡ Ends (Some t) r
token_taken test t r k = ap (λ v. cond v (Ends (Some t) r) (Ends None (t ∷ r))) k

found_at : {X : Type 0} (read : Read X) (x : X) (r : List Terminal) → read ≡ Ends (Some x) r → Found read x r
found_at Deep x r e = absurd (cc)
found_at (Ends None s) x r e = absurd (cc)
found_at (Ends (Some y) s) x r e = (cc, cc)

token_total : (test : Terminal → Bool) (ts : List Terminal) → R.token test ts ≡ Deep → ⊥
token_total test [] e = absurd (cc)
token_total test (t ∷ q) e = go (test t) e
  where
    go : (v : Bool) → cond v (Ends (Some t) q) (Ends None (t ∷ q)) ≡ Deep → ⊥
    go true e = absurd (cc)
    go false e = absurd (cc)

pub exact_token : (K : ℕ → Type 0) (never before test : Terminal → Bool) (sample : Terminal) → test sample ≡ true →
    ((t : Terminal) → test t ≡ true → before t ≡ false) → ExactIn K never before (L.token test) (L.token test) (R.token test) (λ _ _. false)
exact_token K never before test sample good apart = record {
  judged = λ ts o r h e. token_judged test sample good ts o r e;
  local = λ b t q q' o r h e. token_local test b t q q' o r e;
  clean = λ x b r c h k. ap (λ z. next before (z ++ r)) c.one ∙ apart x c.kind;
  complete = λ x b r c h k. found_at (R.token test (b ++ r)) x r (ap (λ z. R.token test (z ++ r)) c.one ∙ token_taken test x r c.kind);
  some = record { value = sample; tokens = sample ∷ []; phrase = record { one = refl; kind = good } };
  total = λ ts h l e. token_total test ts e;
}

-- then

module _ {X Y : Type 0} (K K2 : ℕ → Type 0) (never_first never before : Terminal → Bool) (A A' : X → List Terminal → Type 0) (p : List Terminal → Read X) (inner : X → Terminal → Bool)
    (F F' : X → Y → List Terminal → Type 0) (f : X → List Terminal → Read Y) (more : Y → Terminal → Bool)
    (a : ExactIn K never_first before A A' p inner) (g : (x : X) → ExactIn K2 never (inner x) (F x) (F' x) (f x) more)
    (apart : (x : X) (y : Y) (b r : List Terminal) → F' x y b → Free (more y) r → Free never r → Free never_first (b ++ r))
    (shrinks : (ts : List Terminal) (x : X) (s : List Terminal) → Got A inner ts x s → K (length ts) → K2 (length s)) where
  joined : (ts : List Terminal) (x : X) (s : List Terminal) (o : Option Y) (r : List Terminal) → Got A inner ts x s → Judged (F x) more s o r → Judged (L.◌>>=◌ A F) more ts o r
  joined ts x s (Some y) r u v = record {
    front = u.front ++ v.front;
    whole = u.whole ∙ (ap (λ z. u.front ++ z) v.whole ∙ sym (append_assoc u.front v.front r));
    phrase = record { middle = x; front = u.front; back = v.front; whole = refl; first = u.phrase; second = v.phrase };
    stop = v.stop;
  }
  joined ts x s None r u v = record {
    front = u.front ++ v.front;
    rest = v.rest;
    value = v.value;
    whole = u.whole ∙ (ap (λ z. u.front ++ z) v.whole ∙ sym (append_assoc u.front v.front r));
    phrase = record { middle = x; front = u.front; back = v.front ++ v.rest; whole = append_assoc u.front v.front v.rest; first = u.phrase; second = v.phrase };
  }

  then_judged : (ts : List Terminal) (o : Option Y) (r : List Terminal) (read : Read X) → Free before ts → p ts ≡ read → go_on f read ≡ Ends o r → Judged (L.◌>>=◌ A F) more ts o r
  then_judged ts o r Deep h k e = absurd (cc)
  then_judged ts (Some y) r (Ends None s) h k e = absurd (cc)
  then_judged ts None r (Ends None s) h k e =
      let u : Lost A ts s = a.judged ts None s h k in
      let same : s ≡ r = cc in
      let v : Any (F u.value) = (g u.value).some in
      record {
        front = u.front;
        rest = u.rest ++ v.tokens;
        value = v.value;
        whole = u.whole ∙ ap (λ z. u.front ++ z) same;
        phrase = record { middle = u.value; front = u.front ++ u.rest; back = v.tokens; whole = sym (append_assoc u.front u.rest v.tokens); first = u.phrase; second = v.phrase };
      }
  then_judged ts o r (Ends (Some x) s) h k e =
      let u : Got A inner ts x s = a.judged ts (Some x) s h k in
      joined ts x s o r u ((g x).judged s o r u.stop e)

  then_local : (b : List Terminal) (t : Terminal) (q q' : List Terminal) (o : Option Y) (r : List Terminal) (read : Read X) →
      Free before (b ++ (t ∷ q)) → p (b ++ (t ∷ q)) ≡ read → go_on f read ≡ Ends o (r ++ (t ∷ q)) →
      go_on f (p (b ++ (t ∷ q'))) ≡ Ends o (r ++ (t ∷ q'))
  then_local b t q q' o r Deep h k e = absurd (cc)
  then_local b t q q' o r (Ends None s) h k e =
      let same : s ≡ r ++ (t ∷ q) = cc in
      let none : None ≡ o = cc in
      ap (go_on f) (a.local b t q q' None r h (k ∙ ap (λ z. Ends None z) same)) ∙ ap (λ z. Ends z (r ++ (t ∷ q'))) none
  then_local b t q q' o r (Ends (Some x) s) h k e =
      let u : Got A inner (b ++ (t ∷ q)) x s = a.judged (b ++ (t ∷ q)) (Some x) s h k in
      let v : (m : List Terminal) × (s ≡ m ++ (r ++ (t ∷ q))) = rest_of s o (r ++ (t ∷ q)) ((g x).judged s o (r ++ (t ∷ q)) u.stop e) in
      let back : s ≡ (v.0 ++ r) ++ (t ∷ q) = v.1 ∙ sym (append_assoc v.0 r (t ∷ q)) in
      ap (go_on f) (a.local b t q q' (Some x) (v.0 ++ r) h (k ∙ ap (λ z. Ends (Some x) z) back))
      ∙ (g x).local (v.0 ++ r) t q q' o r (ap (next (inner x)) (sym back) ∙ u.stop) (ap (f x) (sym back) ∙ e)
    where
      rest_of : (s : List Terminal) (o : Option Y) (r : List Terminal) → Judged (F x) more s o r → (m : List Terminal) × (s ≡ m ++ r)
      rest_of s (Some y) r j = (j.front, j.whole)
      rest_of s None r j = (j.front, j.whole)

  then_found : (x : X) (y : Y) (s r : List Terminal) (read : Read X) → Found read x s → Found (f x s) y r → Found (go_on f read) y r
  then_found x y s r Deep u v = tt
  then_found x y s r (Ends None w) u v = absurd u
  then_found x y s r (Ends (Some z) w) u v = subst (λ z. Found (f z w) y r) (sym u.0) (subst (λ w. Found (f x w) y r) (sym u.1) v)

  then_total : (ts : List Terminal) (read : Read X) → Free before ts → K (length ts) → p ts ≡ read → go_on f read ≡ Deep → ⊥
  then_total ts Deep h l k e = a.total ts h l k
  then_total ts (Ends None s) h l k e = absurd (cc)
  then_total ts (Ends (Some x) s) h l k e =
      let u : Got A inner ts x s = a.judged ts (Some x) s h k in
      (g x).total s u.stop (shrinks ts x s u l) e

  pub exact_then : ExactIn K never before (L.◌>>=◌ A F) (L.◌>>=◌ A' F') (R.◌>>=◌ p f) more
  exact_then = record {
    judged = λ ts o r h e. then_judged ts o r (p ts) h refl e;
    local = λ b t q q' o r h e. then_local b t q q' o r (p (b ++ (t ∷ q))) h refl e;
    clean = λ y b r c h k.
        let back : Free (inner c.middle) (c.back ++ r) = (g c.middle).clean y c.back r c.second h k in
        ap (λ z. next before (z ++ r)) c.whole ∙ (ap (next before) (append_assoc c.front c.back r) ∙ a.clean c.middle c.front (c.back ++ r) c.first back (apart c.middle y c.back r c.second h k));
    complete = λ y b r c h k.
        let back : Free (inner c.middle) (c.back ++ r) = (g c.middle).clean y c.back r c.second h k in
        let same : b ++ r ≡ c.front ++ (c.back ++ r) = ap (λ z. z ++ r) c.whole ∙ append_assoc c.front c.back r in
        subst (λ z. Found (go_on f (p z)) y r) (sym same)
        (then_found c.middle y (c.back ++ r) r (p (c.front ++ (c.back ++ r))) (a.complete c.middle c.front (c.back ++ r) c.first back (apart c.middle y c.back r c.second h k)) ((g c.middle).complete y c.back r c.second h k));
    some =
        let u : Any A = a.some in
        let v : Any (F u.value) = (g u.value).some in
        record { value = v.value; tokens = u.tokens ++ v.tokens; phrase = record { middle = u.value; front = u.tokens; back = v.tokens; whole = refl; first = u.phrase; second = v.phrase } };
    total = λ ts h l e. then_total ts (p ts) h l refl e;
  }

-- each phrase begins with such a token
pub record Begins (test : Terminal → Bool) (ts : List Terminal) : Type 0 where
  pub head : Terminal
  pub tail : List Terminal
  pub whole : ts ≡ head ∷ tail
  pub kind : test head ≡ true

abbrev pub Leads : {X : Type 0} → (Terminal → Bool) → (X → List Terminal → Type 0) → Type 0
Leads {X} test C = (x : X) (b : List Terminal) → C x b → Begins test b

begins_next : (test : Terminal → Bool) (b r : List Terminal) → Begins test b → next test (b ++ r) ≡ true
begins_next test b r h = ap (λ z. next test (z ++ r)) h.whole ∙ h.kind

pub leads_token : (test : Terminal → Bool) → Leads test (L.token test)
leads_token test x b c = record { head = x; tail = []; whole = c.one; kind = c.kind }

pub leads_then : {X Y : Type 0} (test : Terminal → Bool) (A : X → List Terminal → Type 0) (F : X → Y → List Terminal → Type 0) → Leads test A → Leads test (L.◌>>=◌ A F)
leads_then test A F l y b c =
    let h : Begins test c.front = l c.middle c.front c.first in
    record { head = h.head; tail = h.tail ++ c.back; whole = c.whole ∙ ap (λ z. z ++ c.back) h.whole; kind = h.kind }

pub leads_marked : {X : Type 0} (test : Terminal → Bool) (A : X → List Terminal → Type 0) → Leads test A → Leads test (L.marked A)
leads_marked test A l x b c = l x.1 b c.phrase

pub leads_or : {X : Type 0} (test : Terminal → Bool) (A B : X → List Terminal → Type 0) → Leads test A → Leads test B → Leads test (L.◌or◌ A B)
leads_or test A B l m x b (inl c) = l x b c
leads_or test A B l m x b (inr c) = m x b c

pub leads_any : {X : Type 0} (test wider : Terminal → Bool) (A : X → List Terminal → Type 0) → ((t : Terminal) → test t ≡ true → wider t ≡ true) → Leads test A → Leads wider A
leads_any test wider A w l x b c = let h : Begins test b = l x b c in record { head = h.head; tail = h.tail; whole = h.whole; kind = w h.head h.kind }

-- a reader that may also assume that no such terminal comes first
pub exact_before : {X : Type 0} (K : ℕ → Type 0) (never before first : Terminal → Bool) (A A' : X → List Terminal → Type 0) (p : List Terminal → Read X) (more : X → Terminal → Bool)
    → ExactIn K never none A A' p more → Leads first A' → ((t : Terminal) → first t ≡ true → before t ≡ false) → ExactIn K never before A A' p more
exact_before K never before first A A' p more a l apart = record {
  judged = λ ts o r h e. a.judged ts o r (none_next ts) e;
  local = λ b t q q' o r h e. a.local b t q q' o r (none_next (b ++ (t ∷ q))) e;
  clean = λ x b r c h k. let s : Begins first b = l x b c in ap (λ z. next before (z ++ r)) s.whole ∙ apart s.head s.kind;
  complete = a.complete;
  some = a.some;
  total = λ ts h l e. a.total ts (none_next ts) l e;
}

-- a part that asks for less of the bound
pub exact_room : {X : Type 0} (K K' : ℕ → Type 0) (never before : Terminal → Bool) (A A' : X → List Terminal → Type 0) (p : List Terminal → Read X) (more : X → Terminal → Bool)
    → ((l : ℕ) → K l → K' l) → ExactIn K' never before A A' p more → ExactIn K never before A A' p more
exact_room K K' never before A A' p more h a = record {
  judged = a.judged;
  local = a.local;
  clean = a.clean;
  complete = a.complete;
  some = a.some;
  total = λ ts f l e. a.total ts f (h (length ts) l) e;
}

-- what may go on from a phrase, left to what never follows it
pub exact_eased : {X : Type 0} (K : ℕ → Type 0) (never wider before : Terminal → Bool) (A A' : X → List Terminal → Type 0) (p : List Terminal → Read X) (more less : X → Terminal → Bool)
    → ((x : X) (t : Terminal) → more x t ≡ false → less x t ≡ false) → ((x : X) (t : Terminal) → less x t ≡ false → wider t ≡ false → (more x t ≡ false) × (never t ≡ false))
    → ExactIn K never before A A' p more → ExactIn K wider before A A' p less
exact_eased {X} K never wider before A A' p more less less_of more_of a = record {
  judged = λ ts o r h e. go ts o r (a.judged ts o r h e);
  local = a.local;
  clean = λ x b r c h k. let u = both x r h k in a.clean x b r c u.0 u.1;
  complete = λ x b r c h k. let u = both x r h k in a.complete x b r c u.0 u.1;
  some = a.some;
  total = a.total;
}
  where
    both : (x : X) (r : List Terminal) → Free (less x) r → Free wider r → Free (more x) r × Free never r
    both x [] h k = (refl, refl)
    both x (t ∷ r) h k = more_of x t h k

    go : (ts : List Terminal) (o : Option X) (r : List Terminal) → Judged A more ts o r → Judged A less ts o r
    go ts (Some x) r j = record { front = j.front; whole = j.whole; phrase = j.phrase; stop = free_within (more x) (less x) (less_of x) r j.stop }
    go ts None r j = record { front = j.front; rest = j.rest; value = j.value; whole = j.whole; phrase = j.phrase }

-- another language with the same phrases

pub judged_as : {X : Type 0} (A B : X → List Terminal → Type 0) (more : X → Terminal → Bool) → ((x : X) (b : List Terminal) → A x b → B x b)
    → (ts : List Terminal) (o : Option X) (r : List Terminal) → Judged A more ts o r → Judged B more ts o r
judged_as A B more to ts (Some x) r j = record { front = j.front; whole = j.whole; phrase = to x j.front j.phrase; stop = j.stop }
judged_as A B more to ts None r j = record { front = j.front; rest = j.rest; value = j.value; whole = j.whole; phrase = to j.value (j.front ++ j.rest) j.phrase }

pub exact_same : {X : Type 0} (K : ℕ → Type 0) (never before : Terminal → Bool) (A A' B B' : X → List Terminal → Type 0) (p : List Terminal → Read X) (more : X → Terminal → Bool)
    → ((x : X) (b : List Terminal) → A x b → B x b) → ((x : X) (b : List Terminal) → B' x b → A' x b) → ExactIn K never before A A' p more → ExactIn K never before B B' p more
exact_same K never before A A' B B' p more to from a = record {
  judged = λ ts o r h e. judged_as A B more to ts o r (a.judged ts o r h e);
  local = a.local;
  clean = λ x b r c h k. a.clean x b r (from x b c) h k;
  complete = λ x b r c h k. a.complete x b r (from x b c) h k;
  some = let u : Any A = a.some in record { value = u.value; tokens = u.tokens; phrase = to u.value u.tokens u.phrase };
  total = a.total;
}

-- a choice, where the first is a phrase under a condition that the token before and the next one tell

module _ {X : Type 0} (K : ℕ → Type 0) (Q : Type 0) (never before test wider : Terminal → Bool) (A A' B B' : X → List Terminal → Type 0) (p q : List Terminal → Read X) (more : X → Terminal → Bool)
    (wide : (t : Terminal) → (before t ≡ false) → (test t ≡ false) → wider t ≡ false) (narrow : (t : Terminal) → wider t ≡ false → (before t ≡ false) × (test t ≡ false))
    (known : (t : Terminal) → (before t ≡ false) → test t ≡ true → Q)
    (leads : Leads test A') (a : Q → ExactIn K never before A A' p more) (b : ExactIn K never wider B B' q more) where
  neither : (ts : List Terminal) → Free before ts → Free test ts → Free wider ts
  neither [] h k = refl
  neither (t ∷ ts) h k = wide t h k

  both : (ts : List Terminal) → Free wider ts → (Free before ts) × (Free test ts)
  both [] h = (refl, refl)
  both (t ∷ ts) h = narrow t h

  known_here : (ts : List Terminal) → Free before ts → next test ts ≡ true → Q
  known_here [] h k = absurd (cc)
  known_here (t ∷ ts) h k = known t h k

  choice_judged : (ts : List Terminal) (o : Option X) (r : List Terminal) (v : Bool) → Free before ts → next test ts ≡ v → cond v (p ts) (q ts) ≡ Ends o r → Judged (L.◌or◌ (L.when Q A) B) more ts o r
  choice_judged ts o r true h k e = let c : Q = known_here ts h k in judged_as A (L.◌or◌ (L.when Q A) B) more (λ x t z. inl (record { condition = c; phrase = z })) ts o r ((a c).judged ts o r h e)
  choice_judged ts o r false h k e = judged_as B (L.◌or◌ (L.when Q A) B) more (λ x t z. inr z) ts o r (b.judged ts o r (neither ts h k) e)

  same_next : (m : List Terminal) (t : Terminal) (s s' : List Terminal) → next test (m ++ (t ∷ s)) ≡ next test (m ++ (t ∷ s'))
  same_next [] t s s' = refl
  same_next (u ∷ m) t s s' = refl

  choice_local : (m : List Terminal) (t : Terminal) (s s' : List Terminal) (o : Option X) (r : List Terminal) (v : Bool) → Free before (m ++ (t ∷ s)) → next test (m ++ (t ∷ s)) ≡ v
      → cond v (p (m ++ (t ∷ s))) (q (m ++ (t ∷ s))) ≡ Ends o (r ++ (t ∷ s)) → cond v (p (m ++ (t ∷ s'))) (q (m ++ (t ∷ s'))) ≡ Ends o (r ++ (t ∷ s'))
  choice_local m t s s' o r true h k e = (a (known_here (m ++ (t ∷ s)) h k)).local m t s s' o r h e
  choice_local m t s s' o r false h k e = b.local m t s s' o r (neither (m ++ (t ∷ s)) h k) e

  choice_clean : (x : X) (m r : List Terminal) → (L.◌or◌ (L.when Q A') B') x m → Free (more x) r → Free never r → Free before (m ++ r)
  choice_clean x m r (inl c) h k = (a c.condition).clean x m r c.phrase h k
  choice_clean x m r (inr c) h k = (both (m ++ r) (b.clean x m r c h k)).0

  choice_complete : (x : X) (m r : List Terminal) → (L.◌or◌ (L.when Q A') B') x m → Free (more x) r → Free never r → Found (R.choice test p q (m ++ r)) x r
  choice_complete x m r (inl c) h k =
      subst (λ v. Found (cond v (p (m ++ r)) (q (m ++ r))) x r) (sym (begins_next test m r (leads x m c.phrase))) ((a c.condition).complete x m r c.phrase h k)
  choice_complete x m r (inr c) h k =
      subst (λ v. Found (cond v (p (m ++ r)) (q (m ++ r))) x r) (sym (both (m ++ r) (b.clean x m r c h k)).1) (b.complete x m r c h k)

  choice_total : (ts : List Terminal) (v : Bool) → Free before ts → K (length ts) → next test ts ≡ v → cond v (p ts) (q ts) ≡ Deep → ⊥
  choice_total ts true h l k e = (a (known_here ts h k)).total ts h l e
  choice_total ts false h l k e = b.total ts (neither ts h k) l e

  pub exact_guarded : ExactIn K never before (L.◌or◌ (L.when Q A) B) (L.◌or◌ (L.when Q A') B') (R.choice test p q) more
  exact_guarded = record {
    judged = λ ts o r h e. choice_judged ts o r (next test ts) h refl e;
    local = λ m t s s' o r h e. ap (λ v. cond v (p (m ++ (t ∷ s'))) (q (m ++ (t ∷ s')))) (same_next m t s' s) ∙ choice_local m t s s' o r (next test (m ++ (t ∷ s))) h refl e;
    clean = choice_clean;
    complete = choice_complete;
    some = let u : Any B = b.some in record { value = u.value; tokens = u.tokens; phrase = inr u.phrase };
    total = λ ts h l e. choice_total ts (next test ts) h l refl e;
  }

-- a choice without a condition

pub exact_choice : {X : Type 0} (K : ℕ → Type 0) (never before test wider : Terminal → Bool) (A A' B B' : X → List Terminal → Type 0) (p q : List Terminal → Read X) (more : X → Terminal → Bool)
    → ((t : Terminal) → before t ≡ false → test t ≡ false → wider t ≡ false) → ((t : Terminal) → wider t ≡ false → (before t ≡ false) × (test t ≡ false))
    → Leads test A' → ExactIn K never before A A' p more → ExactIn K never wider B B' q more → ExactIn K never before (L.◌or◌ A B) (L.◌or◌ A' B') (R.choice test p q) more
exact_choice {X} K never before test wider A A' B B' p q more wide narrow leads a b =
    exact_same K never before (L.◌or◌ (L.when (Unit {0}) A) B) (L.◌or◌ (L.when (Unit {0}) A') B') (L.◌or◌ A B) (L.◌or◌ A' B') (R.choice test p q) more to from
    (exact_guarded K (Unit {0}) never before test wider A A' B B' p q more wide narrow (λ t h k. tt) leads (λ u. a) b)
  where
    to : (x : X) (ts : List Terminal) → (L.◌or◌ (L.when (Unit {0}) A) B) x ts → (L.◌or◌ A B) x ts
    to x ts (inl c) = inl c.phrase
    to x ts (inr c) = inr c

    from : (x : X) (ts : List Terminal) → (L.◌or◌ A' B') x ts → (L.◌or◌ (L.when (Unit {0}) A') B') x ts
    from x ts (inl c) = inl (record { condition = tt; phrase = c })
    from x ts (inr c) = inr c

-- a reader whose bound is used up
pub exact_deep : {X : Type 0} (K : ℕ → Type 0) (never before : Terminal → Bool) (A A' : X → List Terminal → Type 0) (more : X → Terminal → Bool)
    → ((x : X) (b r : List Terminal) → A' x b → Free (more x) r → Free never r → Free before (b ++ r)) → Any A → ((ts : List Terminal) → K (length ts) → ⊥) → ExactIn K never before A A' (λ _. Deep) more
exact_deep K never before A A' more clean any small = record {
  judged = λ ts o r h e. absurd (cc);
  local = λ b t q q' o r h e. absurd (cc);
  clean = clean;
  complete = λ x b r c h k. tt;
  some = any;
  total = λ ts h l e. small ts l;
}

-- marked

place_kept : (test : Terminal → Bool) (b r : List Terminal) → Begins test b → place_of (b ++ r) ≡ place_of b
place_kept test b r h = ap (λ z. place_of (z ++ r)) h.whole ∙ ap place_of (sym h.whole)

module _ {X : Type 0} (K : ℕ → Type 0) (never before test : Terminal → Bool) (A A' : X → List Terminal → Type 0) (p : List Terminal → Read X) (more : X → Terminal → Bool)
    (leads : Leads test A) (leads' : Leads test A') (a : ExactIn K never before A A' p more) where
  marked_judged : (ts : List Terminal) (o : Option (Place × X)) (r : List Terminal) (read : Read X) → Free before ts → p ts ≡ read → go_on (λ x. R.give (place_of ts, x)) read ≡ Ends o r → Judged (L.marked A) (λ m. more m.1) ts o r
  marked_judged ts o r Deep h k e = absurd (cc)
  marked_judged ts (Some y) r (Ends None s) h k e = absurd (cc)
  marked_judged ts None r (Ends None s) h k e =
      let u : Lost A ts s = a.judged ts None s h k in
      let same : s ≡ r = cc in
      record {
        front = u.front;
        rest = u.rest;
        value = (place_of (u.front ++ u.rest), u.value);
        whole = u.whole ∙ ap (λ z. u.front ++ z) same;
        phrase = record { place = refl; phrase = u.phrase };
      }
  marked_judged ts None r (Ends (Some x) s) h k e = absurd (cc)
  marked_judged ts (Some y) r (Ends (Some x) s) h k e =
      let u : Got A more ts x s = a.judged ts (Some x) s h k in
      let same : (place_of ts, x) ≡ y = cc in
      let rest : s ≡ r = cc in
      let b : Begins test u.front = leads x u.front u.phrase in
      record {
        front = u.front;
        whole = u.whole ∙ ap (λ z. u.front ++ z) rest;
        phrase = record { place = ap (λ z. z.0) (sym same) ∙ (ap place_of u.whole ∙ place_kept test u.front s b); phrase = subst (λ z. A z.1 u.front) same u.phrase };
        stop = ap (λ z. next (more z.1) r) (sym same) ∙ (ap (next (more x)) (sym rest) ∙ u.stop);
      }

  place_moved : (b : List Terminal) (t : Terminal) (q q' : List Terminal) → place_of (b ++ (t ∷ q)) ≡ place_of (b ++ (t ∷ q'))
  place_moved [] t q q' = refl
  place_moved (u ∷ b) t q q' = refl

  marked_local : (b : List Terminal) (t : Terminal) (q q' : List Terminal) (o : Option (Place × X)) (r : List Terminal) (read : Read X) → Free before (b ++ (t ∷ q)) → p (b ++ (t ∷ q)) ≡ read
      → go_on (λ x. R.give (place_of (b ++ (t ∷ q)), x)) read ≡ Ends o (r ++ (t ∷ q)) → R.marked p (b ++ (t ∷ q')) ≡ Ends o (r ++ (t ∷ q'))
  marked_local b t q q' o r Deep h k e = absurd (cc)
  marked_local b t q q' o r (Ends None s) h k e =
      let same : s ≡ r ++ (t ∷ q) = cc in
      let none : None ≡ o = cc in
      ap (go_on (λ x. R.give (place_of (b ++ (t ∷ q')), x))) (a.local b t q q' None r h (k ∙ ap (λ z. Ends None z) same)) ∙ ap (λ z. Ends z (r ++ (t ∷ q'))) none
  marked_local b t q q' o r (Ends (Some x) s) h k e =
      let same : s ≡ r ++ (t ∷ q) = cc in
      let some : Some (place_of (b ++ (t ∷ q)), x) ≡ o = cc in
      ap (go_on (λ x. R.give (place_of (b ++ (t ∷ q')), x))) (a.local b t q q' (Some x) r h (k ∙ ap (λ z. Ends (Some x) z) same))
      ∙ (ap (λ z. Ends (Some (z, x)) (r ++ (t ∷ q'))) (place_moved b t q' q) ∙ ap (λ z. Ends z (r ++ (t ∷ q'))) some)

  marked_found : (m : Place × X) (b r : List Terminal) (read : Read X) → place_of (b ++ r) ≡ m.0 → Found read m.1 r → Found (go_on (λ x. R.give (place_of (b ++ r), x)) read) m r
  marked_found m b r Deep e u = tt
  marked_found m b r (Ends None s) e u = absurd u
  marked_found m b r (Ends (Some y) s) e u = (ap (λ z. (z, y)) e ∙ ap (λ z. (m.0, z)) u.0, u.1)

  marked_total : (ts : List Terminal) (read : Read X) → p ts ≡ read → Free before ts → K (length ts) → go_on {Y = Place × X} (λ x. R.give (place_of ts, x)) read ≡ Deep → ⊥
  marked_total ts Deep k h l e = a.total ts h l k
  marked_total ts (Ends None s) k h l e = absurd (cc)
  marked_total ts (Ends (Some x) s) k h l e = absurd (cc)

  pub exact_marked : ExactIn K never before (L.marked A) (L.marked A') (R.marked p) (λ m. more m.1)
  exact_marked = record {
    judged = λ ts o r h e. marked_judged ts o r (p ts) h refl e;
    local = λ b t q q' o r h e. marked_local b t q q' o r (p (b ++ (t ∷ q))) h refl e;
    clean = λ m b r c h k. a.clean m.1 b r c.phrase h k;
    complete = λ m b r c h k. marked_found m b r (p (b ++ r)) (place_kept test b r (leads' m.1 b c.phrase) ∙ sym c.place) (a.complete m.1 b r c.phrase h k);
    some = let u : Any A = a.some in record { value = (place_of u.tokens, u.value); tokens = u.tokens; phrase = record { place = refl; phrase = u.phrase } };
    total = λ ts h l e. marked_total ts (p ts) refl h l e;
  }

-- chain

-- a phrase that isn't empty leaves fewer tokens
pub shorter : {X : Type 0} (test : Terminal → Bool) (A : X → List Terminal → Type 0) (more : X → Terminal → Bool) (ts : List Terminal) (x : X) (r : List Terminal) → Leads test A → Got A more ts x r → length r < length ts
shorter test A more ts x r l g =
    let h : Begins test g.front = l x g.front g.phrase in
    let e : length ts ≡ length (g.front ++ r) = ap length g.whole in
    let f : length g.front ≡ length (h.head ∷ h.tail) = ap length h.whole in
    omega (arith, e, f, length-append g.front r)

pub not_longer : {X : Type 0} (A : X → List Terminal → Type 0) (more : X → Terminal → Bool) (ts : List Terminal) (x : X) (r : List Terminal) → Got A more ts x r → length r ≤ length ts
not_longer A more ts x r g =
    let e : length ts ≡ length (g.front ++ r) = ap length g.whole in
    omega (arith, e, length-append g.front r)

-- one phrase, or none, of a chain

pub chain_once : {X : Type 0} (G : X → X → List Terminal → Type 0) (x y : X) (b : List Terminal) → (L.◌or◌ (L.◌>>=◌ (G x) (L.chain G)) (L.give x)) y b → L.chain G x y b
chain_once G x y b (inl c) = record { count = suc c.second.count; phrases = record { middle = c.middle; front = c.front; back = c.back; whole = c.whole; first = c.first; second = c.second.phrases } }
chain_once G x y b (inr c) = record { count = zero; phrases = c }

opened_turns : {X : Type 0} (G : X → X → List Terminal → Type 0) (k : ℕ) (x y : X) (b : List Terminal) → turns G k x y b → (L.◌or◌ (L.◌>>=◌ (G x) (L.chain G)) (L.give x)) y b
opened_turns G zero x y b c = inr c
opened_turns G (suc k) x y b c = inl (record { middle = c.middle; front = c.front; back = c.back; whole = c.whole; first = c.first; second = record { count = k; phrases = c.second } })

pub chain_opened : {X : Type 0} (G : X → X → List Terminal → Type 0) (x y : X) (b : List Terminal) → L.chain G x y b → (L.◌or◌ (L.◌>>=◌ (G x) (L.chain G)) (L.give x)) y b
chain_opened G x y b c = opened_turns G c.count x y b c.phrases

module _ {X : Type 0} (K : ℕ → Type 0) (down : (l m : ℕ) → l ≤ m → K m → K l) (never test : Terminal → Bool) (F F' : X → X → List Terminal → Type 0) (f : X → List Terminal → Read X) (inner more : X → Terminal → Bool)
    (apart : (t : Terminal) → test t ≡ true → never t ≡ false)
    (wide : (x : X) (t : Terminal) → (inner x t ≡ false) → (test t ≡ false) → more x t ≡ false) (narrow : (x : X) (t : Terminal) → more x t ≡ false → (inner x t ≡ false) × (test t ≡ false))
    (leads : (x : X) → Leads test (F x)) (leads' : (x : X) → Leads test (F' x)) (step : (x : X) → ExactIn K never (inner x) (F x) (F' x) (f x) inner) where
  inside : (x : X) (ts : List Terminal) → Free (more x) ts → Free (inner x) ts
  inside x [] h = refl
  inside x (t ∷ ts) h = (narrow x t h).0

  turns_apart : (k : ℕ) (x y : X) (b r : List Terminal) → turns F' k x y b → Free never r → Free never (b ++ r)
  turns_apart zero x y b r c h = ap (λ z. next never (z ++ r)) c.empty ∙ h
  turns_apart (suc k) x y b r c h =
      let s : Begins test c.front = leads' x c.middle c.front c.first in
      ap (λ z. next never (z ++ r)) c.whole ∙ (ap (λ z. next never ((z ++ c.back) ++ r)) s.whole ∙ apart s.head s.kind)

  turns_clean : (k : ℕ) (x y : X) (b r : List Terminal) → turns F' k x y b → Free (more y) r → Free never r → Free (inner x) (b ++ r)
  turns_clean zero x y b r c h n = ap (λ z. next (inner x) (z ++ r)) c.empty ∙ free_after inner y x r r c.value refl (inside y r h)
  turns_clean (suc k) x y b r c h n =
      ap (λ z. next (inner x) (z ++ r)) c.whole ∙ (ap (next (inner x)) (append_assoc c.front c.back r)
      ∙ (step x).clean c.middle c.front (c.back ++ r) c.first (turns_clean k c.middle y c.back r c.second h n) (turns_apart k c.middle y c.back r c.second n))

  -- with a bound on the turns
  chain_of : (k : ℕ) (x : X) → ExactIn (λ l. K l × (l < k)) never (inner x) (L.chain F x) (L.chain F' x) (R.chain test f k x) more
  chain_of zero x = exact_deep (λ l. K l × (l < zero)) never (inner x) (L.chain F x) (L.chain F' x) more (λ y b r c h n. turns_clean c.count x y b r c.phrases h n)
      (record { value = x; tokens = []; phrase = record { count = zero; phrases = record { value = refl; empty = refl } } }) (λ ts h. let e : length ts < zero = h.1 in omega arith)
  chain_of (suc k) x =
      exact_same (λ l. K l × (l < suc k)) never (inner x) (L.◌or◌ (L.◌>>=◌ (F x) (L.chain F)) (L.give x)) (L.◌or◌ (L.◌>>=◌ (F' x) (L.chain F')) (L.give x)) (L.chain F x) (L.chain F' x)
      (R.choice test (R.◌>>=◌ (f x) (R.chain test f k)) (R.give x)) more (chain_once F x) (chain_opened F' x)
      (exact_choice (λ l. K l × (l < suc k)) never (inner x) test (more x) (L.◌>>=◌ (F x) (L.chain F)) (L.◌>>=◌ (F' x) (L.chain F')) (L.give x) (L.give x) (R.◌>>=◌ (f x) (R.chain test f k)) (R.give x) more
      (wide x) (narrow x) (leads_then test (F' x) (L.chain F') (leads' x))
      (exact_then (λ l. K l × (l < suc k)) (λ l. K l × (l < k)) never never (inner x) (F x) (F' x) (f x) inner (L.chain F) (L.chain F') (R.chain test f k) more
      (exact_room (λ l. K l × (l < suc k)) K never (inner x) (F x) (F' x) (f x) inner (λ l h. h.0) (step x)) (chain_of k)
      (λ y z b r c h n. turns_apart c.count y z b r c.phrases n)
      (λ ts y s g h. let l : length s < length ts = shorter test (F x) inner ts y s (leads x) g in (down (length s) (length ts) (omega arith) h.0, let m : length ts < suc k = h.1 in omega arith)))
      (exact_give (λ l. K l × (l < suc k)) never (more x) x more (λ t h. h) (λ t h n. h)))

  pub exact_chain : (k : ℕ) (x : X) → ((l : ℕ) → K l → l < k) → ExactIn K never (inner x) (L.chain F x) (L.chain F' x) (R.chain test f k x) more
  exact_chain k x room = exact_room K (λ l. K l × (l < k)) never (inner x) (L.chain F x) (L.chain F' x) (R.chain test f k x) more (λ l h. (h, room l h)) (chain_of k x)
