-- A choice by the next two terminals, of which both sides take the first: what is read is still told by one terminal after another.
use Rattle.std.proofs.Common.{◌≡◌, ℕ, ◌<◌, ◌≤◌, Bool, true, false, cond, Option, Some, None, List, [], ◌∷◌, ◌++◌, inl, inr, length, refl, sym, ap, subst, ◌∙◌, length-append, arith}
use Rattle.std.specs.Prelude.{◌&&◌}
use Rattle.std.proofs.lemmas.List.{append-nil}
use Rattle.mv_parse_grammar.specs.Terminals.{Terminal}
use Rattle.mv_parse_grammar.specs.Language as L
use Rattle.mv_parse_grammar.specs.Reader as R
use Rattle.mv_parse_grammar.specs.Reader.{Read, Ends, Deep, next_two, choice_two, go_on}
use Rattle.mv_parse_grammar.proofs.Exact.{Exact, ExactIn, Any, Free, Judged, Found, Got, Lost, Leads, none, none_next, shorter, judged_as}

-- a reader that takes a first terminal of this class
abbrev pub Moves : {X : Type 0} → (Terminal → Bool) → (List Terminal → Read X) → Type 0
Moves {X} f p = (t : Terminal) (ts : List Terminal) (o : Option X) (s : List Terminal) → f t ≡ true → p (t ∷ ts) ≡ Ends o s → length s ≤ length ts

module _ {X : Type 0} (K : ℕ → Type 0) (never before f g : Terminal → Bool) (A A' B B' : X → List Terminal → Type 0) (p q : List Terminal → Read X) (more : X → Terminal → Bool)
    (leads : (x : X) (b r : List Terminal) → A' x b → next_two f g (b ++ r) ≡ true)
    (other : (x : X) (b r : List Terminal) → B' x b → Free (more x) r → Free never r → next_two f g (b ++ r) ≡ false)
    (moves_p : Moves f p) (moves_q : Moves f q)
    (a : ExactIn K never before A A' p more) (b : ExactIn K never before B B' q more) where
  two_judged : (ts : List Terminal) (o : Option X) (r : List Terminal) (v : Bool) → Free before ts → cond v (p ts) (q ts) ≡ Ends o r → Judged (L.◌or◌ A B) more ts o r
  two_judged ts o r true h e = judged_as A (L.◌or◌ A B) more (λ x t z. inl z) ts o r (a.judged ts o r h e)
  two_judged ts o r false h e = judged_as B (L.◌or◌ A B) more (λ x t z. inr z) ts o r (b.judged ts o r h e)

  -- one side, where both inputs lead to it
  sided : (m : List Terminal) (t : Terminal) (s s' : List Terminal) (o : Option X) (r : List Terminal) (v w : Bool) → v ≡ w → Free before (m ++ (t ∷ s))
      → cond v (p (m ++ (t ∷ s))) (q (m ++ (t ∷ s))) ≡ Ends o (r ++ (t ∷ s)) → cond w (p (m ++ (t ∷ s'))) (q (m ++ (t ∷ s'))) ≡ Ends o (r ++ (t ∷ s'))
  sided m t s s' o r true true k h e = a.local m t s s' o r h e
  sided m t s s' o r false false k h e = b.local m t s s' o r h e
  sided m t s s' o r true false k h e = absurd (cc)
  sided m t s s' o r false true k h e = absurd (cc)

  stays : (t : Terminal) (s : List Terminal) (o : Option X) (r : List Terminal) (v : Bool) → f t ≡ true → cond v (p (t ∷ s)) (q (t ∷ s)) ≡ Ends o (r ++ (t ∷ s)) → ⊥
  stays t s o r true k e = let l : length (r ++ (t ∷ s)) ≤ length s = moves_p t s o (r ++ (t ∷ s)) k e in omega (arith, length-append r (t ∷ s))
  stays t s o r false k e = let l : length (r ++ (t ∷ s)) ≤ length s = moves_q t s o (r ++ (t ∷ s)) k e in omega (arith, length-append r (t ∷ s))

  none_first : (t : Terminal) (s : List Terminal) → f t ≡ false → next_two f g (t ∷ s) ≡ false
  none_first t [] k = refl
  none_first t (u ∷ s) k = ap (λ v. v && g u) k

  two_local : (m : List Terminal) (t : Terminal) (s s' : List Terminal) (o : Option X) (r : List Terminal) → Free before (m ++ (t ∷ s)) →
      choice_two f g p q (m ++ (t ∷ s)) ≡ Ends o (r ++ (t ∷ s)) → choice_two f g p q (m ++ (t ∷ s')) ≡ Ends o (r ++ (t ∷ s'))
  two_local [] t s s' o r h e = go (f t) refl
    where
      go : (v : Bool) → f t ≡ v → choice_two f g p q (t ∷ s') ≡ Ends o (r ++ (t ∷ s'))
      go true k = absurd (stays t s o r (next_two f g (t ∷ s)) k e)
      go false k = sided [] t s s' o r (next_two f g (t ∷ s)) (next_two f g (t ∷ s')) (none_first t s k ∙ sym (none_first t s' k)) h e
  two_local (u ∷ []) t s s' o r h e = sided (u ∷ []) t s s' o r (f u && g t) (f u && g t) refl h e
  two_local (u ∷ w ∷ m) t s s' o r h e = sided (u ∷ w ∷ m) t s s' o r (f u && g w) (f u && g w) refl h e

  two_clean : (x : X) (m r : List Terminal) → (L.◌or◌ A' B') x m → Free (more x) r → Free never r → Free before (m ++ r)
  two_clean x m r (inl c) h k = a.clean x m r c h k
  two_clean x m r (inr c) h k = b.clean x m r c h k

  two_complete : (x : X) (m r : List Terminal) → (L.◌or◌ A' B') x m → Free (more x) r → Free never r → Found (choice_two f g p q (m ++ r)) x r
  two_complete x m r (inl c) h k = subst (λ v. Found (cond v (p (m ++ r)) (q (m ++ r))) x r) (sym (leads x m r c)) (a.complete x m r c h k)
  two_complete x m r (inr c) h k = subst (λ v. Found (cond v (p (m ++ r)) (q (m ++ r))) x r) (sym (other x m r c h k)) (b.complete x m r c h k)

  two_total : (ts : List Terminal) (v : Bool) → Free before ts → K (length ts) → cond v (p ts) (q ts) ≡ Deep → ⊥
  two_total ts true h l e = a.total ts h l e
  two_total ts false h l e = b.total ts h l e

  pub exact_two : ExactIn K never before (L.◌or◌ A B) (L.◌or◌ A' B') (choice_two f g p q) more
  exact_two = record {
    judged = λ ts o r h e. two_judged ts o r (next_two f g ts) h e;
    local = two_local;
    clean = two_clean;
    complete = two_complete;
    some = let u : Any B = b.some in record { value = u.value; tokens = u.tokens; phrase = inr u.phrase };
    total = λ ts h l e. two_total ts (next_two f g ts) h l e;
  }

-- a phrase that begins with this terminal
pub record StartsAt {X : Type 0} (A : X → List Terminal → Type 0) (t : Terminal) : Type 0 where
  pub value : X
  pub tail : List Terminal
  pub phrase : A value (t ∷ tail)

-- a reader takes each terminal that begins a phrase
module _ {X : Type 0} (K : ℕ → Type 0) (f test : Terminal → Bool) (A A' : X → List Terminal → Type 0) (p : List Terminal → Read X) (more : X → Terminal → Bool)
    (a : Exact K none A A' p more) (leads : Leads test A) (starts : (t : Terminal) → f t ≡ true → StartsAt A' t) where
  lost_moves : (t : Terminal) (ts s front : List Terminal) → f t ≡ true → p (t ∷ ts) ≡ Ends None s → t ∷ ts ≡ front ++ s → length s ≤ length ts
  lost_moves t ts s [] k e w =
      let u : StartsAt A' t = starts t k in
      let l : p (t ∷ u.tail) ≡ Ends None (t ∷ u.tail) = a.local [] t ts u.tail None [] (none_next (t ∷ ts)) (e ∙ ap (λ z. Ends None z) (sym w)) in
      let c : Found (p ((t ∷ u.tail) ++ [])) u.value [] = a.complete u.value (t ∷ u.tail) [] u.phrase refl refl in
      absurd (subst (λ z. Found z u.value []) (ap p (append-nil (t ∷ u.tail)) ∙ l) c)
  lost_moves t ts s (u ∷ front) k e w = let l : length (t ∷ ts) ≡ length ((u ∷ front) ++ s) = ap length w in omega (arith, l, length-append front s)

  pub moves_exact : Moves f p
  moves_exact t ts (Some x) s k e = let j : Got A more (t ∷ ts) x s = a.judged (t ∷ ts) (Some x) s (none_next (t ∷ ts)) e in let l : length s < length (t ∷ ts) = shorter test A more (t ∷ ts) x s leads j in omega arith
  moves_exact t ts None s k e = let j : Lost A (t ∷ ts) s = a.judged (t ∷ ts) None s (none_next (t ∷ ts)) e in lost_moves t ts s j.front k e j.whole

-- a reader that takes a terminal first
pub moves_token : {X : Type 0} (f : Terminal → Bool) (g : Terminal → List Terminal → Read X) →
    ((t : Terminal) (ts : List Terminal) (o : Option X) (s : List Terminal) → g t ts ≡ Ends o s → length s ≤ length ts) →
    Moves f (R.◌>>=◌ (R.token f) g)
moves_token f g h t ts o s k e = h t ts o s (sym (ap (λ v. go_on g (cond v (Ends (Some t) ts) (Ends None (t ∷ ts)))) k) ∙ e)
