-- Lists with commas, and lists in braces.
use Rattle.std.proofs.Common.{◌≡◌, ℕ, zero, suc, ◌+◌, ◌*◌, ◌<◌, ◌≤◌, Bool, true, false, List, [], ◌∷◌, ◌++◌, inl, inr, length, refl, sym, ap, subst, ◌∙◌, append_assoc, arith}
use Rattle.std.proofs.lemmas.List.{append-nil}
use Rattle.mv_syntax.specs.declared.token.Piece.TheVariants.{Mark}
use Rattle.mv_parse_grammar.specs.Terminals.{Terminal, is_mark}
use Rattle.mv_parse_grammar.specs.Language as L
use Rattle.mv_parse_grammar.specs.Language.{IsThen}
use Rattle.mv_parse_grammar.specs.Reader as R
use Rattle.mv_parse_grammar.specs.Reader.{Read}
use Rattle.mv_parse_grammar.proofs.Exact.{Exact, ExactIn, Any, Leads, none, leads_token, leads_then, leads_or, shorter, not_longer, exact_before, exact_same, exact_room, exact_deep, exact_then, exact_choice, exact_token, chain_once, chain_opened}
use Rattle.mv_parse_grammar.proofs.Classes.{sample, either, all_but, or_none, at_mark}
use Rattle.mv_parse_grammar.proofs.Shapes.{Room, room_down, Apart, apart_none, apart_give, apart_leads, leads_first, leads_wider, given, taken, first, after_in, beyond_in, picked, later, repeated}
use Rattle.std.proofs.lemmas.Bool.{or_parts}

-- one phrase after another, regrouped

pub regroup : {X Y Z : Type 0} (A : X → List Terminal → Type 0) (F : X → Y → List Terminal → Type 0) (G : Y → Z → List Terminal → Type 0) (z : Z) (b : List Terminal)
    → IsThen (IsThen A F) G z b → IsThen A (λ x. IsThen (F x) G) z b
regroup A F G z b c =
    let d = c.first in
    record {
      middle = d.middle;
      front = d.front;
      back = d.back ++ c.back;
      whole = c.whole ∙ (ap (λ l. l ++ c.back) d.whole ∙ append_assoc d.front d.back c.back);
      first = d.first;
      second = record { middle = c.middle; front = d.back; back = c.back; whole = refl; first = d.second; second = c.second };
    }

pub ungroup : {X Y Z : Type 0} (A : X → List Terminal → Type 0) (F : X → Y → List Terminal → Type 0) (G : Y → Z → List Terminal → Type 0) (z : Z) (b : List Terminal)
    → IsThen A (λ x. IsThen (F x) G) z b → IsThen (IsThen A F) G z b
ungroup A F G z b c =
    let d = c.second in
    record {
      middle = d.middle;
      front = c.front ++ d.front;
      back = d.back;
      whole = c.whole ∙ (ap (λ l. c.front ++ l) d.whole ∙ sym (append_assoc c.front d.front d.back));
      second = d.second;
      first = record { middle = c.middle; front = c.front; back = d.front; whole = refl; first = c.first; second = d.first };
    }

-- what never follows a chain doesn't follow what is before it
pub apart_chain : {X : Type 0} (never test : Terminal → Bool) (F : X → X → List Terminal → Type 0) (x : X) (more : X → Terminal → Bool)
    → ((y : X) → Leads test (F y)) → ((t : Terminal) → test t ≡ true → never t ≡ false) → Apart never (L.chain F x) more never
apart_chain never test F x more l h y b r c k m =
    elim (chain_opened F x y b c) [
      | inl d ↦ apart_leads never test (L.◌>>=◌ (F x) (L.chain F)) more never (leads_then test (F x) (L.chain F) (l x)) h y b r d k m
      | inr d ↦ apart_give never x more y b r d k m
    ]

-- lists with commas

module _ {X : Type 0} (n b : ℕ) (never test : Terminal → Bool) (comma : (t : Terminal) → is_mark 7 t ≡ true → never t ≡ false) (A A' : X → List Terminal → Type 0) (p : List Terminal → Read X)
    (leads : Leads test A) (a : ExactIn (Room n b) never none A A' p (λ _. none)) where
  pushed_exact : (c : ℕ) → b ≤ c → (xs : List X) → ExactIn (Room n c) never none (L.pushed A xs) (L.pushed A' xs) (R.pushed p xs) (λ _. none)
  pushed_exact c l xs = after_in (λ x. apart_give never (xs ++ x ∷ []) (λ _. none)) (later b c l a) (λ x. given refl)

  -- after the first phrase
  pub commas_exact : (c : ℕ) → b ≤ c → 0 < c → (xs : List X) → ExactIn (Room n c) never none (L.chain (L.comma_pushed A) xs) (L.chain (L.comma_pushed A') xs) (R.chain (is_mark 7) (R.comma_pushed p) n xs) (λ _. is_mark 7)
  commas_exact c l k xs =
      repeated (is_mark 7) k comma (λ _. leads_first (is_mark 7)) (λ _. leads_first (is_mark 7))
      (λ xs. first (taken (sample (Mark 7)) refl (λ _ _. refl)) (λ _. pushed_exact (c + 3) (omega arith) xs))
      xs

  pub comma_list_exact : ExactIn (Room n b) never none (L.comma_list A) (L.comma_list A') (R.comma_list n p) (λ _. is_mark 7)
  comma_list_exact =
      beyond_in test leads (λ x. apart_chain never (is_mark 7) (L.comma_pushed A') (x ∷ []) (λ _. is_mark 7) (λ _. leads_first (is_mark 7)) comma) a
      (λ x. commas_exact (b + 3) (omega arith) (omega arith) (x ∷ []))

-- all but a comma and a closing parenthesis
abbrev pub never_in_list : Terminal → Bool
never_in_list = all_but (either (is_mark 7) (is_mark 1))

-- a list with commas, up to its parenthesis
pub enclosed_exact : {X : Type 0} (n b : ℕ) (test : Terminal → Bool) (A A' : X → List Terminal → Type 0) (p : List Terminal → Read X) → Leads test A → ExactIn (Room n b) never_in_list none A A' p (λ _. none)
    → Exact (Room n b) none (L.◌>>=◌ (L.comma_list A) (λ xs. L.◌>>=◌ (L.token (is_mark 1)) (λ _. L.give xs))) (L.◌>>=◌ (L.comma_list A') (λ xs. L.◌>>=◌ (L.token (is_mark 1)) (λ _. L.give xs)))
    (R.◌>>=◌ (R.comma_list n p) (λ xs. R.◌>>=◌ (R.token (is_mark 1)) (λ _. R.give xs))) (λ _. none)
enclosed_exact n b test A A' p leads a =
    after_in (λ xs. apart_leads never_in_list (is_mark 1) _ (λ _. none) none (leads_first (is_mark 1)) (at_mark 1 _ refl (λ _ _. refl)))
    (comma_list_exact n b never_in_list test (at_mark 7 _ refl (λ _ _. refl)) A A' p leads a)
    (λ xs. first (taken (sample (Mark 1)) refl (at_mark 1 _ refl (λ _ _. refl))) (λ _. given refl))

-- lists in braces

-- what is after a phrase of the list
abbrev pub Tail : {X : Type 0} → (X → List Terminal → Type 0) → List X → List X → List Terminal → Type 0
Tail A xs = L.◌>>=◌ (L.chain (L.comma_pushed A) xs) (λ ys. L.◌>>=◌ (L.last_comma ys) (λ zs. L.◌>>=◌ (L.token (is_mark 5)) (λ _. L.give zs)))

abbrev pub Closed : {X : Type 0} → List X → List X → List Terminal → Type 0
Closed xs = L.◌>>=◌ (L.token (is_mark 5)) (λ _. L.give xs)

abbrev pub Commad : {X : Type 0} → (X → List Terminal → Type 0) → List X → List X → List Terminal → Type 0
Commad A xs = L.◌>>=◌ (L.token (is_mark 7)) (λ _. L.◌or◌ (Closed xs) (L.◌>>=◌ A (λ x. Tail A (xs ++ x ∷ []))))

-- how it is read: "," and then "}" or another phrase, or else "}"
abbrev pub Factored : {X : Type 0} → (X → List Terminal → Type 0) → List X → List X → List Terminal → Type 0
Factored A xs = L.◌or◌ (Commad A xs) (Closed xs)

no_more : {X : Type 0} (F : X → X → List Terminal → Type 0) (x : X) → L.chain F x x []
no_more F x = record { count = zero; phrases = record { value = refl; empty = refl } }

-- no phrase more, and the brace
closed_tail : {X : Type 0} (A : X → List Terminal → Type 0) (xs ys : List X) (b : List Terminal) → Closed xs ys b → Tail A xs ys b
closed_tail A xs ys b c = record {
  middle = xs;
  front = [];
  back = b;
  whole = refl;
  first = no_more (L.comma_pushed A) xs;
  second = record { middle = xs; front = []; back = b; whole = refl; first = inr (record { value = refl; empty = refl }); second = c };
}

-- a comma and the brace
last_tail : {X : Type 0} (A : X → List Terminal → Type 0) (xs ys : List X) (t : Terminal) (b : List Terminal) → is_mark 7 t ≡ true → Closed xs ys b → Tail A xs ys (t ∷ b)
last_tail A xs ys t b k c = record {
  middle = xs;
  front = [];
  back = t ∷ b;
  whole = refl;
  first = no_more (L.comma_pushed A) xs;
  second = record {
    middle = xs;
    front = t ∷ [];
    back = b;
    whole = refl;
    first = inl (record { middle = t; front = t ∷ []; back = []; whole = refl; first = record { one = refl; kind = k }; second = record { value = refl; empty = refl } });
    second = c;
  };
}

-- a comma and another phrase
more_tail : {X : Type 0} (A : X → List Terminal → Type 0) (xs ys : List X) (x : X) (t : Terminal) (b r : List Terminal) → is_mark 7 t ≡ true → A x b → Tail A (xs ++ x ∷ []) ys r → Tail A xs ys (t ∷ (b ++ r))
more_tail A xs ys x t b r k a c = record {
  middle = c.middle;
  front = (t ∷ b) ++ c.front;
  back = c.back;
  whole = ap (λ l. t ∷ (b ++ l)) c.whole ∙ sym (append_assoc (t ∷ b) c.front c.back);
  first = chain_once (L.comma_pushed A) xs c.middle ((t ∷ b) ++ c.front) (inl (record {
    middle = xs ++ x ∷ [];
    front = t ∷ b;
    back = c.front;
    whole = refl;
    first = record {
      middle = t;
      front = t ∷ [];
      back = b;
      whole = refl;
      first = record { one = refl; kind = k };
      second = record { middle = x; front = b; back = []; whole = sym (append-nil b); first = a; second = record { value = refl; empty = refl } };
    };
    second = c.first;
  }));
  second = c.second;
}

tail_of : {X : Type 0} (A : X → List Terminal → Type 0) (xs ys : List X) (b : List Terminal) → Factored A xs ys b → Tail A xs ys b
tail_of A xs ys b (inr c) = closed_tail A xs ys b c
tail_of A xs ys b (inl c) =
    let e : b ≡ c.middle ∷ c.back = c.whole ∙ ap (λ z. z ++ c.back) c.first.one in
    subst (λ z. Tail A xs ys z) (sym e) (elim c.second [
      | inl d ↦ last_tail A xs ys c.middle c.back c.first.kind d
      | inr d ↦ subst (λ z. Tail A xs ys (c.middle ∷ z)) (sym d.whole) (more_tail A xs ys d.middle c.middle d.front d.back c.first.kind d.first d.second)
    ])

closed_moved : {X : Type 0} (xs ys zs : List X) (b : List Terminal) → ys ≡ xs → Closed ys zs b → Closed xs zs b
closed_moved xs ys zs b e c = subst (λ l. Closed l zs b) e c

-- the end of a list without another phrase
opened_end : {X : Type 0} (A : X → List Terminal → Type 0) (xs ys : List X) (b : List Terminal) → (L.◌>>=◌ (L.last_comma xs) (λ zs. Closed zs)) ys b → Factored A xs ys b
opened_end A xs ys b c = go c.first
  where
    go : L.last_comma xs c.middle c.front → Factored A xs ys b
    go (inl d) =
        let e : c.front ≡ d.middle ∷ [] = d.whole ∙ (ap (λ z. z ++ d.back) d.first.one ∙ ap (λ z. d.middle ∷ z) d.second.empty) in
        inl (record {
          middle = d.middle;
          front = d.middle ∷ [];
          back = c.back;
          whole = c.whole ∙ ap (λ z. z ++ c.back) e;
          first = record { one = refl; kind = d.first.kind };
          second = inl (closed_moved xs c.middle ys c.back d.second.value c.second);
        })
    go (inr d) = inr (subst (λ z. Closed xs ys z) (sym (c.whole ∙ ap (λ z. z ++ c.back) d.empty)) (closed_moved xs c.middle ys c.back d.value c.second))

opened_tail : {X : Type 0} (A : X → List Terminal → Type 0) (xs ys : List X) (b : List Terminal) → Tail A xs ys b → Factored A xs ys b
opened_tail A xs ys b c = go (chain_opened (L.comma_pushed A) xs c.middle c.front c.first)
  where
    go : (L.◌or◌ (L.◌>>=◌ (L.comma_pushed A xs) (L.chain (L.comma_pushed A))) (L.give xs)) c.middle c.front → Factored A xs ys b
    go (inl d) =
        let f = d.first in
        let g = f.second in
        let h : f.back ≡ g.front = g.whole ∙ (ap (λ z. g.front ++ z) g.second.empty ∙ append-nil g.front) in
        let e : d.front ≡ f.middle ∷ g.front = f.whole ∙ (ap (λ z. z ++ f.back) f.first.one ∙ ap (λ z. f.middle ∷ z) h) in
        let w : b ≡ (f.middle ∷ []) ++ (g.front ++ (d.back ++ c.back)) =
        c.whole ∙ (ap (λ z. z ++ c.back) d.whole ∙ (ap (λ z. (z ++ d.back) ++ c.back) e ∙ ap (λ z. f.middle ∷ z) (append_assoc g.front d.back c.back))) in
        inl (record {
          middle = f.middle;
          front = f.middle ∷ [];
          back = g.front ++ (d.back ++ c.back);
          whole = w;
          first = record { one = refl; kind = f.first.kind };
          second = inr (record {
            middle = g.middle;
            front = g.front;
            back = d.back ++ c.back;
            whole = refl;
            first = g.first;
            second = record { middle = c.middle; front = d.back; back = c.back; whole = refl; first = subst (λ z. L.chain (L.comma_pushed A) z c.middle d.back) g.second.value d.second; second = c.second };
          });
        })
    go (inr d) =
        opened_end A xs ys b (subst (λ z. (L.◌>>=◌ (L.last_comma z) (λ zs. Closed zs)) ys b) d.value (subst (λ z. (L.◌>>=◌ (L.last_comma c.middle) (λ zs. Closed zs)) ys z) (sym (c.whole ∙ ap (λ z. z ++ c.back) d.empty)) c.second))

-- a comma or the brace
abbrev pub closes : Terminal → Bool
closes = either (is_mark 7) (is_mark 5)

factored_leads : {X : Type 0} (A : X → List Terminal → Type 0) (xs : List X) → Leads closes (Factored A xs)
factored_leads A xs = leads_or closes _ _ (leads_wider (at_mark 7 _ refl (λ _ _. refl))) (leads_wider (at_mark 5 _ refl (λ _ _. refl)))

tail_leads : {X : Type 0} (A : X → List Terminal → Type 0) (xs : List X) → Leads closes (Tail A xs)
tail_leads A xs ys b c = factored_leads A xs ys b (opened_tail A xs ys b c)

any_tail : {X : Type 0} (A : X → List Terminal → Type 0) (xs : List X) → Any (Tail A xs)
any_tail A xs = record {
  value = xs;
  tokens = sample (Mark 5) ∷ [];
  phrase = closed_tail A xs xs (sample (Mark 5) ∷ []) (record { middle = sample (Mark 5); front = sample (Mark 5) ∷ []; back = []; whole = refl; first = record { one = refl; kind = refl }; second = record { value = refl; empty = refl } });
}

module _ {X : Type 0} (n b : ℕ) (never test : Terminal → Bool) (closing : (t : Terminal) → closes t ≡ true → never t ≡ false) (A A' : X → List Terminal → Type 0) (p : List Terminal → Read X)
    (leads : Leads test A) (leads' : Leads test A') (apart : (t : Terminal) → test t ≡ true → is_mark 5 t ≡ false) (a : ExactIn (Room n b) never none A A' p (λ _. none)) where
  closed_exact : (k : ℕ) (xs : List X) (before : Terminal → Bool) → ((t : Terminal) → is_mark 5 t ≡ true → before t ≡ false) →
      Exact (λ l. Room n b l × (l < k)) before (Closed xs) (Closed xs) (R.◌>>=◌ (R.token (is_mark 5)) (λ _. R.give xs)) (λ _. none)
  closed_exact k xs before h =
      exact_then (λ l. Room n b l × (l < k)) (λ l. Room n b l × (l < k)) none none before (L.token (is_mark 5)) (L.token (is_mark 5)) (R.token (is_mark 5)) (λ _ _. false) (λ _. L.give xs) (λ _. L.give xs) (λ _. R.give xs) (λ _. none)
      (exact_token (λ l. Room n b l × (l < k)) none before (is_mark 5) (sample (Mark 5)) refl h) (λ t. given refl) (λ t. apart_none (L.give xs) (λ _. none) none)
      (λ ts t s u h. let l : length s ≤ length ts = not_longer (L.token (is_mark 5)) (λ _ _. false) ts t s u in let m : length ts < k = h.1 in (room_down n b (length s) (length ts) l h.0, omega arith))

  -- with a bound on the turns
  closing_of : (k : ℕ) (xs : List X) → Exact (λ l. Room n b l × (l < k)) none (Tail A xs) (Tail A' xs) (R.closing k p xs) (λ _. none)
  closing_of zero xs =
      exact_deep (λ l. Room n b l × (l < zero)) none none (Tail A xs) (Tail A' xs) (λ _. none)
      (λ x m r c h k. apart_none (Tail A' xs) (λ _. none) none x m r c h k) (any_tail A xs) (λ ts h. let e : length ts < zero = h.1 in omega arith)
  closing_of (suc k) xs =
      exact_same (λ l. Room n b l × (l < suc k)) none none (Factored A xs) (Factored A' xs) (Tail A xs) (Tail A' xs) (R.closing (suc k) p xs)
      (λ _. none) (tail_of A xs) (opened_tail A' xs)
      (exact_choice (λ l. Room n b l × (l < suc k)) none none (is_mark 7) (either none (is_mark 7)) (Commad A xs) (Commad A' xs) (Closed xs)
      (Closed xs) _ _ (λ _. none) (λ t h i. or_none (none t) (is_mark 7 t) h i) (λ t h. or_parts (none t) (is_mark 7 t) h)
      (leads_first (is_mark 7))
      (exact_then (λ l. Room n b l × (l < suc k)) (λ l. Room n b l × (l < k)) none none none (L.token (is_mark 7)) (L.token (is_mark 7))
      (R.token (is_mark 7)) (λ _ _. false) _ _ _ (λ _. none)
      (exact_token (λ l. Room n b l × (l < suc k)) none none (is_mark 7) (sample (Mark 7)) refl (λ _ _. refl))
      (λ t. picked (leads_first (is_mark 5)) (closed_exact k xs none (λ _ _. refl))
      (exact_then (λ l. Room n b l × (l < k)) (λ l. Room n b l × (l < k)) never none (either none (is_mark 5)) A A' p (λ _. none) _ _ _
      (λ _. none) (exact_before (λ l. Room n b l × (l < k)) never (either none (is_mark 5)) test A A' p (λ _. none)
      (exact_room (λ l. Room n b l × (l < k)) (Room n b) never none A A' p (λ _. none) (λ l h. h.0) a) leads' (λ t h. apart t h))
      (λ x. closing_of k (xs ++ x ∷ []))
      (λ x. apart_leads never closes (Tail A' (xs ++ x ∷ [])) (λ _. none) none (tail_leads A' (xs ++ x ∷ [])) closing)
      (λ ts x s u h. let l : length s ≤ length ts = not_longer A (λ _. none) ts x s u in
      let m : length ts < k = h.1 in (room_down n b (length s) (length ts) l h.0, omega arith))))
      (λ t. apart_none _ (λ _. none) none)
      (λ ts t s u h. let l : length s < length ts = shorter (is_mark 7) (L.token (is_mark 7)) (λ _ _. false) ts t s (leads_token (is_mark 7))
      u in
      let m : length ts < suc k = h.1 in (room_down n b (length s) (length ts) (omega arith) h.0, omega arith)))
      (closed_exact (suc k) xs (either none (is_mark 7)) (at_mark 5 _ refl (λ _ _. refl))))

  pub closing_exact : 0 < b → (xs : List X) → Exact (Room n b) none (Tail A xs) (Tail A' xs) (R.closing n p xs) (λ _. none)
  closing_exact l xs = exact_room (Room n b) (λ l. Room n b l × (l < n)) none none (Tail A xs) (Tail A' xs) (R.closing n p xs) (λ _. none) (λ k h. (h, let m : 3 * k + b ≤ n = h.enough in omega arith)) (closing_of n xs)

-- a list in braces, behind what takes at least a terminal before each phrase
module _ {X : Type 0} (n b : ℕ) (never test : Terminal → Bool) (closing : (t : Terminal) → closes t ≡ true → never t ≡ false) (A A' : X → List Terminal → Type 0) (p : List Terminal → Read X)
    (leads : Leads test A) (leads' : Leads test A') (apart : (t : Terminal) → test t ≡ true → is_mark 5 t ≡ false) (positive : 0 < b) (a : ExactIn (Room n b) never none A A' p (λ _. none)) where
  pub braced_exact : (c : ℕ) → b ≤ c + 3 → (before : Terminal → Bool) → ((t : Terminal) → is_mark 4 t ≡ true → before t ≡ false) → Exact (Room n c) before (L.braced_list A) (L.braced_list A') (R.braced_list n p) (λ _. none)
  braced_exact c l before h =
      exact_same (Room n c) none before (L.◌>>=◌ (L.token (is_mark 4)) (λ _. L.◌>>=◌ A (λ x. Tail A (x ∷ []))))
      (L.◌>>=◌ (L.token (is_mark 4)) (λ _. L.◌>>=◌ A' (λ x. Tail A' (x ∷ [])))) (L.braced_list A) (L.braced_list A') (R.braced_list n p) (λ _. none)
      (λ xs ts c. record {
        middle = c.middle;
        front = c.front;
        back = c.back;
        whole = c.whole;
        first = c.first;
        second = ungroup A (λ x. L.chain (L.comma_pushed A) (x ∷ [])) _ xs c.back c.second;
      })
      (λ xs ts c. record {
        middle = c.middle;
        front = c.front;
        back = c.back;
        whole = c.whole;
        first = c.first;
        second = regroup A' (λ x. L.chain (L.comma_pushed A') (x ∷ [])) _ xs c.back c.second;
      })
      (first (taken (sample (Mark 4)) refl h)
      (λ _. after_in (λ x. apart_leads never closes (Tail A' (x ∷ [])) (λ _. none) none (tail_leads A' (x ∷ [])) closing) (later b (c + 3) l a)
      (λ x. later b (c + 3) l (closing_exact n b never test closing A A' p leads leads' apart a positive (x ∷ [])))))
