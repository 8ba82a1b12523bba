-- The reading of expressions takes exactly the phrases of the grammar.
use Rattle.std.proofs.Common.{◌≡◌, ℕ, zero, suc, ◌+◌, ◌*◌, ◌<◌, ◌≤◌, Bool, true, false, Option, Some, None, List, [], ◌∷◌, ◌++◌, inl, inr, length, refl, sym, ap, ◌∙◌, append_assoc, length-append, arith}
use Rattle.std.specs.Prelude.{◌&&◌}
use Rattle.std.proofs.lemmas.List.{append-nil}
use Rattle.mv_syntax.specs.declared.place.Place.{Place}
use Rattle.mv_num.specs.declared.kind.Kind.TheVariants.{Int}
use Rattle.mv_syntax.specs.declared.token.Piece.TheVariants.{Keyword, Name, Number, Mark}
use Rattle.mv_syntax.specs.declared.unit.Node.{Node}
use Rattle.mv_syntax.specs.declared.unit.Specs.{Specs}
use Rattle.mv_syntax.specs.declared.unit.What.TheVariants as w
use Rattle.mv_parse_grammar.specs.Terminals.{Terminal, is_mark, is_keyword, is_name, is_number, is_rank, within_rank, is_sign, is_step, is_type_word, is_type_part}
use Rattle.mv_parse_grammar.specs.Language as L
use Rattle.mv_parse_grammar.specs.Language.{place_of}
use Rattle.mv_parse_grammar.specs.Reader as R
use Rattle.mv_parse_grammar.specs.Reader.{Ends, next_two}
use Rattle.mv_parse_grammar.specs.Expressions as G
use Rattle.mv_parse_grammar.specs.Expressions.{Nonterminal, Expressions, Assign, Cond, Cast, Unary, no_specs, specs_at}
use Rattle.mv_parse_grammar.specs.ExpressionReader as M
use Rattle.mv_parse_grammar.specs.ExpressionReader.{Readers}
use Rattle.mv_parse_grammar.proofs.Classes.{sample, either, but_two, or_none, at_mark, at_keyword, at_name, at_number, at_class, at_in, is_in, signs, steps, type_words, expression_starts, in_signs, in_steps, in_type_words, rank_apart, rank_wide, rank_narrow, rank_zero, zero_rank}
use Rattle.mv_parse_grammar.proofs.Exact.{Exact, Any, Begins, Leads, leads_then, leads_marked, leads_or, exact_before, exact_deep, exact_same, exact_marked, none, none_next}
use Rattle.mv_parse_grammar.proofs.Shapes.{Room, leads_first, leads_wider, given, taken, first, beyond, after, picked, later, stepped, eased, chained, repeated}
use Rattle.mv_parse_grammar.proofs.Lists.{never_in_list, enclosed_exact}
use Rattle.mv_parse_grammar.proofs.Peek.{Moves, exact_two, StartsAt, moves_exact, moves_token}
use Rattle.mv_num.proofs.Booleans.{and_false}

-- how an expression begins
abbrev pub starts : Terminal → Bool
starts = is_in expression_starts

-- what goes on from the phrases of each nonterminal
abbrev pub more : Nonterminal → Terminal → Bool
more Unary = within_rank 0
more Cast = within_rank 0
more Cond = either (within_rank 10) (is_mark 9)
more Assign = either (either (within_rank 10) (is_mark 9)) (is_rank 12)

-- a mark of each rank on two operands
mark_of_rank : (k : ℕ) → k < 10 → (t : Terminal) × (is_rank (suc k) t ≡ true)
mark_of_rank zero h = (sample (Mark 14), refl)
mark_of_rank (suc zero) h = (sample (Mark 12), refl)
mark_of_rank (suc (suc zero)) h = (sample (Mark 25), refl)
mark_of_rank (suc (suc (suc zero))) h = (sample (Mark 20), refl)
mark_of_rank (suc (suc (suc (suc zero)))) h = (sample (Mark 29), refl)
mark_of_rank (suc (suc (suc (suc (suc zero))))) h = (sample (Mark 17), refl)
mark_of_rank (suc (suc (suc (suc (suc (suc zero)))))) h = (sample (Mark 19), refl)
mark_of_rank (suc (suc (suc (suc (suc (suc (suc zero))))))) h = (sample (Mark 18), refl)
mark_of_rank (suc (suc (suc (suc (suc (suc (suc (suc zero)))))))) h = (sample (Mark 31), refl)
mark_of_rank (suc (suc (suc (suc (suc (suc (suc (suc (suc zero))))))))) h = (sample (Mark 32), refl)
mark_of_rank (suc (suc (suc (suc (suc (suc (suc (suc (suc (suc k)))))))))) h = absurd (omega arith)

-- type names

pub type_part_leads : (s : Specs) → Leads is_type_part (G.type_part s)
type_part_leads s =
    leads_or is_type_part _ _ (leads_wider (at_keyword 4 _ refl (λ _ _. refl)))
    (leads_or is_type_part _ _ (leads_wider (at_in type_words in_type_words is_type_part (λ _ _ _ _ _. refl)))
    (leads_wider (at_keyword 9 _ refl (λ _ _. refl))))

pub type_name_leads : Leads is_type_part G.type_name
type_name_leads = leads_then is_type_part _ _ (leads_marked is_type_part (G.type_part no_specs) (type_part_leads no_specs))

type_part_exact : (n b : ℕ) (s : Specs) → Exact (Room n b) none (G.type_part s) (G.type_part s) (M.type_part s) (λ _. none)
type_part_exact n b s =
    picked (leads_first (is_keyword 4)) (first (taken (sample (Keyword 4)) refl (λ _ _. refl)) (λ _. given refl))
    (picked (leads_first is_type_word) (first (taken (sample (Keyword 0)) refl (at_in type_words in_type_words _ (λ _ _ _ _ _. refl))) (λ t. given refl))
    (first (taken (sample (Keyword 9)) refl (at_keyword 9 _ refl (λ _ _. refl))) (λ _. first (taken (sample Name) refl (λ _ _. refl)) (λ t. given refl))))

pub type_name_exact : (n b : ℕ) → 0 < b → Exact (Room n b) none G.type_name G.type_name (M.type_name n) (λ _. is_type_part)
type_name_exact n b l =
    after (exact_marked (Room n b) none none is_type_part (G.type_part no_specs) (G.type_part no_specs) (M.type_part no_specs) (λ _. none) (type_part_leads no_specs) (type_part_leads no_specs) (type_part_exact n b no_specs))
    (λ m. repeated is_type_part l (λ _ _. refl) type_part_leads type_part_leads (type_part_exact n b) (specs_at m.0 m.1))

-- how phrases begin

-- a cast with its type name
abbrev pub typed : Expressions → Node → List Terminal → Type 0
typed S = L.◌>>=◌ (L.token (is_mark 0)) (λ t. L.◌>>=◌ G.type_name (λ s. L.◌>>=◌ (L.token (is_mark 1)) (λ _. L.◌>>=◌ (S Cast) (λ x. L.give (G.node_at t.place (w.Cast s x))))))

module _ (S : Expressions) (ls : (r : Nonterminal) → Leads starts (S r)) where
  pub primary_leads : Leads starts (G.primary S)
  primary_leads =
      leads_or starts _ _ (leads_wider (at_name _ (λ _ _. refl)))
      (leads_or starts _ _ (leads_wider (at_number _ (λ _ _ _ _. refl)))
      (leads_wider (at_mark 0 _ refl (λ _ _. refl))))

  pub postfix_leads : Leads starts (G.postfix S)
  postfix_leads = leads_then starts _ _ (leads_marked starts (G.primary S) primary_leads)

  pub unary_leads : Leads starts (G.unary S)
  unary_leads =
      leads_or starts _ _ (leads_wider (at_in steps in_steps (is_in expression_starts) (λ _ _ _ _ _. refl)))
      (leads_or starts _ _ (leads_wider (at_in signs in_signs (is_in expression_starts) (λ _ _ _ _ _. refl)))
      postfix_leads)

  pub level_leads : (k : ℕ) → Leads starts (G.level S k)
  unfolding G.level
  level_leads zero = ls Cast
  level_leads (suc k) = leads_then starts _ _ (leads_marked starts (G.level S k) (level_leads k))

  pub production_leads : (r : Nonterminal) → Leads starts (G.production S r)
  production_leads Assign = leads_then starts _ _ (leads_marked starts (S Cond) (ls Cond))
  production_leads Cond = leads_then starts _ _ (leads_marked starts (G.level S 10) (level_leads 10))
  production_leads Cast = leads_or starts _ _ (leads_wider (at_mark 0 _ refl (λ _ _. refl))) unary_leads
  production_leads Unary = unary_leads

-- no unary expression begins as a cast does

-- a phrase that begins with another terminal is no cast
not_first : (f g : Terminal → Bool) (t : Terminal) (q r : List Terminal) → f t ≡ false → next_two f g ((t ∷ q) ++ r) ≡ false
not_first f g t [] [] k = refl
not_first f g t [] (u ∷ r) k = ap (λ v. v && g u) k
not_first f g t (u ∷ q) r k = ap (λ v. v && g u) k

-- nor is one whose second terminal is none of a type name's
not_second : (f g : Terminal → Bool) (t u : Terminal) (q r : List Terminal) → g u ≡ false → next_two f g ((t ∷ u ∷ q) ++ r) ≡ false
not_second f g t u q r k = ap (λ v. f t && v) k ∙ and_false (f t)

module _ (S : Expressions) (ls : Leads starts (S Assign)) where
  primary_no_cast : (x : Node) (b r : List Terminal) → G.primary S x b → next_two (is_mark 0) is_type_part (b ++ r) ≡ false
  primary_no_cast x b r (inl c) =
      ap (λ z. next_two (is_mark 0) is_type_part (z ++ r)) (c.whole ∙ ap (λ z. z ++ c.back) c.first.one) ∙ not_first (is_mark 0) is_type_part c.middle c.back r (at_name (is_mark 0) (λ _ _. refl) c.middle c.first.kind)
  primary_no_cast x b r (inr (inl c)) =
      ap (λ z. next_two (is_mark 0) is_type_part (z ++ r)) (c.whole ∙ ap (λ z. z ++ c.back) c.first.one) ∙ not_first (is_mark 0) is_type_part c.middle c.back r (at_number (is_mark 0) (λ _ _ _ _. refl) c.middle c.first.kind)
  primary_no_cast x b r (inr (inr c)) =
      let d = c.second in
      let h : Begins starts d.front = ls d.middle d.front d.first in
      let e : b ≡ c.middle ∷ h.head ∷ (h.tail ++ d.back) = c.whole ∙ (ap (λ z. z ++ c.back) c.first.one ∙ ap (λ z. c.middle ∷ z) (d.whole ∙ ap (λ z. z ++ d.back) h.whole)) in
      ap (λ z. next_two (is_mark 0) is_type_part (z ++ r)) e ∙ not_second (is_mark 0) is_type_part c.middle h.head (h.tail ++ d.back) r (at_class expression_starts is_type_part (λ _ _ _ _ _. refl) h.head h.kind)

  pub unary_no_cast : (x : Node) (b r : List Terminal) → G.unary S x b → next_two (is_mark 0) is_type_part (b ++ r) ≡ false
  unary_no_cast x b r (inl c) =
      ap (λ z. next_two (is_mark 0) is_type_part (z ++ r)) (c.whole ∙ ap (λ z. z ++ c.back) c.first.one) ∙
      not_first (is_mark 0) is_type_part c.middle c.back r (at_class steps (is_mark 0) (λ _ _ _ _ _. refl) c.middle (in_steps c.middle c.first.kind))
  unary_no_cast x b r (inr (inl c)) =
      ap (λ z. next_two (is_mark 0) is_type_part (z ++ r)) (c.whole ∙ ap (λ z. z ++ c.back) c.first.one) ∙
      not_first (is_mark 0) is_type_part c.middle c.back r (at_class signs (is_mark 0) (λ _ _ _ _ _. refl) c.middle (in_signs c.middle c.first.kind))
  unary_no_cast x b r (inr (inr c)) =
      ap (λ z. next_two (is_mark 0) is_type_part (z ++ r)) c.whole ∙ (ap (next_two (is_mark 0) is_type_part) (append_assoc c.front c.back r) ∙ primary_no_cast c.middle.1 c.front (c.back ++ r) c.first.phrase)

-- how much of the bound each nonterminal asks for
abbrev pub weight : Nonterminal → ℕ
weight Assign = 3
weight Cond = 2
weight Cast = 1
weight Unary = 1

-- the productions

module _ (n : ℕ) (J C : Expressions) (P : Readers) (self : (r : Nonterminal) → Exact (Room n (weight r)) none (J r) (C r) (P r) (λ _. more r))
    (lj : (r : Nonterminal) → Leads starts (J r)) (lc : (r : Nonterminal) → Leads starts (C r)) where
  primary_exact : Exact (Room n 0) (either (either none is_step) is_sign) (G.primary J) (G.primary C) (M.primary P) (λ _. none)
  primary_exact =
      picked (leads_first is_name) (first (taken (sample Name) refl (at_name _ (λ _ _. refl))) (λ t. given refl))
      (picked (leads_first is_number) (first (taken (sample (Number 0 Int)) refl (at_number _ (λ _ _ _ _. refl))) (λ t. given refl))
      (first (taken (sample (Mark 0)) refl (at_mark 0 _ refl (λ _ _. refl))) (λ _. after (self Assign) (λ x. first (taken (sample (Mark 1)) refl (at_mark 1 _ refl (λ _ _. refl))) (λ _. given refl)))))

  arguments_exact : Exact (Room n 6) none (G.arguments J) (G.arguments C) (M.arguments n P) (λ _. none)
  arguments_exact =
      picked (leads_first (is_mark 1)) (first (taken (sample (Mark 1)) refl (λ _ _. refl)) (λ _. given refl))
      (exact_before (Room n 6) none _ starts _ _ _ _
      (enclosed_exact n 6 starts (J Assign) (C Assign) (P Assign) (lj Assign)
      (eased never_in_list (λ _. but_two (is_mark 7) (is_mark 1) (more Assign) (at_mark 7 _ refl (λ _ _. refl)) (at_mark 1 _ refl (λ _ _. refl))) (later 3 6 (omega arith) (self Assign))))
      (leads_then starts _ _ (leads_then starts _ _ (lc Assign))) (at_class expression_starts _ (λ _ _ _ _ _. refl)))

  suffix_exact : (left : Place × Node) → Exact (Room n 3) none (G.suffix J left) (G.suffix C left) (M.suffix n P left) (λ _. none)
  suffix_exact left =
      picked (leads_first (is_mark 2)) (first (taken (sample (Mark 2)) refl (at_mark 2 _ refl (λ _ _. refl)))
      (λ _. after (later 3 6 (omega arith) (self Assign)) (λ i. first (taken (sample (Mark 3)) refl (at_mark 3 _ refl (λ _ _. refl))) (λ _. given refl))))
      (picked (leads_first (is_mark 0)) (first (taken (sample (Mark 0)) refl (at_mark 0 _ refl (λ _ _. refl)))
      (λ _. after arguments_exact (λ xs. given refl)))
      (first (taken (sample (Mark 23)) refl (at_in steps in_steps _ (λ _ _ _ _ _. refl))) (λ t. given refl)))

  suffix_leads : (S : Expressions) (left : Place × Node) → Leads (is_rank 0) (G.suffix S left)
  suffix_leads S left =
      leads_or (is_rank 0) _ _ (leads_wider (at_mark 2 _ refl (λ _ _. refl)))
      (leads_or (is_rank 0) _ _ (leads_wider (at_mark 0 _ refl (λ _ _. refl)))
      (leads_wider (λ t h. at_class steps (is_rank 0) (λ _ _ _ _ _. refl) t (in_steps t h))))

  postfix_exact : Exact (Room n 0) (either (either none is_step) is_sign) (G.postfix J) (G.postfix C) (M.postfix n P) (λ _. within_rank 0)
  postfix_exact =
      beyond starts (leads_marked starts _ (primary_leads J lj))
      (exact_marked (Room n 0) none (either (either none is_step) is_sign) starts (G.primary J) (G.primary C) (M.primary P) (λ _. none) (primary_leads J lj) (primary_leads C lc) primary_exact)
      (λ l. after
      (chained (is_rank 0) (λ _. none) (λ _. within_rank 0) (omega arith)
      (λ _ t _ k. rank_zero t k) (λ _ t h. (refl, zero_rank t h)) (suffix_leads J) (suffix_leads C) suffix_exact l)
      (λ y. given refl))

  pub unary_exact : Exact (Room n 0) none (G.unary J) (G.unary C) (M.unary n P) (λ _. within_rank 0)
  unary_exact =
      picked (leads_first is_step) (first (taken (sample (Mark 23)) refl (λ t _. refl)) (λ t. after (later 1 3 (omega arith) (self Unary)) (λ x. given refl)))
      (picked (leads_first is_sign) (first (taken (sample (Mark 10)) refl (at_in signs in_signs _ (λ _ _ _ _ _. refl))) (λ t. after (later 1 3 (omega arith) (self Cast)) (λ x. given refl)))
      postfix_exact)

  -- after the parenthesis of a cast
  typed_rest_exact : (t : Terminal) → Exact (Room n 3) none
      (L.◌>>=◌ G.type_name (λ s. L.◌>>=◌ (L.token (is_mark 1)) (λ _. L.◌>>=◌ (J Cast) (λ x. L.give (G.node_at t.place (w.Cast s x))))))
      (L.◌>>=◌ G.type_name (λ s. L.◌>>=◌ (L.token (is_mark 1)) (λ _. L.◌>>=◌ (C Cast) (λ x. L.give (G.node_at t.place (w.Cast s x))))))
      (R.◌>>=◌ (M.type_name n) (λ s. R.◌>>=◌ (R.token (is_mark 1)) (λ _. R.◌>>=◌ (P Cast) (λ x. R.give (G.node_at t.place (w.Cast s x)))))) (λ _. within_rank 0)
  typed_rest_exact t = after (type_name_exact n 3 (omega arith)) (λ s. first (taken (sample (Mark 1)) refl (at_mark 1 _ refl (λ _ _. refl))) (λ _. after (later 1 6 (omega arith) (self Cast)) (λ x. given refl)))

  typed_exact : Exact (Room n 0) none (typed J) (typed C) (M.typed n P) (λ _. within_rank 0)
  typed_exact = first (taken (sample (Mark 0)) refl (λ _ _. refl)) typed_rest_exact

  typed_leads : (x : Node) (m r : List Terminal) → typed C x m → next_two (is_mark 0) is_type_part (m ++ r) ≡ true
  typed_leads x m r c =
      let d = c.second in
      let h : Begins is_type_part d.front = type_name_leads d.middle d.front d.first in
      let e : m ≡ c.middle ∷ h.head ∷ (h.tail ++ d.back) = c.whole ∙ (ap (λ z. z ++ c.back) c.first.one ∙ ap (λ z. c.middle ∷ z) (d.whole ∙ ap (λ z. z ++ d.back) h.whole)) in
      ap (λ z. next_two (is_mark 0) is_type_part (z ++ r)) e ∙ (ap (λ v. v && is_type_part h.head) c.first.kind ∙ h.kind)

  typed_shrinks : (t : Terminal) (ts : List Terminal) (o : Option Node) (s : List Terminal) →
      (R.◌>>=◌ (M.type_name n) (λ s. R.◌>>=◌ (R.token (is_mark 1)) (λ _. R.◌>>=◌ (P Cast) (λ x. R.give (G.node_at t.place (w.Cast s x)))))) ts ≡
      Ends o s →
      length s ≤ length ts
  typed_shrinks t ts (Some x) s e = let j = (typed_rest_exact t).judged ts (Some x) s (none_next ts) e in omega (arith, ap length j.whole, length-append j.front s)
  typed_shrinks t ts None s e = let j = (typed_rest_exact t).judged ts None s (none_next ts) e in omega (arith, ap length j.whole, length-append j.front s)

  cast_exact : Moves (is_mark 0) (M.unary n P) → Exact (Room n 0) none (G.cast J) (G.cast C) (M.cast n P) (λ _. within_rank 0)
  cast_exact moves =
      exact_two (Room n 0) none none (is_mark 0) is_type_part (typed J) (typed C) (G.unary J) (G.unary C) (M.typed n P) (M.unary n P) (λ _. within_rank 0) typed_leads
      (λ x m r c _ _. unary_no_cast C (lc Assign) x m r c) (moves_token (is_mark 0) _ typed_shrinks) moves typed_exact unary_exact

  level_exact : (k : ℕ) → k ≤ 10 → Exact (Room n 1) none (G.level J k) (G.level C k) (M.level n P k) (λ _. within_rank k)
  unfolding G.level M.level
  level_exact zero h = self Cast
  level_exact (suc k) h =
      let m = mark_of_rank k (omega arith) in
      after (exact_marked (Room n 1) none none starts (G.level J k) (G.level C k) (M.level n P k) (λ _. within_rank k) (level_leads J lj k) (level_leads C lc k) (level_exact k (omega arith)))
      (λ l. after
      (chained (is_rank (suc k)) (λ _. within_rank k) (λ _. within_rank (suc k)) (omega arith)
      (λ _ t a b. rank_wide k t a b) (λ _ t a. rank_narrow k t a) (λ left. leads_first (is_rank (suc k))) (λ left. leads_first (is_rank (suc k)))
      (λ left. first (taken m.0 m.1 (rank_apart (suc k) k (omega arith))) (λ t. after (later 1 4 (omega arith) (level_exact k (omega arith))) (λ right. given refl)))
      l)
      (λ y. given refl))

  cond_exact : Exact (Room n 1) none (G.cond J) (G.cond C) (M.cond n P) (λ _. more Cond)
  cond_exact =
      beyond starts (leads_marked starts _ (level_leads J lj 10))
      (exact_marked (Room n 1) none none starts (G.level J 10) (G.level C 10) (M.level n P 10) (λ _. within_rank 10) (level_leads J lj 10) (level_leads C lc 10) (level_exact 10 (omega arith)))
      (λ l. picked (leads_first (is_mark 9)) (first (taken (sample (Mark 9)) refl (at_mark 9 _ refl (λ _ _. refl)))
      (λ _. after (later 3 7 (omega arith) (self Assign)) (λ a. first (taken (sample (Mark 8)) refl (at_mark 8 _ refl (λ _ _. refl))) (λ _. after (later 2 10 (omega arith) (self Cond)) (λ b. given refl)))))
      (given refl))

  assigns_last : (t : Terminal) → is_rank 12 t ≡ true → more Cond t ≡ false
  assigns_last t h = or_none (within_rank 10 t) (is_mark 9 t) (rank_apart 12 10 (omega arith) t h) (go (is_mark 9 t) refl)
    where
      go : (v : Bool) → is_mark 9 t ≡ v → v ≡ false
      go true k = let e : is_rank 12 t ≡ false = at_mark 9 (is_rank 12) refl (λ _ _. refl) t k in absurd (cc)
      go false k = refl

  assign_exact : Exact (Room n 2) none (G.assign J) (G.assign C) (M.assign P) (λ _. more Assign)
  assign_exact =
      beyond starts (leads_marked starts _ (lj Cond))
      (exact_marked (Room n 2) none none starts (J Cond) (C Cond) (P Cond) (λ _. more Cond) (lj Cond) (lc Cond) (self Cond))
      (λ l. picked (leads_first (is_rank 12)) (first (taken (sample (Mark 22)) refl assigns_last) (λ t. after (later 3 8 (omega arith) (self Assign)) (λ r. given refl)))
      (given refl))

  pub production_exact : Moves (is_mark 0) (M.unary n P) → (r : Nonterminal) → Exact (Room (suc n) (weight r)) none (G.production J r) (G.production C r) (M.step n P r) (λ _. more r)
  production_exact moves Assign = stepped 2 (omega arith) assign_exact
  production_exact moves Cond = stepped 1 (omega arith) cond_exact
  production_exact moves Cast = stepped 0 (omega arith) (cast_exact moves)
  production_exact moves Unary = stepped 0 (omega arith) unary_exact

-- one name

name_unary : (S : Expressions) → G.unary S (G.name_node (sample Name)) (sample Name ∷ [])
name_unary S = inr (inr (record {
  middle = (place_of (sample Name ∷ []), G.name_node (sample Name));
  front = sample Name ∷ [];
  back = [];
  whole = refl;
  first = record { place = refl; phrase = inl (record { middle = sample Name; front = sample Name ∷ []; back = []; whole = refl; first = record { one = refl; kind = refl }; second = record { value = refl; empty = refl } }) };
  second = record {
    middle = (place_of (sample Name ∷ []), G.name_node (sample Name));
    front = [];
    back = [];
    whole = refl;
    first = record { count = zero; phrases = record { value = refl; empty = refl } };
    second = record { value = refl; empty = refl };
  };
}))

any_unary : (m : ℕ) → Any (G.phrase (suc m) Unary)
any_unary m = record { value = G.name_node (sample Name); tokens = sample Name ∷ []; phrase = name_unary (G.phrase m) }

any_cast : (m : ℕ) → Any (G.phrase (suc m) Cast)
any_cast m = record { value = G.name_node (sample Name); tokens = sample Name ∷ []; phrase = inr (name_unary (G.phrase m)) }

any_level : (S : Expressions) (k : ℕ) → Any (S Cast) → Any (G.level S k)
unfolding G.level
any_level S zero a = a
any_level S (suc k) a =
    let u : Any (G.level S k) = any_level S k a in
    record {
      value = u.value;
      tokens = u.tokens;
      phrase = record {
        middle = (place_of u.tokens, u.value);
        front = u.tokens;
        back = [];
        whole = sym (append-nil u.tokens);
        first = record { place = refl; phrase = u.phrase };
        second = record { middle = (place_of u.tokens, u.value); front = []; back = []; whole = refl; first = record { count = zero; phrases = record { value = refl; empty = refl } }; second = record { value = refl; empty = refl } };
      };
    }

any_cond : (m : ℕ) → Any (G.phrase (suc (suc m)) Cond)
any_cond m =
    let u : Any (G.level (G.phrase (suc m)) 10) = any_level (G.phrase (suc m)) 10 (any_cast m) in
    record {
      value = u.value;
      tokens = u.tokens;
      phrase = record { middle = (place_of u.tokens, u.value); front = u.tokens; back = []; whole = sym (append-nil u.tokens); first = record { place = refl; phrase = u.phrase }; second = inr (record { value = refl; empty = refl }) };
    }

any_assign : (m : ℕ) → Any (G.phrase (suc (suc (suc m))) Assign)
any_assign m =
    let u : Any (G.phrase (suc (suc m)) Cond) = any_cond m in
    record {
      value = u.value;
      tokens = u.tokens;
      phrase = record { middle = (place_of u.tokens, u.value); front = u.tokens; back = []; whole = sym (append-nil u.tokens); first = record { place = refl; phrase = u.phrase }; second = inr (record { value = refl; empty = refl }) };
    }

-- deep enough for a phrase of each nonterminal
abbrev pub deep : ℕ → ℕ
deep n = suc (suc (suc n))

pub any_phrase : (n : ℕ) (r : Nonterminal) → Any (G.phrase (deep n) r)
any_phrase n Assign = any_assign n
any_phrase n Cond = any_cond (suc n)
any_phrase n Cast = any_cast (suc (suc n))
any_phrase n Unary = any_unary (suc (suc n))

pub phrase_leads : (m : ℕ) (r : Nonterminal) → Leads starts (G.phrase m r)
phrase_leads zero r x b c = absurd c
phrase_leads (suc m) r x b c = production_leads (G.phrase m) (phrase_leads m) r x b c

weighs : (r : Nonterminal) → 0 < weight r
weighs Assign = omega arith
weighs Cond = omega arith
weighs Cast = omega arith
weighs Unary = omega arith

-- a unary expression in parentheses
parenthesised : (S : Expressions) → Any (S Assign) → (t : Terminal) → is_mark 0 t ≡ true → StartsAt (G.unary S) t
parenthesised S u t k =
    let close : List Terminal = sample (Mark 1) ∷ [] in
    record {
      value = u.value;
      tail = u.tokens ++ close;
      phrase = inr (inr (record {
        middle = (t.place, u.value);
        front = t ∷ (u.tokens ++ close);
        back = [];
        whole = sym (append-nil (t ∷ (u.tokens ++ close)));
        first = record {
          place = refl;
          phrase = inr (inr (record {
            middle = t;
            front = t ∷ [];
            back = u.tokens ++ close;
            whole = refl;
            first = record { one = refl; kind = k };
            second = record {
              middle = u.value;
              front = u.tokens;
              back = close;
              whole = refl;
              first = u.phrase;
              second = record { middle = sample (Mark 1); front = close; back = []; whole = refl; first = record { one = refl; kind = refl }; second = record { value = refl; empty = refl } };
            };
          }));
        };
        second = record { middle = (t.place, u.value); front = []; back = []; whole = refl; first = record { count = zero; phrases = record { value = refl; empty = refl } }; second = record { value = refl; empty = refl } };
      }));
    }

unary_moves : (n : ℕ) (J : Expressions) (P : Readers) → ((r : Nonterminal) → Exact (Room n (weight r)) none (J r) (J r) (P r) (λ _. more r)) → ((r : Nonterminal) → Leads starts (J r)) → Any (J Assign) → Moves (is_mark 0) (M.unary n P)
unary_moves n J P self lj any =
    moves_exact (Room n 0) (is_mark 0) starts (G.unary J) (G.unary J) (M.unary n P) (λ _. within_rank 0) (unary_exact n J J P self lj lj) (unary_leads J lj) (parenthesised J any)

-- At each bound, the reading takes exactly the phrases.
pub expression_exact : (n m : ℕ) (r : Nonterminal) → Exact (Room n (weight r)) none (G.phrase (deep n) r) (G.phrase m r) (M.read n r) (λ _. more r)
expression_exact zero m r =
    exact_deep (Room zero (weight r)) none none (G.phrase (deep zero) r) (G.phrase m r) (λ _. more r) (λ x b q c h k. none_next (b ++ q)) (any_phrase zero r)
    (λ ts h. let e : 3 * length ts + weight r ≤ 0 = h.enough in let k = weighs r in omega arith)
expression_exact (suc n) zero r =
    exact_same (Room (suc n) (weight r)) none none (G.phrase (deep (suc n)) r) (G.phrase (suc zero) r) (G.phrase (deep (suc n)) r) (G.phrase zero r) (M.read (suc n) r) (λ _. more r)
    (λ x b c. c) (λ x b c. absurd c)
    (production_exact n (G.phrase (deep n)) (G.phrase zero) (M.read n) (expression_exact n zero) (phrase_leads (deep n)) (phrase_leads zero)
    (unary_moves n (G.phrase (deep n)) (M.read n) (expression_exact n (deep n)) (phrase_leads (deep n)) (any_phrase n Assign)) r)
expression_exact (suc n) (suc m) r =
    production_exact n (G.phrase (deep n)) (G.phrase m) (M.read n) (expression_exact n m) (phrase_leads (deep n)) (phrase_leads m)
    (unary_moves n (G.phrase (deep n)) (M.read n) (expression_exact n (deep n)) (phrase_leads (deep n)) (any_phrase n Assign)) r
