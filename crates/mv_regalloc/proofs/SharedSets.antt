-- Sets that share their parts: what an edit of words does to the bits, and that the other sets stay as they are.
use Rattle.std.proofs.Common.{arith, ◌≡◌, ℕ, zero, suc, ◌<◌, ◌≤◌, ◌/◌, Bool, false, cond, eqb, ◌||◌, List, [], ◌∷◌, ◌++◌, length, drop, map, reverse, refl, sym, ap, ◌∙◌, ◌⊎◌, inl, inr, bit_or, subst}
use Rattle.std.specs.Prelude.{slice_set, slice_index_or, replicate, Option, Some, None, option_to_list}
use Rattle.std.specs.List.{All, range_with_len}
use Rattle.std.proofs.lemmas.List.{reverse-append, append-nil, length-set, length-replicate, get_or-replicate, get_or_past}
use Rattle.std.proofs.lemmas.List.Elements.{All-cons, All-drop}
use Rattle.std.proofs.lemmas.List.FromFn.{length-map-range_with_len, get_or-map-range_with_len}
use Rattle.std.proofs.lemmas.Bool.{cases_eq, eq-eqb, ne_eqb}
use Rattle.mv_ir.specs.Live.{mark_at}
use Rattle.mv_regalloc.specs.declared.liveness.Level.{Level}
use Rattle.mv_regalloc.specs.declared.parts.Part.{Part}
use Rattle.mv_regalloc.specs.LiveBits.{in_word}
use Rattle.mv_regalloc.specs.Parts.{word_of, Keeps}
use Rattle.mv_regalloc.specs.Rows.{Bits, either_bits}
use Rattle.mv_regalloc.specs.declared.liveness.Row.{Row}
use Rattle.mv_regalloc.specs.declared.liveness.Row.TheVariants.{Empty, Live, Saved, Behind, Start}
use Rattle.mv_regalloc.specs.Shared.{LiveSets, Numbered, AreWithin, bits_at, entered, number_of, row_of, sets_at, with_live, with_rows, with_saved}
use Rattle.mv_regalloc.proofs.BitLists.{at_get, same_bits, either_or}
use Rattle.mv_regalloc.proofs.RowBits.{set_bit, either_long}
use Rattle.mv_regalloc.proofs.WordBits.{bits_either, none_in}

-- ---- bits by a test of each temporary

module _ (n : ℕ) where
  abbrev bits : (ℕ → Bool) → Bits
  bits f = map f (range_with_len 0 n)

  tests_long : (f : ℕ → Bool) → length (bits f) ≡ n
  tests_long f = length-map-range_with_len f 0 n

  tests_bit : (f : ℕ → Bool) (t : ℕ) → t < n → mark_at (bits f) t ≡ f t
  tests_bit f t h = at_get (bits f) t ∙ get_or-map-range_with_len f 0 n t t false h (omega arith)

  tests_as : (f : ℕ → Bool) (xs : Bits) → length xs ≡ n → ((t : ℕ) → t < n → f t ≡ mark_at xs t) → bits f ≡ xs
  tests_as f xs long h =
      let a = tests_long f in
      same_bits (bits f) xs (a ∙ sym long) (λ t l. let k : t < n = omega (arith, a, l) in tests_bit f t k ∙ h t k)

  module _ (parts : List Part) (number : ℕ) where
    pub bit_in : (t : ℕ) → t < n → mark_at (bits_at n parts number) t ≡ in_word (word_of parts number (t / 64)) t
    bit_in t l = tests_bit (λ t. in_word (word_of parts number (t / 64)) t) t l

    pub bit_out : (t : ℕ) → n ≤ t → mark_at (bits_at n parts number) t ≡ false
    bit_out t l = at_get (bits_at n parts number) t ∙ get_or_past (bits_at n parts number) t false (omega (arith, l, tests_long (λ t. in_word (word_of parts number (t / 64)) t)))

    pub none_at : ((place : ℕ) → word_of parts number place ≡ 0) → bits_at n parts number ≡ replicate n false
    none_at h =
        tests_as (λ t. in_word (word_of parts number (t / 64)) t) (replicate n false) (length-replicate n false)
        (λ t l. ap (λ w. in_word w t) (h (t / 64)) ∙ none_in t ∙ sym (at_get (replicate n false) t ∙ get_or-replicate n t false false l))

    pub put_at : (more : List Part) (made u w : ℕ) (b : Bool) →
        ((p : ℕ) → word_of more made p ≡ cond (eqb p (u / 64)) w (word_of parts number p)) →
        ((t : ℕ) → t / 64 ≡ u / 64 → in_word w t ≡ cond (eqb u t) b (in_word (word_of parts number (u / 64)) t)) →
        bits_at n more made ≡ slice_set (bits_at n parts number) u b
    put_at more made u w b h k =
        let old = tests_long (λ t. in_word (word_of parts number (t / 64)) t) in
        tests_as (λ t. in_word (word_of more made (t / 64)) t) (slice_set (bits_at n parts number) u b) (length-set (bits_at n parts number) u b ∙ old)
        (λ t l. ap (λ w. in_word w t) (h (t / 64)) ∙ by t (cases_eq (t / 64) (u / 64)) ∙
        ap (cond (eqb u t) b) (sym (tests_bit (λ t. in_word (word_of parts number (t / 64)) t) t l)) ∙ sym (set_bit (bits_at n parts number) u t b (omega (arith, old, l))))
      where
        by : (t : ℕ) → (t / 64 ≡ u / 64) ⊎ (t / 64 ≡ u / 64 → ⊥) → in_word (cond (eqb (t / 64) (u / 64)) w (word_of parts number (t / 64))) t ≡ cond (eqb u t) b (in_word (word_of parts number (t / 64)) t)
        by t (inl e) =
            ap (λ c. in_word (cond c w (word_of parts number (t / 64))) t) (eq-eqb (t / 64) (u / 64) e) ∙ k t e ∙ ap (λ p. cond (eqb u t) b (in_word (word_of parts number p) t)) (sym e)
        by t (inr ne) =
            ap (λ c. in_word (cond c w (word_of parts number (t / 64))) t) (ne_eqb (t / 64) (u / 64) ne) ∙
            ap (λ c. cond c b (in_word (word_of parts number (t / 64)) t)) (sym (ne_eqb u t (λ e. ne (ap (λ k. k / 64) (sym e)))))

    pub joined_at : (more : List Part) (other made : ℕ) → ((p : ℕ) → word_of more made p ≡ bit_or (word_of parts number p) (word_of parts other p)) →
        bits_at n more made ≡ either_bits (bits_at n parts number) (bits_at n parts other)
    joined_at more other made h =
        let one = tests_long (λ t. in_word (word_of parts number (t / 64)) t) in
        tests_as (λ t. in_word (word_of more made (t / 64)) t) (either_bits (bits_at n parts number) (bits_at n parts other)) (either_long (bits_at n parts number) (bits_at n parts other) ∙ one)
        (λ t l. ap (λ w. in_word w t) (h (t / 64)) ∙ bits_either (word_of parts number (t / 64)) (word_of parts other (t / 64)) t ∙
        ap (λ c. c || in_word (word_of parts other (t / 64)) t) (sym (tests_bit (λ t. in_word (word_of parts number (t / 64)) t) t l)) ∙
        ap (λ c. mark_at (bits_at n parts number) t || c) (sym (tests_bit (λ t. in_word (word_of parts other (t / 64)) t) t l)) ∙
        sym (either_or (bits_at n parts number) (bits_at n parts other) t (omega (arith, one, l))))

-- ---- the other sets

map_as : {X Y : Type 0} (f g : X → Y) (xs : List X) → ((k : ℕ) (d : X) → k < length xs → f (slice_index_or xs k d) ≡ g (slice_index_or xs k d)) → map f xs ≡ map g xs
map_as f g [] h = refl
map_as f g (x ∷ xs) h = ap (λ y. y ∷ map f xs) (h 0 x (omega arith)) ∙ ap (λ ys. g x ∷ ys) (map_as f g xs (λ k d l. h (suc k) d (omega (arith, l))))

module _ (n : ℕ) (a b : List Part) (keeps : Keeps a b) where
  pub kept_at : (number : ℕ) → number < length a → bits_at n b number ≡ bits_at n a number
  kept_at number l =
      map_as (λ t. in_word (word_of b number (t / 64)) t) (λ t. in_word (word_of a number (t / 64)) t) (range_with_len 0 n)
      (λ k d m. let t = slice_index_or (range_with_len 0 n) k d in ap (λ w. in_word w t) (keeps.words number (t / 64) l))

  all_kept : {X : Type 0} (side : X → ℕ) (xs : List X) → All (λ x. side x < length a) xs → map (λ x. bits_at n b (side x)) xs ≡ map (λ x. bits_at n a (side x)) xs
  all_kept side xs h = map_as (λ x. bits_at n b (side x)) (λ x. bits_at n a (side x)) xs (λ k d l. kept_at (side (slice_index_or xs k d)) (h k d l))

  all_more : {X : Type 0} (side : X → ℕ) (xs : List X) → All (λ x. side x < length a) xs → All (λ x. side x < length b) xs
  all_more side xs h = λ k d l. let m = h k d l in let long = keeps.long in omega (arith, m, long)

  pub same_kept : (ns : Numbered) → AreWithin a ns → sets_at n b ns ≡ sets_at n a ns
  same_kept ns within = λ i. record {
    live = kept_at ns.live within.live i;
    saved = all_kept (λ x. x) (reverse ns.saved) within.saved i;
    rows = all_kept (λ x. x) (reverse ns.rows) within.rows i;
    around = record { none = replicate n false; leaves = all_kept (λ x. x.behind) (reverse ns.levels) within.behind i; restarts = all_kept (λ x. x.start) (reverse ns.levels) within.start i };
  }

  pub within_kept : (ns : Numbered) → AreWithin a ns → AreWithin b ns
  within_kept ns within = record {
    live = (let l = within.live in let long = keeps.long in omega (arith, l, long));
    saved = all_more (λ x. x) (reverse ns.saved) within.saved;
    behind = all_more (λ x. x.behind) (reverse ns.levels) within.behind;
    start = all_more (λ x. x.start) (reverse ns.levels) within.start;
    rows = all_more (λ x. x) (reverse ns.rows) within.rows;
  }

  module _ (ns : Numbered) (within : AreWithin a ns) (number : ℕ) where
    pub sets_kept : (bits : Bits) → bits_at n b number ≡ bits → sets_at n b (record ns { live = number }) ≡ with_live (sets_at n a ns) bits
    sets_kept bits e = λ i. record {
      live = e i;
      saved = all_kept (λ x. x) (reverse ns.saved) within.saved i;
      rows = all_kept (λ x. x) (reverse ns.rows) within.rows i;
      around = record { none = replicate n false; leaves = all_kept (λ x. x.behind) (reverse ns.levels) within.behind i; restarts = all_kept (λ x. x.start) (reverse ns.levels) within.start i };
    }

-- ---- the sets of a walk

any_map : {X Y : Type 0} (f : X → Y) (xs : List X) (k : ℕ) (d : X) → f (slice_index_or xs k d) ≡ slice_index_or (map f xs) k (f d)
any_map f [] k d = refl
any_map f (x ∷ xs) zero d = refl
any_map f (x ∷ xs) (suc k) d = any_map f xs k d

any_side : {X : Type 0} (f : ℕ → Bits) (side : X → ℕ) (xs : List X) (k : ℕ) (d : ℕ) → f (slice_index_or (map side xs) k d) ≡ slice_index_or (map (λ x. f (side x)) xs) k (f d)
any_side f side [] k d = refl
any_side f side (x ∷ xs) zero d = refl
any_side f side (x ∷ xs) (suc k) d = any_side f side xs k d

any_within : {X : Type 0} (m d : ℕ) (side : X → ℕ) (xs : List X) (k : ℕ) → All (λ x. side x < m) xs → d < m → slice_index_or (map side xs) k d < m
any_within m d side [] k h l = l
any_within m d side (x ∷ xs) zero h l = h 0 x (omega arith)
any_within m d side (x ∷ xs) (suc k) h l = any_within m d side xs k (λ j e o. h (suc j) e (omega (arith, o))) l

map_id : (xs : List ℕ) → map (λ x. x) xs ≡ xs
map_id [] = refl
map_id (x ∷ xs) = ap (λ l. x ∷ l) (map_id xs)

pub all_popped : {X : Type 0} (P : X → Type 0) (xs ys : List X) (o : Option X) → xs ≡ ys ++ option_to_list o → All P (reverse xs) → All P (reverse ys)
all_popped P xs ys None e h = subst (λ l. All P (reverse l)) (e ∙ append-nil ys) h
all_popped P xs ys (Some x) e h = subst (λ l. All P (drop 1 l)) (ap (λ l. reverse l) e ∙ reverse-append ys (x ∷ [])) (All-drop P 1 (reverse xs) h)

module _ (n : ℕ) (parts : List Part) (ns : Numbered) where
  abbrev at : ℕ → Bits
  at number = bits_at n parts number

  module _ (none : ℕ) (words : (place : ℕ) → word_of parts none place ≡ 0) where
    none_here : at none ≡ replicate n false
    none_here = none_at n parts none words

    pub row_at : (row : Row) → at (number_of none ns row) ≡ row_of (sets_at n parts ns) row
    row_at Empty = none_here
    row_at Live = refl
    row_at (Saved k) = any_map at (reverse ns.saved) k none ∙ ap (slice_index_or (map at (reverse ns.saved)) k) none_here
    row_at (Behind k) = any_side at (λ l. l.behind) (reverse ns.levels) k none ∙ ap (slice_index_or (map (λ l. at l.behind) (reverse ns.levels)) k) none_here
    row_at (Start k) = any_side at (λ l. l.start) (reverse ns.levels) k none ∙ ap (slice_index_or (map (λ l. at l.start) (reverse ns.levels)) k) none_here

  module _ (within : AreWithin parts ns) where
    pub row_within : (none : ℕ) → none < length parts → (row : Row) → number_of none ns row < length parts
    row_within none low Empty = low
    row_within none low Live = within.live
    row_within none low (Saved k) = subst (λ l. slice_index_or l k none < length parts) (map_id (reverse ns.saved)) (any_within (length parts) none (λ x. x) (reverse ns.saved) k within.saved low)
    row_within none low (Behind k) = any_within (length parts) none (λ l. l.behind) (reverse ns.levels) k within.behind low
    row_within none low (Start k) = any_within (length parts) none (λ l. l.start) (reverse ns.levels) k within.start low

    pub turn_within : (number : ℕ) → number < length parts → AreWithin parts (record ns { live = number })
    turn_within number l = record { live = l; saved = within.saved; behind = within.behind; start = within.start; rows = within.rows }

    pub save_within : (number : ℕ) → number < length parts → AreWithin parts (record ns { saved = ns.saved ++ number ∷ [] })
    save_within number l = record {
      live = within.live;
      saved = subst (λ xs. All (λ k. k < length parts) xs) (sym (reverse-append ns.saved (number ∷ []))) (All-cons (λ k. k < length parts) number (reverse ns.saved) l within.saved);
      behind = within.behind;
      start = within.start;
      rows = within.rows;
    }

    pub mark_within : (number : ℕ) → number < length parts → AreWithin parts (record ns { rows = ns.rows ++ number ∷ [] })
    mark_within number l = record {
      live = within.live;
      saved = within.saved;
      behind = within.behind;
      start = within.start;
      rows = subst (λ xs. All (λ k. k < length parts) xs) (sym (reverse-append ns.rows (number ∷ []))) (All-cons (λ k. k < length parts) number (reverse ns.rows) l within.rows);
    }

    pub enter_within : (l : Level) → l.behind < length parts → l.start < length parts → AreWithin parts (record ns { levels = ns.levels ++ l ∷ [] })
    enter_within l b s = record {
      live = within.live;
      saved = within.saved;
      behind = subst (λ xs. All (λ x. x.behind < length parts) xs) (sym (reverse-append ns.levels (l ∷ []))) (All-cons (λ x. x.behind < length parts) l (reverse ns.levels) b within.behind);
      start = subst (λ xs. All (λ x. x.start < length parts) xs) (sym (reverse-append ns.levels (l ∷ []))) (All-cons (λ x. x.start < length parts) l (reverse ns.levels) s within.start);
      rows = within.rows;
    }

  pub save_at : (number : ℕ) (bits : Bits) → at number ≡ bits → sets_at n parts (record ns { saved = ns.saved ++ number ∷ [] }) ≡ with_saved (sets_at n parts ns) bits
  save_at number bits e = ap (λ l. let v : LiveSets = record (sets_at n parts ns) { saved = map at l } in v) (reverse-append ns.saved (number ∷ [])) ∙ ap (with_saved (sets_at n parts ns)) e

  pub mark_at_end : (number : ℕ) (bits : Bits) → at number ≡ bits → sets_at n parts (record ns { rows = ns.rows ++ number ∷ [] }) ≡ with_rows (sets_at n parts ns) (bits ∷ [])
  mark_at_end number bits e = ap (λ l. let v : LiveSets = record (sets_at n parts ns) { rows = map at l } in v) (reverse-append ns.rows (number ∷ [])) ∙ ap (λ b. with_rows (sets_at n parts ns) (b ∷ [])) e

  pub enter_at : (l : Level) (behind start : Bits) → at l.behind ≡ behind → at l.start ≡ start → sets_at n parts (record ns { levels = ns.levels ++ l ∷ [] }) ≡ entered (sets_at n parts ns) behind start
  enter_at l behind start e f =
      ap (λ xs. let v : LiveSets = record (sets_at n parts ns) { around = record { none = replicate n false; leaves = map (λ x. at x.behind) xs; restarts = map (λ x. at x.start) xs } } in v) (reverse-append ns.levels (l ∷ [])) ∙
      ap (λ b. entered (sets_at n parts ns) b (at l.start)) e ∙ ap (entered (sets_at n parts ns) behind) f
