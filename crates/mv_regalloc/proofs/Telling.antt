-- Temporaries told, a part after the other and a row after the other.
use Rattle.std.proofs.Common.{arith, ◌≡◌, ℕ, suc, ◌+◌, ◌-◌, ◌*◌, ◌/◌, ◌<◌, ◌≤◌, Bool, true, false, cond, eqb, not, ◌&&◌, ◌||◌, List, [], ◌∷◌, length, drop, map, reverse, refl, sym, ap, ◌∙◌, subst, ◌⊎◌, inl, inr}
use Rattle.std.specs.Prelude.{slice_index, replicate}
use Rattle.std.proofs.lemmas.Bool.{cases_eq, eq-eqb, ne_eqb}
use Rattle.std.proofs.lemmas.List.{drop_all, drop_more, get_or-map, get_or-reverse, length-drop, length-map, length-reverse, length-replicate}
use Rattle.mv_ir.specs.Live.{mark_at, marks_length}
use Rattle.mv_regalloc.specs.declared.parts.Part.{Part}
use Rattle.mv_regalloc.specs.declared.told.Firsts.{Firsts}
use Rattle.mv_regalloc.specs.declared.told.Places.{Places}
use Rattle.mv_regalloc.specs.LiveBits.{in_word, word_bit}
use Rattle.mv_regalloc.specs.Parts.{part_at, word_of}
use Rattle.mv_regalloc.specs.Rows.{Bits}
use Rattle.mv_regalloc.specs.Shared.{bits_at}
use Rattle.mv_regalloc.specs.Spanned.{AreCounts, behind_last, column, from_first}
use Rattle.mv_regalloc.specs.Told.{AreTold, IsAllTold, IsPartTold, IsPut, IsRowTold}
use Rattle.mv_regalloc.proofs.PartWords.{at_each, even_place, even_word, odd_place, odd_word, word_here}
use Rattle.mv_regalloc.proofs.Positions.{column_long, none_last}
use Rattle.mv_regalloc.proofs.Putting.{put_as, put_none}
use Rattle.mv_regalloc.proofs.SharedSets.{bit_in}
use Rattle.mv_regalloc.proofs.WordBits.{none_in}
use Rattle.mv_num.proofs.Numbers.{zeros_at}
use Rattle.mv_ast.specs.Names.{any_of}

-- ---- some temporaries

no_more : (b : Bool) → (b && not b) ≡ false
no_more true = refl
no_more false = refl

pub told_none : (v : ℕ) (s : Firsts) → AreTold v s s
told_none v s = record {
  long = refl;
  values = put_none (λ t. word_bit s.told t && not (word_bit s.told t)) v s.values (λ t l. no_more (word_bit s.told t));
  kept = λ t l k. k;
}

module _ (v : ℕ) (s s' s'' : Firsts) (h : AreTold v s s') where
  pub told_two : AreTold v s' s'' → AreTold v s s''
  told_two k = record {
    long = k.long ∙ h.long;
    values = record {
      long = k.values.long ∙ h.values.long;
      items =
          λ t l. k.values.items t (next t l) ∙ ap (cond (word_bit s''.told t && not (word_bit s'.told t)) v) (h.values.items t l) ∙
          by (word_bit s.told t) (word_bit s'.told t) (word_bit s''.told t) (slice_index s.values t) (h.kept t l) (k.kept t (next t l));
    };
    kept = λ t l b. k.kept t (next t l) (h.kept t l b);
  }
    where
      next : (t : ℕ) → t < length s.values → t < length s'.values
      next t l = omega (arith, h.values.long, l)

      by : (a b c : Bool) (x : ℕ) → (a ≡ true → b ≡ true) → (b ≡ true → c ≡ true) → cond (c && not b) v (cond (b && not a) v x) ≡ cond (c && not a) v x
      by true true c x f g = refl
      by true false c x f g = let d : false ≡ true = f refl in absurd cc
      by false true true x f g = refl
      by false true false x f g = let d : false ≡ true = g refl in absurd cc
      by false false c x f g = by2 c
        where
          by2 : (c : Bool) → cond (c && true) v x ≡ cond (c && true) v x
          by2 c = refl

  pub told_same : s''.values ≡ s'.values → s''.told ≡ s'.told → AreTold v s s''
  told_same e f = record {
    long = ap (λ l. length l) f ∙ h.long;
    values = subst (λ l. IsPut (λ t. word_bit l t && not (word_bit s.told t)) v s.values s''.values) (sym f) (subst (λ l. IsPut (λ t. word_bit s'.told t && not (word_bit s.told t)) v s.values l) (sym e) h.values);
    kept = λ t l b. ap (λ l. word_bit l t) f ∙ h.kept t l b;
  }

-- ---- the words of a part

-- those of its own word
pub word_told : (v place w : ℕ) (s s' : Firsts) → length s.values ≤ length s.told * 64 → length s'.told ≡ length s.told →
    IsPut (λ t. eqb (t / 64) place && (in_word w t && not (word_bit s.told t))) v s.values s'.values →
    ((t : ℕ) → t < length s.told * 64 → word_bit s'.told t ≡ ((eqb (t / 64) place && in_word w t) || word_bit s.told t)) → AreTold v s s'
word_told v place w s s' room long put bits = record {
  long = long;
  values = put_as (λ t. eqb (t / 64) place && (in_word w t && not (word_bit s.told t))) (λ t. word_bit s'.told t && not (word_bit s.told t)) v s.values s'.values
      (λ t l. new (eqb (t / 64) place) (in_word w t) (word_bit s.told t) ∙ ap (λ b. b && not (word_bit s.told t)) (sym (bits t (omega (arith, room, l))))) put;
  kept = λ t l k. bits t (omega (arith, room, l)) ∙ ap (λ b. (eqb (t / 64) place && in_word w t) || b) k ∙ or_true (eqb (t / 64) place && in_word w t);
}
  where
    new : (e i b : Bool) → (e && (i && not b)) ≡ (((e && i) || b) && not b)
    new true true true = refl
    new true true false = refl
    new true false true = refl
    new true false false = refl
    new false i true = refl
    new false i false = refl

    or_true : (c : Bool) → (c || true) ≡ true
    or_true true = refl
    or_true false = refl

module _ (parts : List Part) (number first step v : ℕ) (s s1 s2 s3 : Firsts) (room : length s.values ≤ length s.told * 64) (own : AreTold v s s1)
    (bits : (t : ℕ) → t < length s.told * 64 → word_bit s1.told t ≡ ((eqb (t / 64) first && in_word (part_at parts number).word t) || word_bit s.told t))
    (odd : IsPartTold parts (part_at parts number).odd (first + step) (step * 2) v s1 s2) (even : IsPartTold parts (part_at parts number).even (first + step * 2) (step * 2) v s2 s3) where
  own_told : (t : ℕ) → t < length s.values → t / 64 ≡ first → in_word (part_at parts number).word t ≡ true → word_bit s1.told t ≡ true
  own_told t l e k = bits t (omega (arith, room, l)) ∙ ap (λ c. (c && in_word (part_at parts number).word t) || word_bit s.told t) (eq-eqb (t / 64) first e) ∙ ap (λ c. c || word_bit s.told t) k

  own_others : (t : ℕ) → t < length s.values → (t / 64 ≡ first → in_word (part_at parts number).word t ≡ false) → word_bit s1.told t ≡ word_bit s.told t
  own_others t l h = bits t (omega (arith, room, l)) ∙ by (cases_eq (t / 64) first)
    where
      off : (c b : Bool) → ((c && false) || b) ≡ b
      off true b = refl
      off false b = refl

      by : (t / 64 ≡ first) ⊎ (t / 64 ≡ first → ⊥) → ((eqb (t / 64) first && in_word (part_at parts number).word t) || word_bit s.told t) ≡ word_bit s.told t
      by (inl e) = ap (λ c. (eqb (t / 64) first && c) || word_bit s.told t) (h e) ∙ off (eqb (t / 64) first) (word_bit s.told t)
      by (inr n) = ap (λ c. (c && in_word (part_at parts number).word t) || word_bit s.told t) (ne_eqb (t / 64) first n)

  -- and of both parts that it leads to
  pub part_told : IsPartTold parts number first step v s s3
  part_told = record {
    told = told_two v s s2 s3 (told_two v s s1 s2 own odd.told) even.told;
    all = λ q t l. at_each parts number first step (λ p w. t / 64 ≡ p → in_word w t ≡ true → word_bit s3.told t ≡ true)
        (λ e k. even.told.kept t (omega (arith, even.told.values.long, l))
        (odd.told.kept t (omega (arith, odd.told.values.long, even.told.values.long, l))
        (own_told t (omega (arith, own.values.long, odd.told.values.long, even.told.values.long, l)) e k)))
        (λ q e k. even.told.kept t (omega (arith, even.told.values.long, l)) (odd.all q t (omega (arith, even.told.values.long, l)) e k))
        (λ q e k. even.all q t l e k) q;
    others = λ t l h.
        even.others t (omega (arith, own.values.long, odd.told.values.long, l)) (λ q e. sym (ap (λ w. in_word w t) (even_word parts number q)) ∙ h (2 * q + 2) (e ∙ even_place parts number first step q)) ∙
        odd.others t (omega (arith, own.values.long, l)) (λ q e. sym (ap (λ w. in_word w t) (odd_word parts number q)) ∙ h (2 * q + 1) (e ∙ odd_place parts number first step q)) ∙
        own_others t l (λ e. sym (ap (λ w. in_word w t) (word_here parts number)) ∙ h 0 (e ∙ (let z : first ≡ first + step * 0 = omega arith in z)));
  }

-- the same as a call finds it
pub call_told : (parts : List Part) (number v : ℕ) (part : Part) (at odd even : Places) (s s1 s2 s3 : Firsts) → part ≡ part_at parts number →
    (odd.first ≡ at.first + at.step) × (odd.step ≡ at.step * 2) → (even.first ≡ at.first + at.step * 2) × (even.step ≡ at.step * 2) → length s.values ≤ length s.told * 64 → length s1.told ≡ length s.told →
    IsPut (λ t. eqb (t / 64) at.first && (in_word part.word t && not (word_bit s.told t))) v s.values s1.values →
    ((t : ℕ) → t < length s.told * 64 → word_bit s1.told t ≡ ((eqb (t / 64) at.first && in_word part.word t) || word_bit s.told t)) →
    IsPartTold parts part.odd odd.first odd.step v s1 s2 → IsPartTold parts part.even even.first even.step v s2 s3 → IsPartTold parts number at.first at.step v s s3
call_told parts number v part at odd even s s1 s2 s3 e o w room long put bits x y =
    let place = at.first in
    part_told parts number place at.step v s s1 s2 s3 room (word_told v place part.word s s1 room long put bits)
    (subst (λ q. (t : ℕ) → t < length s.told * 64 → word_bit s1.told t ≡ ((eqb (t / 64) place && in_word q.word t) || word_bit s.told t)) e bits)
    (subst (λ n. IsPartTold parts n (place + at.step) (at.step * 2) v s1 s2) (ap (λ q. q.odd) e) (subst (λ n. IsPartTold parts part.odd n (at.step * 2) v s1 s2) o.0 (subst (λ n. IsPartTold parts part.odd odd.first n v s1 s2) o.1 x)))
    (subst (λ n. IsPartTold parts n (place + at.step * 2) (at.step * 2) v s2 s3) (ap (λ q. q.even) e)
    (subst (λ n. IsPartTold parts part.even n (at.step * 2) v s2 s3) w.0 (subst (λ n. IsPartTold parts part.even even.first n v s2 s3) w.1 y)))

pub part_same : (parts : List Part) (number first step v : ℕ) (s s' s'' : Firsts) → s''.values ≡ s'.values → s''.told ≡ s'.told → IsPartTold parts number first step v s s' → IsPartTold parts number first step v s s''
part_same parts number first step v s s' s'' e f h = record {
  told = told_same v s s' s'' h.told e f;
  all = λ q t l p b. ap (λ l. word_bit l t) f ∙ h.all q t (subst (λ l. t < length l) e l) p b;
  others = λ t l k. ap (λ l. word_bit l t) f ∙ h.others t l k;
}

-- where nothing is left to tell
pub part_seen : (parts : List Part) (number first step v : ℕ) (s : Firsts) → IsAllTold parts number first step s → IsPartTold parts number first step v s s
part_seen parts number first step v s h = record { told = told_none v s; all = h; others = λ t l k. refl }

pub none_seen : (parts : List Part) (number first step : ℕ) (s : Firsts) → ((place : ℕ) → word_of parts number place ≡ 0) → IsAllTold parts number first step s
none_seen parts number first step s words q t l p b = let d : false ≡ true = sym (ap (λ w. in_word w t) (words q) ∙ none_in t) ∙ b in absurd cc

-- the part of a row
pub row_told : (parts : List Part) (number v : ℕ) (s s' : Firsts) → IsPartTold parts number 0 1 v s s' → IsRowTold (λ t. in_word (word_of parts number (t / 64)) t) v s s'
row_told parts number v s s' h = record {
  long = h.told.long;
  values = put_as (λ t. word_bit s'.told t && not (word_bit s.told t)) (λ t. row t && not (word_bit s.told t)) v s.values s'.values (λ t l. ap (λ c. c && not (word_bit s.told t)) (told t l) ∙ new (row t) (word_bit s.told t)) h.told.values;
  told = told;
}
  where
    row : ℕ → Bool
    row t = in_word (word_of parts number (t / 64)) t

    new : (r b : Bool) → ((r || b) && not b) ≡ (r && not b)
    new true true = refl
    new true false = refl
    new false true = refl
    new false false = refl

    told : (t : ℕ) → t < length s.values → word_bit s'.told t ≡ (row t || word_bit s.told t)
    told t l = by (row t) refl
      where
        by : (c : Bool) → row t ≡ c → word_bit s'.told t ≡ (row t || word_bit s.told t)
        by true e = h.all (t / 64) t (let k = h.told.values.long in omega (arith, k, l)) (omega arith) e ∙ ap (λ c. c || word_bit s.told t) (sym e)
        by false e = h.others t l (λ q k. ap (λ p. in_word (word_of parts number p) t) (let z : q ≡ t / 64 = omega (arith, k) in z) ∙ e) ∙ ap (λ c. c || word_bit s.told t) (sym e)

-- ---- row by row

-- what is said of n temporaries where their last positions are told, and those behind some rows are
pub record EndsSoFar (rows : List Bits) (n : ℕ) (s : Firsts) : Type 0 where
  pub long : length s.values ≡ n
  pub room : n ≤ length s.told * 64
  pub told : (t : ℕ) → t < n → word_bit s.told t ≡ any_of (column t rows)
  pub values : (t : ℕ) → t < n → slice_index s.values t ≡ behind_last (column t rows)

module _ (parts : List Part) (number n : ℕ) (s s' : Firsts) where
  abbrev row : Bits
  row = bits_at n parts number

  module _ (v : ℕ) (h : IsRowTold (λ t. in_word (word_of parts number (t / 64)) t) v s s') (wide : length s.values ≡ n) where
    next_told : (t : ℕ) → t < n → word_bit s'.told t ≡ (mark_at row t || word_bit s.told t)
    next_told t l = h.told t (omega (arith, wide, l)) ∙ ap (λ c. c || word_bit s.told t) (sym (bit_in n parts number t l))

    next_value : (t : ℕ) → t < n → slice_index s'.values t ≡ cond (mark_at row t && not (word_bit s.told t)) v (slice_index s.values t)
    next_value t l = h.values.items t (omega (arith, wide, l)) ∙ ap (λ c. cond (c && not (word_bit s.told t)) v (slice_index s.values t)) (sym (bit_in n parts number t l))

  pub ends_more : (rows : List Bits) (v : ℕ) → v ≡ length rows → IsRowTold (λ t. in_word (word_of parts number (t / 64)) t) v s s' → EndsSoFar rows n s → EndsSoFar (row ∷ rows) n s'
  ends_more rows v e h k = record {
    long = h.values.long ∙ k.long;
    room = (let a = k.room in let b = h.long in omega (arith, a, b));
    told = λ t l. next_told v h k.long t l ∙ ap (λ c. mark_at row t || c) (k.told t l);
    values = λ t l.
        next_value v h k.long t l ∙ ap (λ c. cond (mark_at row t && not c) v (slice_index s.values t)) (k.told t l) ∙ ap (cond (mark_at row t && not (any_of (column t rows))) v) (k.values t l) ∙
        by (mark_at row t) (column t rows) (any_of (column t rows)) refl (e ∙ sym (column_long t rows));
  }
    where
      by : (r : Bool) (xs : List Bool) (a : Bool) → any_of xs ≡ a → v ≡ marks_length xs → cond (r && not (any_of xs)) v (behind_last xs) ≡ cond (any_of xs) (behind_last xs) (cond r (marks_length xs) 0)
      by r xs true a m = ap (λ c. cond (r && not c) v (behind_last xs)) a ∙ off r ∙ ap (λ c. cond c (behind_last xs) (cond r (marks_length xs) 0)) (sym a)
        where
          off : (r : Bool) → cond (r && false) v (behind_last xs) ≡ behind_last xs
          off true = refl
          off false = refl
      by r xs false a m =
          ap (λ c. cond (r && not c) v (behind_last xs)) a ∙ ap (cond (r && true) v) (none_last xs a) ∙ on r ∙ ap (λ c. cond c (behind_last xs) (cond r (marks_length xs) 0)) (sym a)
        where
          on : (r : Bool) → cond (r && true) v 0 ≡ cond r (marks_length xs) 0
          on true = m
          on false = refl

-- the same where their first ones are told, and those before some rows are
pub record BeginsSoFar (all rows : List Bits) (n : ℕ) (s : Firsts) : Type 0 where
  pub long : length s.values ≡ n
  pub room : n ≤ length s.told * 64
  pub done : (t : ℕ) → t < n → word_bit s.told t ≡ true → slice_index s.values t ≡ from_first (column t all)
  pub none : (t : ℕ) → t < n → word_bit s.told t ≡ false → slice_index s.values t ≡ 0
  pub left : (t : ℕ) → t < n → word_bit s.told t ≡ false → from_first (column t all) ≡ from_first (column t rows)

module _ (parts : List Part) (number n : ℕ) (s s' : Firsts) (all rows : List Bits) where
  pub begins_more : (v : ℕ) → v ≡ suc (length rows) → IsRowTold (λ t. in_word (word_of parts number (t / 64)) t) v s s' → BeginsSoFar all (bits_at n parts number ∷ rows) n s → BeginsSoFar all rows n s'
  begins_more v e h k = record {
    long = h.values.long ∙ k.long;
    room = (let a = k.room in let b = h.long in omega (arith, a, b));
    done = λ t l b. next_value parts number n s s' v h k.long t l ∙ done t l (mark_at (bits_at n parts number) t) (word_bit s.told t) refl refl (sym (next_told parts number n s s' v h k.long t l) ∙ b);
    none = λ t l b.
        let p = sym (next_told parts number n s s' v h k.long t l) ∙ b in
        next_value parts number n s s' v h k.long t l ∙
        ap (λ c. cond (c && not (word_bit s.told t)) v (slice_index s.values t)) (neither (mark_at (bits_at n parts number) t) (word_bit s.told t) p).0 ∙
        k.none t l (neither (mark_at (bits_at n parts number) t) (word_bit s.told t) p).1;
    left = λ t l b.
        let p = sym (next_told parts number n s s' v h k.long t l) ∙ b in
        k.left t l (neither (mark_at (bits_at n parts number) t) (word_bit s.told t) p).1 ∙
        ap (λ c. cond c (suc (marks_length (column t rows))) (from_first (column t rows)))
        (neither (mark_at (bits_at n parts number) t) (word_bit s.told t) p).0;
  }
    where
      neither : (a b : Bool) → (a || b) ≡ false → (a ≡ false) × (b ≡ false)
      neither true b h = let d : true ≡ false = h in absurd cc
      neither false b h = (refl, h)

      done : (t : ℕ) → t < n → (r b : Bool) → mark_at (bits_at n parts number) t ≡ r → word_bit s.told t ≡ b → (mark_at (bits_at n parts number) t || word_bit s.told t) ≡ true →
          cond (mark_at (bits_at n parts number) t && not (word_bit s.told t)) v (slice_index s.values t) ≡ from_first (column t all)
      done t l r true f g o = ap (λ c. cond (mark_at (bits_at n parts number) t && not c) v (slice_index s.values t)) g ∙ off (mark_at (bits_at n parts number) t) ∙ k.done t l g
        where
          off : (r : Bool) → cond (r && false) v (slice_index s.values t) ≡ slice_index s.values t
          off true = refl
          off false = refl
      done t l true false f g o =
          ap (λ c. cond (c && not (word_bit s.told t)) v (slice_index s.values t)) f ∙ ap (λ c. cond (not c) v (slice_index s.values t)) g ∙ e ∙ ap suc (sym (column_long t rows)) ∙
          sym (k.left t l g ∙ ap (λ c. cond c (suc (marks_length (column t rows))) (from_first (column t rows))) f)
      done t l false false f g o = let d : false ≡ true = sym (ap (λ c. c || word_bit s.told t) f ∙ g) ∙ o in absurd cc

pub begins_all : (all : List Bits) (n : ℕ) (s : Firsts) → BeginsSoFar all [] n s → AreCounts from_first all n s.values
begins_all all n s h = record { long = h.long; items = λ t l. by t l (word_bit s.told t) refl }
  where
    by : (t : ℕ) → t < n → (b : Bool) → word_bit s.told t ≡ b → slice_index s.values t ≡ from_first (column t all)
    by t l true e = h.done t l e
    by t l false e = h.none t l e ∙ sym (h.left t l e)

-- ---- the rows of all positions, of which the last one was noted first

module _ (n : ℕ) (s : Firsts) (values : s.values ≡ replicate n 0) (told : s.told ≡ replicate (n / 64 + 1) 0) where
  fresh_long : length s.values ≡ n
  fresh_long = ap (λ l. length l) values ∙ length-replicate n 0

  fresh_room : n ≤ length s.told * 64
  fresh_room = let a = ap (λ l. length l) told ∙ length-replicate (n / 64 + 1) 0 in omega (arith, a)

  fresh_value : (t : ℕ) → slice_index s.values t ≡ 0
  fresh_value t = ap (λ l. slice_index l t) values ∙ zeros_at n t

  fresh_told : (t : ℕ) → word_bit s.told t ≡ false
  fresh_told t = ap (λ l. word_bit l t) told ∙ ap (λ w. in_word w t) (zeros_at (n / 64 + 1) (t / 64)) ∙ none_in t

  pub ends_none : (rows : List Bits) → rows ≡ [] → EndsSoFar rows n s
  ends_none rows e = subst (λ l. EndsSoFar l n s) (sym e) (record { long = fresh_long; room = fresh_room; told = λ t l. fresh_told t; values = λ t l. fresh_value t })

  pub begins_none : (all : List Bits) → BeginsSoFar all all n s
  begins_none all = record {
    long = fresh_long;
    room = fresh_room;
    done = λ t l b. (let d : false ≡ true = sym (fresh_told t) ∙ b in absurd cc);
    none = λ t l b. fresh_value t;
    left = λ t l b. refl;
  }

module _ (parts : List Part) (n : ℕ) (rows : List ℕ) where
  abbrev all : List Bits
  all = map (bits_at n parts) (reverse rows)

  pub all_long : length all ≡ length rows
  all_long = length-map (reverse rows) (bits_at n parts) ∙ length-reverse rows

  row_next : (k : ℕ) → k < length rows → drop k all ≡ bits_at n parts (slice_index rows (length rows - 1 - k)) ∷ drop (k + 1) all
  row_next k l =
      let long = all_long in
      let back = length-reverse rows in
      drop_more all k [] (omega (arith, long, l)) ∙ ap (λ x. x ∷ drop (k + 1) all) (get_or-map (bits_at n parts) (reverse rows) k 0 [] (omega (arith, back, l)) ∙ ap (bits_at n parts) (get_or-reverse rows k 0 l))

  module _ (i : ℕ) (l : i < length rows) (s s' : Firsts) where
    pub ends_next : IsRowTold (λ t. in_word (word_of parts (slice_index rows i) (t / 64)) t) i s s' → EndsSoFar (drop (length rows - i) all) n s → EndsSoFar (drop (length rows - (i + 1)) all) n s'
    ends_next h k =
        let long = all_long in
        let rest = length-drop (length rows - i) all in
        let here : length rows - 1 - (length rows - (i + 1)) ≡ i = omega (arith, l) in
        let next : length rows - (i + 1) + 1 ≡ length rows - i = omega (arith, l) in
        subst (λ x. EndsSoFar x n s')
        (sym (row_next (length rows - (i + 1)) (omega (arith, l)) ∙
        ap (λ j. bits_at n parts (slice_index rows j) ∷ drop (length rows - (i + 1) + 1) all) here ∙
        ap (λ j. bits_at n parts (slice_index rows i) ∷ drop j all) next))
        (ends_more parts (slice_index rows i) n s s' (drop (length rows - i) all) i (omega (arith, rest, long, l)) h k)

    pub begins_next : IsRowTold (λ t. in_word (word_of parts (slice_index rows (length rows - 1 - i)) (t / 64)) t) (length rows - 1 - i + 1) s s' → BeginsSoFar all (drop i all) n s → BeginsSoFar all (drop (i + 1) all) n s'
    begins_next h k =
        let long = all_long in
        let rest = length-drop (i + 1) all in
        begins_more parts (slice_index rows (length rows - 1 - i)) n s s' all (drop (i + 1) all) (length rows - 1 - i + 1) (omega (arith, rest, long, l)) h (subst (λ x. BeginsSoFar all x n s) (row_next i l) k)

  pub ends_done : (k : ℕ) (s : Firsts) → length rows ≤ k → EndsSoFar (drop (length rows - k) all) n s → AreCounts behind_last all n s.values
  ends_done k s l h = let z : length rows - k ≡ 0 = omega (arith, l) in let g = subst (λ j. EndsSoFar (drop j all) n s) z h in record { long = g.long; items = g.values }

  pub begins_done : (k : ℕ) (s : Firsts) → length rows ≤ k → BeginsSoFar all (drop k all) n s → AreCounts from_first all n s.values
  begins_done k s l h = let long = all_long in begins_all all n s (subst (λ x. BeginsSoFar all x n s) (drop_all k all (omega (arith, long, l))) h)
