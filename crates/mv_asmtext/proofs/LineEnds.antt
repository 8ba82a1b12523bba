-- The line in front of a text, and the reading of one more.
use Rattle.std.proofs.Common.{◌≡◌, ℕ, ◌+◌, ◌<◌, refl, sym, ap, ◌∙◌, List, [], ◌∷◌, length, take, drop, Bool, true, false, not, cond, eqb, Some, None, Ok, Err, arith, zero, suc}
use Rattle.std.specs.List.{prefix_len, onto_first}
use Rattle.std.proofs.lemmas.List.{length-drop, drop-drop}
use Rattle.std.proofs.lemmas.List.Splits.{slice_split_first}
use Rattle.mv_asmtext.specs.declared.source.Reading.{Reading}
use Rattle.mv_asmtext.specs.Sources.{lines_of, read, read_from, with_next}
use Rattle.mv_asmtext.proofs.Pieces.{is_line_byte}
use Rattle.std.specs.Bool.{MatchBool}
use Rattle.mv_asmtext.proofs.Lexing.{one_more}

ends : (b : ℕ) (bs : List ℕ) (v : Bool) → (length (drop (prefix_len is_line_byte bs) bs) ≡ 0 → lines_of bs ≡ take (prefix_len is_line_byte bs) bs ∷ [])
    → length (drop (cond (not v) (1 + prefix_len is_line_byte bs) 0) (b ∷ bs)) ≡ 0
    → cond v ([] ∷ lines_of bs) (onto_first b (lines_of bs)) ≡ take (cond (not v) (1 + prefix_len is_line_byte bs) 0) (b ∷ bs) ∷ []
ends b bs true rest h = absurd (omega arith)
ends b bs false rest h = let k = rw (one_more (prefix_len is_line_byte bs)) at h in rw (one_more (prefix_len is_line_byte bs), rest k) refl

lines_end : (s : List ℕ) → length (drop (prefix_len is_line_byte s) s) ≡ 0 → lines_of s ≡ take (prefix_len is_line_byte s) s ∷ []
lines_end [] h = refl
lines_end (b ∷ bs) h = ends b bs (eqb b 10) (lines_end bs) h

lines_more : (s : List ℕ) → 0 < length (drop (prefix_len is_line_byte s) s) → lines_of s ≡ take (prefix_len is_line_byte s) s ∷ lines_of (drop (prefix_len is_line_byte s + 1) s)
lines_more s h = slice_split_first (λ b. eqb b 10) s 0 (omega (arith, length-drop (prefix_len is_line_byte s) s))

pub read_last : (r next : Reading) (s : List ℕ) (n : ℕ) → n ≡ prefix_len is_line_byte s → length (drop n s) ≡ 0 → with_next r (take n s) ≡ Some next → read_from r (lines_of s) ≡ Ok next
unfolding read_from
read_last r next s n e h k =
    let h' = rw e at h in
    let k' = rw e at k in
    rw (lines_end s h', k') refl

pub read_onward : (r next : Reading) (s : List ℕ) (n : ℕ) → n ≡ prefix_len is_line_byte s → 0 < length (drop n s) → with_next r (take n s) ≡ Some next → read_from r (lines_of s) ≡ read_from next (lines_of (drop (n + 1) s))
unfolding read_from
read_onward r next s n e h k =
    let h' = rw e at h in
    let k' = rw e at k in
    rw (lines_more s h', k', e) refl

refused_by : (r : Reading) (s : List ℕ) (m : ℕ) → length (drop (prefix_len is_line_byte s) s) ≡ m → with_next r (take (prefix_len is_line_byte s) s) ≡ None → read_from r (lines_of s) ≡ Err (r.number + 1)
unfolding read_from
refused_by r s zero h k = rw (lines_end s h, k) refl
refused_by r s (suc m) h k = rw (lines_more s (omega arith), k) refl

pub read_refused : (r : Reading) (s : List ℕ) (n : ℕ) → n ≡ prefix_len is_line_byte s → with_next r (take n s) ≡ None → read_from r (lines_of s) ≡ Err (r.number + 1)
read_refused r s n e k = refused_by r s (length (drop (prefix_len is_line_byte s) s)) refl (rw e at k)

module _ (r new : Reading) (text s line : List ℕ) (i n : ℕ) (rest : s ≡ drop i text) (ends_at : n ≡ prefix_len is_line_byte s) (front : line ≡ take n s) (known : read_from r (lines_of (drop i text)) ≡ read text) where
  here : read_from r (lines_of s) ≡ read text
  here = rw rest known

  pub refused_here : (v : Bool) → MatchBool v (with_next r line ≡ Some new) (with_next r line ≡ None) → MatchBool v (new.number ≡ r.number + 1) (new.number ≡ r.number) → not v ≡ true → Err (new.number + 1) ≡ read text
  refused_here true k m h = cc
  refused_here false k m h = ap (λ x. Err (x + 1)) m ∙ (sym (read_refused r s n ends_at (ap (λ l. with_next r l) (sym front) ∙ k)) ∙ here)

  pub last_here : (v : Bool) → MatchBool v (with_next r line ≡ Some new) (with_next r line ≡ None) → not v ≡ false → length (drop n s) ≡ 0 → Ok new ≡ read text
  last_here true k h z = sym (read_last r new s n ends_at z (ap (λ l. with_next r l) (sym front) ∙ k)) ∙ here
  last_here false k h z = cc

  pub onward_here : (v : Bool) → MatchBool v (with_next r line ≡ Some new) (with_next r line ≡ None) → not v ≡ false → 0 < length (drop n s) → read_from new (lines_of (drop (i + (n + 1)) text)) ≡ read text
  onward_here true k h z =
      let step : drop (n + 1) s ≡ drop (i + (n + 1)) text = ap (λ l. drop (n + 1) l) rest ∙ drop-drop (n + 1) i text in
      ap (λ l. read_from new (lines_of l)) (sym step) ∙ (sym (read_onward r new s n ends_at z (ap (λ l. with_next r l) (sym front) ∙ k)) ∙ here)
  onward_here false k h z = cc

-- the fact of a line that was read
pub counted : (P Q : Type 0) (v : Bool) → not v ≡ false → MatchBool v P Q → P
counted P Q true h k = k
counted P Q false h k = cc
