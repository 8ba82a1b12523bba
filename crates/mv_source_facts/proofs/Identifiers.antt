-- A name in a source is an identifier of the format of images.
use Rattle.std.proofs.Common.{◌≡◌, ℕ, refl, sym, ◌∙◌, ap, Bool, true, false, ◌||◌, ◌&&◌, ◌==◌, nat_le, List, [], ◌∷◌, ◌++◌, slice_index, All}
use Rattle.std.specs.Str.{bytes_eq}
use Rattle.std.proofs.lemmas.Bool.{or_from}
use Rattle.std.proofs.lemmas.List.Elements.{All-nil, All-cons, All-head, All-tail, All-append, All-from_get_or}
use Rattle.std.proofs.lemmas.Slice.Eq.{bytes_eq-Decides}
use Rattle.mv_image.specs.Format.{IsIdentifier}
use Rattle.mv_image.specs.Names.{is_letter, is_digit, is_one_of, first_words, second_words, third_words, fourth_words, fifth_words, is_keyword}
use Rattle.mv_lexer.specs.Bytes.{is_nondigit}
use Rattle.mv_lexer.specs.Tables.{keywords, unsupported_keywords, entries, IsEntry}
use Rattle.mv_lexer.specs.declared.table.Table.{Table}
use Rattle.mv_lexer.specs.declared.table.Table.TheVariants.{Keywords, UnsupportedKeywords}
use Rattle.mv_source_facts.specs.Facts.{IsName}

-- ---- bytes

-- in another order
reordered : (p q r : Bool) → ((p || q) || r) ≡ ((q || p) || r)
reordered true true r = refl
reordered true false r = refl
reordered false true r = refl
reordered false false r = refl

letter : (b : ℕ) → is_nondigit b ≡ is_letter b
letter b = reordered (nat_le 65 b && nat_le b 90) (nat_le 97 b && nat_le b 122) (b == 95)

-- ---- words

abbrev Differs : List ℕ → List ℕ → Type 0
Differs name word = name ≡ word → ⊥

entries_differ : (name : List ℕ) (table : Table) → ((k : ℕ) → IsEntry table k name → ⊥) → All (Differs name) (entries table)
entries_differ name table h = All-from_get_or (Differs name) (entries table) [] (λ i lt e. h i (record { in_range = lt; is = e }))

one_differs : (name word : List ℕ) → Differs name word → bytes_eq name word ≡ false
one_differs name word h = by (bytes_eq name word) refl
  where
    by : (b : Bool) → bytes_eq name word ≡ b → b ≡ false
    by true q = absurd (h ((bytes_eq-Decides name word).0 q))
    by false q = refl

none_is : (name : List ℕ) (words : List (List ℕ)) → All (Differs name) words → is_one_of words name ≡ false
none_is name [] h = refl
none_is name (word ∷ words) h =
    or_from (bytes_eq name word) (is_one_of words name) (one_differs name word (All-head (Differs name) word words h)) (none_is name words (All-tail (Differs name) word words h))

all_parts : {A : Type 0} (P : A → Type 0) (xs ys : List A) → All P (xs ++ ys) → All P xs × All P ys
all_parts P [] ys h = (All-nil P, h)
all_parts P (x ∷ xs) ys h = let r = all_parts P xs ys (All-tail P x (xs ++ ys) h) in (All-cons P x xs (All-head P x (xs ++ ys) h) r.0, r.1)

-- all keywords, as the format groups them
all_differ : (name : List ℕ) → IsName name → All (Differs name) (first_words ++ (second_words ++ (third_words ++ (fourth_words ++ fifth_words))))
all_differ name n =
    All-append (Differs name) keywords unsupported_keywords (entries_differ name Keywords n.no_keyword) (entries_differ name UnsupportedKeywords n.no_unsupported)

no_keyword : (name : List ℕ) → IsName name → is_keyword name ≡ false
unfolding is_keyword
no_keyword name n =
    let a = all_parts (Differs name) first_words (second_words ++ (third_words ++ (fourth_words ++ fifth_words))) (all_differ name n) in
    let b = all_parts (Differs name) second_words (third_words ++ (fourth_words ++ fifth_words)) a.1 in
    let c = all_parts (Differs name) third_words (fourth_words ++ fifth_words) b.1 in
    let d = all_parts (Differs name) fourth_words fifth_words c.1 in
    or_from _ _ (or_from _ _ (or_from _ _ (or_from _ _ (none_is name first_words a.0) (none_is name second_words b.0)) (none_is name third_words c.0))
    (none_is name fourth_words d.0)) (none_is name fifth_words d.1)

-- ---- names

pub identifiers : (name : List ℕ) → IsName name → IsIdentifier name
identifiers name n = record {
  first = sym (letter (slice_index name 0)) ∙ n.identifier.first;
  others = λ i l. ap (λ b. b || is_digit (slice_index name i)) (sym (letter (slice_index name i))) ∙ n.identifier.each i l;
  no_keyword = no_keyword name n;
}
