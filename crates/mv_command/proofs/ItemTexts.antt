-- The text of an item, and where it is cut.
use Rattle.std.proofs.Common.{ℕ, ℤ, pos, negsuc, suc, ◌≡◌, ◌≢◌, ◌<◌, ◌≤◌, ◌^◌, true, false, List, [], ◌∷◌, ◌++◌, length, get_or, take, drop, map, refl, sym, ap, ◌∙◌, subst, arith, lit<, eqb, eqb-true}
use Rattle.std.specs.Int.{w64}
use Rattle.std.specs.Prelude.{FitsSigned, Option, MatchOption, All}
use Rattle.std.specs.List.{list_all, join_with_byte, slice_split}
use Rattle.std.specs.Fmt.{decimal, signed_decimal}
use Rattle.std.proofs.lemmas.Str.Pattern.{IsSplitOnceResult, split_after}
use Rattle.std.proofs.lemmas.Bool.{false≢true, false_from_ne_true}
use Rattle.std.proofs.lemmas.List.{get_or_default}
use lib.Signed.{mag}
use Rattle.std.proofs.lemmas.List.Splits.{length-slice_split, join_with_byte-slice_split}
use Rattle.std.proofs.lemmas.List.Elements.{All-cons, All-append}
use lib.Pointwise.{pointwise}
use Rattle.std.proofs.lemmas.Fmt.{decimal_injective, signed_decimal_injective}
use Rattle.std.proofs.lemmas.List.Sums.{AllPass-from_list_all}
use Rattle.mv_command.specs.declared.items.Item.{Item}
use Rattle.mv_command.specs.declared.options.TheConstants.{MOST_POLL, LEAST_VALUE}
use Rattle.mv_command.specs.Items.{is_name, is_name_byte, IsValue, IsItem, item_text, Ascend, IsList}
use Rattle.mv_command.proofs.Numerals.{digits_alone}
use Rattle.mv_command.proofs.Pieces.{first_same, list_cut, rest_same, same_all}
use denote.Ref.{Bor}

pub poll_plain : (n i : ℕ) → n < 2 ^ 59 → i < length (decimal n) → get_or (decimal n) i 0 ≢ 58
poll_plain n i small here e = omega (arith, e, digits_alone n i (decimal n) small refl here)

name_byte_plain : (b : ℕ) → is_name_byte b ≡ true → b ≢ 61
name_byte_plain b e is = let h : false ≡ true = subst (λ x. is_name_byte x ≡ true) is e in false≢true h

name_bytes : (name : List ℕ) → is_name name ≡ true → list_all is_name_byte name ≡ true
name_bytes [] e = refl
name_bytes (b ∷ rest) e = grind (arith, e)

pub name_plain : (name : List ℕ) → is_name name ≡ true → (i : ℕ) → i < length name → get_or name i 0 ≢ 61
name_plain name e i here = name_byte_plain (get_or name i 0) (AllPass-from_list_all is_name_byte name (name_bytes name e) i 0 here)

pub poll_cut : (text : List ℕ) (item : Item) (r : Option (Bor (List ℕ) × Bor (List ℕ))) → IsItem item → text ≡ item_text item → IsSplitOnceResult 58 text r →
    MatchOption r ⊥ (λ x. (x.0.now ≡ decimal item.poll) × (x.1.now ≡ item.name ++ (61 ∷ signed_decimal item.value)))
poll_cut text item r fits e split = split_after 58 text (decimal item.poll) (item.name ++ (61 ∷ signed_decimal item.value)) r split (lit< tt) e (λ i. poll_plain item.poll i (omega (arith, fits.poll)))

pub name_cut : (text : List ℕ) (item : Item) (r : Option (Bor (List ℕ) × Bor (List ℕ))) → IsItem item → text ≡ item.name ++ (61 ∷ signed_decimal item.value) → IsSplitOnceResult 61 text r →
    MatchOption r ⊥ (λ x. (x.0.now ≡ item.name) × (x.1.now ≡ signed_decimal item.value))
name_cut text item r fits e split = split_after 61 text item.name (signed_decimal item.value) r split (lit< tt) e (name_plain item.name fits.name)

-- ---- values

pub stripped : (text : List ℕ) → pointwise eqb (take 1 text) (45 ∷ []) ≡ true → text ≡ 45 ∷ drop 1 text
stripped [] e = absurd (false≢true e)
stripped (b ∷ rest) e = grind (arith, e)

first_of_signed : (n : ℕ) → n < 2 ^ 59 → (rest : List ℕ) → 45 ∷ rest ≢ decimal n
first_of_signed n small rest e = omega (arith, digits_alone n 0 (45 ∷ rest) small e (omega arith))

pub none_below_zero : (text digits : List ℕ) → text ≡ 45 ∷ digits → ((n : ℕ) → n ≤ LEAST_VALUE → digits ≢ decimal n) → (value : ℤ) → IsValue value → text ≢ signed_decimal value
none_below_zero text digits is none (pos n) small e = first_of_signed n (omega (arith, small)) digits (sym is ∙ e)
none_below_zero text digits is none (negsuc n) small e = none (suc n) (omega (arith, small)) (ap (drop 1) (sym is ∙ e))

pub no_zero_below : (text digits : List ℕ) → text ≡ 45 ∷ digits → digits ≡ decimal 0 → (value : ℤ) → IsValue value → text ≢ signed_decimal value
no_zero_below text digits is none (pos n) small e = first_of_signed n (omega (arith, small)) digits (sym is ∙ e)
no_zero_below text digits is none (negsuc n) small e = omega (arith, decimal_injective 0 (suc n) (lit< tt) (omega (arith, small)) (sym none ∙ ap (drop 1) (sym is ∙ e)))

pub value_fits : (value : ℤ) → IsValue value → FitsSigned w64 value
value_fits (pos n) small = omega (arith, small)
value_fits (negsuc n) small = omega (arith, small)

-- ---- an item

pub item_is : (text poll flip name value : List ℕ) (n : ℕ) (v w : ℤ) → w ≡ v → IsValue v → n ≤ MOST_POLL → is_name name ≡ true → text ≡ poll ++ 58 ∷ flip → flip ≡ name ++ 61 ∷ value →
    poll ≡ decimal n → value ≡ signed_decimal v → IsItem (record { poll = n; name = name; value = w }) × (text ≡ item_text (record { poll = n; name = name; value = w }))
item_is text poll flip name value n v w same small few named cut behind numeral signed =
    (record { poll = few; name = named; value = subst IsValue (sym same) small }, rw (cut, behind, numeral, signed, same) refl)

-- the text of an item has no comma
pub number_plain : (n : ℕ) → n < 2 ^ 59 → All (λ b. eqb b 44 ≡ false) (decimal n)
number_plain n small k d here =
    let digit = digits_alone n k (decimal n) small refl here in let same = get_or_default (decimal n) k d 0 here in
    false_from_ne_true (eqb (get_or (decimal n) k d) 44) (λ is. omega (arith, digit, same, eqb-true (get_or (decimal n) k d) 44 is))

value_plain : (value : ℤ) → IsValue value → All (λ b. eqb b 44 ≡ false) (signed_decimal value)
value_plain (pos n) small = number_plain n (omega (arith, small))
value_plain (negsuc n) small = All-cons (λ b. eqb b 44 ≡ false) 45 (decimal (suc n)) refl (number_plain (suc n) (omega (arith, small)))

name_byte_no_comma : (b : ℕ) → is_name_byte b ≡ true → eqb b 44 ≡ false
name_byte_no_comma b e = false_from_ne_true (eqb b 44) (λ is. let h : false ≡ true = subst (λ x. is_name_byte x ≡ true) (eqb-true b 44 is) e in false≢true h)

name_no_comma : (name : List ℕ) → is_name name ≡ true → All (λ b. eqb b 44 ≡ false) name
name_no_comma name e k d here = name_byte_no_comma (get_or name k d) (AllPass-from_list_all is_name_byte name (name_bytes name e) k d here)

item_plain : (item : Item) → IsItem item → All (λ b. eqb b 44 ≡ false) (item_text item)
item_plain item fits =
    All-append (λ b. eqb b 44 ≡ false) (decimal item.poll) (58 ∷ (item.name ++ (61 ∷ signed_decimal item.value))) (number_plain item.poll (omega (arith, fits.poll)))
    (All-cons (λ b. eqb b 44 ≡ false) 58 (item.name ++ (61 ∷ signed_decimal item.value)) refl
    (All-append (λ b. eqb b 44 ≡ false) item.name (61 ∷ signed_decimal item.value) (name_no_comma item.name fits.name) (All-cons (λ b. eqb b 44 ≡ false) 61 (signed_decimal item.value) refl (value_plain item.value fits.value))))

-- what stands before the first of a byte, and what behind it
apart : (c : ℕ) (xs ys us vs : List ℕ) → ((i : ℕ) → i < length xs → get_or xs i 0 ≢ c) → ((i : ℕ) → i < length ys → get_or ys i 0 ≢ c) → xs ++ (c ∷ us) ≡ ys ++ (c ∷ vs) → (xs ≡ ys) × (us ≡ vs)
apart c [] [] us vs p q e = (refl, rest_same e)
apart c [] (y ∷ ys) us vs p q e = absurd (q 0 (omega arith) (sym (first_same e)))
apart c (x ∷ xs) [] us vs p q e = absurd (p 0 (omega arith) (first_same e))
apart c (x ∷ xs) (y ∷ ys) us vs p q e =
    let rest = apart c xs ys us vs (λ i here. p (suc i) (omega (arith, here))) (λ i here. q (suc i) (omega (arith, here))) (rest_same e) in
    (rw (first_same e, rest.0) refl, rest.1)

value_small : (value : ℤ) → IsValue value → mag value < 2 ^ 63
value_small (pos n) small = omega (arith, small)
value_small (negsuc n) small = omega (arith, small)

same_fields : (item other : Item) → item.poll ≡ other.poll → item.name ≡ other.name → item.value ≡ other.value → item ≡ other
same_fields item other p n v = λ i. record { poll = p i; name = n i; value = v i }

-- an item has one text
pub same_item : (item other : Item) → IsItem item → IsItem other → item_text item ≡ item_text other → item ≡ other
same_item item other fits more e =
    let front = apart 58 (decimal item.poll) (decimal other.poll) (item.name ++ (61 ∷ signed_decimal item.value)) (other.name ++ (61 ∷ signed_decimal other.value))
    (λ i. poll_plain item.poll i (omega (arith, fits.poll))) (λ i. poll_plain other.poll i (omega (arith, more.poll))) e in
    let back = apart 61 item.name other.name (signed_decimal item.value) (signed_decimal other.value) (name_plain item.name fits.name) (name_plain other.name more.name) front.1 in
    same_fields item other (decimal_injective item.poll other.poll (omega (arith, fits.poll)) (omega (arith, more.poll)) front.0) back.0
    (signed_decimal_injective item.value other.value (value_small item.value fits.value) (value_small other.value more.value) back.1)

pub same_items : (items others : List Item) → All IsItem items → All IsItem others → map item_text items ≡ map item_text others → items ≡ others
same_items items others each more e = same_all item_text IsItem same_item items others each more e

-- what a list says of its pieces
pub list_pieces : (text : List ℕ) (items : List Item) (pieces : List (List ℕ)) → pieces ≡ slice_split (λ b. eqb b 44) text → IsList text items → map item_text items ≡ pieces
list_pieces text items pieces e list = sym (list_cut item_text IsItem item_plain items list.each list.some) ∙ ap (slice_split (λ b. eqb b 44)) (sym list.spelled) ∙ sym e

pub pieces_list : (text : List ℕ) (items : List Item) (pieces : List (List ℕ)) → pieces ≡ slice_split (λ b. eqb b 44) text → map item_text items ≡ pieces → All IsItem items → Ascend 0 items → IsList text items
pieces_list text items pieces e same each ascend = record {
  spelled = sym (join_with_byte-slice_split 44 text) ∙ ap (join_with_byte 44) (sym e ∙ sym same);
  some = λ none. let l = length-slice_split (λ b. eqb b 44) text in let z : 0 ≡ length (slice_split (λ b. eqb b 44) text) = ap (λ xs. length (map item_text xs)) (sym none) ∙ ap length (same ∙ e) in omega (arith, l, z);
  each = each;
  ascend = ascend;
}
