-- The words that have changed have a line each.
use Rattle.std.proofs.Common.{arith, ◌≡◌, ◌≢◌, ℕ, zero, suc, ◌+◌, ◌-◌, ◌%◌, ◌/◌, ◌^◌, ◌<◌, Bool, true, false, if◌then◌else◌, cond, eqb, List, [], ◌∷◌, ◌++◌, length, slice_index, replicate, refl, sym, ap, ◌∙◌, subst}
use Rattle.std.specs.Prelude.{codes, nat_lt}
use Rattle.std.specs.Fmt.{digit_glyph, digits_onto, digits, format_spec, number_padding, padded_integral}
use Rattle.std.proofs.lemmas.Bool.{ne_eqb}
use Rattle.std.proofs.lemmas.List.Sums.{sum_by-cons, sum_by-append}
use Rattle.mv_image.specs.Patched.{text_of}
use Rattle.mv_image.proofs.Limits.{is_within}
use Rattle.mv_image.proofs.PatchLaws.{text_size}
use Rattle.mv_patch.specs.Pairs.{differing, pair_of}
use Rattle.mv_list.specs.Numbers.{address_text}
use Rattle.mv_list.specs.Changes.{change_line, changes, words_now, LoadsGiveTheText}
use Rattle.mv_count_words.specs.Lines.{line_count, LinesAreWords}
use Rattle.mv_count_words.proofs.Words.{text_words}

abbrev feed : ℕ → ℕ
feed c = cond (eqb c 10) 1 0

lines_both : (a b : List ℕ) → line_count (a ++ b) ≡ line_count a + line_count b
lines_both a b = sum_by-append feed a b

-- a text of no whole line
abbrev HasNone : List ℕ → Type 0
HasNone a = line_count a ≡ 0

none_both : (a b : List ℕ) → HasNone a → HasNone b → HasNone (a ++ b)
none_both a b h k = let both = lines_both a b in omega (arith, both, h, k)

none_first : (c : ℕ) (a : List ℕ) → c ≢ 10 → line_count (c ∷ a) ≡ line_count a
none_first c a ne =
    let split = sum_by-cons feed c a in
    let here : feed c ≡ 0 = ap {B = ℕ} (λ b. cond b 1 0) (ne_eqb c 10 ne) in omega (arith, split, here)

-- ---- numbers

zeros_none : (n : ℕ) → HasNone (replicate n 48)
zeros_none zero = refl
zeros_none (suc n) = none_first 48 (replicate n 48) (λ e. omega (arith, e)) ∙ zeros_none n

glyph_none : (d : ℕ) (a : List ℕ) → line_count (digit_glyph false d ∷ a) ≡ line_count a
glyph_none d a = by (nat_lt d 10)
  where
    by : (b : Bool) → line_count ((if b then 48 + d else (if false then 55 + d else 87 + d)) ∷ a) ≡ line_count a
    by true = none_first (48 + d) a (λ e. omega (arith, e))
    by false = none_first (87 + d) a (λ e. omega (arith, e))

digits_none : (k n : ℕ) (a : List ℕ) → line_count (digits_onto k 16 false n a) ≡ line_count a
digits_none zero n a = refl
digits_none (suc k) n a = by (digits_none k (n / 16) (digit_glyph false (n % 16) ∷ a)) (eqb (n / 16) 0)
  where
    by : line_count (digits_onto k 16 false (n / 16) (digit_glyph false (n % 16) ∷ a)) ≡ line_count (digit_glyph false (n % 16) ∷ a) → (b : Bool) →
        line_count (if b then digit_glyph false (n % 16) ∷ a else digits_onto k 16 false (n / 16) (digit_glyph false (n % 16) ∷ a)) ≡ line_count a
    by rest true = glyph_none (n % 16) a
    by rest false = rest ∙ glyph_none (n % 16) a

hex_none : (n : ℕ) → HasNone (digits 16 false n)
unfolding digits
hex_none n = digits_none 64 n []

padded_none : (ds : List ℕ) → HasNone ds → HasNone (padded_integral (format_spec 32 0 4 8 (2 ^ 64 - 1)) false [] ds)
unfolding padded_integral
padded_none ds h =
    let zeros = number_padding (format_spec 32 0 4 8 (2 ^ 64 - 1)) false [] (length ds) in
    none_both (replicate zeros 48) (ds ++ []) (zeros_none zeros) (none_both ds [] h refl)

address_none : (n : ℕ) → HasNone (address_text n)
unfolding address_text
address_none n =
    let number = padded_integral (format_spec 32 0 4 8 (2 ^ 64 - 1)) false [] (digits 16 false n) in
    none_both (codes "0x") number refl (padded_none (digits 16 false n) (hex_none n))

-- ---- lines

-- two texts, of which the first has no whole line
behind : (a b : List ℕ) → HasNone a → line_count (a ++ b) ≡ line_count b
behind a b h = let both = lines_both a b in omega (arith, both, h)

one_line : (address old new : ℕ) (b : Bool) → eqb old new ≡ b → line_count (change_line address old new) ≡ cond b 0 1
unfolding change_line
one_line address old new true e = ap (λ (b : Bool). line_count (cond b [] (codes "word " ++ (address_text address ++ (codes " " ++ (address_text old ++ (codes " " ++ (address_text new ++ codes "\n")))))))) e
one_line address old new false e =
    let last = address_text new ++ codes "\n" in
    let third = address_text old ++ (codes " " ++ last) in
    let second = address_text address ++ (codes " " ++ third) in
    ap (λ (b : Bool). line_count (cond b [] (codes "word " ++ second))) e
    ∙ behind (codes "word ") second refl
    ∙ behind (address_text address) (codes " " ++ third) (address_none address)
    ∙ behind (codes " ") third refl
    ∙ behind (address_text old) (codes " " ++ last) (address_none old)
    ∙ behind (codes " ") last refl
    ∙ behind (address_text new) (codes "\n") (address_none new)

lines_are : (at : ℕ) (old new : List ℕ) → line_count (changes at old new) ≡ length (differing at old new)
unfolding changes differing
lines_are at [] new = refl
lines_are at (o ∷ old) [] = refl
lines_are at (o ∷ old) (n ∷ new) = by (lines_are (at + 4) old new) (eqb o n) refl
  where
    by : line_count (changes (at + 4) old new) ≡ length (differing (at + 4) old new) → (b : Bool) → eqb o n ≡ b →
        line_count (change_line at o n ++ changes (at + 4) old new) ≡ length (if eqb o n then differing (at + 4) old new else (pair_of at n ∷ differing (at + 4) old new))
    by rest true e =
        let both = lines_both (change_line at o n) (changes (at + 4) old new) in
        let here = one_line at o n true e in
        let same = ap (λ (b : Bool). length (cond b (differing (at + 4) old new) (pair_of at n ∷ differing (at + 4) old new))) e in omega (arith, both, here, rest, same)
    by rest false e =
        let both = lines_both (change_line at o n) (changes (at + 4) old new) in
        let here = one_line at o n false e in
        let same = ap (λ (b : Bool). length (cond b (differing (at + 4) old new) (pair_of at n ∷ differing (at + 4) old new))) e in omega (arith, both, here, rest, same)

pub lines_are_words : LoadsGiveTheText → LinesAreWords
lines_are_words loads image r bound held is =
    let size : length held.text ≡ length image.text = ap (λ (t : List ℕ). length t) is ∙ text_size image bound in
    let few = (is_within image r).text in
    let words = loads held (λ i. subst (λ (t : List ℕ). slice_index t i < 2 ^ 32) (sym is) (text_words image r bound i)) (omega (arith, size, few)) in
    let now : words_now held 4096 (length image.text) ≡ text_of image bound = ap (λ n. words_now held 4096 n) (sym size) ∙ words ∙ is in
    ap (λ (t : List ℕ). line_count (changes 4096 image.text t)) now ∙ lines_are 4096 image.text (text_of image bound)
