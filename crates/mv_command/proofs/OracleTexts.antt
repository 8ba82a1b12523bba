-- Which texts name which oracle.
use Rattle.std.proofs.Common.{ℕ, ◌≡◌, ◌≢◌, ◌<◌, ◌≤◌, false, List, [], ◌∷◌, length, get_or, map, refl, sym, ap, ◌∙◌, subst, arith, lit<, eqb}
use Rattle.std.specs.Prelude.{All}
use Rattle.std.specs.List.{join_with_byte, slice_split}
use Rattle.std.specs.Fmt.{decimal}
use Rattle.std.specs.Str.{bytes_eq}
use Rattle.std.proofs.lemmas.Bool.Decides.{not_from_Decides}
use Rattle.std.proofs.lemmas.Slice.Eq.{bytes_eq-Decides}
use Rattle.std.proofs.lemmas.Fmt.{decimal_injective}
use Rattle.std.proofs.lemmas.List.Elements.{All-head}
use Rattle.std.proofs.lemmas.List.Splits.{length-slice_split, join_with_byte-slice_split}
use Rattle.mv_command.specs.Spelled.{fresh, oldest, most_pick}
use Rattle.mv_command.specs.Oracles.{AreNumbers, Names}
use Rattle.mv_command.specs.declared.oracles.Oracle.{Oracle}
use Rattle.mv_command.specs.declared.oracles.Oracle.TheVariants.{Fresh, Oldest, Table}
use Rattle.mv_command.proofs.ItemTexts.{number_plain}
use Rattle.mv_command.proofs.Numerals.{digits_alone}
use Rattle.mv_command.proofs.Pieces.{first_same, list_cut, same_all}

abbrev pub IsPick : ℕ → Type 0
IsPick n = n ≤ most_pick

pick_plain : (n : ℕ) → IsPick n → All (λ b. eqb b 44 ≡ false) (decimal n)
pick_plain n small = number_plain n (omega (arith, small))

-- what a list of numbers says of its pieces, and they of it
pub numbers_pieces : (text numbers : List ℕ) (pieces : List (List ℕ)) → pieces ≡ slice_split (λ b. eqb b 44) text → AreNumbers text numbers → map decimal numbers ≡ pieces
numbers_pieces text numbers pieces e are = sym (list_cut decimal IsPick pick_plain numbers are.each are.some) ∙ ap (slice_split (λ b. eqb b 44)) (sym are.spelled) ∙ sym e

pub pieces_numbers : (text numbers : List ℕ) (pieces : List (List ℕ)) → pieces ≡ slice_split (λ b. eqb b 44) text → map decimal numbers ≡ pieces → All IsPick numbers → AreNumbers text numbers
pieces_numbers text numbers pieces e same each = record {
  spelled = sym (join_with_byte-slice_split 44 text) ∙ ap (join_with_byte 44) (sym e ∙ sym same);
  some = λ none. let l = length-slice_split (λ b. eqb b 44) text in let z : 0 ≡ length (slice_split (λ b. eqb b 44) text) = ap (λ xs. length (map decimal xs)) (sym none) ∙ ap length (same ∙ e) in omega (arith, l, z);
  each = each;
}

-- a word is no list of numbers
no_numeral : (word numbers : List ℕ) → All IsPick numbers → map decimal numbers ≡ word ∷ [] → 57 < get_or word 0 0 → 0 < length word → ⊥
no_numeral word [] each e above some = let l : 0 ≡ 1 = ap length e in omega (arith, l)
no_numeral word (n ∷ rest) each e above some = omega (arith, digits_alone n 0 word (omega (arith, All-head IsPick n rest each)) (sym (first_same e)) some, above)

no_numbers : (word : List ℕ) → slice_split (λ b. eqb b 44) word ≡ word ∷ [] → 57 < get_or word 0 0 → 0 < length word → (numbers : List ℕ) → AreNumbers word numbers → ⊥
no_numbers word whole above some numbers are = no_numeral word numbers are.each (numbers_pieces word numbers (word ∷ []) (sym whole) are) above some

fresh_alone : (text numbers : List ℕ) → text ≡ fresh → AreNumbers text numbers → ⊥
fresh_alone text numbers is are = no_numbers fresh refl (lit< tt) (lit< tt) numbers (subst (λ t. AreNumbers t numbers) is are)

oldest_alone : (text numbers : List ℕ) → text ≡ oldest → AreNumbers text numbers → ⊥
oldest_alone text numbers is are = no_numbers oldest refl (lit< tt) (lit< tt) numbers (subst (λ t. AreNumbers t numbers) is are)

-- a text names one oracle
pub same_named : (text : List ℕ) (oracle more : Oracle) → Names text oracle → Names text more → oracle ≡ more
same_named text Fresh Fresh h k = refl
same_named text Fresh Oldest h k = let l : 5 ≡ 6 = ap length (sym h ∙ k) in absurd (omega (arith, l))
same_named text Fresh (Table n) h k = absurd (fresh_alone text n h k)
same_named text Oldest Fresh h k = let l : 6 ≡ 5 = ap length (sym h ∙ k) in absurd (omega (arith, l))
same_named text Oldest Oldest h k = refl
same_named text Oldest (Table n) h k = absurd (oldest_alone text n h k)
same_named text (Table m) Fresh h k = absurd (fresh_alone text m k h)
same_named text (Table m) Oldest h k = absurd (oldest_alone text m k h)
same_named text (Table m) (Table n) h k =
    ap Table (same_all decimal IsPick (λ x y small few. decimal_injective x y (omega (arith, small)) (omega (arith, few))) m n h.each k.each
    (numbers_pieces text m (slice_split (λ b. eqb b 44) text) refl h ∙ sym (numbers_pieces text n (slice_split (λ b. eqb b 44) text) refl k)))

-- it names none, where it is no word of an oracle and one of its pieces is no number
pub names_none : (text : List ℕ) (pieces : List (List ℕ)) → bytes_eq text fresh ≡ false → bytes_eq text oldest ≡ false → pieces ≡ slice_split (λ b. eqb b 44) text →
    ((numbers : List ℕ) → All IsPick numbers → map decimal numbers ≢ pieces) → (oracle : Oracle) → Names text oracle → ⊥
names_none text pieces no_fresh no_oldest e none Fresh h = not_from_Decides (bytes_eq text fresh) (bytes_eq-Decides text fresh) no_fresh h
names_none text pieces no_fresh no_oldest e none Oldest h = not_from_Decides (bytes_eq text oldest) (bytes_eq-Decides text oldest) no_oldest h
names_none text pieces no_fresh no_oldest e none (Table n) h = none n h.each (numbers_pieces text n pieces e h)
