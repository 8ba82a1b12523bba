-- What a numbering gives: numbers above 0, by which the functions are found again.
use Rattle.std.proofs.Common.{◌≡◌, ℕ, zero, suc, ◌+◌, ◌<◌, List, [], ◌∷◌, length, get_or, refl, sym, ◌∙◌, ap, arith, Some}
use Rattle.std.specs.Prelude.{◌≢◌, All, AllPairs}
use Rattle.mv_ast.specs.declared.program.Program.{Program}
use Rattle.mv_ast.specs.declared.program.Function.{Function}
use Rattle.mv_ast.specs.Numbering.{numbers_from, own_numbers, place_from, function_of_number}
use Rattle.mv_meaning_numbering.specs.Numberings.{IsNumbering}
use Rattle.mv_ast.proofs.Common.{first_has, first_has_not}

found_at : (ns : List ℕ) (i k : ℕ) → AllPairs (λ m n. m ≢ n) ns → k < length ns → place_from i ns (get_or ns k 0) ≡ Some (i + k)
found_at [] i k apart lt = absurd (omega arith)
found_at (n ∷ ns) i zero apart lt = first_has n i n ns refl ∙ ap Some (omega arith)
found_at (n ∷ ns) i (suc k) apart lt =
    first_has_not (get_or ns k 0) i n ns (apart zero (suc k) 0 (omega arith) lt) ∙
    (found_at ns (suc i) k (λ a b d below within. apart (suc a) (suc b) d (omega arith) (omega arith)) (omega arith) ∙ ap Some (omega arith))

-- numbers by which functions are told from one another and from null
pub record Distinguishes (p : Program) (numbers : List ℕ) : Type 0 where
  pub count : length numbers ≡ length p.functions
  pub above : All (λ n. 0 < n) numbers
  pub different : AllPairs (λ m n. m ≢ n) numbers

pub numbering_distinguishes : (p : Program) (numbers : List ℕ) → IsNumbering p numbers → Distinguishes p numbers
numbering_distinguishes p numbers h = record {
  count = h.count;
  above = λ k d lt. let word = h.words k d lt in word.0;
  different = h.different;
}

module _ (p : Program) (ns : List ℕ) (numbering : Distinguishes p ns) where
  pub number_above : (f : ℕ) → f < length p.functions → 0 < get_or ns f 0
  number_above f lt =
      let count = numbering.count in
      numbering.above f 0 (omega (arith, count))

  pub number_found : (f : ℕ) → f < length p.functions → function_of_number ns (get_or ns f 0) ≡ Some f
  number_found f lt =
      let count = numbering.count in
      found_at ns 0 f numbering.different (omega (arith, count)) ∙ ap Some (omega arith)

  pub number_once : (f g : ℕ) → f < length p.functions → g < length p.functions → get_or ns f 0 ≡ get_or ns g 0 → f ≡ g
  number_once f g below within e =
      let a = number_found f below in
      let b = number_found g within in
      let c : function_of_number ns (get_or ns f 0) ≡ function_of_number ns (get_or ns g 0) = ap (function_of_number ns) e in
      let d : Some f ≡ Some g = sym a ∙ (c ∙ b) in cc

-- ---- the program's own numbering

own_length : (n : ℕ) (fs : List Function) → length (numbers_from n fs) ≡ length fs
own_length n [] = refl
own_length n (f ∷ fs) = ap suc (own_length (suc n) fs)

-- the numbers ascend; behind them anything stands
pub own_number_or : (n : ℕ) (fs : List Function) (i d : ℕ) → i < length fs → get_or (numbers_from n fs) i d ≡ n + i
own_number_or n [] i d lt = absurd (omega arith)
own_number_or n (f ∷ fs) zero d lt = omega arith
own_number_or n (f ∷ fs) (suc i) d lt = own_number_or (suc n) fs i d (omega arith) ∙ omega arith

pub own_distinguishes : (p : Program) → Distinguishes p (own_numbers p)
own_distinguishes p = record {
  count = own_length 1 p.functions;
  above = λ k d lt.
      let count = own_length 1 p.functions in
      let at = own_number_or 1 p.functions k d (omega (arith, count, lt)) in omega (arith, at);
  different = λ i j d before within e.
      let count = own_length 1 p.functions in
      let first = own_number_or 1 p.functions i d (omega (arith, count, before, within)) in
      let second = own_number_or 1 p.functions j d (omega (arith, count, within)) in absurd (omega (arith, first, second, e, before));
}
