-- A text is the numeral of one number.
use Rattle.std.proofs.Common.{ℕ, ◌≡◌, ◌<◌, ◌≤◌, ◌^◌, ◌∙◌, sym, arith, List, Some}
use Rattle.std.proofs.lemmas.Option.{same_Some}
use Rattle.std.specs.Fmt.{decimal}
use Rattle.std.proofs.lemmas.Fmt.{decimal_injective}
use Rattle.clap.specs.Walk.{Row, Text}
use Rattle.mv_harts_words.specs.Asked.{given, IsNumber}

module _ (name : Text) (least most : ℕ) (rows : List Row) where
  pub too_small : (text : List ℕ) (m : ℕ) → most < 2 ^ 59 → given name rows ≡ Some text → m ≤ most → text ≡ decimal m → m < least → (n : ℕ) → IsNumber name least most rows n → ⊥
  too_small text m small there few numeral below n is =
      let same : m ≡ n = decimal_injective m n (omega (arith, few, small)) (omega (arith, is.most_or_less, small)) (sym numeral ∙ same_Some text (decimal n) (sym there ∙ is.text)) in
      omega (arith, same, below, is.least_or_more)
