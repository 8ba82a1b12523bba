-- What tests on numbers, types and lists say.
use Rattle.std.proofs.Common.{◌≡◌, ℕ, suc, ◌≢◌, arith, sym, ◌∙◌, true, false, nat_eq, List, slice_set}
use Rattle.std.specs.List.{AllByRecursion}
use Rattle.std.proofs.lemmas.Bool.Decides.{nat_tests}
use Rattle.std.proofs.lemmas.List.Elements.{All-set, All-from_recursion, recursion_from_All}
use Rattle.std.proofs.lemmas.Bool.{eq-eqb}
use Rattle.mv_check_expressions.specs.Judged.{Judged, Good, Broken}
use Rattle.mv_accepts.proofs.OfStatements.Judging.{IfGood}

-- ---- numbers

pub not_same : (v w : ℕ) → nat_eq v w ≡ false → w ≢ v
not_same v w h q = let f : true ≡ false = sym (eq-eqb v w (sym q)) ∙ h in cc

pub not_none : (n : ℕ) → nat_eq (suc n) 0 ≡ false
not_none n = grind (arith, nat_tests)

-- ---- lists

module _ {A : Type 0} (P : A → Type 0) where
  pub all_set : (xs : List A) (i : ℕ) (x : A) → P x → AllByRecursion P xs → AllByRecursion P (slice_set xs i x)
  all_set xs i x p h = recursion_from_All P (slice_set xs i x) (All-set P xs i x p (All-from_recursion P xs h))

-- ---- judgements

-- what holds of each good outcome under a premise
pub if_given : {A : Type 0} (F : Type 0) (P : A → Type 0) (j : Judged A) → (F → IfGood j P) → IfGood j (λ a. F → P a)
if_given F P (Good a) f = f
if_given F P (Broken place rule) f = tt
