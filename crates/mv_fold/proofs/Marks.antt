-- Lists of marks, of which one is set.
use Rattle.std.proofs.Common.{◌≡◌, ℕ, suc, Bool, true, List, [], ◌∷◌, ◌++◌, sym, ◌∙◌, ◌⊎◌, inl, inr}
use Rattle.mv_num.proofs.Booleans.{or_cases, from_falsity}
use Rattle.mv_ast.specs.Names.{any_of}
use Rattle.mv_ir.specs.Live.{mark_at}
use Rattle.mv_ir.proofs.Joining.{any_append}
pub use Rattle.mv_ir.proofs.Joining.{any_left, any_right, marked_any}

pub any_marked : (xs : List Bool) → any_of xs ≡ true → (i : ℕ) × (mark_at xs i ≡ true)
any_marked [] e = from_falsity e
any_marked (x ∷ xs) e = by (any_marked xs) (or_cases x (any_of xs) e)
  where
    by : (any_of xs ≡ true → (i : ℕ) × (mark_at xs i ≡ true)) → (x ≡ true) ⊎ (any_of xs ≡ true) → (i : ℕ) × (mark_at (x ∷ xs) i ≡ true)
    by k (inl h) = (0, h)
    by k (inr h) = let further = k h in (suc further.0, further.1)

pub any_cases : (xs ys : List Bool) → any_of (xs ++ ys) ≡ true → (any_of xs ≡ true) ⊎ (any_of ys ≡ true)
any_cases xs ys e = or_cases (any_of xs) (any_of ys) (sym (any_append xs ys) ∙ e)

pub any_both : (a b c d : List Bool) → (any_of c ≡ true → any_of a ≡ true) → (any_of d ≡ true → any_of b ≡ true) → any_of (c ++ d) ≡ true → any_of (a ++ b) ≡ true
any_both a b c d h k e = by (any_cases c d e)
  where
    by : (any_of c ≡ true) ⊎ (any_of d ≡ true) → any_of (a ++ b) ≡ true
    by (inl x) = any_left a b (h x)
    by (inr y) = any_right a b (k y)
