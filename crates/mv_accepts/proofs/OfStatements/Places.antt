-- What stands at the places of a list that grows.
use Rattle.std.proofs.Common.{◌≡◌, ℕ, zero, suc, ◌⊎◌, inl, inr, refl, sym, ◌∙◌, ap, subst, List, [], ◌∷◌, ◌++◌, length, Some, slice_get, Bool, true, false, if◌then◌else◌, None, take}
use Rattle.std.proofs.lemmas.Option.{same_Some}
use Rattle.mv_ast.specs.declared.program.CType.{CType}
use Rattle.mv_ast.specs.declared.program.CType.TheVariants.{Void, Scalar, Pointer}
use Rattle.mv_ast.specs.declared.program.Signature.{Signature}
use Rattle.mv_check_scope.specs.Conversions.{same_signature}
use Rattle.mv_check_scope.specs.Signatures.{with_signature}
use Rattle.mv_accepts.specs.Expressions.Soundness.{IsListed}
use Rattle.mv_accepts.proofs.OfExpressions.Plain.{IsPlain}
use Rattle.mv_accepts.specs.Statements.Bodies.{Keeps, AreListed}

module _ {A : Type 0} where
  pub keeps_same : (xs : List A) → Keeps xs xs
  keeps_same xs i x h = h

  pub keeps_joined : (xs ys zs : List A) → Keeps xs ys → Keeps ys zs → Keeps xs zs
  keeps_joined xs ys zs h k i x q = k i x (h i x q)

  -- a list that keeps another begins with it
  pub kept_first : (x : A) (xs ys : List A) → Keeps (x ∷ xs) ys → (zs : List A) × (ys ≡ x ∷ zs) × Keeps xs zs
  kept_first x xs [] k = absurd (none (k zero x refl))
    where
      none : None ≡ Some x → ⊥
      none h = absurd (cc)
  kept_first x xs (y ∷ ys) k = (ys, ap (λ z. z ∷ ys) (same_Some y x (k zero x refl)), λ i z h. k (suc i) z h)

  pub keeps_take : (xs ys : List A) → Keeps xs ys → take (length xs) ys ≡ xs
  keeps_take [] ys k = refl
  keeps_take (x ∷ xs) ys k =
      let f = kept_first x xs ys k in
      ap (λ zs. take (suc (length xs)) zs) f.1 ∙ ap (λ zs. x ∷ zs) (keeps_take xs f.0 f.2)

  pub keeps_more : (xs ys : List A) → Keeps xs (xs ++ ys)
  keeps_more [] ys i x h = absurd (cc)
  keeps_more (x ∷ xs) ys zero y h = h
  keeps_more (x ∷ xs) ys (suc i) y h = keeps_more xs ys i y h

  pub there_before : (xs : List A) (y : A) (i : ℕ) (x : A) → slice_get (xs ++ y ∷ []) i ≡ Some x → (slice_get xs i ≡ Some x) ⊎ (y ≡ x)
  there_before [] y zero x h = inr (cc)
  there_before [] y (suc i) x h = absurd (cc)
  there_before (z ∷ zs) y zero x h = inl h
  there_before (z ∷ zs) y (suc i) x h = there_before zs y i x h

-- ---- signatures

pub plain_listed : (signatures : List Signature) (t : CType) → IsPlain t → IsListed signatures t
plain_listed signatures Void h = tt
plain_listed signatures (Scalar k) h = tt
plain_listed signatures (Pointer s) h = absurd h

pub listed_kept : (ss ts : List Signature) → Keeps ss ts → (t : CType) → IsListed ss t → IsListed ts t
listed_kept ss ts k Void h = tt
listed_kept ss ts k (Scalar kind) h = tt
listed_kept ss ts k (Pointer s) h = (h.0, k s h.0 h.1)

-- a signature is added last, or not at all
pub added_or_not : (s : Signature) (ts : List Signature) → (with_signature s ts ≡ ts) ⊎ (with_signature s ts ≡ ts ++ s ∷ [])
added_or_not s [] = inr refl
added_or_not s (t ∷ ts) = by (same_signature s t) (added_or_not s ts)
  where
    more : (with_signature s ts ≡ ts) ⊎ (with_signature s ts ≡ ts ++ s ∷ []) → (t ∷ with_signature s ts ≡ t ∷ ts) ⊎ (t ∷ with_signature s ts ≡ t ∷ (ts ++ s ∷ []))
    more (inl q) = inl (ap (λ x. t ∷ x) q)
    more (inr q) = inr (ap (λ x. t ∷ x) q)

    by : (b : Bool) → (with_signature s ts ≡ ts) ⊎ (with_signature s ts ≡ ts ++ s ∷ []) →
        ((if b then t ∷ ts else t ∷ with_signature s ts) ≡ t ∷ ts) ⊎ ((if b then t ∷ ts else t ∷ with_signature s ts) ≡ t ∷ (ts ++ s ∷ []))
    by true h = inl refl
    by false h = more h

pub signature_kept : (s : Signature) (ts : List Signature) → Keeps ts (with_signature s ts)
signature_kept s ts = by (added_or_not s ts)
  where
    by : (with_signature s ts ≡ ts) ⊎ (with_signature s ts ≡ ts ++ s ∷ []) → Keeps ts (with_signature s ts)
    by (inl q) = subst (λ z. Keeps ts z) (sym q) (keeps_same ts)
    by (inr q) = subst (λ z. Keeps ts z) (sym q) (keeps_more ts (s ∷ []))

pub results_listed : (s : Signature) (ts : List Signature) → IsPlain s.result → AreListed ts → AreListed (with_signature s ts)
results_listed s ts plain h = by (added_or_not s ts)
  where
    by : (with_signature s ts ≡ ts) ⊎ (with_signature s ts ≡ ts ++ s ∷ []) → AreListed (with_signature s ts)
    by (inl q) = subst (λ z. AreListed z) (sym q) h
    by (inr q) = subst (λ z. AreListed z) (sym q) (λ i t there. new i t (there_before ts s i t there))
      where
        new : (i : ℕ) (t : Signature) → (slice_get ts i ≡ Some t) ⊎ (s ≡ t) → IsListed (ts ++ s ∷ []) t.result
        new i t (inl there) = listed_kept ts (ts ++ s ∷ []) (keeps_more ts (s ∷ [])) t.result (h i t there)
        new i t (inr same) = plain_listed (ts ++ s ∷ []) t.result (subst (λ (z : Signature). IsPlain z.result) same plain)
