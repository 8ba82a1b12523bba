-- A search among spellings is a search among signatures.
use Rattle.std.proofs.Common.{◌≡◌, ℕ, ◌+◌, ◌&&◌, ◌∙◌, Bool, true, false, refl, sym, ap, subst, length, List, [], ◌∷◌, ◌++◌, nat_eq, if◌then◌else◌, Option, Some, None, MatchOption, arith}
use Rattle.std.specs.Cmp.Lexicographic.{pointwise, same_text}
use Rattle.std.specs.declared.vec.Vec.{Vec}
use Rattle.std.specs.declared.alloc.Global.{Global}
use Rattle.mv_ast.specs.declared.program.CType.{CType}
use Rattle.mv_ast.specs.declared.program.CType.TheVariants.{Void, Scalar, Pointer}
use Rattle.mv_ast.specs.declared.program.Signature.{Signature}
use Rattle.mv_check_scope.specs.Conversions.{same_type, same_types, same_signature}
use Rattle.mv_check_scope.specs.Entries.{value_at}
use Rattle.mv_check_scope.specs.Signatures.{place_of, with_signature, sort_of, number_of, types_words, spelling, next, place_spelled, ArePlaces}

-- ---- spellings

same_words : (s t : CType) (b : Bool) → (nat_eq (sort_of s) (sort_of t) && (nat_eq (number_of s) (number_of t) && b)) ≡ (same_type s t && b)
same_words Void Void b = refl
same_words Void (Scalar k) b = refl
same_words Void (Pointer n) b = refl
same_words (Scalar k) Void b = refl
same_words (Scalar k) (Scalar l) b = refl
same_words (Scalar k) (Pointer n) b = refl
same_words (Pointer n) Void b = refl
same_words (Pointer n) (Scalar l) b = refl
same_words (Pointer n) (Pointer m) b = refl

same_spellings : (ss ts : List CType) → pointwise nat_eq (types_words ss) (types_words ts) ≡ same_types ss ts
same_spellings [] [] = refl
same_spellings [] (t ∷ ts) = refl
same_spellings (s ∷ ss) [] = refl
same_spellings (s ∷ ss) (t ∷ ts) =
    same_words s t (pointwise nat_eq (types_words ss) (types_words ts)) ∙ ap (λ b. same_type s t && b) (same_spellings ss ts)

-- two signatures are the same where their spellings are
pub same_spelling : (s t : Signature) → pointwise nat_eq (spelling s) (spelling t) ≡ same_signature s t
same_spelling s t = same_spellings (s.result ∷ s.params) (t.result ∷ t.params)

-- ---- searches

place_is : (s : Signature) (ts : List Signature) →
    MatchOption (place_spelled (spelling s) ts) ((length ts ≡ place_of s ts) × (ts ++ s ∷ [] ≡ with_signature s ts)) (λ n. (n ≡ place_of s ts) × (ts ≡ with_signature s ts))
place_is s [] = (refl, refl)
place_is s (t ∷ ts) =
    subst
    (λ b. MatchOption (if b then Some 0 else next (place_spelled (spelling s) ts)) ((length (t ∷ ts) ≡ place_of s (t ∷ ts)) × (t ∷ (ts ++ s ∷ []) ≡ with_signature s (t ∷ ts)))
    (λ n. (n ≡ place_of s (t ∷ ts)) × (t ∷ ts ≡ with_signature s (t ∷ ts))))
    (sym (same_spelling s t)) (by (same_signature s t) (place_spelled (spelling s) ts) (place_is s ts))
  where
    by : (b : Bool) (o : Option ℕ) →
        MatchOption o ((length ts ≡ place_of s ts) × (ts ++ s ∷ [] ≡ with_signature s ts)) (λ n. (n ≡ place_of s ts) × (ts ≡ with_signature s ts)) →
        MatchOption (if b then Some 0 else next o)
        ((length (t ∷ ts) ≡ (if b then 0 else place_of s ts + 1)) × (t ∷ (ts ++ s ∷ []) ≡ (if b then t ∷ ts else t ∷ with_signature s ts)))
        (λ n. (n ≡ (if b then 0 else place_of s ts + 1)) × (t ∷ ts ≡ (if b then t ∷ ts else t ∷ with_signature s ts)))
    by true o h = (refl, refl)
    by false None h = (omega (arith, h.0), ap (λ x. t ∷ x) h.1)
    by false (Some n) h = (omega (arith, h.0), ap (λ x. t ∷ x) h.1)

module _ (s : Signature) (ts : List Signature) where
  abbrev Answer : Option ℕ → Type 0
  Answer o = MatchOption o ((length ts ≡ place_of s ts) × (ts ++ s ∷ [] ≡ with_signature s ts)) (λ n. (n ≡ place_of s ts) × (ts ≡ with_signature s ts))

  pub found : (n : ℕ) → place_spelled (spelling s) ts ≡ Some n → (n ≡ place_of s ts) × (ts ≡ with_signature s ts)
  found n e = subst Answer e (place_is s ts)

  pub missing : place_spelled (spelling s) ts ≡ None → (length ts ≡ place_of s ts) × (ts ++ s ∷ [] ≡ with_signature s ts)
  missing e = subst Answer e (place_is s ts)

-- ---- one more

abbrev or_last : Option ℕ → Option ℕ → Option ℕ
or_last None last = last
or_last (Some n) last = Some n

or_none : (o : Option ℕ) → o ≡ or_last o None
or_none None = refl
or_none (Some n) = refl

place_more : (words : List ℕ) (s : Signature) (ts : List Signature) →
    place_spelled words (ts ++ s ∷ []) ≡ or_last (place_spelled words ts) (if pointwise nat_eq words (spelling s) then Some (length ts) else None)
place_more words s [] = refl
place_more words s (t ∷ ts) =
    ap (λ o. if pointwise nat_eq words (spelling t) then Some 0 else next o) (place_more words s ts) ∙
    by (pointwise nat_eq words (spelling t)) (place_spelled words ts) (pointwise nat_eq words (spelling s))
  where
    by : (b : Bool) (o : Option ℕ) (c : Bool) →
        (if b then Some 0 else next (or_last o (if c then Some (length ts) else None))) ≡
        or_last (if b then Some 0 else next o) (if c then Some (length (t ∷ ts)) else None)
    by true o c = refl
    by false (Some n) c = refl
    by false None true = let e : length ts + 1 ≡ length (t ∷ ts) = omega arith in ap (λ n. Some n) e
    by false None false = refl

pub pushed : (es fs : List (Vec ℕ Global × ℕ)) (key : List ℕ) (place : ℕ) (s : Signature) (ts us : List Signature) → ArePlaces es ts → us ≡ ts ++ s ∷ [] →
    key ≡ spelling s → place ≡ length ts → place_spelled key ts ≡ None →
    ((words : List ℕ) → value_at words fs ≡ (if pointwise nat_eq words key then Some place else value_at words es)) → ArePlaces fs us
pushed es fs key place s ts us kept is spelt at new put = λ words.
    put words ∙
    (by words (pointwise nat_eq words key) refl ∙
    (ap (λ k. or_last (place_spelled words ts) (if pointwise nat_eq words k then Some (length ts) else None)) spelt ∙
    (sym (place_more words s ts) ∙ ap (place_spelled words) (sym is))))
  where
    by : (words : List ℕ) (t : Bool) → pointwise nat_eq words key ≡ t →
        (if t then Some place else value_at words es) ≡ or_last (place_spelled words ts) (if t then Some (length ts) else None)
    by words true e =
        ap (λ n. Some n) at ∙ ap (λ o. or_last o (Some (length ts))) (sym (ap (λ w. place_spelled w ts) (same_text words key (sym e)) ∙ new))
    by words false e = kept words ∙ or_none (place_spelled words ts)
