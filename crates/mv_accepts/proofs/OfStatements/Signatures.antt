-- Signatures that are the same, and their numbers in lists that grow.
use Rattle.std.proofs.Common.{◌≡◌, ℕ, suc, ◌+◌, refl, sym, ◌∙◌, ap, ap₂, Bool, true, false, ◌&&◌, if◌then◌else◌, List, [], ◌∷◌, Some, slice_get, arith}
use Rattle.std.proofs.lemmas.Bool.{and_parts}
use Rattle.mv_ast.specs.declared.program.CType.{CType}
use Rattle.mv_ast.specs.declared.program.Signature.{Signature}
use Rattle.mv_check_scope.specs.Conversions.{same_type, same_types, same_signature}
use Rattle.mv_check_scope.specs.Signatures.{place_of, with_signature}
use Rattle.mv_check_scope.proofs.Types.{type_same}
use Rattle.mv_check_declarations.specs.Declarators.{signature_of}
use Rattle.mv_accepts.specs.Statements.Bodies.{Keeps}
use Rattle.mv_accepts.proofs.OfStatements.Places.{kept_first}
use Rattle.mv_accepts.proofs.OfExpressions.Types.{same_is}

-- ---- signatures that are the same are equal

types_are : (ss ts : List CType) → same_types ss ts ≡ true → ss ≡ ts
types_are [] [] h = refl
types_are [] (t ∷ ts) h = absurd (cc)
types_are (s ∷ ss) [] h = absurd (cc)
types_are (s ∷ ss) (t ∷ ts) h =
    let b = and_parts (same_type s t) (same_types ss ts) h in
    let cons : CType → List CType → List CType = λ x xs. x ∷ xs in
    ap₂ cons (same_is s t b.0) (types_are ss ts b.1)

signature_is : (s t : Signature) → same_signature s t ≡ true → s ≡ t
signature_is s t h =
    let b = and_parts (same_type s.result t.result) (same_types s.params t.params) h in
    ap₂ signature_of (same_is s.result t.result b.0) (types_are s.params t.params b.1)

types_same : (ts : List CType) → same_types ts ts ≡ true
types_same [] = refl
types_same (t ∷ ts) = ap (λ b. b && same_types ts ts) (type_same t) ∙ types_same ts

signature_same : (s : Signature) → same_signature s s ≡ true
signature_same s = ap (λ b. b && same_types s.params s.params) (type_same s.result) ∙ types_same s.params

-- ---- numbers

-- a signature stands at its number
pub signature_at : (s : Signature) (ts : List Signature) → slice_get (with_signature s ts) (place_of s ts) ≡ Some s
signature_at s [] = refl
signature_at s (t ∷ ts) = by (same_signature s t) (λ q. signature_is s t q) (signature_at s ts)
  where
    after : (n : ℕ) → n + 1 ≡ suc n
    after n = omega arith

    by : (b : Bool) → (b ≡ true → s ≡ t) → slice_get (with_signature s ts) (place_of s ts) ≡ Some s →
        slice_get (if b then t ∷ ts else t ∷ with_signature s ts) (if b then 0 else place_of s ts + 1) ≡ Some s
    by true e h = ap (λ x. Some x) (sym (e refl))
    by false e h = ap (slice_get (t ∷ with_signature s ts)) (after (place_of s ts)) ∙ h

-- it has that number in each list that grows from one with it
pub number_kept : (s : Signature) (ts us : List Signature) → Keeps (with_signature s ts) us → place_of s us ≡ place_of s ts
number_kept s [] us k =
    let f = kept_first s [] us k in
    ap (place_of s) f.1 ∙ ap (λ b. if b then 0 else place_of s f.0 + 1) (signature_same s)
number_kept s (t ∷ ts) us k = by (same_signature s t) refl (λ vs h. number_kept s ts vs h) k
  where
    by : (b : Bool) → same_signature s t ≡ b → ((vs : List Signature) → Keeps (with_signature s ts) vs → place_of s vs ≡ place_of s ts) →
        Keeps (if b then t ∷ ts else t ∷ with_signature s ts) us → place_of s us ≡ (if b then 0 else place_of s ts + 1)
    by true e h l = let f = kept_first t ts us l in ap (place_of s) f.1 ∙ ap (λ b. if b then 0 else place_of s f.0 + 1) e
    by false e h l =
        let f = kept_first t (with_signature s ts) us l in
        ap (place_of s) f.1 ∙ (ap (λ b. if b then 0 else place_of s f.0 + 1) e ∙ ap (λ n. n + 1) (h f.0 f.2))
