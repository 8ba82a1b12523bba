-- What decides the meaning of a name tells what the name means, and how declarations and blocks change it.
use Rattle.std.proofs.Common.{◌≡◌, ℕ, ◌+◌, ◌<◌, ◌∙◌, refl, sym, ap, ap₂, subst, Bool, true, false, if◌then◌else◌, nat_eq, length, List, [], ◌∷◌, ◌++◌, Option, Some, None, IfSome, IsSome, arith, zero-add, eq-eqb}
use Rattle.std.specs.Cmp.Lexicographic.{pointwise, same_text}
use Rattle.std.proofs.lemmas.Cmp.{nat_list_eq_equiv}
use Rattle.std.proofs.lemmas.Bool.Decides.{nat_tests}
use Rattle.mv_check_scope.specs.declared.meaning.Meaning.{Meaning}
use Rattle.mv_check_scope.specs.declared.step.Binding.{Binding}
use Rattle.mv_check_scope.specs.Names.{Names, Space}
use Rattle.mv_check_scope.specs.Spaces.{named, or_else, meaning_in}
use Rattle.mv_check_scope.specs.Scopes.{sought, with_name, entered}
use Rattle.mv_check_scope.specs.Bindings.{at_depth, or_outer, binding_in, binding}

-- ---- what a name means

abbrev pub said : Option Binding → Option Meaning
said None = None
said (Some b) = Some b.meaning

said_or : (a b : Option Binding) → said (or_outer a b) ≡ or_else (said a) (said b)
said_or None b = refl
said_or (Some a) b = refl

said_at : (depth : ℕ) (o : Option Meaning) → said (at_depth depth o) ≡ o
said_at depth None = refl
said_at depth (Some m) = refl

said_in : (depth : ℕ) (bs : List Names) (n : List ℕ) → said (binding_in depth bs n) ≡ meaning_in bs n
said_in depth [] n = refl
said_in depth (b ∷ inner) n =
    said_or (binding_in (depth + 1) inner n) (at_depth depth (named n b)) ∙ ap₂ or_else (said_in (depth + 1) inner n) (said_at depth (named n b))

pub is_meaning : (s : Space) (n : List ℕ) → said (binding s n) ≡ sought s n
is_meaning s n =
    said_or (at_depth (length s.around) (named n s.here)) (binding_in 0 s.around n) ∙
    ap₂ or_else (said_at (length s.around) (named n s.here)) (said_in 0 s.around n)

abbrev pub said_at_depth : ℕ → Option Binding → Option Meaning
said_at_depth depth None = None
said_at_depth depth (Some b) = if nat_eq b.depth depth then Some b.meaning else None

below : (depth : ℕ) (bs : List Names) (n : List ℕ) → IfSome (binding_in depth bs n) (λ b. b.depth < depth + length bs)
below depth [] n = tt
below depth (b ∷ inner) n = by (binding_in (depth + 1) inner n) (named n b) (below (depth + 1) inner n)
  where
    by : (o : Option Binding) (p : Option Meaning) → IfSome o (λ c. c.depth < (depth + 1) + length inner) →
        IfSome (or_outer o (at_depth depth p)) (λ c. c.depth < depth + length (b ∷ inner))
    by (Some c) p h = omega (arith, h)
    by None (Some m) h = omega arith
    by None None h = tt

pub is_here : (s : Space) (n : List ℕ) → said_at_depth (length s.around) (binding s n) ≡ named n s.here
is_here s n = by (length s.around) (named n s.here) (binding_in 0 s.around n) (below 0 s.around n)
  where
    by : (d : ℕ) (p : Option Meaning) (o : Option Binding) → IfSome o (λ c. c.depth < 0 + d) → said_at_depth d (or_outer (at_depth d p) o) ≡ p
    by d (Some m) o h = grind (arith, nat_tests)
    by d None (Some c) h = grind (arith, nat_tests, h)
    by d None None h = refl

pub found_here : (s : Space) (n : List ℕ) (b : Binding) → b.depth ≡ length s.around → Some b ≡ binding s n → Some b.meaning ≡ named n s.here
found_here s n b at is =
    ap (λ (t : Bool). if t then Some b.meaning else None) (sym (eq-eqb b.depth (length s.around) at)) ∙
    (ap (said_at_depth (length s.around)) is ∙ is_here s n)

-- ---- a declaration

pub named_last : (n : List ℕ) (xs : Names) (y : List ℕ × Meaning) → named n (xs ++ y ∷ []) ≡ or_else (named n xs) (named n (y ∷ []))
named_last n [] y = refl
named_last n (x ∷ xs) y = by (pointwise nat_eq n x.0) (named_last n xs y)
  where
    by : (b : Bool) → named n (xs ++ y ∷ []) ≡ or_else (named n xs) (named n (y ∷ [])) →
        (if b then Some x.1 else named n (xs ++ y ∷ [])) ≡ or_else (if b then Some x.1 else named n xs) (named n (y ∷ []))
    by true q = refl
    by false q = q

pub names_kept : (n : List ℕ) (xs : Names) (y : List ℕ × Meaning) (m : Meaning) → named n xs ≡ Some m → named n (xs ++ y ∷ []) ≡ Some m
names_kept n xs y m h = named_last n xs y ∙ ap (λ o. or_else o (named n (y ∷ []))) h

or_none : (o : Option Meaning) → or_else o None ≡ o
or_none None = refl
or_none (Some m) = refl

module _ (s : Space) (name : List ℕ) (m : Meaning) where
  abbrev outer : List ℕ → Option Binding
  outer n = binding_in 0 s.around n

  abbrev with : List ℕ → Option Meaning → Option Binding
  with n o = or_outer (at_depth (length s.around) (or_else (named n s.here) o)) (outer n)

  one_more : (n : List ℕ) → binding (with_name s name m) n ≡ with n (if pointwise nat_eq n name then Some m else None)
  one_more n = ap (λ o. or_outer (at_depth (length s.around) o) (outer n)) (named_last n s.here (name, m))

  pub others_stay : (n : List ℕ) → pointwise nat_eq n name ≡ false → binding (with_name s name m) n ≡ binding s n
  others_stay n apart =
      one_more n ∙
      (ap (λ (b : Bool). with n (if b then Some m else None)) apart ∙
      ap (λ o. or_outer (at_depth (length s.around) o) (outer n)) (or_none (named n s.here)))

  pub is_bound : IsSome (binding (with_name s name m) name)
  is_bound =
      subst (λ o. IsSome o)
      (sym (one_more name ∙ ap (λ (b : Bool). with name (if b then Some m else None)) (nat_list_eq_equiv.refl name)))
      (by (named name s.here) (outer name))
    where
      by : (o : Option Meaning) (p : Option Binding) → IsSome (or_outer (at_depth (length s.around) (or_else o (Some m))) p)
      by None p = refl
      by (Some x) p = refl

  pub declared_here : named name s.here ≡ None → (n : List ℕ) →
      binding (with_name s name m) n ≡ (if pointwise nat_eq n name then Some (record { depth = length s.around; meaning = m }) else binding s n)
  declared_here fresh n = by (pointwise nat_eq n name) refl
    where
      by : (b : Bool) → pointwise nat_eq n name ≡ b →
          binding (with_name s name m) n ≡ (if b then Some (record { depth = length s.around; meaning = m }) else binding s n)
      by true e =
          one_more n ∙
          (ap (λ (b : Bool). with n (if b then Some m else None)) e ∙
          ap (λ o. or_outer (at_depth (length s.around) (or_else o (Some m))) (outer n)) (ap (λ k. named k s.here) (same_text n name (sym e)) ∙ fresh))
      by false e = others_stay n e

-- ---- a block is entered

or_outer_or : (a b c : Option Binding) → or_outer (or_outer a b) c ≡ or_outer a (or_outer b c)
or_outer_or None b c = refl
or_outer_or (Some a) b c = refl

or_outer_none : (a : Option Binding) → a ≡ or_outer a None
or_outer_none None = refl
or_outer_none (Some a) = refl

in_last : (depth : ℕ) (bs : List Names) (b : Names) (n : List ℕ) →
    binding_in depth (bs ++ b ∷ []) n ≡ or_outer (at_depth (depth + length bs) (named n b)) (binding_in depth bs n)
in_last depth [] b n =
    let at : depth ≡ depth + length {A = Names} [] = omega arith in
    ap (λ d. at_depth d (named n b)) at ∙ or_outer_none (at_depth (depth + length {A = Names} []) (named n b))
in_last depth (x ∷ xs) b n =
    let at : (depth + 1) + length xs ≡ depth + length (x ∷ xs) = omega arith in
    ap (λ o. or_outer o (at_depth depth (named n x))) (in_last (depth + 1) xs b n) ∙
    (or_outer_or (at_depth ((depth + 1) + length xs) (named n b)) (binding_in (depth + 1) xs n) (at_depth depth (named n x)) ∙
    ap (λ d. or_outer (at_depth d (named n b)) (binding_in depth (x ∷ xs) n)) at)

pub entering : (s : Space) (n : List ℕ) → binding (entered s) n ≡ binding s n
entering s n =
    in_last 0 s.around s.here n ∙ ap (λ d. or_outer (at_depth d (named n s.here)) (binding_in 0 s.around n)) (zero-add (length s.around))
