-- Values and objects that differ in the numbers of functions alone.
use Rattle.std.proofs.Common.{◌≡◌, ℕ, zero, suc, ◌<◌, ◌⊎◌, inl, inr, List, [], ◌∷◌, length, replicate, get_or, refl, sym, ◌∙◌, ap, subst, arith, Some, nat_eq, slice_get}
use Rattle.std.specs.Prelude.{slice_index, slice_set, unwrap_or}
use Rattle.std.proofs.lemmas.Option.{slice_get_within}
use Rattle.mv_ast.specs.declared.program.CType.{CType}
use Rattle.mv_ast.specs.declared.program.CType.TheVariants.{Void, Scalar, Pointer}
use Rattle.mv_ast.specs.declared.program.Program.{Program}
use Rattle.mv_ast.specs.Switches.{words_or_none, word_at, with_word}
use Rattle.mv_source_forms.specs.Typing.{IsInteger, IsFunctionOf, IsTyped}
use Rattle.mv_meaning_numbering.proofs.Numbers.{Distinguishes, number_above, number_once}
use Rattle.mv_num.proofs.Booleans.{same_bools}

-- a well-typed program, and its two numberings
pub record Setting : Type 0 where
  pub program : Program
  pub ns : List ℕ
  pub ms : List ℕ
  pub left : Distinguishes program ns
  pub right : Distinguishes program ms
  pub typed : IsTyped program

module _ (x : Setting) where
  -- two nulls, or the numbers of one function
  abbrev pub SamePointer : ℕ → ℕ → ℕ → Type 0
  SamePointer s v u =
      ((v ≡ 0) × (u ≡ 0)) ⊎ ((f : ℕ) × IsFunctionOf x.program s f × (v ≡ slice_index x.ns f) × (u ≡ slice_index x.ms f))

  abbrev pub Same : CType → ℕ → ℕ → Type 0
  Same Void v u = v ≡ u
  Same (Scalar kind) v u = v ≡ u
  Same (Pointer s) v u = SamePointer s v u

  -- the words of one object
  abbrev pub SameWords : CType → List ℕ → List ℕ → Type 0
  SameWords t [] [] = Unit {0}
  SameWords t [] (u ∷ us) = ⊥
  SameWords t (v ∷ vs) [] = ⊥
  SameWords t (v ∷ vs) (u ∷ us) = Same t v u × SameWords t vs us

  -- objects of some types
  abbrev pub SameObjects : List CType → List (List ℕ) → List (List ℕ) → Type 0
  SameObjects [] [] [] = Unit {0}
  SameObjects (t ∷ ts) (o ∷ os) (q ∷ qs) = SameWords t o q × SameObjects ts os qs
  SameObjects _ _ _ = ⊥

  -- values of some types
  abbrev pub SameValues : List CType → List ℕ → List ℕ → Type 0
  SameValues [] [] [] = Unit {0}
  SameValues (t ∷ ts) (v ∷ vs) (u ∷ us) = Same t v u × SameValues ts vs us
  SameValues _ _ _ = ⊥

  -- ---- values

  pub same_null : (t : CType) → Same t 0 0
  same_null Void = refl
  same_null (Scalar kind) = refl
  same_null (Pointer s) = inl (refl, refl)

  pub same_integer : (t : CType) (v u : ℕ) → IsInteger t → Same t v u → v ≡ u
  same_integer Void v u i h = h
  same_integer (Scalar kind) v u i h = h
  same_integer (Pointer s) v u i h = absurd i

  pub integer_same : (t : CType) (v u : ℕ) → IsInteger t → v ≡ u → Same t v u
  integer_same Void v u i h = h
  integer_same (Scalar kind) v u i h = h
  integer_same (Pointer s) v u i h = absurd i

  there : (s f : ℕ) → IsFunctionOf x.program s f → f < length x.program.functions
  there s f h = slice_get_within x.program.functions f h.function h.defined

  pointers_test : (s v u : ℕ) → SamePointer s v u → nat_eq v 0 ≡ nat_eq u 0
  pointers_test s v u (inl h) = grind (arith, h.0, h.1)
  pointers_test s v u (inr h) =
      let a = number_above x.program x.ns x.left h.0 (there s h.0 h.1) in
      let b = number_above x.program x.ms x.right h.0 (there s h.0 h.1) in
      grind (arith, h.2, h.3, a, b)

  -- a test against zero
  pub same_test : (t : CType) (v u : ℕ) → Same t v u → nat_eq v 0 ≡ nat_eq u 0
  same_test Void v u h = ap (λ n. nat_eq n 0) h
  same_test (Scalar kind) v u h = ap (λ n. nat_eq n 0) h
  same_test (Pointer s) v u h = pointers_test s v u h

  -- a comparison of two function pointers of one type
  pub pointers_compare : (s v u y z : ℕ) → SamePointer s v u → SamePointer s y z → nat_eq v y ≡ nat_eq u z
  pointers_compare s v u y z (inl h) (inl k) = grind (arith, h.0, h.1, k.0, k.1)
  pointers_compare s v u y z (inl h) (inr k) =
      let a = number_above x.program x.ns x.left k.0 (there s k.0 k.1) in
      let b = number_above x.program x.ms x.right k.0 (there s k.0 k.1) in
      grind (arith, h.0, h.1, k.2, k.3, a, b)
  pointers_compare s v u y z (inr h) (inl k) =
      let a = number_above x.program x.ns x.left h.0 (there s h.0 h.1) in
      let b = number_above x.program x.ms x.right h.0 (there s h.0 h.1) in
      grind (arith, k.0, k.1, h.2, h.3, a, b)
  pointers_compare s v u y z (inr h) (inr k) =
      same_bools (nat_eq v y) (nat_eq u z)
      (λ e.
      let one : h.0 ≡ k.0 =
      number_once x.program x.ns x.left h.0 k.0 (there s h.0 h.1) (there s k.0 k.1) (sym h.2 ∙ ((grind (arith, e)) ∙ k.2)) in
      let same : u ≡ z = h.3 ∙ (ap (λ n. get_or x.ms n 0) one ∙ sym k.3) in
      grind (arith, same))
      (λ e.
      let one : h.0 ≡ k.0 =
      number_once x.program x.ms x.right h.0 k.0 (there s h.0 h.1) (there s k.0 k.1) (sym h.3 ∙ ((grind (arith, e)) ∙ k.3)) in
      let same : v ≡ y = h.2 ∙ (ap (λ n. get_or x.ns n 0) one ∙ sym k.2) in
      grind (arith, same))

  -- ---- objects

  pub words_length : (t : CType) (vs us : List ℕ) → SameWords t vs us → length vs ≡ length us
  words_length t [] [] h = refl
  words_length t [] (u ∷ us) h = absurd h
  words_length t (v ∷ vs) [] h = absurd h
  words_length t (v ∷ vs) (u ∷ us) h = ap suc (words_length t vs us h.1)

  pub words_get : (t : CType) (vs us : List ℕ) (i : ℕ) → SameWords t vs us → Same t (unwrap_or (slice_get vs i) 0) (unwrap_or (slice_get us i) 0)
  words_get t [] [] i h = same_null t
  words_get t [] (u ∷ us) i h = absurd h
  words_get t (v ∷ vs) [] i h = absurd h
  words_get t (v ∷ vs) (u ∷ us) zero h = h.0
  words_get t (v ∷ vs) (u ∷ us) (suc i) h = words_get t vs us i h.1

  pub words_set : (t : CType) (vs us : List ℕ) (i v u : ℕ) → SameWords t vs us → Same t v u → SameWords t (slice_set vs i v) (slice_set us i u)
  words_set t [] [] i v u h k = tt
  words_set t [] (b ∷ us) i v u h k = absurd h
  words_set t (a ∷ vs) [] i v u h k = absurd h
  words_set t (a ∷ vs) (b ∷ us) zero v u h k = (k, h.1)
  words_set t (a ∷ vs) (b ∷ us) (suc i) v u h k = (h.0, words_set t vs us i v u h.1 k)

  pub words_null : (t : CType) (n : ℕ) → SameWords t (replicate n 0) (replicate n 0)
  words_null t zero = tt
  words_null t (suc n) = (same_null t, words_null t n)

  -- the object with an index
  pub object_at : (ts : List CType) (os qs : List (List ℕ)) (l : ℕ) (t : CType) → SameObjects ts os qs → slice_get ts l ≡ Some t →
      SameWords t (words_or_none (slice_get os l)) (words_or_none (slice_get qs l))
  object_at [] [] [] l t h e = absurd (cc)
  object_at [] [] (q ∷ qs) l t h e = absurd h
  object_at [] (o ∷ os) qs l t h e = absurd h
  object_at (t' ∷ ts) [] qs l t h e = absurd h
  object_at (t' ∷ ts) (o ∷ os) [] l t h e = absurd h
  object_at (t' ∷ ts) (o ∷ os) (q ∷ qs) zero t h e =
      let f : t' ≡ t = cc in subst (λ a. SameWords a o q) f h.0
  object_at (t' ∷ ts) (o ∷ os) (q ∷ qs) (suc l) t h e = object_at ts os qs l t h.1 e

  pub objects_set : (ts : List CType) (os qs : List (List ℕ)) (l : ℕ) (t : CType) (vs us : List ℕ) → SameObjects ts os qs →
      slice_get ts l ≡ Some t → SameWords t vs us → SameObjects ts (slice_set os l vs) (slice_set qs l us)
  objects_set [] [] [] l t vs us h e k = tt
  objects_set [] [] (q ∷ qs) l t vs us h e k = absurd h
  objects_set [] (o ∷ os) qs l t vs us h e k = absurd h
  objects_set (t' ∷ ts) [] qs l t vs us h e k = absurd h
  objects_set (t' ∷ ts) (o ∷ os) [] l t vs us h e k = absurd h
  objects_set (t' ∷ ts) (o ∷ os) (q ∷ qs) zero t vs us h e k =
      let f : t ≡ t' = cc in (subst (λ a. SameWords a vs us) f k, h.1)
  objects_set (t' ∷ ts) (o ∷ os) (q ∷ qs) (suc l) t vs us h e k = (h.0, objects_set ts os qs l t vs us h.1 e k)

  module _ (ts : List CType) (os qs : List (List ℕ)) (l : ℕ) (t : CType) (same : SameObjects ts os qs) (typed : slice_get ts l ≡ Some t) where
    pub word_alike : (i : ℕ) → Same t (word_at os l i) (word_at qs l i)
    word_alike i = words_get t (words_or_none (slice_get os l)) (words_or_none (slice_get qs l)) i (object_at ts os qs l t same typed)

    pub store_alike : (i v u : ℕ) → Same t v u → SameObjects ts (with_word os l i v) (with_word qs l i u)
    store_alike i v u k =
        objects_set ts os qs l t _ _ same typed
        (words_set t (words_or_none (slice_get os l)) (words_or_none (slice_get qs l)) i v u (object_at ts os qs l t same typed) k)

    pub size_alike : length (words_or_none (slice_get os l)) ≡ length (words_or_none (slice_get qs l))
    size_alike = words_length t _ _ (object_at ts os qs l t same typed)
