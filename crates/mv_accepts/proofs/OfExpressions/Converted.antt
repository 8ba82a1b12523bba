-- Conversions that the rules allow are well typed.
use Rattle.std.proofs.Common.{◌≡◌, ℕ, ◌⊎◌, inl, inr, Bool, true, false, ◌&&◌, ◌||◌, refl, sym, ◌∙◌, ap, subst, Option, Some, None, if◌then◌else◌}
use Rattle.std.proofs.lemmas.Bool.{and_parts, or_cases, eqb-true}
use Rattle.mv_ast.specs.declared.program.CType.{CType}
use Rattle.mv_ast.specs.declared.program.CType.TheVariants.{Void, Scalar, Pointer}
use Rattle.mv_ast.specs.declared.program.Program.{Program}
use Rattle.mv_ast.specs.declared.program.Function.{Function}
use Rattle.mv_ast.specs.declared.program.Expr.{Expr}
use Rattle.mv_ast.specs.declared.program.Form.TheVariants as form
use Rattle.mv_check_scope.specs.Conversions.{same_type, is_integer, is_pointer, usual, typed, converted_to}
use Rattle.mv_check_scope.specs.Constants.{is_constant, computed, constant_value, is_zero, is_null, converts}
use Rattle.mv_check_expressions.specs.Found.{common_type}
use Rattle.mv_check_expressions.specs.Rules.{are_integers, meet}
use Rattle.mv_source_forms.specs.Typing.{IsInteger, IsNull, ConvertsTo, IsTypedExpr}
use Rattle.mv_accepts.proofs.OfExpressions.Types.{same_is, integer_is, pointer_is, usual_integer}
use Rattle.mv_accepts.proofs.OfExpressions.Computed.{comes}
use Rattle.mv_accepts.proofs.OfExpressions.Made.{convert_made}

-- ---- what a conversion gives

pub converted_type : (t : CType) (e : Expr) → (converted_to t e).ctype ≡ t
unfolding converted_to
converted_type t e = by (same_type t e.ctype) refl
  where
    by : (b : Bool) → same_type t e.ctype ≡ b → (if b then e else typed t (form.Convert e)).ctype ≡ t
    by true q = sym (same_is t e.ctype q)
    by false q = refl

-- ---- null

zero_is : (b : Bool) (r : Option ℕ) → is_zero (if b then r else None) ≡ true → r ≡ Some 0
zero_is true None h = absurd (cc)
zero_is true (Some n) h = ap Some (eqb-true n 0 h)
zero_is false r h = absurd (cc)

pub null_is : (p : Program) (e : Expr) → is_null e ≡ true → IsNull p e
null_is p e h =
    let s = and_parts (is_integer e.ctype) (is_zero (constant_value e)) h in
    (integer_is e.ctype s.0, comes p e 0 (zero_is (is_constant e) (computed e) s.1))

-- ---- conversions as by assignment

to_scalar : (a b c : Bool) → ((a && true) || (false && (b || c))) ≡ true → a ≡ true
to_scalar true b c h = refl
to_scalar false b c h = absurd (cc)

pub to_pointer : (a b c : Bool) → ((a && false) || (true && (b || c))) ≡ true → (b ≡ true) ⊎ (c ≡ true)
to_pointer true b c h = or_cases b c h
to_pointer false b c h = or_cases b c h

module _ (p : Program) where
  pub converts_is : (e : Expr) (t : CType) → converts e t ≡ true → ConvertsTo p t e
  converts_is e Void h = tt
  converts_is e (Scalar k) h = integer_is e.ctype (to_scalar (is_integer e.ctype) (same_type e.ctype (Scalar k)) (is_null e) h)
  converts_is e (Pointer s) h =
      elim (to_pointer (is_integer e.ctype) (same_type e.ctype (Pointer s)) (is_null e) h) [
        | inl q ↦ inl (same_is e.ctype (Pointer s) q)
        | inr q ↦ inr (null_is p e q)
      ]

  module _ (f : Function) where
    pub converted_typed : (t : CType) (e : Expr) → IsTypedExpr p f e → ConvertsTo p t e → IsTypedExpr p f (converted_to t e)
    unfolding converted_to
    converted_typed t e h k = by (same_type t e.ctype)
      where
        by : (b : Bool) → IsTypedExpr p f (if b then e else typed t (form.Convert e))
        by true = h
        by false = convert_made p f t e h k

  pub integer_converts : (t : CType) (e : Expr) → IsInteger t → IsInteger e.ctype → ConvertsTo p t e
  integer_converts Void e h k = tt
  integer_converts (Scalar kind) e h k = k
  integer_converts (Pointer s) e h k = absurd h

  -- ---- two operands that have a common type

  -- both convert to it, and it is that of integers or of pointers to functions of one signature
  pub record Meets (a b : Expr) : Type 0 where
    pub left : ConvertsTo p (common_type a.ctype b.ctype) a
    pub right : ConvertsTo p (common_type a.ctype b.ctype) b
    pub kind : IsInteger (common_type a.ctype b.ctype) ⊎ ((s : ℕ) × (common_type a.ctype b.ctype ≡ Pointer s))

  integers_meet_at : (a b : Expr) (s t : CType) → a.ctype ≡ s → b.ctype ≡ t → IsInteger s → IsInteger t → Meets a b
  integers_meet_at a b Void t q r h k = absurd h
  integers_meet_at a b (Pointer s) t q r h k = absurd h
  integers_meet_at a b (Scalar s) Void q r h k = absurd k
  integers_meet_at a b (Scalar s) (Pointer t) q r h k = absurd k
  integers_meet_at a b (Scalar s) (Scalar t) q r h k =
      let c : common_type a.ctype b.ctype ≡ usual (Scalar s) (Scalar t) = rw (q, r) refl in
      let i : IsInteger (common_type a.ctype b.ctype) = subst IsInteger (sym c) (usual_integer (Scalar s) (Scalar t)) in
      record {
        left = integer_converts _ a i (subst IsInteger (sym q) tt);
        right = integer_converts _ b i (subst IsInteger (sym r) tt);
        kind = inl i;
      }

  pub integers_meet : (a b : Expr) → are_integers a.ctype b.ctype ≡ true → Meets a b
  integers_meet a b h =
      let s = and_parts (is_integer a.ctype) (is_integer b.ctype) h in
      integers_meet_at a b a.ctype b.ctype refl refl (integer_is a.ctype s.0) (integer_is b.ctype s.1)

  left_pointer : (a b : Expr) → is_pointer a.ctype ≡ true → converts b a.ctype ≡ true → Meets a b
  left_pointer a b h k =
      let s = pointer_is a.ctype h in
      let c : common_type a.ctype b.ctype ≡ Pointer s.0 = ap (λ z. common_type z b.ctype) s.1 in
      record {
        left = subst (λ t. ConvertsTo p t a) (sym c) (inl s.1);
        right = subst (λ t. ConvertsTo p t b) (s.1 ∙ sym c) (converts_is b a.ctype k);
        kind = inr (s.0, c);
      }

  right_pointer : (a b : Expr) (c : Bool) → is_pointer a.ctype ≡ c → is_pointer b.ctype ≡ true → converts a b.ctype ≡ true → Meets a b
  right_pointer a b true q h k =
      let s = pointer_is a.ctype q in
      let t = pointer_is b.ctype h in
      let c : common_type a.ctype b.ctype ≡ Pointer s.0 = ap (λ z. common_type z b.ctype) s.1 in
      let same : (a.ctype ≡ Pointer t.0) ⊎ IsNull p a = subst (λ z. ConvertsTo p z a) t.1 (converts_is a b.ctype k) in
      elim same [
        | inl e ↦ record {
          left = subst (λ z. ConvertsTo p z a) (sym c) (inl s.1);
          right = subst (λ z. ConvertsTo p z b) (sym c) (inl (t.1 ∙ (sym e ∙ s.1)));
          kind = inr (s.0, c);
        }
        | inr n ↦ absurd (subst IsInteger s.1 n.0)
      ]
  right_pointer a b false q h k =
      let s = pointer_is b.ctype h in
      let c : common_type a.ctype b.ctype ≡ Pointer s.0 = ap (λ x. if x then a.ctype else if is_pointer b.ctype then b.ctype else usual a.ctype b.ctype) q ∙
      ap (λ z. if is_pointer z then z else usual a.ctype z) s.1 in
      record {
        left = subst (λ t. ConvertsTo p t a) (s.1 ∙ sym c) (converts_is a b.ctype k);
        right = subst (λ t. ConvertsTo p t b) (sym c) (inl s.1);
        kind = inr (s.0, c);
      }

  pub meet_is : (a b : Expr) → meet a b ≡ true → Meets a b
  unfolding meet
  meet_is a b h =
      elim (or_cases (are_integers a.ctype b.ctype || (is_pointer a.ctype && converts b a.ctype)) (is_pointer b.ctype && converts a b.ctype) h) [
        | inl q ↦ elim (or_cases (are_integers a.ctype b.ctype) (is_pointer a.ctype && converts b a.ctype) q) [
          | inl r ↦ integers_meet a b r
          | inr r ↦ let s = and_parts (is_pointer a.ctype) (converts b a.ctype) r in left_pointer a b s.0 s.1
        ]
        | inr q ↦ let s = and_parts (is_pointer b.ctype) (converts a b.ctype) q in right_pointer a b (is_pointer a.ctype) refl s.0 s.1
      ]
