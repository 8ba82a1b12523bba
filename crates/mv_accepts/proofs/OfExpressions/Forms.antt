-- What a form is found to be is well typed where its parts are and it keeps the rules: operators, assignments, objects.
use Rattle.std.proofs.Common.{◌≡◌, ℕ, ◌⊎◌, inl, inr, Bool, true, false, ◌&&◌, ◌||◌, refl, sym, ◌∙◌, ap, subst, Option, Some, nat_eq, if◌then◌else◌, List}
use Rattle.std.proofs.lemmas.Bool.{and_parts, or_cases, eqb-true}
use Rattle.mv_ast.specs.declared.program.CType.{CType}
use Rattle.mv_ast.specs.declared.program.CType.TheVariants.{Void, Scalar, Pointer}
use Rattle.mv_ast.specs.declared.program.Program.{Program}
use Rattle.mv_ast.specs.declared.program.Function.{Function}
use Rattle.mv_ast.specs.declared.program.Signature.{Signature}
use Rattle.mv_ast.specs.declared.program.Expr.{Expr}
use Rattle.mv_ast.specs.declared.program.Form.TheVariants as form
use Rattle.mv_ast.specs.declared.program.Target.{out-Target}
use Rattle.mv_ast.specs.declared.program.Target.TheVariants.{outs-Global, outs-Local, outs-GlobalAt, outs-LocalAt}
use Rattle.mv_check_scope.specs.declared.meaning.Storage.{Storage}
use Rattle.mv_check_scope.specs.declared.meaning.Storage.TheVariants as storage
use Rattle.mv_check_scope.specs.declared.meaning.Elements.{Elements}
use Rattle.mv_check_scope.specs.Conversions.{is_integer, is_pointer, promotion, promoted, usual, int, typed, converted_to}
use Rattle.mv_check_expressions.specs.declared.seen.Object.{Object}
use Rattle.mv_check_expressions.specs.declared.seen.Seen.{Seen}
use Rattle.mv_check_expressions.specs.declared.seen.Seen.TheVariants as seen
use Rattle.mv_check_expressions.specs.Seen.{value_of, no_value, object_at, element_at, number_or_zero}
use Rattle.mv_check_expressions.specs.Found.{is_shift, is_equality, is_comparison, is_both, is_either, common_type, left_type, right_type, result_type, computed_of, unary_of, binary_of, choose_of, change_of}
use Rattle.mv_check_expressions.specs.Rules.{are_integers, is_scalar, meet, takes_one, takes_two}
use Rattle.mv_source_forms.specs.Typing.{IsInteger, ConvertsTo, LvalueHasType, IsFunctionOf, IsTypedExpr, TakesTwo}
use Rattle.mv_accepts.specs.Expressions.Soundness.{IsListed, IsStored}
use Rattle.mv_accepts.proofs.OfExpressions.Types.{integer_is, promotion_integer, usual_integer}
use Rattle.mv_accepts.proofs.OfExpressions.Converted.{converted_type, converted_typed, integer_converts, Meets, meet_is}
use Rattle.mv_accepts.proofs.OfExpressions.Made.{unary_made, number_made, function_made, read_made, binary_made, both_made, either_made, choose_made, set_made, change_made, after_made, global_made, local_made, global_at_made, local_at_made}
use Rattle.mv_source_forms.proofs.TypedParts.{TypedTarget}

module _ (p : Program) (f : Function) (signatures : List Signature) where
  abbrev pub Typed : Expr → Type 0
  Typed = IsTypedExpr p f

  -- a well-typed expression whose type is listed
  abbrev pub IsGood : Expr → Type 0
  IsGood e = Typed e × IsListed signatures e.ctype

  -- a scalar object that the program has
  abbrev pub IsGoodObject : Object → Type 0
  IsGoodObject o = TypedTarget p f o.target × LvalueHasType p f o.ctype (out-Target o.target) × IsListed signatures o.ctype

  abbrev pub IsGoodSeen : Seen → Type 0
  IsGoodSeen (seen.Value e) = IsGood e
  IsGoodSeen (seen.Object o) = IsGoodObject o
  IsGoodSeen (seen.Array a) = IsStored p f a.storage a.ctype × IsListed signatures a.ctype
  IsGoodSeen (seen.Function r) = (g : ℕ) × (r.number ≡ Some g) × IsFunctionOf p r.signature g × IsListed signatures (Pointer r.signature)
  IsGoodSeen (seen.Designator e) = IsGood e
  IsGoodSeen (seen.Known known) = Unit {0}
  IsGoodSeen (seen.Switch s) = Unit {0}

  pub integer_listed : (t : CType) → IsInteger t → IsListed signatures t
  integer_listed Void h = tt
  integer_listed (Scalar k) h = tt
  integer_listed (Pointer s) h = absurd h

  pub nothing_good : IsGood no_value
  nothing_good = (number_made p f Void 0 tt, tt)

  pub value_good : (x : Seen) → IsGoodSeen x → IsGood (value_of x)
  value_good (seen.Value e) h = h
  value_good (seen.Object o) h = (read_made p f o.ctype o.target h.0 h.1, h.2)
  value_good (seen.Array a) h = nothing_good
  value_good (seen.Function r) h =
      (function_made p f (Pointer r.signature) (number_or_zero r.number) (r.signature, refl, subst (IsFunctionOf p r.signature) (sym (ap number_or_zero h.1)) h.2), h.3)
  value_good (seen.Designator e) h = h
  value_good (seen.Known known) h = nothing_good
  value_good (seen.Switch s) h = nothing_good

  -- ---- conversions

  pub promoted_typed : (e : Expr) → Typed e → IsInteger e.ctype → Typed (promoted e)
  promoted_typed e h k =
      converted_typed p f (promotion e.ctype) e h (integer_converts p (promotion e.ctype) e (promotion_integer e.ctype k) k)

  promoted_integer : (e : Expr) → IsInteger e.ctype → IsInteger (promoted e).ctype
  promoted_integer e k = subst IsInteger (sym (converted_type (promotion e.ctype) e)) (promotion_integer e.ctype k)

  -- ---- objects

  object_good : (s : Storage) (t : CType) → IsStored p f s t → TypedTarget p f (object_at s) × LvalueHasType p f t (out-Target (object_at s))
  object_good (storage.Global g) t h = (global_made p f g, subst (LvalueHasType p f t) (sym (outs-Global g)) h)
  object_good (storage.Local l) t h = (local_made p f l, subst (LvalueHasType p f t) (sym (outs-Local l)) h)

  pub variable_good : (s : Storage) (t : CType) (fixed : Bool) (switch : Option ℕ) → IsStored p f s t → IsListed signatures t →
      IsGoodObject (record { target = object_at s; ctype = t; fixed = fixed; switch = switch })
  variable_good s t fixed switch h k = let o = object_good s t h in (o.0, o.1, k)

  element_target : (s : Storage) (t : CType) (i : Expr) → IsStored p f s t → Typed i → IsInteger i.ctype →
      TypedTarget p f (element_at s i) × LvalueHasType p f t (out-Target (element_at s i))
  element_target (storage.Global g) t i h k n = (global_at_made p f g i k, subst (LvalueHasType p f t) (sym (outs-GlobalAt g i)) (h, n))
  element_target (storage.Local l) t i h k n = (local_at_made p f l i k, subst (LvalueHasType p f t) (sym (outs-LocalAt l i)) (h, n))

  pub element_good : (a : Elements) (i : Expr) (switch : Option ℕ) → IsStored p f a.storage a.ctype → IsListed signatures a.ctype → Typed i → IsInteger i.ctype →
      IsGoodObject (record { target = element_at a.storage (promoted i); ctype = a.ctype; fixed = a.fixed; switch = switch })
  element_good a i switch h l k n =
      let o = element_target a.storage a.ctype (promoted i) h (promoted_typed i k n) (promoted_integer i n) in (o.0, o.1, l)

  -- ---- one operand

  pub unary_good : (op : ℕ) (a : Expr) → Typed a → takes_one op a.ctype ≡ true → IsGood (unary_of op a)
  unfolding unary_of takes_one
  unary_good op a h k = by (nat_eq op 11) refl k
    where
      integer : (b : Bool) → (b || (false && is_pointer a.ctype)) ≡ true → b ≡ true
      integer true q = refl
      integer false q = absurd (cc)

      by : (b : Bool) → nat_eq op 11 ≡ b → (is_integer a.ctype || (b && is_pointer a.ctype)) ≡ true →
          IsGood (if b then typed int (form.Unary op a) else typed (promotion a.ctype) (form.Unary op (promoted a)))
      by true q g = (unary_made p f int op a h (tt, inr (eqb-true op 11 q)), tt)
      by false q g =
          let n = integer_is a.ctype (integer (is_integer a.ctype) g) in (
            unary_made p f (promotion a.ctype) op (promoted a) (promoted_typed a h n) (promotion_integer a.ctype n, inl (promoted_integer a n)),
            integer_listed (promotion a.ctype) (promotion_integer a.ctype n),
          )

  -- ---- two operands

  two_integers : (op : ℕ) (s t : CType) (a b : Expr) → IsInteger s → IsInteger t → Typed a → Typed b → IsInteger a.ctype → IsInteger b.ctype →
      (r : CType) → IsInteger r → IsGood (typed r (form.Binary op (converted_to s a) (converted_to t b)))
  two_integers op s t a b i j h k m n r q = (
    binary_made p f r op (converted_to s a) (converted_to t b)
        (converted_typed p f s a h (integer_converts p s a i m)) (converted_typed p f t b k (integer_converts p t b j n))
        (q, inl (subst IsInteger (sym (converted_type s a)) i, subst IsInteger (sym (converted_type t b)) j)),
    integer_listed r q,
  )

  result_integer : (op : ℕ) (t : CType) → IsInteger t → IsInteger (result_type op t)
  result_integer op t h = by (is_comparison op)
    where
      by : (b : Bool) → IsInteger (if b then int else t)
      by true = tt
      by false = h

  common_integer : (s t : CType) → IsInteger s → IsInteger t → IsInteger (common_type s t)
  common_integer Void t h k = absurd h
  common_integer (Pointer s) t h k = absurd h
  common_integer (Scalar s) Void h k = absurd k
  common_integer (Scalar s) (Pointer t) h k = absurd k
  common_integer (Scalar s) (Scalar t) h k = usual_integer (Scalar s) (Scalar t)

  pub left_integer : (op : ℕ) (s t : CType) → IsInteger s → IsInteger t → IsInteger (left_type op s t)
  left_integer op s t h k = by (is_shift op)
    where
      by : (b : Bool) → IsInteger (if b then promotion s else common_type s t)
      by true = promotion_integer s h
      by false = common_integer s t h k

  pub right_integer : (op : ℕ) (s t : CType) → IsInteger s → IsInteger t → IsInteger (right_type op s t)
  right_integer op s t h k = by (is_shift op)
    where
      by : (b : Bool) → IsInteger (if b then promotion t else common_type s t)
      by true = promotion_integer t k
      by false = common_integer s t h k

  integers_good : (op : ℕ) (a b : Expr) → Typed a → Typed b → IsInteger a.ctype → IsInteger b.ctype →
      IsGood (computed_of op (left_type op a.ctype b.ctype) (right_type op a.ctype b.ctype) a b)
  integers_good op a b h k m n =
      let i = left_integer op a.ctype b.ctype m n in
      two_integers op (left_type op a.ctype b.ctype) (right_type op a.ctype b.ctype) a b i (right_integer op a.ctype b.ctype m n) h k m n (result_type op (left_type op a.ctype b.ctype)) (result_integer op (left_type op a.ctype b.ctype) i)

  -- `==` and `!=`
  equality_is : (op : ℕ) → is_equality op ≡ true → (op ≡ 29) ⊎ (op ≡ 30)
  equality_is op h = elim (or_cases (nat_eq op 29) (nat_eq op 30) h) [ inl q ↦ inl (eqb-true op 29 q) | inr q ↦ inr (eqb-true op 30 q) ]

  meeting : (op : ℕ) (a b : Expr) (t : CType) → Typed a → Typed b → ConvertsTo p t a → ConvertsTo p t b → (IsInteger t ⊎ ((s : ℕ) × (t ≡ Pointer s))) →
      (op ≡ 29) ⊎ (op ≡ 30) → IsGood (typed int (form.Binary op (converted_to t a) (converted_to t b)))
  meeting op a b t h k i j kind e =
      (binary_made p f int op (converted_to t a) (converted_to t b) (converted_typed p f t a h i) (converted_typed p f t b k j) (tt, takes kind), tt)
    where
      takes : (IsInteger t ⊎ ((s : ℕ) × (t ≡ Pointer s))) → TakesTwo op (converted_to t a).ctype (converted_to t b).ctype
      takes (inl q) = inl (subst IsInteger (sym (converted_type t a)) q, subst IsInteger (sym (converted_type t b)) q)
      takes (inr q) = inr (e, q.0, converted_type t a ∙ q.1, converted_type t b ∙ q.1)

  equality_good : (op : ℕ) (a b : Expr) → (op ≡ 29) ⊎ (op ≡ 30) → Typed a → Typed b → Meets p a b →
      IsGood (computed_of op (left_type op a.ctype b.ctype) (right_type op a.ctype b.ctype) a b)
  equality_good op a b e h k m =
      let P : ℕ → Type 0 = λ o. IsGood (computed_of o (left_type o a.ctype b.ctype) (right_type o a.ctype b.ctype) a b) in
      elim e [
        | inl q ↦ subst P (sym q) (meeting 29 a b (common_type a.ctype b.ctype) h k m.left m.right m.kind (inl refl))
        | inr q ↦ subst P (sym q) (meeting 30 a b (common_type a.ctype b.ctype) h k m.left m.right m.kind (inr refl))
      ]

  pub computed_good : (op : ℕ) (a b : Expr) → Typed a → Typed b → (are_integers a.ctype b.ctype || (is_equality op && meet a b)) ≡ true →
      IsGood (computed_of op (left_type op a.ctype b.ctype) (right_type op a.ctype b.ctype) a b)
  computed_good op a b h k q =
      elim (or_cases (are_integers a.ctype b.ctype) (is_equality op && meet a b) q) [
        | inl r ↦ let s = and_parts (is_integer a.ctype) (is_integer b.ctype) r in integers_good op a b h k (integer_is a.ctype s.0) (integer_is b.ctype s.1)
        | inr r ↦ let s = and_parts (is_equality op) (meet a b) r in equality_good op a b (equality_is op s.0) h k (meet_is p a b s.1)
      ]

  pub binary_good : (op : ℕ) (a b : Expr) → Typed a → Typed b → takes_two op a b ≡ true → IsGood (binary_of op a b)
  unfolding binary_of takes_two
  binary_good op a b h k q = by (is_both op) (is_either op) q
    where
      by : (x y : Bool) →
          (if x || y then is_scalar a.ctype && is_scalar b.ctype else are_integers a.ctype b.ctype || (is_equality op && meet a b)) ≡ true →
          IsGood (if x then typed int (form.Both a b) else if y then typed int (form.Either a b)
          else computed_of op (left_type op a.ctype b.ctype) (right_type op a.ctype b.ctype) a b)
      by true y g = (both_made p f int a b h k tt, tt)
      by false true g = (either_made p f int a b h k tt, tt)
      by false false g = computed_good op a b h k g

  kind_listed : (a b : Expr) → Meets p a b → IsListed signatures a.ctype → IsListed signatures b.ctype → IsListed signatures (common_type a.ctype b.ctype)
  kind_listed a b m h k = by (is_pointer a.ctype) (is_pointer b.ctype)
    where
      by : (x y : Bool) → IsListed signatures (if x then a.ctype else if y then b.ctype else usual a.ctype b.ctype)
      by true y = h
      by false true = k
      by false false = integer_listed (usual a.ctype b.ctype) (usual_integer a.ctype b.ctype)

  pub choose_good : (c a b : Expr) → Typed c → IsGood a → IsGood b → meet a b ≡ true → IsGood (choose_of c a b)
  unfolding choose_of
  choose_good c a b g h k q =
      let m = meet_is p a b q in
      let t = common_type a.ctype b.ctype in (
        choose_made p f t c (converted_to t a) (converted_to t b) g (converted_typed p f t a h.0 m.left) (converted_typed p f t b k.0 m.right)
            (converted_type t a, converted_type t b),
        kind_listed a b m h.1 k.1,
      )

  -- ---- assignments

  pub change_good : (op : ℕ) (o : Object) (b : Expr) → IsGoodObject o → Typed b → IsInteger o.ctype → IsInteger b.ctype → IsGood (change_of op o b)
  unfolding change_of
  change_good op o b h k m n =
      let t = right_type op o.ctype b.ctype in
      let i = right_integer op o.ctype b.ctype m n in (
        change_made p f o.ctype op (left_type op o.ctype b.ctype) o.target (converted_to t b) h.0 (converted_typed p f t b k (integer_converts p t b i n))
            (m, subst IsInteger (sym (converted_type t b)) i, h.1),
        h.2,
      )

  pub set_good : (o : Object) (b : Expr) → IsGoodObject o → Typed b → ConvertsTo p o.ctype b → IsGood (typed o.ctype (form.Set o.target (converted_to o.ctype b)))
  set_good o b h k c =
      (set_made p f o.ctype o.target (converted_to o.ctype b) h.0 (converted_typed p f o.ctype b k c) (h.1, converted_type o.ctype b), h.2)

  pub after_good : (up : Bool) (o : Object) → IsGoodObject o → IsInteger o.ctype → IsGood (typed o.ctype (form.After up o.target))
  after_good up o h m = (after_made p f o.ctype up o.target h.0 (m, h.1), h.2)
