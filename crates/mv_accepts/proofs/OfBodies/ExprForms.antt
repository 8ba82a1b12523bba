-- What a form is found to be has a property where its parts have it: operators, assignments, objects, names.
use Rattle.std.proofs.Common.{◌≡◌, ℕ, Bool, true, false, ◌||◌, refl, Option, Some, None, nat_eq, if◌then◌else◌, List}
use Rattle.mv_ast.specs.declared.program.CType.{CType}
use Rattle.mv_ast.specs.declared.program.CType.TheVariants.{Void, Pointer}
use Rattle.mv_ast.specs.declared.program.Expr.{Expr}
use Rattle.mv_ast.specs.declared.program.Form.TheVariants as form
use Rattle.mv_check_scope.specs.declared.meaning.Meaning.{Meaning}
use Rattle.mv_check_scope.specs.declared.meaning.Meaning.TheVariants as meaning
use Rattle.mv_check_scope.specs.Conversions.{same_type, is_void, int, typed, promoted, promotion, converted_to}
use Rattle.mv_check_scope.specs.Scoped.{meaning_of}
use Rattle.mv_check_expressions.specs.declared.seen.Object.{Object}
use Rattle.mv_check_expressions.specs.declared.seen.Seen.{Seen}
use Rattle.mv_check_expressions.specs.declared.seen.Seen.TheVariants as seen
use Rattle.mv_check_expressions.specs.declared.seen.Use.{Use}
use Rattle.mv_check_expressions.specs.declared.seen.Use.TheVariants as «use»
use Rattle.mv_check_expressions.specs.Seen.{value_of, no_value, number_or_zero, array_of, object_of, switch_of, is_undefined, seen_name}
use Rattle.mv_check_expressions.specs.Found.{is_address, is_indirection, is_both, is_either, unary_of, binary_of, choose_of, computed_of, left_type, right_type, common_type, change_of, assign_to, assign_of, one, before_of, after_of, element_of, named_switch, address_of, unary_seen, compound_operator}
use Rattle.mv_check_expressions.specs.Rules.{is_misnamed}
use Rattle.mv_accepts.proofs.OfBodies.ExprProperty.{NamesSwitch, NamesKnown, ExprProperty}
use Rattle.mv_accepts.proofs.OfExpressions.Kept.{defined}

module _ (x : ExprProperty) where
  abbrev pub E : Expr → Type 0
  E = x.of_expr

  abbrev pub ObjectHas : Object → Type 0
  ObjectHas o = x.of_target o.target × ((n : ℕ) → o.switch ≡ Some n → NamesSwitch x.scope n)

  abbrev pub SeenHas : Seen → Type 0
  SeenHas (seen.Value e) = E e
  SeenHas (seen.Object o) = ObjectHas o
  SeenHas (seen.Array a) = (name : List ℕ) × (meaning_of x.scope name ≡ Some (meaning.Array a))
  SeenHas (seen.Function r) = (name : List ℕ) × (g : ℕ) × (meaning_of x.scope name ≡ Some (meaning.Function r)) × (r.number ≡ Some g)
  SeenHas (seen.Designator e) = E e
  SeenHas (seen.Known k) = NamesKnown x.scope k
  SeenHas (seen.Switch n) = NamesSwitch x.scope n

  -- used as it may be named
  abbrev pub Fine : Use → Seen → Type 0
  Fine u y = SeenHas y × (is_misnamed u y ≡ false)

  -- ---- forms

  pub nothing_has : E no_value
  nothing_has = x.number Void 0

  pub value_has : (y : Seen) → SeenHas y → E (value_of y)
  value_has (seen.Value e) h = h
  value_has (seen.Object o) h = x.read o.ctype o.target h.0
  value_has (seen.Array a) h = nothing_has
  value_has (seen.Function r) h = x.function (Pointer r.signature) (number_or_zero r.number)
  value_has (seen.Designator e) h = h
  value_has (seen.Known k) h = nothing_has
  value_has (seen.Switch n) h = nothing_has

  pub converted_has : (t : CType) (e : Expr) → E e → E (converted_to t e)
  unfolding converted_to
  converted_has t e h = by (same_type t e.ctype)
    where
      by : (b : Bool) → E (if b then e else typed t (form.Convert e))
      by true = h
      by false = x.convert t e h

  unary_has : (op : ℕ) (e : Expr) → E e → E (unary_of op e)
  unfolding unary_of
  unary_has op e h = by (nat_eq op 11)
    where
      by : (b : Bool) → E (if b then typed int (form.Unary op e) else typed (promotion e.ctype) (form.Unary op (promoted e)))
      by true = x.unary int op e h
      by false = x.unary (promotion e.ctype) op (promoted e) (converted_has (promotion e.ctype) e h)

  computed_has : (op : ℕ) (s t : CType) (a b : Expr) → E a → E b → E (computed_of op s t a b)
  computed_has op s t a b h k = x.binary _ op (converted_to s a) (converted_to t b) (converted_has s a h) (converted_has t b k)

  pub binary_has : (op : ℕ) (a b : Expr) → E a → E b → E (binary_of op a b)
  unfolding binary_of
  binary_has op a b h k = by (is_both op) (is_either op)
    where
      by : (c d : Bool) → E (if c then typed int (form.Both a b) else if d then typed int (form.Either a b) else computed_of op (left_type op a.ctype b.ctype) (right_type op a.ctype b.ctype) a b)
      by true d = x.both int a b h k
      by false true = x.either int a b h k
      by false false = computed_has op (left_type op a.ctype b.ctype) (right_type op a.ctype b.ctype) a b h k

  pub choose_has : (c a b : Expr) → E c → E a → E b → E (choose_of c a b)
  unfolding choose_of
  choose_has c a b g h k =
      let t : CType = common_type a.ctype b.ctype in x.choose t c (converted_to t a) (converted_to t b) g (converted_has t a h) (converted_has t b k)

  change_has : (op : ℕ) (o : Object) (b : Expr) → ObjectHas o → E b → E (change_of op o b)
  unfolding change_of
  change_has op o b h k = x.change o.ctype op _ o.target (converted_to (right_type op o.ctype b.ctype) b) h.0 (converted_has (right_type op o.ctype b.ctype) b k)

  assigned_has : (op : ℕ) (o : Object) (b : Expr) → ObjectHas o → E b → E (assign_to op o b)
  unfolding assign_to
  assigned_has op o b h k = by (nat_eq op 22)
    where
      by : (c : Bool) → E (if c then typed o.ctype (form.Set o.target (converted_to o.ctype b)) else change_of (compound_operator op) o b)
      by true = x.assign o.ctype o.target (converted_to o.ctype b) h.0 (converted_has o.ctype b k)
      by false = change_has (compound_operator op) o b h k

  abbrev OptionHas : Option Object → Type 0
  OptionHas None = Unit {0}
  OptionHas (Some o) = ObjectHas o

  pub object_has : (y : Seen) → SeenHas y → OptionHas (object_of y)
  object_has (seen.Object o) h = h
  object_has x h = tt

  pub assign_has : (op : ℕ) (o : Option Object) (b : Expr) → OptionHas o → E b → E (assign_of op o b)
  assign_has op None b h k = nothing_has
  assign_has op (Some o) b h k = assigned_has op o b h k

  pub before_has : (up : Bool) (o : Option Object) → OptionHas o → E (before_of up o)
  before_has up None h = nothing_has
  before_has up (Some o) h = change_has (if up then 12 else 13) o one h (x.number int 1)

  pub after_has : (up : Bool) (o : Option Object) → OptionHas o → E (after_of up o)
  after_has up None h = nothing_has
  after_has up (Some o) h = x.after o.ctype up o.target h.0

  pub element_has : (y : Seen) (i : Expr) → SeenHas y → E i → SeenHas (element_of (array_of y) i)
  element_has (seen.Array a) i h k = (x.element h.0 a (promoted i) h.1 (converted_has (promotion i.ctype) i k), λ n q. absurd (cc))
  element_has x i h k = nothing_has

  -- ---- names

  switch_has : (o : Option ℕ) → ((n : ℕ) → o ≡ Some n → NamesSwitch x.scope n) → SeenHas (named_switch o)
  switch_has None h = nothing_has
  switch_has (Some n) h = h n refl

  switches_has : (y : Seen) → SeenHas y → (n : ℕ) → switch_of y ≡ Some n → NamesSwitch x.scope n
  switches_has (seen.Object o) h n q = h.1 n (by (is_void o.ctype || o.fixed) q)
    where
      by : (b : Bool) → (if b then None else o.switch) ≡ Some n → o.switch ≡ Some n
      by true q = absurd (cc)
      by false q = q
  switches_has x h n q = absurd (cc)

  address_has : (u : Use) (y : Seen) → SeenHas y → SeenHas (address_of u y)
  address_has «use».Function y h = h
  address_has «use».Switch y h = switch_has (switch_of y) (switches_has y h)
  address_has x y h = value_has y h

  pub one_has : (u : Use) (op : ℕ) (y : Seen) → SeenHas y → SeenHas (unary_seen u op y)
  one_has u op y h = by (is_address op) (is_indirection op)
    where
      by : (a b : Bool) → SeenHas (if a then address_of u y else if b then seen.Designator (value_of y) else seen.Value (unary_of op (value_of y)))
      by true b = address_has u y h
      by false true = value_has y h
      by false false = unary_has op (value_of y) (value_has y h)

  pub name_has : (name : List ℕ) (m : Option Meaning) → meaning_of x.scope name ≡ m → is_undefined (seen_name m) ≡ false → SeenHas (seen_name m)
  name_has name None q d = nothing_has
  name_has name (Some (meaning.Object v)) q d = (x.variable name v q, λ n s. (name, v, q, s))
  name_has name (Some (meaning.Array a)) q d = (name, q)
  name_has name (Some (meaning.Function r)) q d = let g = defined r.number d in (name, g.0, q, g.1)
  name_has name (Some (meaning.Enumerator n)) q d = x.number int n
  name_has name (Some (meaning.Tag n)) q d = nothing_has
  name_has name (Some (meaning.Known k)) q d = (name, q)
