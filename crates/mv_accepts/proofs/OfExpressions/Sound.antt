-- By induction over the expression: what keeps the rules is well typed.
use Rattle.std.proofs.Common.{◌≡◌, ℕ, Bool, true, false, not, ◌&&◌, ◌||◌, refl, sym, subst, Option, Some, None, is_none, nat_eq, if◌then◌else◌, map, length}
use Rattle.std.proofs.lemmas.Bool.{and_parts, not-false}
use Rattle.mv_num.specs.declared.kind.Kind.{Kind}
use Rattle.mv_ast.specs.declared.program.CType.{CType}
use Rattle.mv_ast.specs.declared.program.CType.TheVariants.{Void, Scalar, Pointer}
use Rattle.mv_ast.specs.declared.program.Program.{Program}
use Rattle.mv_ast.specs.declared.program.Function.{Function}
use Rattle.mv_ast.specs.declared.program.Expr.{Expr}
use Rattle.mv_ast.specs.declared.program.Form.TheVariants as form
use Rattle.mv_syntax.specs.declared.unit.Node.{Node}
use Rattle.mv_syntax.specs.declared.unit.Specs.{out-Specs}
use Rattle.mv_check_scope.specs.declared.meaning.Meaning.{Meaning}
use Rattle.mv_check_scope.specs.declared.meaning.Meaning.TheVariants as meaning
use Rattle.mv_check_scope.specs.declared.scope.Scope.{Scope}
use Rattle.mv_check_scope.specs.Conversions.{is_integer, int, typed, converted_to}
use Rattle.mv_check_scope.specs.Constants.{converts}
use Rattle.mv_check_scope.specs.Scoped.{meaning_of}
use Rattle.mv_check_expressions.specs.declared.seen.Seen.{Seen}
use Rattle.mv_check_expressions.specs.declared.seen.Seen.TheVariants as seen
use Rattle.mv_check_expressions.specs.declared.seen.Use.{Use}
use Rattle.mv_check_expressions.specs.declared.seen.Use.TheVariants as «use»
use Rattle.mv_check_expressions.specs.Judged.{Good}
use Rattle.mv_check_expressions.specs.TypeNames.{undeclared_enum}
use Rattle.mv_check_expressions.specs.Seen.{value_of, is_undefined, is_assignable, array_of, object_of, switch_of, seen_name}
use Rattle.mv_check_expressions.specs.Calls.{callee_params, takes_count, all_convert}
use Rattle.mv_check_expressions.specs.Found.{unary_of, is_address, is_indirection, named_switch, address_of, unary_seen, assign_of, assign_to, before_of, after_of, change_of, one, element_of, compound_operator}
use Rattle.mv_check_expressions.specs.Rules.{takes_one, takes_two, are_integers, is_scalar, meet, is_wrong_cast}
use Rattle.mv_check_expressions.specs.Judgements.{judgement, value_judgement, effect_judgement}
use Rattle.mv_source_forms.specs.Typing.{IsTypedExpr}
use Rattle.mv_accepts.specs.Expressions.Soundness.{IsListed, IsMeant, Fits}
use Rattle.mv_accepts.proofs.OfExpressions.Types.{integer_is}
use Rattle.mv_accepts.proofs.OfExpressions.Converted.{converted_type, converted_typed, converts_is}
use Rattle.mv_accepts.proofs.OfExpressions.Made.{number_made}
use Rattle.mv_accepts.proofs.OfExpressions.Forms.{IsGood, IsGoodSeen, nothing_good, value_good, variable_good, element_good, unary_good, binary_good, choose_good, change_good, set_good, after_good}
use Rattle.mv_accepts.proofs.OfExpressions.CallForms.{AllGood, call_good}
use Rattle.mv_accepts.proofs.OfExpressions.Kept.{went_on, defined}
use Rattle.mv_accepts.proofs.OfExpressions.Plain.{IsPlain, plain_type}
use Rattle.mv_accepts.proofs.OfExpressions.Induction.{Steps, every_node}

module _ (p : Program) (f : Function) (scope : Scope) (fits : Fits p f scope) where
  abbrev GoodSeen : Seen → Type 0
  GoodSeen = IsGoodSeen p f scope.signatures

  -- ---- forms, by the rules that they keep

  name_good : (m : Option Meaning) → ((n : Meaning) → m ≡ Some n → IsMeant p f scope.signatures n) → is_none m ≡ false → is_undefined (seen_name m) ≡ false → GoodSeen (seen_name m)
  name_good None k h d = absurd (cc)
  name_good (Some (meaning.Object v)) k h d = let s = k (meaning.Object v) refl in variable_good p f scope.signatures v.storage v.ctype v.fixed v.switch s.0 s.1
  name_good (Some (meaning.Array a)) k h d = k (meaning.Array a) refl
  name_good (Some (meaning.Function r)) k h d = let s = k (meaning.Function r) refl in let g = defined r.number d in (g.0, g.1, s.0 g.0 g.1, s.1)
  name_good (Some (meaning.Enumerator n)) k h d = (number_made p f int n tt, tt)
  name_good (Some (meaning.Tag e)) k h d = nothing_good p f scope.signatures
  name_good (Some (meaning.Known n)) k h d = tt

  switch_good : (o : Option ℕ) → GoodSeen (named_switch o)
  switch_good None = nothing_good p f scope.signatures
  switch_good (Some s) = tt

  address_good : (u : Use) (x : Seen) → GoodSeen x → GoodSeen (address_of u x)
  address_good «use».Function x h = h
  address_good «use».Switch x h = switch_good (switch_of x)
  address_good u x h = value_good p f scope.signatures x h

  unary_is : (u : Use) (op : ℕ) (x : Seen) → GoodSeen x → (not (is_address op || is_indirection op || takes_one op (value_of x).ctype)) ≡ false → GoodSeen (unary_seen u op x)
  unary_is u op x h k = by (is_address op) (is_indirection op) (not-false (is_address op || is_indirection op || takes_one op (value_of x).ctype) k)
    where
      by : (a b : Bool) → (a || b || takes_one op (value_of x).ctype) ≡ true →
          GoodSeen (if a then address_of u x else if b then seen.Designator (value_of x) else seen.Value (unary_of op (value_of x)))
      by true b g = address_good u x h
      by false true g = value_good p f scope.signatures x h
      by false false g = unary_good p f scope.signatures op (value_of x) (value_good p f scope.signatures x h).0 g

  assign_is : (op : ℕ) (x y : Seen) → GoodSeen x → GoodSeen y → not (nat_eq op 22 || are_integers (value_of x).ctype (value_of y).ctype) ≡ false →
      not (is_assignable x) ≡ false → (nat_eq op 22 && not (converts (value_of y) (value_of x).ctype)) ≡ false → IsGood p f scope.signatures (assign_of op (object_of x) (value_of y))
  unfolding assign_to
  assign_is op (seen.Object o) y h k a b c = by (nat_eq op 22) (not-false (nat_eq op 22 || are_integers o.ctype (value_of y).ctype) a) c
    where
      by : (z : Bool) → (z || are_integers o.ctype (value_of y).ctype) ≡ true → (z && not (converts (value_of y) o.ctype)) ≡ false →
          IsGood p f scope.signatures (if z then typed o.ctype (form.Set o.target (converted_to o.ctype (value_of y))) else change_of (compound_operator op) o (value_of y))
      by true g i = set_good p f scope.signatures o (value_of y) h (value_good p f scope.signatures y k).0 (converts_is p (value_of y) o.ctype (not-false (converts (value_of y) o.ctype) i))
      by false g i =
          let s = and_parts (is_integer o.ctype) (is_integer (value_of y).ctype) g in
          change_good p f scope.signatures (compound_operator op) o (value_of y) h (value_good p f scope.signatures y k).0 (integer_is o.ctype s.0) (integer_is (value_of y).ctype s.1)
  assign_is op x y h k a b c = absurd (cc)

  before_is : (up : Bool) (x : Seen) → GoodSeen x → not (is_integer (value_of x).ctype) ≡ false → not (is_assignable x) ≡ false → IsGood p f scope.signatures (before_of up (object_of x))
  before_is up (seen.Object o) h a b = change_good p f scope.signatures (if up then 12 else 13) o one h (number_made p f int 1 tt) (integer_is o.ctype (not-false (is_integer o.ctype) a)) tt
  before_is up x h a b = absurd (cc)

  after_is : (up : Bool) (x : Seen) → GoodSeen x → not (is_integer (value_of x).ctype) ≡ false → not (is_assignable x) ≡ false → IsGood p f scope.signatures (after_of up (object_of x))
  after_is up (seen.Object o) h a b = after_good p f scope.signatures up o h (integer_is o.ctype (not-false (is_integer o.ctype) a))
  after_is up x h a b = absurd (cc)

  index_is : (x y : Seen) → GoodSeen x → GoodSeen y → not (is_integer (value_of y).ctype) ≡ false → is_none (array_of x) ≡ false → GoodSeen (element_of (array_of x) (value_of y))
  index_is (seen.Array a) y h k m n =
      element_good p f scope.signatures a (value_of y) None h.0 h.1 (value_good p f scope.signatures y k).0 (integer_is (value_of y).ctype (not-false (is_integer (value_of y).ctype) m))
  index_is x y h k m n = absurd (cc)

  to_integer : (u : Use) (k : Kind) (s : CType) → is_wrong_cast u (Scalar k) s ≡ false → is_integer s ≡ true
  to_integer «use».Effect k s h = not-false (is_integer s) h
  to_integer u k s h = not-false (is_integer s) h

  cast_is : (u : Use) (t : CType) (e : Expr) → IsPlain t → IsTypedExpr p f e → is_wrong_cast u t e.ctype ≡ false → IsGood p f scope.signatures (converted_to t e)
  cast_is u Void e k h w = (converted_typed p f Void e h tt, subst (IsListed scope.signatures) (sym (converted_type Void e)) tt)
  cast_is u (Scalar kind) e k h w =
      (converted_typed p f (Scalar kind) e h (integer_is e.ctype (to_integer u kind e.ctype w)), subst (IsListed scope.signatures) (sym (converted_type (Scalar kind) e)) tt)
  cast_is u (Pointer s) e k h w = absurd k

  -- ---- by induction

  steps : Steps scope (λ n u y. GoodSeen y) (λ nodes u ys. AllGood p f scope.signatures ys)
  steps = record {
    no_argument = λ u. tt;
    one_argument = λ a nodes u y ys h k. (h, k);
    number = λ n u m kind o k. (number_made p f (Scalar kind) m tt, tt);
    name = λ n u name o k. name_good (meaning_of scope name) (fits.names name) k.undeclared k.undefined;
    unary = λ n u op a o x h k. unary_is u op x h k.operands;
    binary = λ n u op a b o x y h i k.
        binary_good p f scope.signatures op (value_of x) (value_of y) (value_good p f scope.signatures x h).0 (value_good p f scope.signatures y i).0
        (not-false (takes_two op (value_of x) (value_of y)) k.operands);
    choose = λ n u c a b o z x y g h i k.
        choose_good p f scope.signatures (value_of z) (value_of x) (value_of y) (value_good p f scope.signatures z g).0 (value_good p f scope.signatures x h) (value_good p f scope.signatures y i)
        (and_parts (is_scalar (value_of z).ctype) (meet (value_of x) (value_of y)) (not-false (is_scalar (value_of z).ctype && meet (value_of x) (value_of y)) k.operands)).1;
    assign = λ n u op a b o x y h i k. assign_is op x y h i k.operands k.assigned k.converted;
    before = λ n u up a o x h k. before_is up x h k.operands k.assigned;
    after = λ n u up a o x h k. after_is up x h k.operands k.assigned;
    index = λ n u a i o x y h j k. index_is x y h j k.operands k.indexed;
    call = λ n u c nodes o x ys h i k.
        call_good p f scope.signatures fits.signatures fits.results x ys h i (not-false (all_convert (callee_params scope.signatures x) ys) k.converted)
        (not-false (takes_count scope.signatures x (length ys)) k.called);
    cast = λ n u specs a o t x q h k.
        cast_is u t (value_of x) (plain_type (out-Specs specs).place (map (undeclared_enum scope) (out-Specs specs).tags) (out-Specs specs).words t q) (value_good p f scope.signatures x h).0 k.misplaced;
  }

  good_is : (n : Node) (u : Use) (y : Seen) → judgement scope n u ≡ Good y → GoodSeen y
  good_is = every_node scope (λ n u y. GoodSeen y) (λ nodes u ys. AllGood p f scope.signatures ys) steps

  pub value_is : (n : Node) (e : Expr) → value_judgement scope n ≡ Good e → IsTypedExpr p f e
  value_is n e h =
      let s = went_on (judgement scope n «use».Value) _ e h in
      let q : value_of s.0 ≡ e = let z : Good (value_of s.0) ≡ Good e = s.2 in cc in
      subst (IsTypedExpr p f) q (value_good p f scope.signatures s.0 (good_is n «use».Value s.0 s.1)).0

  pub effect_is : (n : Node) (e : Expr) → effect_judgement scope n ≡ Good e → IsTypedExpr p f e
  effect_is n e h =
      let s = went_on (judgement scope n «use».Effect) _ e h in
      let q : value_of s.0 ≡ e = let z : Good (value_of s.0) ≡ Good e = s.2 in cc in
      subst (IsTypedExpr p f) q (value_good p f scope.signatures s.0 (good_is n «use».Effect s.0 s.1)).0
