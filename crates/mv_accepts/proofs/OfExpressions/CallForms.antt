-- Calls that keep the rules are well typed.
use Rattle.std.proofs.Common.{◌≡◌, ℕ, true, ◌&&◌, refl, sym, ◌∙◌, ap, subst, Option, Some, None, nat_eq, slice_get, List, [], ◌∷◌, length}
use Rattle.std.specs.Prelude.{All}
use Rattle.std.proofs.lemmas.List.Elements.{All-nil, All-cons}
use Rattle.std.proofs.lemmas.Bool.{and_parts, eqb-true}
use Rattle.mv_ast.specs.declared.program.CType.{CType}
use Rattle.mv_ast.specs.declared.program.CType.TheVariants.{Pointer}
use Rattle.mv_ast.specs.declared.program.Program.{Program}
use Rattle.mv_ast.specs.declared.program.Function.{Function}
use Rattle.mv_ast.specs.declared.program.Signature.{Signature}
use Rattle.mv_ast.specs.declared.program.Known.{Known}
use Rattle.mv_ast.specs.declared.program.Known.TheVariants as known
use Rattle.mv_ast.specs.declared.program.Expr.{Expr, out-Expr, every_here-Expr}
use Rattle.mv_ast.specs.declared.program.Form.{Form, Form-F, out-Form}
use Rattle.mv_ast.specs.declared.program.Form.TheVariants as form
use Rattle.mv_ast.specs.declared.program.Form.TheOpen as open_form
use Rattle.mv_ast.specs.declared.program.Target.{Target}
use Rattle.mv_check_scope.specs.Conversions.{is_pointer, int, typed}
use Rattle.mv_check_scope.specs.Constants.{converts}
use Rattle.mv_check_expressions.specs.declared.seen.Seen.{Seen}
use Rattle.mv_check_expressions.specs.declared.seen.Seen.TheVariants as seen
use Rattle.mv_check_expressions.specs.Seen.{value_of}
use Rattle.mv_check_expressions.specs.Calls.{pointed, params_of, result_of, known_params, known_arity, callee_params, takes_count, passed, all_convert, named_index, function_form, named_function, direct_or_through, with_index, called_with, call_of}
use Rattle.mv_source_forms.specs.Typing.{IsInteger, types_of, HasType, IsTypedExpr}
use Rattle.mv_accepts.specs.Expressions.Soundness.{IsListed}
use Rattle.mv_accepts.proofs.OfExpressions.Types.{pointer_is}
use Rattle.mv_accepts.proofs.OfExpressions.Converted.{converted_type, converted_typed, converts_is}
use Rattle.mv_accepts.proofs.OfExpressions.Made.{direct_made, through_made, known_made}
use Rattle.mv_accepts.proofs.OfExpressions.Forms.{IsGood, IsGoodSeen, value_good}
use Rattle.mv_source_forms.proofs.TypedParts.{AllTyped}

-- the expression is a function's name
function_is : (z : Form-F Form Target Expr) (g : ℕ) → function_form z ≡ Some g → z ≡ open_form.Function g
function_is (open_form.Function f) g h = let q : f ≡ g = cc in ap (λ x. open_form.Function x) q
function_is x g h = absurd (cc)

-- the types of as many arguments as there are parameters
passed_types : (ts : List CType) (args : List Seen) → length args ≡ length ts → types_of (passed ts args) ≡ ts
passed_types [] [] h = refl
passed_types (t ∷ ts) [] h = absurd (cc)
passed_types [] (a ∷ args) h = absurd (cc)
passed_types (t ∷ ts) (a ∷ args) h =
    let q : length args ≡ length ts = cc in
    ap (λ s. s ∷ types_of (passed ts args)) (converted_type t (value_of a)) ∙ ap (λ xs. t ∷ xs) (passed_types ts args q)

pub none_passed : (args : List Seen) → passed [] args ≡ []
none_passed [] = refl
none_passed (a ∷ args) = refl

known_types : (k : Known) (args : List Seen) → nat_eq (length args) (known_arity k) ≡ true → All IsInteger (types_of (passed (known_params k) args))
known_types known.Putchar args h =
    subst (All IsInteger) (sym (passed_types (int ∷ []) args (eqb-true (length args) 1 h))) (All-cons IsInteger int [] tt (All-nil IsInteger))
known_types known.Getchar args h = subst (λ es. All IsInteger (types_of es)) (sym (none_passed args)) (All-nil IsInteger)
known_types known.Poll args h = subst (λ es. All IsInteger (types_of es)) (sym (none_passed args)) (All-nil IsInteger)
known_types (known.Plan code index) args h = subst (λ es. All IsInteger (types_of es)) (sym (none_passed args)) (All-nil IsInteger)

module _ (p : Program) (f : Function) (signatures : List Signature) where
  abbrev pub AllGood : List Seen → Type 0
  AllGood [] = Unit {0}
  AllGood (x ∷ xs) = IsGoodSeen p f signatures x × AllGood xs

  passed_typed : (ts : List CType) (args : List Seen) → all_convert ts args ≡ true → AllGood args → AllTyped p f (passed ts args)
  passed_typed ts [] h k = tt
  passed_typed [] (a ∷ args) h k = tt
  passed_typed (t ∷ ts) (a ∷ args) h k =
      let s = and_parts (converts (value_of a) t) (all_convert ts args) h in
      (converted_typed p f t (value_of a) (value_good p f signatures a k.0).0 (converts_is p (value_of a) t s.0), passed_typed ts args s.1 k.1)

  known_good : (k : Known) (index : ℕ) (args : List Seen) → AllGood args → all_convert (known_params k) args ≡ true → nat_eq (length args) (known_arity k) ≡ true →
      IsGood p f signatures (typed int (form.Known (with_index k index) (passed (known_params k) args)))
  known_good k index args h c n =
      (known_made p f int (with_index k index) (passed (known_params k) args) (passed_typed (known_params k) args c h) (tt, known_types k args n), tt)

  module _ (program_has : (s : ℕ) (signature : Signature) → slice_get signatures s ≡ Some signature → slice_get p.signatures s ≡ Some signature)
      (results : (s : ℕ) (signature : Signature) → slice_get signatures s ≡ Some signature → IsListed signatures signature.result) where
    -- a call of a value that is a pointer to functions of a signature
    pointer_good : (e : Expr) (s : ℕ) (g : Signature) (es : List Expr) → IsTypedExpr p f e → e.ctype ≡ Pointer s → slice_get signatures s ≡ Some g →
        AllTyped p f es → types_of es ≡ g.params → IsGood p f signatures (typed g.result (direct_or_through (named_function e) e es))
    pointer_good e s g es h t l k q = (by (named_function e) refl, results s g l)
      where
        by : (o : Option ℕ) → named_function e ≡ o → IsTypedExpr p f (typed g.result (direct_or_through o e es))
        by None n = through_made p f g.result es e k h (s, g, t, program_has s g l, refl, q)
        by (Some m) n =
            let node : HasType p f (out-Expr e).ctype (out-Form (out-Expr e).what) = every_here-Expr (λ z. Unit {0}) (λ z. Unit {0}) (λ x. HasType p f x.ctype (out-Form x.what)) e h in
            let named : HasType p f e.ctype (open_form.Function m) = subst (HasType p f e.ctype) (function_is (out-Form e.what) m n) node in
            let same : named.0 ≡ s = let q : Pointer named.0 ≡ Pointer s = sym named.1 ∙ t in cc in
            let is = named.2 in
            let there : is.signature ≡ g =
            let q : Some is.signature ≡ Some g = sym is.declared ∙ (ap (λ x. slice_get p.signatures x) same ∙ program_has s g l) in cc in
            direct_made p f g.result m es k
            (is.function, is.defined, sym (ap (λ (x : Signature). x.result) there) ∙ is.result, q ∙ (sym (ap (λ (x : Signature). x.params) there) ∙ is.parameters))

    function_good : (x : Seen) (args : List Seen) → IsGoodSeen p f signatures x → AllGood args →
        all_convert (params_of (pointed signatures (value_of x).ctype)) args ≡ true →
        (is_pointer (value_of x).ctype && nat_eq (length args) (length (params_of (pointed signatures (value_of x).ctype)))) ≡ true →
        IsGood p f signatures (typed (result_of (pointed signatures (value_of x).ctype))
        (direct_or_through (named_function (value_of x)) (value_of x) (passed (params_of (pointed signatures (value_of x).ctype)) args)))
    function_good x args h k c n =
        let v = value_good p f signatures x h in
        let b = and_parts (is_pointer (value_of x).ctype) (nat_eq (length args) (length (params_of (pointed signatures (value_of x).ctype)))) n in
        let s = pointer_is (value_of x).ctype b.0 in
        let g = subst (IsListed signatures) s.1 v.1 in
        let is : pointed signatures (value_of x).ctype ≡ Some g.0 = ap (pointed signatures) s.1 ∙ g.1 in
        let P : Option Signature → Type 0 = λ o. IsGood p f signatures (typed (result_of o) (direct_or_through (named_function (value_of x)) (value_of x) (passed (params_of o) args))) in
        let c' : all_convert g.0.params args ≡ true = subst (λ o. all_convert (params_of o) args ≡ true) is c in
        let n' : nat_eq (length args) (length g.0.params) ≡ true = subst (λ o. nat_eq (length args) (length (params_of o)) ≡ true) is b.1 in
        subst P (sym is)
        (pointer_good (value_of x) s.0 g.0 (passed g.0.params args) v.0 s.1 g.1 (passed_typed g.0.params args c' k)
        (passed_types g.0.params args (eqb-true (length args) (length g.0.params) n')))

    pub call_good : (x : Seen) (args : List Seen) → IsGoodSeen p f signatures x → AllGood args → all_convert (callee_params signatures x) args ≡ true →
        takes_count signatures x (length args) ≡ true → IsGood p f signatures (call_of signatures x args)
    unfolding called_with
    call_good (seen.Known k) args h i c n = known_good k (named_index args) args i c n
    call_good (seen.Value e) args h i c n = function_good (seen.Value e) args h i c n
    call_good (seen.Object o) args h i c n = function_good (seen.Object o) args h i c n
    call_good (seen.Array a) args h i c n = function_good (seen.Array a) args h i c n
    call_good (seen.Function r) args h i c n = function_good (seen.Function r) args h i c n
    call_good (seen.Designator e) args h i c n = function_good (seen.Designator e) args h i c n
    call_good (seen.Switch s) args h i c n = function_good (seen.Switch s) args h i c n
