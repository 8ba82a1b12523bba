-- Calls that keep the rules have a property where their parts have it.
use Rattle.std.proofs.Common.{◌≡◌, ℕ, inl, inr, Bool, true, false, not, refl, sym, ap, subst, Option, Some, None, is_some, nat_eq, nat_lt, suc, if◌then◌else◌, List, [], ◌∷◌, length}
use Rattle.std.specs.List.{AllByRecursion}
use Rattle.std.proofs.lemmas.Bool.{eqb-true}
use Rattle.mv_ast.specs.declared.program.CType.{CType}
use Rattle.mv_ast.specs.declared.program.Expr.{Expr}
use Rattle.mv_ast.specs.declared.program.Known.{Known}
use Rattle.mv_ast.specs.declared.program.Known.TheVariants as known
use Rattle.mv_ast.specs.declared.program.Signature.{Signature}
use Rattle.mv_check_scope.specs.declared.meaning.Routine.{Routine}
use Rattle.mv_check_scope.specs.Conversions.{int, typed}
use Rattle.mv_check_expressions.specs.declared.seen.Seen.{Seen}
use Rattle.mv_check_expressions.specs.declared.seen.Seen.TheVariants as seen
use Rattle.mv_check_expressions.specs.declared.seen.Use.{Use}
use Rattle.mv_check_expressions.specs.declared.seen.Use.TheVariants as «use»
use Rattle.mv_check_expressions.specs.Seen.{value_of, number_or_zero}
use Rattle.mv_check_expressions.specs.Calls.{pointed, params_of, result_of, known_params, known_arity, argument_use, takes_count, passed, named_index, named_function, direct_or_through, called_with, call_of}
use Rattle.mv_accepts.proofs.OfBodies.ExprProperty.{NamesAttributed, NamesSwitch, IsPlanned, IsOrder, ExprProperty}
use Rattle.mv_accepts.proofs.OfBodies.ExprForms.{SeenHas, Fine, value_has, converted_has}

module _ (x : ExprProperty) where
  abbrev AllFine : Use → List Seen → Type 0
  AllFine u = AllByRecursion (Fine x u)

  seen_of : (u : Use) (args : List Seen) → AllFine u args → AllByRecursion (SeenHas x) args
  seen_of u [] h = tt
  seen_of u (a ∷ args) h = (h.0.0, seen_of u args h.1)

  passed_has : (ts : List CType) (args : List Seen) → AllByRecursion (SeenHas x) args → AllByRecursion x.of_expr (passed ts args)
  passed_has ts [] h = tt
  passed_has [] (a ∷ args) h = tt
  passed_has (t ∷ ts) (a ∷ args) h = (converted_has x t (value_of a) (value_has x a h.0), passed_has ts args h.1)

  -- ---- the argument of an order

  attributed_has : (o : Option ℕ) (r : Routine) → r.attributed ≡ o → not (is_some o) ≡ false → SeenHas x (seen.Function r) → NamesAttributed x.scope (number_or_zero r.attributed)
  attributed_has None r q h k = absurd (cc)
  attributed_has (Some n) r q h k = subst (NamesAttributed x.scope) (sym (ap number_or_zero q)) (k.0, r, k.1, k.2, k.3, q)

  function_has : (a : Seen) (args : List Seen) → Fine x «use».Function a → NamesAttributed x.scope (named_index (a ∷ args))
  function_has (seen.Function r) args h = attributed_has r.attributed r refl h.1 h.0
  function_has x args h = absurd (let q = h.1 in cc)

  named_switch_has : (a : Seen) (args : List Seen) → Fine x «use».Switch a → NamesSwitch x.scope (named_index (a ∷ args))
  named_switch_has (seen.Switch n) args h = h.0
  named_switch_has x args h = absurd (let q = h.1 in cc)

  planned : (code : ℕ) (b : Bool) → nat_lt code 2 ≡ b → (c : Bool) → nat_lt code 4 ≡ c → (args : List Seen) →
      AllFine (if b then «use».Value else if c then «use».Function else «use».Switch) args → nat_eq (length args) (if b then 0 else 1) ≡ true → IsPlanned x.scope code (named_index args)
  planned code true q c r args h n = inl q
  planned code false q c r [] h n = absurd (cc)
  planned code false q true r (a ∷ args) h n = inr (inl (q, r, function_has a args h.0))
  planned code false q false r (a ∷ args) h n = inr (inr (q, r, named_switch_has a args h.0))

  order : (k : Known) (args : List Seen) → AllFine (argument_use (seen.Known k)) args → nat_eq (length args) (known_arity k) ≡ true → IsOrder x.scope k (named_index args)
  order (known.Plan code unknown) args h n = planned code (nat_lt code 2) refl (nat_lt code 4) refl args h n
  order known.Getchar args h n = tt
  order known.Putchar args h n = tt
  order known.Poll args h n = tt

  -- ---- calls

  passed_count : (ts : List CType) (args : List Seen) → length args ≡ length ts → length (passed ts args) ≡ length ts
  passed_count [] [] h = refl
  passed_count (t ∷ ts) [] h = absurd (cc)
  passed_count [] (a ∷ args) h = refl
  passed_count (t ∷ ts) (a ∷ args) h = let q : length args ≡ length ts = cc in ap suc (passed_count ts args q)

  none_passed : (args : List Seen) → length (passed [] args) ≡ 0
  none_passed [] = refl
  none_passed (a ∷ args) = refl

  known_count : (k : Known) (args : List Seen) → nat_eq (length args) (known_arity k) ≡ true → length (passed (known_params k) args) ≡ length (known_params k)
  known_count known.Putchar args h = passed_count (int ∷ []) args (eqb-true (length args) 1 h)
  known_count known.Getchar args h = none_passed args
  known_count known.Poll args h = none_passed args
  known_count (known.Plan code unknown) args h = none_passed args

  through_has : (o : Option ℕ) (t : CType) (e : Expr) (args : List Expr) → x.of_expr e → AllByRecursion x.of_expr args → x.of_expr (typed t (direct_or_through o e args))
  through_has None t e args h k = x.through t args e k h
  through_has (Some g) t e args h k = x.direct t g args k

  value_called : (signatures : List Signature) (y : Seen) (args : List Seen) → SeenHas x y → AllFine «use».Value args →
      x.of_expr (typed (result_of (pointed signatures (value_of y).ctype))
      (direct_or_through (named_function (value_of y)) (value_of y) (passed (params_of (pointed signatures (value_of y).ctype)) args)))
  value_called signatures y args h k =
      through_has (named_function (value_of y)) _ (value_of y) _ (value_has x y h) (passed_has (params_of (pointed signatures (value_of y).ctype)) args (seen_of «use».Value args k))

  pub call_has : (signatures : List Signature) (y : Seen) (args : List Seen) → SeenHas x y → AllByRecursion (Fine x (argument_use y)) args →
      takes_count signatures y (length args) ≡ true → x.of_expr (call_of signatures y args)
  unfolding called_with
  call_has signatures (seen.Known k) args h i n =
      x.call k (named_index args) (passed (known_params k) args) h (order k args i n) (known_count k args n) (passed_has (known_params k) args (seen_of (argument_use (seen.Known k)) args i))
  call_has signatures (seen.Value e) args h i n = value_called signatures (seen.Value e) args h i
  call_has signatures (seen.Object o) args h i n = value_called signatures (seen.Object o) args h i
  call_has signatures (seen.Array a) args h i n = value_called signatures (seen.Array a) args h i
  call_has signatures (seen.Function r) args h i n = value_called signatures (seen.Function r) args h i
  call_has signatures (seen.Designator e) args h i n = value_called signatures (seen.Designator e) args h i
  call_has signatures (seen.Switch s) args h i n = value_called signatures (seen.Switch s) args h i
