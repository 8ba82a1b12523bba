-- That an expression names what there is comes from its parts, and from its being well typed.
use Rattle.std.proofs.Common.{◌≡◌, ℕ, Bool, true, false, not, ◌||◌, refl, sym, ◌∙◌, ap, subst, if◌then◌else◌, List, [], ◌∷◌, map, length, nat_eq}
use Rattle.std.specs.List.{AllByRecursion}
use Rattle.std.proofs.lemmas.Option.{slice_get_within}
use Rattle.std.proofs.lemmas.Bool.{and_from, or_parts, eq-eqb, lt-ltb}
use Rattle.std.proofs.lemmas.List.{length-map}
use Rattle.mv_ast.specs.declared.program.CType.{CType}
use Rattle.mv_ast.specs.declared.program.Program.{Program}
use Rattle.mv_ast.specs.declared.program.Function.{Function}
use Rattle.mv_ast.specs.declared.program.Expr.{Expr, fold_out-Expr}
use Rattle.mv_ast.specs.declared.program.Form.{Form, Form-F, map-Form, out-Form, fold-Form, fold_out-Form}
use Rattle.mv_ast.specs.declared.program.Form.TheVariants as form
use Rattle.mv_ast.specs.declared.program.Form.TheVariants.{outs-Number, outs-Read, outs-Function, outs-Unary, outs-Binary, outs-Both, outs-Either, outs-Choose, outs-Convert, outs-Set, outs-Change, outs-After, outs-Direct, outs-Through, outs-Known}
use Rattle.mv_ast.specs.declared.program.Form.TheOpen as open_form
use Rattle.mv_ast.specs.declared.program.Target.{Target, Target-F, map-Target, out-Target, fold_out-Target}
use Rattle.mv_ast.specs.declared.program.Target.TheVariants.{outs-Global, outs-Local, outs-GlobalAt, outs-LocalAt}
use Rattle.mv_syntax.specs.declared.unit.Node.{Node}
use Rattle.mv_ast.specs.Names.{any_of, form_names, target_names, inner_names, names_local, target_names_local}
use Rattle.mv_check_scope.specs.declared.meaning.Meaning.TheVariants as meaning
use Rattle.mv_check_scope.specs.declared.meaning.Storage.{Storage}
use Rattle.mv_check_scope.specs.declared.meaning.Storage.TheVariants as storage
use Rattle.mv_check_scope.specs.declared.scope.Scope.{Scope}
use Rattle.mv_check_scope.specs.Conversions.{same_type, int, typed, converted_to}
use Rattle.mv_check_expressions.specs.Judgements.{value_judgement, effect_judgement}
use Rattle.mv_check_expressions.specs.Seen.{object_at, element_at}
use Rattle.mv_check_expressions.specs.Calls.{with_index}
use Rattle.mv_source_forms.specs.Typing.{HasType, IsTypedExpr}
use Rattle.mv_source_forms.proofs.TypedParts.{TypedTarget, AllTyped, FormParts, TargetParts, form_parts, target_parts, expr_form, expr_node}
use Rattle.mv_source_forms.specs.Lists.{all_of}
use Rattle.mv_source_forms.specs.Names.{is_scalar, names_target, names_form, names_layer, target_is_well_named, is_well_named, size_of_local, size_in}
use Rattle.mv_accepts.proofs.OfStatements.Judging.{IfGood}
use Rattle.mv_accepts.specs.Bodies.Formed.{IsScalar, IsArray, AreShaped, HasParameters}
use Rattle.mv_accepts.proofs.OfBodies.Counted.{any_last, callable}
use Rattle.mv_accepts.proofs.OfBodies.ExprProperty.{ExprProperty}
use Rattle.mv_accepts.proofs.OfBodies.ExprJudged.{value_kept, effect_kept}

module _ (p : Program) (own : ℕ) (f : Function) where
  -- named where some locals are not free
  abbrev pub Named : (ℕ → Bool) → Expr → Type 0
  Named free e = is_well_named p own (length f.locals) (size_in f.locals) free e ≡ true

  -- none of these stands in it
  abbrev pub Apart : (ℕ → Bool) → Expr → Type 0
  Apart free e = (l : ℕ) → free l ≡ false → names_local l e ≡ false

  -- a well-typed expression names what there is, where none that isn't free stands in it
  abbrev pub IsNamed : Expr → Type 0
  IsNamed e = IsTypedExpr p f e → (free : ℕ → Bool) → Apart free e → Named free e

  module _ (free : ℕ → Bool) where
    abbrev named_expr : Expr → Bool
    named_expr = is_well_named p own (length f.locals) (size_in f.locals) free

    abbrev named_target : Target → Bool
    named_target = target_is_well_named p own (length f.locals) (size_in f.locals) free

    abbrev form_layer : Form-F Form Target Expr → CType → Bool
    form_layer z = names_form p own (length f.locals) (size_in f.locals) free
        (map-Form Form Target Expr (CType → Bool) Bool Bool
        (fold-Form (CType → Bool) Bool Bool (names_form p own (length f.locals) (size_in f.locals) free) (names_target p own (length f.locals) (size_in f.locals) free) (names_layer p own (length f.locals) (size_in f.locals) free))
        (target_is_well_named p own (length f.locals) (size_in f.locals) free) (is_well_named p own (length f.locals) (size_in f.locals) free) z)

    abbrev target_layer : Target-F Form Target Expr → Bool
    target_layer z = names_target p own (length f.locals) (size_in f.locals) free
        (map-Target Form Target Expr (CType → Bool) Bool Bool
        (fold-Form (CType → Bool) Bool Bool (names_form p own (length f.locals) (size_in f.locals) free) (names_target p own (length f.locals) (size_in f.locals) free) (names_layer p own (length f.locals) (size_in f.locals) free))
        (target_is_well_named p own (length f.locals) (size_in f.locals) free) (is_well_named p own (length f.locals) (size_in f.locals) free) z)

  module _ (l : ℕ) where
    abbrev form_local : Form-F Form Target Expr → Bool
    form_local z = form_names (map-Form Form Target Expr Bool Bool Bool (fold-Form Bool Bool Bool form_names (target_names l) inner_names) (target_names_local l) (names_local l) z)

    abbrev target_local : Target-F Form Target Expr → Bool
    target_local z = target_names l (map-Target Form Target Expr Bool Bool Bool (fold-Form Bool Bool Bool form_names (target_names l) inner_names) (target_names_local l) (names_local l) z)

    local_is : (t : CType) (w : Form) (z : Form-F Form Target Expr) → out-Form w ≡ z → names_local l (typed t w) ≡ form_local z
    local_is t w z o =
        fold_out-Expr Bool Bool Bool form_names (target_names l) inner_names (typed t w) ∙ (fold_out-Form Bool Bool Bool form_names (target_names l) inner_names w ∙ ap form_local o)

    target_is : (w : Target) (z : Target-F Form Target Expr) → out-Target w ≡ z → target_names_local l w ≡ target_local z
    target_is w z o = fold_out-Target Bool Bool Bool form_names (target_names l) inner_names w ∙ ap target_local o

  abbrev TargetApart : (ℕ → Bool) → Target → Type 0
  TargetApart free w = (l : ℕ) → free l ≡ false → target_names_local l w ≡ false

  abbrev IsNamedTarget : Target → Type 0
  IsNamedTarget w = TypedTarget p f w → (free : ℕ → Bool) → TargetApart free w → named_target free w ≡ true

  by_form : (t : CType) (w : Form) (z : Form-F Form Target Expr) → out-Form w ≡ z →
      (FormParts p f z → HasType p f t z → (free : ℕ → Bool) → ((l : ℕ) → free l ≡ false → form_local l z ≡ false) → form_layer free z t ≡ true) → IsNamed (typed t w)
  by_form t w z o step h free apart =
      fold_out-Expr (CType → Bool) Bool Bool (names_form p own (length f.locals) (size_in f.locals) free) (names_target p own (length f.locals) (size_in f.locals) free)
      (names_layer p own (length f.locals) (size_in f.locals) free) (typed t w) ∙
      (ap (λ (g : CType → Bool). g t)
      (fold_out-Form (CType → Bool) Bool Bool (names_form p own (length f.locals) (size_in f.locals) free) (names_target p own (length f.locals) (size_in f.locals) free)
      (names_layer p own (length f.locals) (size_in f.locals) free) w) ∙
      (ap (λ y. form_layer free y t) o ∙
      step (subst (FormParts p f) o (form_parts p f w (expr_form p f (typed t w) h))) (subst (HasType p f t) o (expr_node p f (typed t w) h)) free
      (λ l q. sym (local_is l t w z o) ∙ apart l q)))

  by_target : (w : Target) (z : Target-F Form Target Expr) → out-Target w ≡ z →
      (TargetParts p f z → (free : ℕ → Bool) → ((l : ℕ) → free l ≡ false → target_local l z ≡ false) → target_layer free z ≡ true) → IsNamedTarget w
  by_target w z o step h free apart =
      fold_out-Target (CType → Bool) Bool Bool (names_form p own (length f.locals) (size_in f.locals) free) (names_target p own (length f.locals) (size_in f.locals) free)
      (names_layer p own (length f.locals) (size_in f.locals) free) w ∙
      (ap (target_layer free) o ∙ step (subst (TargetParts p f) o (target_parts p f w h)) free (λ l q. sym (target_is l w z o) ∙ apart l q))

  -- ---- lvalues

  -- a local that is named is free
  is_free : (free : ℕ → Bool) (l : ℕ) (rest : ℕ → Bool) → ((k : ℕ) → free k ≡ false → (nat_eq l k || rest k) ≡ false) → free l ≡ true
  is_free free l rest h = by (free l) refl
    where
      by : (b : Bool) → free l ≡ b → b ≡ true
      by true q = refl
      by false q = absurd (let r : nat_eq l l ≡ false = (or_parts (nat_eq l l) (rest l) (h l q)).0 in let s : nat_eq l l ≡ true = eq-eqb l l refl in cc)

  object_named : (s : Storage) → IsScalar f s → IsNamedTarget (object_at s)
  object_named (storage.Global g) h = by_target _ (open_form.Global g) (outs-Global g) (λ parts free apart. refl)
  object_named (storage.Local l) h =
      by_target _ (open_form.Local l) (outs-Local l) (λ parts free apart.
      and_from _ _ (lt-ltb l (length f.locals) (slice_get_within f.locals l h.0 h.1))
      (and_from _ _ (is_free free l (λ k. false) apart) (ap (λ o. is_scalar (size_of_local o)) h.1 ∙ ap is_scalar h.2)))

  element_named : (s : Storage) (i : Expr) → IsArray p own f s → IsNamed i → IsNamedTarget (element_at s i)
  element_named (storage.Global g) i h k =
      by_target _ (open_form.GlobalAt g i) (outs-GlobalAt g i) (λ parts free apart.
      and_from _ _ (ap not h.0) (and_from _ _ (ap not h.1) (k parts free (λ l q. (or_parts _ _ (or_parts false _ (apart l q)).1).0))))
  element_named (storage.Local m) i h k =
      by_target _ (open_form.LocalAt m i) (outs-LocalAt m i) (λ parts free apart.
      and_from _ _ (lt-ltb m (length f.locals) (slice_get_within f.locals m h.0 h.2))
      (and_from _ _ (is_free free m (λ k. names_local k i || false) apart)
      (and_from _ _ (ap (λ o. not (is_scalar (size_of_local o))) h.2 ∙ ap (λ o. not (is_scalar o)) h.3) (k parts free (λ l q. (or_parts _ _ (or_parts (nat_eq m l) _ (apart l q)).1).0)))))

  -- ---- arguments

  all_named : (args : List Expr) → AllByRecursion IsNamed args → AllTyped p f args → (free : ℕ → Bool) → ((l : ℕ) → free l ≡ false → any_of (map (names_local l) args) ≡ false) →
      all_of (map (named_expr free) args) ≡ true
  all_named [] h t free apart = refl
  all_named (e ∷ es) h t free apart =
      and_from _ _ (h.0 t.0 free (λ l q. (or_parts (names_local l e) (any_of (map (names_local l) es)) (apart l q)).0))
      (all_named es h.1 t.1 free (λ l q. (or_parts (names_local l e) (any_of (map (names_local l) es)) (apart l q)).1))

  convert_named : (t : CType) (a : Expr) → IsNamed a → IsNamed (typed t (form.Convert a))
  convert_named t a h = by_form t (form.Convert a) (open_form.Convert a) (outs-Convert a) (λ parts node free apart. h parts free (λ k q. (or_parts _ _ (apart k q)).0))

  pub converted_named : (t : CType) (e : Expr) → IsNamed e → IsNamed (converted_to t e)
  unfolding converted_to
  converted_named t e h = by (same_type t e.ctype)
    where
      by : (b : Bool) → IsNamed (if b then e else typed t (form.Convert e))
      by true = h
      by false = convert_named t e h

  -- ---- the property

  module _ (has : HasParameters p) (s : Scope) (shaped : AreShaped p own f s) where
    abbrev naming : ExprProperty
    naming = record {
      scope = s;
      of_expr = IsNamed;
      of_target = IsNamedTarget;
      variable = λ name v q. object_named v.storage (shaped name (meaning.Object v) q).0;
      element = λ name a i q h. element_named a.storage i (shaped name (meaning.Array a) q) h;
      number = λ t n. by_form t (form.Number n) (open_form.Number n) (outs-Number n) (λ parts node free apart. refl);
      function = λ t g. by_form t (form.Function g) (open_form.Function g) (outs-Function g) (λ parts node free apart. refl);
      read = λ t l h. by_form t (form.Read l) (open_form.Read l) (outs-Read l) (λ parts node free apart. h parts free (λ k q. (or_parts _ _ (apart k q)).0));
      unary = λ t op a h. by_form t (form.Unary op a) (open_form.Unary op a) (outs-Unary op a) (λ parts node free apart. h parts free (λ k q. (or_parts _ _ (apart k q)).0));
      binary = λ t op a b h i. by_form t (form.Binary op a b) (open_form.Binary op a b) (outs-Binary op a b) (λ parts node free apart.
          and_from _ _ (h parts.0 free (λ k q. (or_parts _ _ (apart k q)).0)) (i parts.1 free (λ k q. (or_parts _ _ (or_parts _ _ (apart k q)).1).0)));
      both = λ t a b h i. by_form t (form.Both a b) (open_form.Both a b) (outs-Both a b) (λ parts node free apart.
          and_from _ _ (h parts.0 free (λ k q. (or_parts _ _ (apart k q)).0)) (i parts.1 free (λ k q. (or_parts _ _ (or_parts _ _ (apart k q)).1).0)));
      either = λ t a b h i. by_form t (form.Either a b) (open_form.Either a b) (outs-Either a b) (λ parts node free apart.
          and_from _ _ (h parts.0 free (λ k q. (or_parts _ _ (apart k q)).0)) (i parts.1 free (λ k q. (or_parts _ _ (or_parts _ _ (apart k q)).1).0)));
      choose = λ t c a b g h i. by_form t (form.Choose c a b) (open_form.Choose c a b) (outs-Choose c a b) (λ parts node free apart.
          and_from _ _ (g parts.0 free (λ k q. (or_parts _ _ (apart k q)).0)) (and_from _ _ (h parts.1 free (λ k q. (or_parts _ _ (or_parts _ _ (apart k q)).1).0))
          (i parts.2 free (λ k q. (or_parts _ _ (or_parts _ _ (or_parts _ _ (apart k q)).1).1).0))));
      convert = λ t a h. convert_named t a h;
      assign = λ t l a h i. by_form t (form.Set l a) (open_form.Set l a) (outs-Set l a) (λ parts node free apart.
          and_from _ _ (h parts.0 free (λ k q. (or_parts _ _ (apart k q)).0)) (i parts.1 free (λ k q. (or_parts _ _ (or_parts _ _ (apart k q)).1).0)));
      change = λ t op kind l a h i. by_form t (form.Change op kind l a) (open_form.Change op kind l a) (outs-Change op kind l a) (λ parts node free apart.
          and_from _ _ (h parts.0 free (λ k q. (or_parts _ _ (apart k q)).0)) (i parts.1 free (λ k q. (or_parts _ _ (or_parts _ _ (apart k q)).1).0)));
      after = λ t up l h. by_form t (form.After up l) (open_form.After up l) (outs-After up l) (λ parts node free apart. h parts free (λ k q. (or_parts _ _ (apart k q)).0));
      direct = λ t g args h. by_form t (form.Direct g args) (open_form.Direct g args) (outs-Direct g args) (λ parts node free apart.
          and_from _ _ (callable p has g node.0 t args _ (length-map args (named_expr free)) node.1 node.2 node.3) (all_named args h parts free apart));
      through = λ t args e h i. by_form t (form.Through args e) (open_form.Through args e) (outs-Through args e) (λ parts node free apart.
          and_from _ _ (all_named args h parts.0 free (λ k q. (any_last (map (names_local k) args) (names_local k e) (apart k q)).0))
          (i parts.1 free (λ k q. (any_last (map (names_local k) args) (names_local k e) (apart k q)).1)));
      call = λ k n args names order count h. by_form int (form.Known (with_index k n) args) (open_form.Known (with_index k n) args) (outs-Known (with_index k n) args)
          (λ parts node free apart. all_named args h parts free apart);
    }

    pub value_named : (n : Node) → IfGood (value_judgement s n) IsNamed
    value_named n = value_kept naming n

    pub effect_named : (n : Node) → IfGood (effect_judgement s n) IsNamed
    effect_named n = effect_kept naming n
