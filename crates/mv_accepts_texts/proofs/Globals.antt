-- Whether an expression that is made of others names a global.
use Rattle.std.proofs.Common.{◌≡◌, ℕ, Bool, true, false, ◌||◌, refl, sym, ◌∙◌, ap, if◌then◌else◌, List, [], ◌∷◌, ◌++◌, map, append-nil, nat_eq, Option, Some, None}
use Rattle.std.proofs.Math.Bool.{or-false, or_assoc, or_comm}
use Rattle.std.proofs.lemmas.List.Folds.{concat-append}
use Rattle.std.specs.List.{concat}
use Rattle.mv_ast.specs.declared.program.CType.{CType}
use Rattle.mv_ast.specs.declared.program.Expr.{Expr}
use Rattle.mv_ast.specs.declared.program.Form.{Form, Form-F, out-Form}
use Rattle.mv_ast.specs.declared.program.Form.TheOpen as open_form
use Rattle.mv_ast.specs.declared.program.Form.TheVariants as form
use Rattle.mv_ast.specs.declared.program.Form.TheVariants.{outs-Number, outs-Read, outs-Function, outs-Unary, outs-Binary, outs-Both, outs-Either, outs-Choose, outs-Convert, outs-Set, outs-Change, outs-After, outs-Direct, outs-Through, outs-Known}
use Rattle.mv_ast.specs.declared.program.Known.{Known}
use Rattle.mv_ast.specs.declared.program.Target.{Target}
use Rattle.mv_ast.specs.declared.program.Target.TheVariants.{outs-Global, outs-Local, outs-GlobalAt, outs-LocalAt}
use Rattle.mv_num.specs.Lists.{is_among}
use Rattle.mv_check_scope.specs.Conversions.{int, typed, same_type, promotion, promoted, converted_to}
use Rattle.mv_check_scope.specs.declared.meaning.Storage.{Storage}
use Rattle.mv_check_scope.specs.declared.meaning.Storage.TheVariants as storage
use Rattle.mv_check_uses.specs.Uses.{expr_globals}
use Rattle.mv_check_uses.specs.Flags.{target_globals}
use Rattle.mv_check_uses.proofs.Forms.{expr_is, target_is, of_form, form_is}
use Rattle.mv_check_expressions.specs.declared.seen.Object.{Object}
use Rattle.mv_check_expressions.specs.Calls.{function_form, named_function, direct_or_through}
use Rattle.mv_check_expressions.specs.Found.{is_both, is_either, common_type, left_type, right_type, result_type, unary_of, computed_of, binary_of, choose_of, change_of, assign_to, compound_operator, one, before_of}
use Rattle.mv_check_expressions.specs.Seen.{object_at, element_at}
use Rattle.mv_accepts_texts.specs.Meanings.{is_stored}

-- ---- forms

module _ (g : ℕ) where
  -- ---- lists

  pub among_both : (xs ys : List ℕ) → is_among g (xs ++ ys) ≡ (is_among g xs || is_among g ys)
  among_both [] ys = refl
  among_both (x ∷ xs) ys = ap (λ b. nat_eq g x || b) (among_both xs ys) ∙ sym (or_assoc (nat_eq g x) (is_among g xs) (is_among g ys))

  among_one : (xs : List ℕ) → is_among g (xs ++ []) ≡ is_among g xs
  among_one xs = ap (is_among g) (append-nil xs)

  among_two : (xs ys : List ℕ) → is_among g (xs ++ (ys ++ [])) ≡ (is_among g xs || is_among g ys)
  among_two xs ys = among_both xs (ys ++ []) ∙ ap (λ b. is_among g xs || b) (among_one ys)

  among_three : (xs ys zs : List ℕ) → is_among g (xs ++ (ys ++ (zs ++ []))) ≡ (is_among g xs || (is_among g ys || is_among g zs))
  among_three xs ys zs = among_both xs (ys ++ (zs ++ [])) ∙ ap (λ b. is_among g xs || b) (among_two ys zs)

  -- ---- expressions of each form

  abbrev pub Names : Expr → Bool
  Names e = is_among g (expr_globals e)

  abbrev pub NamesAny : List Expr → Bool
  NamesAny es = is_among g (concat (map expr_globals es))

  abbrev pub TargetNames : Target → Bool
  TargetNames t = is_among g (target_globals t)

  module _ (t : CType) where
    made : (f : Form) (x : Form-F Form Target Expr) → out-Form f ≡ x → Names (typed t f) ≡ is_among g (of_form x)
    made f x o = ap (is_among g) (expr_is (typed t f) ∙ form_is f x o)

    pub number_names : (n : ℕ) → Names (typed t (form.Number n)) ≡ false
    number_names n = made _ _ (outs-Number n)

    pub read_names : (l : Target) → Names (typed t (form.Read l)) ≡ TargetNames l
    read_names l = made _ _ (outs-Read l) ∙ among_one (target_globals l)

    pub function_names : (f : ℕ) → Names (typed t (form.Function f)) ≡ false
    function_names f = made _ _ (outs-Function f)

    unary_names : (op : ℕ) (a : Expr) → Names (typed t (form.Unary op a)) ≡ Names a
    unary_names op a = made _ _ (outs-Unary op a) ∙ among_one (expr_globals a)

    binary_names : (op : ℕ) (a b : Expr) → Names (typed t (form.Binary op a b)) ≡ (Names a || Names b)
    binary_names op a b = made _ _ (outs-Binary op a b) ∙ among_two (expr_globals a) (expr_globals b)

    both_names : (a b : Expr) → Names (typed t (form.Both a b)) ≡ (Names a || Names b)
    both_names a b = made _ _ (outs-Both a b) ∙ among_two (expr_globals a) (expr_globals b)

    either_names : (a b : Expr) → Names (typed t (form.Either a b)) ≡ (Names a || Names b)
    either_names a b = made _ _ (outs-Either a b) ∙ among_two (expr_globals a) (expr_globals b)

    choose_names : (c a b : Expr) → Names (typed t (form.Choose c a b)) ≡ (Names c || (Names a || Names b))
    choose_names c a b = made _ _ (outs-Choose c a b) ∙ among_three (expr_globals c) (expr_globals a) (expr_globals b)

    convert_names : (a : Expr) → Names (typed t (form.Convert a)) ≡ Names a
    convert_names a = made _ _ (outs-Convert a) ∙ among_one (expr_globals a)

    set_names : (l : Target) (a : Expr) → Names (typed t (form.Set l a)) ≡ (TargetNames l || Names a)
    set_names l a = made _ _ (outs-Set l a) ∙ among_two (target_globals l) (expr_globals a)

    change_names : (op : ℕ) (s : CType) (l : Target) (a : Expr) → Names (typed t (form.Change op s l a)) ≡ (TargetNames l || Names a)
    change_names op s l a = made _ _ (outs-Change op s l a) ∙ among_two (target_globals l) (expr_globals a)

    pub after_names : (up : Bool) (l : Target) → Names (typed t (form.After up l)) ≡ TargetNames l
    after_names up l = made _ _ (outs-After up l) ∙ among_one (target_globals l)

    direct_names : (f : ℕ) (args : List Expr) → Names (typed t (form.Direct f args)) ≡ NamesAny args
    direct_names f args = made _ _ (outs-Direct f args)

    through_names : (args : List Expr) (f : Expr) → Names (typed t (form.Through args f)) ≡ (NamesAny args || Names f)
    through_names args f =
        made _ _ (outs-Through args f) ∙
        (ap (is_among g) (concat-append (map expr_globals args) (expr_globals f ∷ [])) ∙ among_two (concat (map expr_globals args)) (expr_globals f))

    pub known_names : (k : Known) (args : List Expr) → Names (typed t (form.Known k args)) ≡ NamesAny args
    known_names k args = made _ _ (outs-Known k args)

  -- ---- objects

  pub object_names : (s : Storage) → TargetNames (object_at s) ≡ is_stored g s
  object_names (storage.Global n) = ap (is_among g) (target_is _ _ (outs-Global n)) ∙ or-false (nat_eq g n)
  object_names (storage.Local l) = ap (is_among g) (target_is _ _ (outs-Local l))

  pub element_names : (s : Storage) (i : Expr) → TargetNames (element_at s i) ≡ (is_stored g s || Names i)
  element_names (storage.Global n) i = ap (is_among g) (target_is _ _ (outs-GlobalAt n i))
  element_names (storage.Local l) i = ap (is_among g) (target_is _ _ (outs-LocalAt l i))

  -- ---- what the judgement makes

  pub converted_names : (t : CType) (e : Expr) → Names (converted_to t e) ≡ Names e
  unfolding converted_to
  converted_names t e = by (same_type t e.ctype)
    where
      by : (b : Bool) → Names (if b then e else typed t (form.Convert e)) ≡ Names e
      by true = refl
      by false = convert_names t e

  pub promoted_names : (e : Expr) → Names (promoted e) ≡ Names e
  promoted_names e = converted_names (promotion e.ctype) e

  pub one_names : (op : ℕ) (a : Expr) → Names (unary_of op a) ≡ Names a
  unfolding unary_of
  one_names op a = by (nat_eq op 11)
    where
      by : (b : Bool) → Names (if b then typed int (form.Unary op a) else typed (promotion a.ctype) (form.Unary op (promoted a))) ≡ Names a
      by true = unary_names int op a
      by false = unary_names (promotion a.ctype) op (promoted a) ∙ promoted_names a

  pub either_same : (a b c d : Bool) → a ≡ c → b ≡ d → (a || b) ≡ (c || d)
  either_same a b c d h k = ap (λ x. x || b) h ∙ ap (λ x. c || x) k

  pub two_names : (op : ℕ) (a b : Expr) → Names (binary_of op a b) ≡ (Names a || Names b)
  unfolding binary_of
  two_names op a b = by (is_both op) (is_either op)
    where
      by : (x y : Bool) →
          Names (if x then typed int (form.Both a b) else if y then typed int (form.Either a b) else computed_of op (left_type op a.ctype b.ctype) (right_type op a.ctype b.ctype) a b) ≡
          (Names a || Names b)
      by true y = both_names int a b
      by false true = either_names int a b
      by false false =
          binary_names (result_type op (left_type op a.ctype b.ctype)) op (converted_to (left_type op a.ctype b.ctype) a) (converted_to (right_type op a.ctype b.ctype) b) ∙
          either_same _ _ _ _ (converted_names (left_type op a.ctype b.ctype) a) (converted_names (right_type op a.ctype b.ctype) b)

  pub three_names : (c a b : Expr) → Names (choose_of c a b) ≡ (Names c || (Names a || Names b))
  unfolding choose_of
  three_names c a b =
      let t : CType = common_type a.ctype b.ctype in
      choose_names t c (converted_to t a) (converted_to t b) ∙
      ap (λ x. Names c || x) (either_same _ _ _ _ (converted_names t a) (converted_names t b))

  changed_names : (op : ℕ) (o : Object) (b : Expr) → Names (change_of op o b) ≡ (TargetNames o.target || Names b)
  unfolding change_of
  changed_names op o b =
      let t : CType = right_type op o.ctype b.ctype in
      change_names o.ctype op (left_type op o.ctype b.ctype) o.target (converted_to t b) ∙ ap (λ x. TargetNames o.target || x) (converted_names t b)

  pub assigned_names : (op : ℕ) (o : Object) (b : Expr) → Names (assign_to op o b) ≡ (TargetNames o.target || Names b)
  unfolding assign_to
  assigned_names op o b = by (nat_eq op 22)
    where
      by : (x : Bool) → Names (if x then typed o.ctype (form.Set o.target (converted_to o.ctype b)) else change_of (compound_operator op) o b) ≡
          (TargetNames o.target || Names b)
      by true = set_names o.ctype o.target (converted_to o.ctype b) ∙ ap (λ x. TargetNames o.target || x) (converted_names o.ctype b)
      by false = changed_names (compound_operator op) o b

  pub before_names : (up : Bool) (o : Object) → Names (before_of up (Some o)) ≡ TargetNames o.target
  before_names up o =
      changed_names (if up then 12 else 13) o one ∙ (ap (λ x. TargetNames o.target || x) (number_names int 1) ∙ or-false (TargetNames o.target))

  -- ---- calls of what isn't known

  named_none : (x : Form-F Form Target Expr) (f : ℕ) → function_form x ≡ Some f → is_among g (of_form x) ≡ false
  named_none (open_form.Function n) f h = refl
  named_none x f h = absurd (cc)

  pub called_names : (t : CType) (callee : Expr) (values : List Expr) →
      Names (typed t (direct_or_through (named_function callee) callee values)) ≡ (Names callee || NamesAny values)
  called_names t callee values = by (named_function callee) refl
    where
      by : (o : Option ℕ) → named_function callee ≡ o → Names (typed t (direct_or_through o callee values)) ≡ (Names callee || NamesAny values)
      by None h = through_names t values callee ∙ or_comm (NamesAny values) (Names callee)
      by (Some f) h =
          direct_names t f values ∙
          ap (λ x. x || NamesAny values) (sym (ap (is_among g) (expr_is callee ∙ form_is callee.what (out-Form callee.what) refl) ∙ named_none (out-Form callee.what) f h))
