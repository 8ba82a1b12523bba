-- That a statement names what there is comes from its parts, where it is well typed.
use Rattle.std.proofs.Common.{◌≡◌, ℕ, Bool, true, false, not, ◌||◌, refl, ◌∙◌, ap, subst, List, [], ◌∷◌, map, length, Option, Some, None, nat_eq, nat_le, slice_get, arith}
use Rattle.std.specs.List.{AllByRecursion}
use Rattle.std.proofs.lemmas.Option.{slice_get_within}
use Rattle.std.proofs.lemmas.Bool.{and_from, or_parts, lt-ltb}
use Rattle.mv_ast.specs.declared.program.Arm.{Arm, fold_out-Arm}
use Rattle.mv_ast.specs.declared.program.CType.{CType}
use Rattle.mv_ast.specs.declared.program.Program.{Program}
use Rattle.mv_ast.specs.declared.program.Function.{Function}
use Rattle.mv_ast.specs.declared.program.Local.{Local}
use Rattle.mv_ast.specs.declared.program.Expr.{Expr}
use Rattle.mv_ast.specs.declared.program.Stmt.{Stmt, Stmt-F, map-Stmt, out-Stmt, fold_out-Stmt}
use Rattle.mv_ast.specs.declared.program.Stmt.TheVariants as stmt
use Rattle.mv_ast.specs.declared.program.Stmt.TheVariants.{outs-Block, outs-Clear, outs-Express, outs-If, outs-While, outs-Do, outs-For, outs-Switch, outs-Break, outs-Continue, outs-Return}
use Rattle.mv_ast.specs.declared.program.Stmt.TheOpen as open_stmt
use Rattle.mv_syntax.specs.declared.unit.Line.{Line}
use Rattle.mv_syntax.specs.declared.unit.Node.{Node}
use Rattle.mv_ast.specs.Counts.{words_of_size}
use Rattle.mv_ast.specs.Names.{any_of, names_local}
use Rattle.mv_check_scope.specs.declared.scope.Scope.{Scope}
use Rattle.mv_check_scope.specs.Constants.{converts}
use Rattle.mv_check_scope.specs.Conversions.{promotion, promoted, converted_to}
use Rattle.mv_check_statements.specs.SwitchBodies.{arms_of}
use Rattle.mv_check_statements.specs.Statements.{body_judgement}
use Rattle.mv_check_expressions.specs.Judged.{Good}
use Rattle.mv_check_expressions.specs.Judgements.{value_judgement, effect_judgement}
use Rattle.mv_check_declarations.specs.Locals.{local_values}
use Rattle.mv_source_forms.specs.Typing.{IsTypedExpr}
use Rattle.mv_accepts.specs.Expressions.Soundness.{Fits, GoodIsTyped, EffectIsTyped}
use Rattle.mv_accepts.proofs.OfExpressions.Types.{integer_is}
use Rattle.mv_source_forms.specs.Lists.{all_of}
use Rattle.mv_source_forms.specs.Names.{is_void, is_well_named, but_for, named_option, stmt_named_layer, arm_named_layer, stmt_is_well_formed, arm_is_well_formed, size_of_local, size_in}
use Rattle.mv_accepts.specs.Statements.Bodies.{Keeps}
use Rattle.mv_accepts.proofs.OfStatements.Judging.{IfGood, by_good, if_both}
use Rattle.mv_accepts.proofs.OfStatements.Bodies.{body_has}
use Rattle.mv_accepts.proofs.OfStatements.Conversions.{converted_at, promoted_at}
use Rattle.mv_accepts.proofs.OfStatements.Property.{OfOption, Holds, Property}
use Rattle.mv_accepts.proofs.OfStatements.SwitchBodies.{BodyHas, BodiesHave, arms_have, label_leaves, statement_has}
use Rattle.mv_accepts.proofs.OfStatements.Values.{initials_have, initials_fit}
use Rattle.mv_accepts.specs.Bodies.Formed.{IsShaped, AreShaped, HasParameters}
use Rattle.mv_accepts.proofs.OfBodies.Tests.{all_tested}
use Rattle.mv_accepts.proofs.OfBodies.Counted.{void_is}
use Rattle.mv_accepts.proofs.OfBodies.NamedExpressions.{Apart, IsNamed, converted_named, value_named, effect_named}
use Rattle.mv_accepts.proofs.OfBodies.Shapes.{scalar_shaped, array_shaped}

module _ (p : Program) (own : ℕ) (f : Function) where
  -- well typed, and named as it should be
  abbrev V : Expr → Type 0
  V e = IsTypedExpr p f e × IsNamed p own f e

  abbrev named_expr : Expr → Bool
  named_expr = is_well_named p own (length f.locals) (size_in f.locals) (λ l. true)

  value_is : (e : Expr) → V e → named_expr e ≡ true
  value_is e h = h.1 h.0 (λ l. true) (λ l q. absurd (cc))

  option_is : (o : Option Expr) → OfOption V o → named_option p own (length f.locals) (size_in f.locals) (is_void f.result) o ≡ true
  option_is None h = refl
  option_is (Some e) h = value_is e h

  -- ---- the values of a local

  all_are : (es : List Expr) → AllByRecursion V es → all_of (map named_expr es) ≡ true
  all_are [] h = refl
  all_are (e ∷ es) h = and_from _ _ (value_is e h.0) (all_are es h.1)

  apart_from : (n : ℕ) (e : Expr) → names_local n e ≡ false → Apart p own f (but_for n) e
  apart_from n e h k q = subst (λ l. names_local l e ≡ false) (same k n (yes (nat_eq k n) q)) h
    where
      yes : (b : Bool) → not b ≡ false → b ≡ true
      yes true r = refl
      yes false r = absurd (cc)

      same : (k n : ℕ) → nat_eq k n ≡ true → n ≡ k
      same k n h = grind (arith, h)

  all_apart : (n : ℕ) (es : List Expr) → AllByRecursion V es → any_of (map (names_local n) es) ≡ false →
      all_of (map (is_well_named p own (length f.locals) (size_in f.locals) (but_for n)) es) ≡ true
  all_apart n [] h q = refl
  all_apart n (e ∷ es) h q =
      let r = or_parts (names_local n e) (any_of (map (names_local n) es)) q in
      and_from _ _ (h.0.1 h.0.0 (but_for n) (apart_from n e r.0)) (all_apart n es h.1 r.1)

  own_or_apart : (n : ℕ) (es : List Expr) → AllByRecursion V es →
      (any_of (map (names_local n) es) || all_of (map (is_well_named p own (length f.locals) (size_in f.locals) (but_for n)) es)) ≡ true
  own_or_apart n es h = by (any_of (map (names_local n) es)) (all_apart n es h)
    where
      by : (b : Bool) → (b ≡ false → all_of (map (is_well_named p own (length f.locals) (size_in f.locals) (but_for n)) es) ≡ true) →
          (b || all_of (map (is_well_named p own (length f.locals) (size_in f.locals) (but_for n)) es)) ≡ true
      by true k = refl
      by false k = k refl

  -- ---- statements

  abbrev H : Stmt → Type 0
  H s = stmt_is_well_formed p own (length f.locals) (size_in f.locals) (is_void f.result) s ≡ true

  abbrev formed : Stmt → Bool
  formed = stmt_is_well_formed p own (length f.locals) (size_in f.locals) (is_void f.result)

  abbrev layer_of : Stmt-F Stmt Arm → Bool
  layer_of z = stmt_named_layer p own (length f.locals) (size_in f.locals) (is_void f.result)
      (map-Stmt Stmt Arm Bool Bool (stmt_is_well_formed p own (length f.locals) (size_in f.locals) (is_void f.result))
      (arm_is_well_formed p own (length f.locals) (size_in f.locals) (is_void f.result)) z)

  holds_by : (w : Stmt) (z : Stmt-F Stmt Arm) → out-Stmt w ≡ z → layer_of z ≡ true → H w
  holds_by w z o h =
      fold_out-Stmt Bool Bool (stmt_named_layer p own (length f.locals) (size_in f.locals) (is_void f.result)) (arm_named_layer p own (length f.locals) (size_in f.locals) (is_void f.result)) w ∙
      (ap layer_of o ∙ h)

  arms_hold : (arms : List Arm) → AllByRecursion (BodyHas H) arms → all_of (map (arm_is_well_formed p own (length f.locals) (size_in f.locals) (is_void f.result)) arms) ≡ true
  arms_hold [] h = refl
  arms_hold (a ∷ arms) h =
      and_from _ _
      (fold_out-Arm Bool Bool (stmt_named_layer p own (length f.locals) (size_in f.locals) (is_void f.result)) (arm_named_layer p own (length f.locals) (size_in f.locals) (is_void f.result)) a ∙
      all_tested formed a.body h.0) (arms_hold arms h.1)

  clear_holds : (n : ℕ) (l : Local) (es : List Expr) → slice_get f.locals n ≡ Some l → AllByRecursion V es → nat_le (length es) (words_of_size l.size) ≡ true →
      layer_of (open_stmt.Clear n es) ≡ true
  clear_holds n l es there h fits =
      and_from _ _ (lt-ltb n (length f.locals) (slice_get_within f.locals n l there))
      (and_from _ _ (ap (λ o. nat_le (length es) (words_of_size (size_of_local o))) there ∙ fits)
      (and_from _ _ (all_are es h) (own_or_apart n es h)))

  -- ---- the property

  module _ (values : GoodIsTyped) (effects : EffectIsTyped) (has : HasParameters p) where
    value_has : (s : Scope) → Holds p f (IsShaped p own f) s → (n : Node) → IfGood (value_judgement s n) V
    value_has s k n =
        if_both (IsTypedExpr p f) (IsNamed p own f) (value_judgement s n)
        (by_good (IsTypedExpr p f) (value_judgement s n) (λ y q. values p f s n y k.fits q)) (value_named p own f has s k.names n)

    effect_has : (s : Scope) → Holds p f (IsShaped p own f) s → (n : Node) → IfGood (effect_judgement s n) V
    effect_has s k n =
        if_both (IsTypedExpr p f) (IsNamed p own f) (effect_judgement s n)
        (by_good (IsTypedExpr p f) (effect_judgement s n) (λ y q. effects p f s n y k.fits q)) (effect_named p own f has s k.names n)

    converted_has : (t : CType) (e : Expr) → V e → converts e t ≡ true → V (converted_to t e)
    converted_has t e h q = ((converted_at p f t e h.0 q).0, converted_named p own f t e h.1)

    abbrev naming : Property
    naming = record {
      program = p;
      function = f;
      of_name = IsShaped p own f;
      of_value = V;
      of_values = λ l es. AllByRecursion V es × (nat_le (length es) (words_of_size l.size) ≡ true);
      of_stmt = λ b c s. H s;
      of_arms = λ c y. BodiesHave H y;
      enumerator = λ v. tt;
      scalar_local = λ n t fixed h. scalar_shaped p own f n t fixed h;
      array_local = λ n t size fixed h. array_shaped p own f n t size fixed h;
      value = value_has;
      effect = effect_has;
      initials = λ s k d taken l. if_both (AllByRecursion V) (λ es. nat_le (length es) (words_of_size l.size) ≡ true) (local_values d taken l s)
          (initials_have s V (value_has s k) (λ t e. V e) converted_has d taken l) (initials_fit d taken l s);
      block_form = λ b c ss h. holds_by (stmt.Block ss) (open_stmt.Block ss) (outs-Block ss) (all_tested formed ss h);
      clear_form = λ b c n l es there h. holds_by (stmt.Clear n es) (open_stmt.Clear n es) (outs-Clear n es) (clear_holds n l es there h.0 h.1);
      express_form = λ b c e h. holds_by (stmt.Express e) (open_stmt.Express e) (outs-Express e) (value_is e h);
      if_form = λ b c e ss ts h i j. holds_by (stmt.If e ss ts) (open_stmt.If e ss ts) (outs-If e ss ts) (and_from _ _ (value_is e h) (and_from _ _ (all_tested formed ss i) (all_tested formed ts j)));
      while_form = λ b c e ss h i. holds_by (stmt.While e ss) (open_stmt.While e ss) (outs-While e ss) (and_from _ _ (value_is e h) (all_tested formed ss i));
      do_form = λ b c ss e i h. holds_by (stmt.Do ss e) (open_stmt.Do ss e) (outs-Do ss e) (and_from _ _ (value_is e h) (all_tested formed ss i));
      for_form = λ b c first test step ss h i j k. holds_by (stmt.For first test step ss) (open_stmt.For first test step ss) (outs-For first test step ss)
          (and_from _ _ (all_tested formed first h) (and_from _ _ (option_is test i) (and_from _ _ (option_is step j) (all_tested formed ss k))));
      break_form = λ c. holds_by stmt.Break open_stmt.Break outs-Break refl;
      continue_form = λ b. holds_by stmt.Continue open_stmt.Continue outs-Continue refl;
      nothing_form = λ b c q. holds_by (stmt.Return None) (open_stmt.Return None) (outs-Return None) (void_is f.result true q);
      return_form = λ b c e q k h. holds_by (stmt.Return (Some (converted_to f.result e))) (open_stmt.Return (Some (converted_to f.result e))) (outs-Return (Some (converted_to f.result e)))
          (and_from _ _ (ap not (void_is f.result false q)) (value_is (converted_to f.result e) (converted_has f.result e h k)));
      switch_form = λ b c e y q h k. holds_by (stmt.Switch (promoted e) (arms_of y)) (open_stmt.Switch (promoted e) (arms_of y)) (outs-Switch (promoted e) (arms_of y))
          (and_from _ _ (value_is (promoted e) ((promoted_at p f e h.0 (integer_is e.ctype q)).0, converted_named p own f (promotion e.ctype) e h.1)) (arms_hold (arms_of y) (arms_have H y k)));
      no_arm_form = λ c. (tt, tt);
      case_form = λ c v y h. label_leaves H y h;
      default_form = λ c y q h. label_leaves H y h;
      statement_form = λ c s y h k. statement_has H s y h k;
    }

    pub names_hold : (body : Line) (s u : Scope) (ss : List Stmt) → body_judgement f.result body s ≡ Good (u, ss) → Keeps u.signatures p.signatures → Keeps u.locals f.locals →
        Fits p f s → AreShaped p own f s →
        AreShaped p own f u × (all_of (map (stmt_is_well_formed p own (length f.locals) (size_in f.locals) (is_void f.result)) ss) ≡ true)
    names_hold body s u ss q signatures locals fits shaped =
        let y = body_has naming body s u ss q signatures locals (record { fits = fits; names = shaped }) in
        (y.0.names, all_tested formed ss y.1)
