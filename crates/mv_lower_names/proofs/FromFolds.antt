-- What tests of the source tell, which hold of all expressions of its statements, of the names in the code.
use Rattle.std.proofs.Common.{◌≡◌, ℕ, suc, ◌<◌, Bool, true, List, [], ◌∷◌, ◌++◌, map, max, length, Option, Some, None, sym, ◌∙◌}
use Rattle.std.specs.Prelude.{option_to_list}
use Rattle.mv_ast.specs.declared.program.Known.{Known}
use Rattle.mv_ast.specs.declared.program.Expr.{Expr, fold-Expr, fold-roll-Expr}
use Rattle.mv_ast.specs.declared.program.Form.{Form, Form-F, fold-Form, fold-roll-Form, map-Form, roll-Form}
use Rattle.mv_ast.specs.declared.program.Form.TheOpen as form
use Rattle.mv_ast.specs.declared.program.Target.{Target, Target-F, fold-Target, fold-roll-Target, map-Target}
use Rattle.mv_ast.specs.declared.program.Stmt.{Stmt, Stmt-F, fold-Stmt, fold-roll-Stmt, map-Stmt, roll-Stmt}
use Rattle.mv_ast.specs.declared.program.Stmt.TheOpen as stmt
use Rattle.mv_ast.specs.declared.program.Arm.{Arm, Arm-F, fold-Arm, fold-roll-Arm, map-Arm, roll-Arm}
use Rattle.mv_ast.specs.Counts.{words_of_size}
use Rattle.mv_ast.specs.Layers.{stmt_expressions, stmt_parts}
use Rattle.mv_ir.proofs.Induction.{Each}
use Rattle.mv_source_forms.specs.Lists.{all_of}
use Rattle.mv_source_forms.proofs.ExpressionInduction.{FormChildren, TargetChildren}
use Rattle.mv_source_forms.specs.Scopes.{form_in, layer_in}
use Rattle.mv_source_forms.specs.Uses.{target_in_parts, all_layer}
use Rattle.mv_source_forms.proofs.Tests.{one_holds, two_hold, three_hold, all_apart, last_apart}
use Rattle.mv_lower_names.proofs.Premises.{OwnNames, KnownOf, Optional, StmtKnown, StmtsKnown}
use Rattle.mv_num.proofs.Booleans.{and_cases}

pub each_true : {A : Type 0} (test : A → Bool) (xs : List A) → all_of (map test xs) ≡ true → Each (λ x. test x ≡ true) xs
each_true test [] q = tt
each_true test (x ∷ xs) q = let s = and_cases (test x) (all_of (map test xs)) q in (s.0, each_true test xs s.1)

-- a test of forms that asks for one of all their parts
module _ (F : ℕ → Type 0) (K : Known → Type 0) (C : ℕ → Type 0) (test : Form-F Bool Bool Bool → Bool) where
  abbrev pub form_holds : Form → Bool
  form_holds = fold-Form Bool Bool Bool test target_in_parts layer_in

  abbrev pub target_holds : Target → Bool
  target_holds = fold-Target Bool Bool Bool test target_in_parts layer_in

  abbrev pub holds : Expr → Bool
  holds = fold-Expr Bool Bool Bool test target_in_parts layer_in

  abbrev pub PF : Form → Type 0
  PF f = form_holds f ≡ true

  abbrev pub PT : Target → Type 0
  PT t = target_holds t ≡ true

  abbrev pub PE : Expr → Type 0
  PE e = holds e ≡ true

  abbrev pub tested : Form-F Form Target Expr → Form-F Bool Bool Bool
  tested = map-Form Form Target Expr Bool Bool Bool form_holds target_holds holds

  -- what the test tells of a form
  pub record Tells (x : Form-F Form Target Expr) : Type 0 where
    pub own : OwnNames F K C x
    pub parts : form_in (tested x) ≡ true

  form_children : (x : Form-F Form Target Expr) → form_in (tested x) ≡ true → FormChildren PF PT PE x
  form_children (form.Number n) q = tt
  form_children (form.Read t) q = one_holds (target_holds t) q
  form_children (form.Function f) q = tt
  form_children (form.Unary op a) q = one_holds (holds a) q
  form_children (form.Binary op a b) q = two_hold (holds a) (holds b) q
  form_children (form.Both a b) q = two_hold (holds a) (holds b) q
  form_children (form.Either a b) q = two_hold (holds a) (holds b) q
  form_children (form.Choose c a b) q = three_hold (holds c) (holds a) (holds b) q
  form_children (form.Convert a) q = one_holds (holds a) q
  form_children (form.Set t a) q = two_hold (target_holds t) (holds a) q
  form_children (form.Change op kind t a) q = two_hold (target_holds t) (holds a) q
  form_children (form.After up t) q = one_holds (target_holds t) q
  form_children (form.Direct f args) q = each_true holds args q
  form_children (form.Through args e) q = let s = last_apart (map holds args) (holds e) q in (each_true holds args s.0, s.1)
  form_children (form.Known k args) q = each_true holds args q

  abbrev tested_target : Target-F Form Target Expr → Target-F Bool Bool Bool
  tested_target = map-Target Form Target Expr Bool Bool Bool form_holds target_holds holds

  target_children : (x : Target-F Form Target Expr) → target_in_parts (tested_target x) ≡ true → TargetChildren PF PT PE x
  target_children (form.Global g) q = tt
  target_children (form.Local l) q = tt
  target_children (form.GlobalAt g e) q = one_holds (holds e) q
  target_children (form.LocalAt l e) q = one_holds (holds e) q

  module _ (tells : (x : Form-F Form Target Expr) → test (tested x) ≡ true → Tells x) where
    at_form : (x : Form-F Form Target Expr) → PF (roll-Form x) → Tells x
    at_form x q = tells x (sym (fold-roll-Form Bool Bool Bool test target_in_parts layer_in x) ∙ q)

    pub test_known : KnownOf F K C PF PT PE
    test_known = record {
      own = λ x q. (at_form x q).own;
      form_parts = λ x q. form_children x (at_form x q).parts;
      target_parts = λ x q. target_children x (sym (fold-roll-Target Bool Bool Bool test target_in_parts layer_in x) ∙ q);
      what = λ x q. sym (fold-roll-Expr Bool Bool Bool test target_in_parts layer_in x) ∙ q;
    }

  -- ---- statements

  module _ (sizes : ℕ → Option ℕ) (stmt_test : Stmt-F Bool Bool → Bool) (arm_test : Arm-F Bool Bool → Bool) where
    abbrev pub stmt_holds : Stmt → Bool
    stmt_holds = fold-Stmt Bool Bool stmt_test arm_test

    abbrev pub arm_holds : Arm → Bool
    arm_holds = fold-Arm Bool Bool stmt_test arm_test

    abbrev pub PS : Stmt → Type 0
    PS s = stmt_holds s ≡ true

    abbrev pub PA : Arm → Type 0
    PA a = arm_holds a ≡ true

    abbrev pub tested_stmt : Stmt-F Stmt Arm → Stmt-F Bool Bool
    tested_stmt = map-Stmt Stmt Arm Bool Bool stmt_holds arm_holds

    abbrev pub tested_arm : Arm-F Stmt Arm → Arm-F Bool Bool
    tested_arm = map-Arm Stmt Arm Bool Bool stmt_holds arm_holds

    -- the indices of a local's words and the places of arms
    abbrev pub Counts : Stmt-F Stmt Arm → Type 0
    Counts (stmt.Clear l values) = (i : ℕ) → i < max (words_of_size (sizes l)) (length values) → C i
    Counts (stmt.Switch e arms) = (i : ℕ) → i < suc (length arms) → C i
    Counts _ = Unit {0}

    -- what the tests tell of a statement and of an arm
    pub record StmtTells (x : Stmt-F Stmt Arm) : Type 0 where
      pub counts : Counts x
      pub parts : all_layer holds (tested_stmt x) ≡ true

    pub record ArmTells (x : Arm-F Stmt Arm) : Type 0 where
      pub labels : Each C x.labels
      pub body : all_of (map stmt_holds x.body) ≡ true

    abbrev Parts : Stmt-F Stmt Arm → Type 0
    Parts = StmtKnown F K C sizes PE PS PA

    abbrev MayHold : Option Expr → Type 0
    MayHold = Optional F K C sizes PE PS PA

    optional : (o : Option Expr) → all_of (map holds (option_to_list o)) ≡ true → MayHold o
    optional None q = tt
    optional (Some e) q = one_holds (holds e) q

    optionals : (o u : Option Expr) → all_of (map holds (option_to_list o ++ option_to_list u)) ≡ true → MayHold o × MayHold u
    optionals None u q = (tt, optional u q)
    optionals (Some e) u q = let s = and_cases (holds e) (all_of (map holds (option_to_list u))) q in (s.0, optional u s.1)

    stmt_children : (x : Stmt-F Stmt Arm) → Counts x → all_of (map holds (stmt_expressions (tested_stmt x))) ≡ true → all_of (stmt_parts (tested_stmt x)) ≡ true → Parts x
    stmt_children (stmt.Block body) c q r = each_true stmt_holds body r
    stmt_children (stmt.Clear l values) c q r = (c, each_true holds values q)
    stmt_children (stmt.Express e) c q r = one_holds (holds e) q
    stmt_children (stmt.If e a b) c q r = let s = all_apart (map stmt_holds a) (map stmt_holds b) r in (one_holds (holds e) q, each_true stmt_holds a s.0, each_true stmt_holds b s.1)
    stmt_children (stmt.While e body) c q r = (one_holds (holds e) q, each_true stmt_holds body r)
    stmt_children (stmt.Do body e) c q r = (one_holds (holds e) q, each_true stmt_holds body r)
    stmt_children (stmt.For first when step body) c q r =
        let s = all_apart (map stmt_holds first) (map stmt_holds body) r in
        let o = optionals when step q in
        ((each_true stmt_holds first s.0, each_true stmt_holds body s.1), o.0, o.1)
    stmt_children (stmt.Switch e arms) c q r = (one_holds (holds e) q, c, each_true arm_holds arms r)
    stmt_children stmt.Break c q r = tt
    stmt_children stmt.Continue c q r = tt
    stmt_children (stmt.Return e) c q r = optional e q

    module _ (stmt_tells : (x : Stmt-F Stmt Arm) → stmt_test (tested_stmt x) ≡ true → StmtTells x) (arm_tells : (x : Arm-F Stmt Arm) → arm_test (tested_arm x) ≡ true → ArmTells x) where
      at_stmt : (x : Stmt-F Stmt Arm) → PS (roll-Stmt x) → StmtTells x
      at_stmt x q = stmt_tells x (sym (fold-roll-Stmt Bool Bool stmt_test arm_test x) ∙ q)

      at_arm : (x : Arm-F Stmt Arm) → PA (roll-Arm x) → ArmTells x
      at_arm x q = arm_tells x (sym (fold-roll-Arm Bool Bool stmt_test arm_test x) ∙ q)

      pub test_stmts_known : StmtsKnown F K C sizes PE PS PA
      test_stmts_known = record {
        parts = λ x q.
            let t = at_stmt x q in
            let s = and_cases (all_of (map holds (stmt_expressions (tested_stmt x)))) (all_of (stmt_parts (tested_stmt x))) t.parts in
            stmt_children x t.counts s.0 s.1;
        labels = λ x q. (at_arm x q).labels;
        body = λ x q. each_true stmt_holds x.body (at_arm x q).body;
      }
