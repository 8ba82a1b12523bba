-- That the arms of each `switch` are labelled as they should be comes from the parts of a statement.
use mathlib.Core.Bool.{or-true}
use Rattle.std.proofs.Common.{◌≡◌, ℕ, Bool, true, false, not, ◌||◌, refl, ◌∙◌, ap, if◌then◌else◌, List, [], ◌∷◌, ◌++◌, map, Some, None}
use Rattle.std.specs.List.{AllByRecursion}
use Rattle.std.proofs.lemmas.Bool.{and_from}
use Rattle.mv_ast.specs.declared.program.Arm.{Arm, fold_out-Arm}
use Rattle.mv_ast.specs.declared.program.Program.{Program}
use Rattle.mv_ast.specs.declared.program.Function.{Function}
use Rattle.mv_ast.specs.declared.program.Stmt.{Stmt, Stmt-F, map-Stmt, out-Stmt, fold_out-Stmt}
use Rattle.mv_ast.specs.declared.program.Stmt.TheVariants as stmt
use Rattle.mv_ast.specs.declared.program.Stmt.TheVariants.{outs-Block, outs-Clear, outs-Express, outs-If, outs-While, outs-Do, outs-For, outs-Switch, outs-Break, outs-Continue, outs-Return}
use Rattle.mv_ast.specs.declared.program.Stmt.TheOpen as open_stmt
use Rattle.mv_ast.specs.Names.{any_of}
use Rattle.mv_check_scope.specs.Conversions.{promoted, converted_to}
use Rattle.mv_check_statements.specs.declared.arms.Arms.{Arms}
use Rattle.mv_check_statements.specs.SwitchBodies.{no_arm, has_statements, at_label, labelled, labelled_other, with_case, with_default, with_statement, arms_of}
use Rattle.mv_check_expressions.specs.Judgements.{value_judgement, effect_judgement}
use Rattle.mv_check_declarations.specs.Locals.{local_values}
use Rattle.mv_source_forms.specs.Lists.{all_of}
use Rattle.mv_source_forms.specs.Labels.{at_most_one, has_label, ArmLabels, later_arms, arms_labelled, labels_layer, arm_labels_layer, stmt_labelled, arm_labels}
use Rattle.mv_syntax.specs.declared.unit.Line.{Line}
use Rattle.mv_check_scope.specs.declared.scope.Scope.{Scope}
use Rattle.mv_check_expressions.specs.Judged.{Good}
use Rattle.mv_check_statements.specs.Statements.{body_judgement}
use Rattle.mv_accepts.specs.Expressions.Soundness.{Fits}
use Rattle.mv_accepts.specs.Statements.Bodies.{Keeps}
use Rattle.mv_accepts.proofs.OfStatements.Bodies.{body_has}
use Rattle.mv_accepts.proofs.OfStatements.Judging.{if_any}
use Rattle.mv_accepts.proofs.OfStatements.Property.{Property}
use Rattle.mv_accepts.proofs.OfStatements.SwitchBodies.{BodyHas, BodiesHave, arms_have, label_leaves, statement_has}
use Rattle.mv_accepts.proofs.OfStatements.Lists.{all_last}
use Rattle.mv_accepts.proofs.OfBodies.Tests.{all_tested}
use Rattle.mv_meaning.specs.Arms.{has_default}

abbrev Labelled : Stmt → Type 0
Labelled s = stmt_labelled s ≡ true

abbrev layer_of : Stmt-F Stmt Arm → Bool
layer_of z = labels_layer (map-Stmt Stmt Arm Bool ArmLabels stmt_labelled arm_labels z)

labelled_by : (w : Stmt) (z : Stmt-F Stmt Arm) → out-Stmt w ≡ z → layer_of z ≡ true → Labelled w
labelled_by w z o h = fold_out-Stmt Bool ArmLabels labels_layer arm_labels_layer w ∙ (ap layer_of o ∙ h)

-- ---- arms, by their own labels

abbrev label_of : Arm → Bool
label_of a = has_label a.labels || a.other

arm_is : (a : Arm) → arm_labels a ≡ record { is_default = a.other; is_labelled = has_label a.labels || a.other; holds = all_of (map stmt_labelled a.body) }
arm_is a = fold_out-Arm Bool ArmLabels labels_layer arm_labels_layer a

defaults_are : (arms : List Arm) → map (λ (a : ArmLabels). a.is_default) (map arm_labels arms) ≡ map has_default arms
defaults_are [] = refl
defaults_are (a ∷ arms) = rw (ap (λ (l : ArmLabels). l.is_default) (arm_is a), defaults_are arms) refl

labels_are : (arms : List Arm) → AllByRecursion (λ a. label_of a ≡ true) arms → all_of (map (λ (a : ArmLabels). a.is_labelled) (map arm_labels arms)) ≡ true
labels_are [] h = refl
labels_are (a ∷ arms) h = and_from _ _ (ap (λ (l : ArmLabels). l.is_labelled) (arm_is a) ∙ h.0) (labels_are arms h.1)

bodies_hold : (arms : List Arm) → AllByRecursion (BodyHas Labelled) arms → all_of (map (λ (a : ArmLabels). a.holds) (map arm_labels arms)) ≡ true
bodies_hold [] h = refl
bodies_hold (a ∷ arms) h = and_from _ _ (ap (λ (l : ArmLabels). l.holds) (arm_is a) ∙ all_tested stmt_labelled a.body h.0) (bodies_hold arms h.1)

-- all behind the first have a label
abbrev LaterLabelled : List Arm → Type 0
LaterLabelled [] = Unit {0}
LaterLabelled (a ∷ arms) = AllByRecursion (λ b. label_of b ≡ true) arms

later_hold : (arms : List Arm) → LaterLabelled arms → all_of (map (λ (a : ArmLabels). a.is_labelled) (later_arms (map arm_labels arms))) ≡ true
later_hold [] h = refl
later_hold (a ∷ arms) h = labels_are arms h

-- ---- the arms so far: as the list is closed at each moment

pub record AreLabelled (y : Arms) : Type 0 where
  pub bodies : BodiesHave Labelled y
  pub default : at_most_one (map has_default (arms_of y)) ≡ true
  pub any : y.other ≡ false → any_of (map has_default (arms_of y)) ≡ false
  pub later : LaterLabelled (arms_of y)

arms_hold : (y : Arms) → AreLabelled y → arms_labelled (map arm_labels (arms_of y)) ≡ true
arms_hold y h =
    and_from _ _ (ap at_most_one (defaults_are (arms_of y)) ∙ h.default)
    (and_from _ _ (later_hold (arms_of y) h.later) (bodies_hold (arms_of y) (arms_have Labelled y h.bodies)))

-- the last of some arms gets another label, or an arm with a label comes behind them
last_labelled : (arms : List Arm) (a b : Arm) → label_of b ≡ true → LaterLabelled (arms ++ a ∷ []) → LaterLabelled (arms ++ b ∷ [])
last_labelled [] a b q h = tt
last_labelled (z ∷ arms) a b q h = by arms h
  where
    by : (zs : List Arm) → AllByRecursion (λ c. label_of c ≡ true) (zs ++ a ∷ []) → AllByRecursion (λ c. label_of c ≡ true) (zs ++ b ∷ [])
    by [] k = (q, tt)
    by (c ∷ zs) k = (k.0, by zs k.1)

one_more : (arms : List Arm) (a b : Arm) → label_of b ≡ true → LaterLabelled (arms ++ a ∷ []) → LaterLabelled ((arms ++ a ∷ []) ++ b ∷ [])
one_more [] a b q h = (q, tt)
one_more (z ∷ arms) a b q h = all_last (λ c. label_of c ≡ true) (arms ++ a ∷ []) b h q

-- a last arm that is as much `default` as the one before it, or has none behind it
same_defaults : (arms : List Arm) (a b : Arm) → b.other ≡ a.other → map has_default (arms ++ b ∷ []) ≡ map has_default (arms ++ a ∷ [])
same_defaults [] a b q = ap (λ x. x ∷ []) q
same_defaults (z ∷ arms) a b q = ap (λ l. z.other ∷ l) (same_defaults arms a b q)

none_more : (arms : List Arm) (b : Arm) → b.other ≡ false → any_of (map has_default (arms ++ b ∷ [])) ≡ any_of (map has_default arms)
none_more [] b q = rw q refl
none_more (z ∷ arms) b q = ap (λ x. z.other || x) (none_more arms b q)

one_left : (arms : List Arm) (b : Arm) → b.other ≡ false → at_most_one (map has_default (arms ++ b ∷ [])) ≡ at_most_one (map has_default arms)
one_left [] b q = rw q refl
one_left (z ∷ arms) b q = by z.other (one_left arms b q)
  where
    by : (x : Bool) → at_most_one (map has_default (arms ++ b ∷ [])) ≡ at_most_one (map has_default arms) →
        (if x then not (any_of (map has_default (arms ++ b ∷ []))) else at_most_one (map has_default (arms ++ b ∷ []))) ≡
        (if x then not (any_of (map has_default arms)) else at_most_one (map has_default arms))
    by true h = ap not (none_more arms b q)
    by false h = h

first_default : (arms : List Arm) (b : Arm) → any_of (map has_default arms) ≡ false → at_most_one (map has_default (arms ++ b ∷ [])) ≡ true
first_default [] b h = by b.other
  where
    by : (x : Bool) → (if x then true else true) ≡ true
    by true = refl
    by false = refl
first_default (z ∷ arms) b h = by z.other h (first_default arms b)
  where
    by : (x : Bool) → (x || any_of (map has_default arms)) ≡ false → (any_of (map has_default arms) ≡ false → at_most_one (map has_default (arms ++ b ∷ [])) ≡ true) →
        (if x then not (any_of (map has_default (arms ++ b ∷ []))) else at_most_one (map has_default (arms ++ b ∷ []))) ≡ true
    by true k r = absurd (cc)
    by false k r = r k

any_before : (arms : List Arm) (b : Arm) → any_of (map has_default (arms ++ b ∷ [])) ≡ false → any_of (map has_default arms) ≡ false
any_before [] b h = refl
any_before (z ∷ arms) b h = by z.other h (any_before arms b)
  where
    by : (x : Bool) → (x || any_of (map has_default (arms ++ b ∷ []))) ≡ false →
        (any_of (map has_default (arms ++ b ∷ [])) ≡ false → any_of (map has_default arms) ≡ false) → (x || any_of (map has_default arms)) ≡ false
    by true k r = absurd (cc)
    by false k r = r k

same_labels : (arms : List Arm) (a b : Arm) → label_of b ≡ label_of a → LaterLabelled (arms ++ a ∷ []) → LaterLabelled (arms ++ b ∷ [])
same_labels [] a b q h = tt
same_labels (z ∷ arms) a b q h = by arms h
  where
    by : (zs : List Arm) → AllByRecursion (λ c. label_of c ≡ true) (zs ++ a ∷ []) → AllByRecursion (λ c. label_of c ≡ true) (zs ++ b ∷ [])
    by [] k = (q ∙ k.0, tt)
    by (c ∷ zs) k = (k.0, by zs k.1)

has_more : (ls : List ℕ) (v : ℕ) (b : Bool) → (has_label (ls ++ v ∷ []) || b) ≡ true
has_more [] v b = refl
has_more (l ∷ ls) v b = refl

-- ---- labels and statements

case_at : (v : ℕ) (y : Arms) (b : Bool) → AreLabelled y → BodiesHave Labelled (if b then record y { done = y.done ++ y.last ∷ []; last = no_arm } else y) →
    AreLabelled (labelled v (if b then record y { done = y.done ++ y.last ∷ []; last = no_arm } else y))
case_at v y true h k =
    let b : Arm = record { labels = v ∷ []; other = false; body = [] } in
    record {
      bodies = k;
      default = one_left (arms_of y) b refl ∙ h.default;
      any = λ q. none_more (arms_of y) b refl ∙ h.any q;
      later = one_more y.done y.last b refl h.later;
    }
case_at v y false h k =
    let b : Arm = record y.last { labels = y.last.labels ++ v ∷ [] } in
    record {
      bodies = k;
      default = ap at_most_one (same_defaults y.done y.last b refl) ∙ h.default;
      any = λ q. ap any_of (same_defaults y.done y.last b refl) ∙ h.any q;
      later = last_labelled y.done y.last b (has_more y.last.labels v y.last.other) h.later;
    }

case_labelled : (v : ℕ) (y : Arms) → AreLabelled y → AreLabelled (with_case v y)
unfolding at_label
case_labelled v y h = case_at v y (has_statements y.last.body) h (label_leaves Labelled y h.bodies)

default_at : (y : Arms) (b : Bool) → y.other ≡ false → AreLabelled y → BodiesHave Labelled (if b then record y { done = y.done ++ y.last ∷ []; last = no_arm } else y) →
    AreLabelled (labelled_other (if b then record y { done = y.done ++ y.last ∷ []; last = no_arm } else y))
default_at y true q h k =
    let b : Arm = record { labels = []; other = true; body = [] } in
    record {
      bodies = k;
      default = first_default (arms_of y) b (h.any q);
      any = λ r. absurd (cc);
      later = one_more y.done y.last b refl h.later;
    }
default_at y false q h k =
    let b : Arm = record y.last { other = true } in
    record {
      bodies = k;
      default = first_default y.done b (any_before y.done y.last (h.any q));
      any = λ r. absurd (cc);
      later = last_labelled y.done y.last b (or-true (has_label y.last.labels)) h.later;
    }

default_labelled : (y : Arms) → y.other ≡ false → AreLabelled y → AreLabelled (with_default y)
unfolding at_label
default_labelled y q h = default_at y (has_statements y.last.body) q h (label_leaves Labelled y h.bodies)

statement_labelled : (s : Stmt) (y : Arms) → Labelled s → AreLabelled y → AreLabelled (with_statement s y)
statement_labelled s y k h =
    let b : Arm = record y.last { body = y.last.body ++ s ∷ [] } in
    record {
      bodies = statement_has Labelled s y k h.bodies;
      default = ap at_most_one (same_defaults y.done y.last b refl) ∙ h.default;
      any = λ q. ap any_of (same_defaults y.done y.last b refl) ∙ h.any q;
      later = same_labels y.done y.last b refl h.later;
    }

-- ---- the property

abbrev labelling : Program → Function → Property
labelling p f = record {
  program = p;
  function = f;
  of_name = λ m. Unit {0};
  of_value = λ e. Unit {0};
  of_values = λ l es. Unit {0};
  of_stmt = λ b c s. Labelled s;
  of_arms = λ c y. AreLabelled y;
  enumerator = λ v. tt;
  scalar_local = λ n t fixed h. tt;
  array_local = λ n t size fixed h. tt;
  value = λ s k e. if_any (value_judgement s e);
  effect = λ s k e. if_any (effect_judgement s e);
  initials = λ s k d taken l. if_any (local_values d taken l s);
  block_form = λ b c ss h. labelled_by (stmt.Block ss) (open_stmt.Block ss) (outs-Block ss) (all_tested stmt_labelled ss h);
  clear_form = λ b c n l es there h. labelled_by (stmt.Clear n es) (open_stmt.Clear n es) (outs-Clear n es) refl;
  express_form = λ b c e h. labelled_by (stmt.Express e) (open_stmt.Express e) (outs-Express e) refl;
  if_form = λ b c e ss ts h i j. labelled_by (stmt.If e ss ts) (open_stmt.If e ss ts) (outs-If e ss ts) (and_from _ _ (all_tested stmt_labelled ss i) (all_tested stmt_labelled ts j));
  while_form = λ b c e ss h i. labelled_by (stmt.While e ss) (open_stmt.While e ss) (outs-While e ss) (all_tested stmt_labelled ss i);
  do_form = λ b c ss e i h. labelled_by (stmt.Do ss e) (open_stmt.Do ss e) (outs-Do ss e) (all_tested stmt_labelled ss i);
  for_form = λ b c first test step ss h i j k. labelled_by (stmt.For first test step ss) (open_stmt.For first test step ss) (outs-For first test step ss)
      (and_from _ _ (all_tested stmt_labelled first h) (all_tested stmt_labelled ss k));
  break_form = λ c. labelled_by stmt.Break open_stmt.Break outs-Break refl;
  continue_form = λ b. labelled_by stmt.Continue open_stmt.Continue outs-Continue refl;
  nothing_form = λ b c q. labelled_by (stmt.Return None) (open_stmt.Return None) (outs-Return None) refl;
  return_form = λ b c e q k h. labelled_by (stmt.Return (Some (converted_to f.result e))) (open_stmt.Return (Some (converted_to f.result e))) (outs-Return (Some (converted_to f.result e))) refl;
  switch_form = λ b c e y q h k. labelled_by (stmt.Switch (promoted e) (arms_of y)) (open_stmt.Switch (promoted e) (arms_of y)) (outs-Switch (promoted e) (arms_of y)) (arms_hold y k);
  no_arm_form = λ c. record { bodies = (tt, tt); default = refl; any = λ q. refl; later = tt };
  case_form = λ c v y h. case_labelled v y h;
  default_form = λ c y q h. default_labelled y q h;
  statement_form = λ c s y h k. statement_labelled s y h k;
}

pub labels_hold : (p : Program) (f : Function) (body : Line) (s u : Scope) (ss : List Stmt) → body_judgement f.result body s ≡ Good (u, ss) →
    Keeps u.signatures p.signatures → Keeps u.locals f.locals → Fits p f s → all_of (map stmt_labelled ss) ≡ true
labels_hold p f body s u ss q signatures locals fits =
    all_tested stmt_labelled ss (body_has (labelling p f) body s u ss q signatures locals (record { fits = fits; names = λ name m h. tt })).1
