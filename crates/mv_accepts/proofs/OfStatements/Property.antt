-- Properties of the statements of a function that come from those of their parts, from the scope before them to the scope behind them.
use Rattle.std.proofs.Common.{◌≡◌, ℕ, ◌⊎◌, Bool, true, false, List, [], ◌∷◌, ◌++◌, length, Option, Some, None, slice_get}
use Rattle.std.specs.List.{AllByRecursion}
use Rattle.mv_ast.specs.declared.program.CType.{CType}
use Rattle.mv_ast.specs.declared.program.Program.{Program}
use Rattle.mv_ast.specs.declared.program.Function.{Function}
use Rattle.mv_ast.specs.declared.program.Local.{Local}
use Rattle.mv_ast.specs.declared.program.Expr.{Expr}
use Rattle.mv_ast.specs.declared.program.Stmt.{Stmt}
use Rattle.mv_ast.specs.declared.program.Stmt.TheVariants as stmt
use Rattle.mv_syntax.specs.declared.unit.Declarator.{Declarator}
use Rattle.mv_syntax.specs.declared.unit.Node.{Node}
use Rattle.mv_check_scope.specs.declared.meaning.Meaning.{Meaning}
use Rattle.mv_check_scope.specs.declared.meaning.Meaning.TheVariants as meaning
use Rattle.mv_check_scope.specs.declared.scope.Scope.{Scope}
use Rattle.mv_check_scope.specs.Constants.{converts}
use Rattle.mv_check_scope.specs.Conversions.{is_integer, is_void, promoted, converted_to}
use Rattle.mv_check_scope.specs.Scoped.{meaning_of, declared, with_local, block_entered, block_left}
use Rattle.mv_check_expressions.specs.Judgements.{value_judgement, effect_judgement}
use Rattle.mv_check_declarations.specs.Locals.{scalar_meaning, array_meaning, local_values}
use Rattle.mv_check_declarations.specs.Objects.{scalar, array}
use Rattle.mv_check_statements.specs.declared.arms.Arms.{Arms}
use Rattle.mv_check_statements.specs.SwitchBodies.{no_arms, with_case, with_default, with_statement, arms_of}
use Rattle.mv_accepts.specs.Expressions.Soundness.{Fits}
use Rattle.mv_accepts.proofs.OfStatements.Growing.{Enumerates}
use Rattle.mv_accepts.proofs.OfStatements.Judging.{IfGood}
use Rattle.mv_accepts.proofs.OfStatements.Lists.{all_append}

module _ {A : Type 0} (P : A → Type 0) where
  abbrev pub OfOption : Option A → Type 0
  OfOption None = Unit {0}
  OfOption (Some a) = P a

-- a scope that says what a program and a function have, and whose names have a property
pub record Holds (p : Program) (f : Function) (N : Meaning → Type 0) (s : Scope) : Type 0 where
  pub fits : Fits p f s
  pub names : (name : List ℕ) (m : Meaning) → meaning_of s name ≡ Some m → N m

-- what a local is called: a scalar or an array with its number
abbrev pub MeansLocal : ℕ → Local → Meaning → Type 0
MeansLocal n l m = (fixed : Bool) × ((m ≡ scalar_meaning n l.ctype fixed) ⊎ (m ≡ array_meaning n l.ctype fixed))

-- A property of names, and from a scope to a later one of expressions, of the values of a local, of statements, of a part of a statement, of lines and of the
-- arms of a `switch`. That of statements goes by whether a `break` and a `continue` may stand there, that of arms by the latter.
pub record Passage : Type 1 where
  pub program : Program
  pub function : Function
  pub of_name : Meaning → Type 0
  pub of_value : Scope → Expr → Type 0
  pub of_values : Scope → Local → List Expr → Type 0
  pub of_stmt : Bool → Bool → Scope → Scope → Stmt → Type 0
  pub of_part : Bool → Bool → Scope → Scope → List Stmt → Type 0
  pub of_lines : Bool → Bool → Scope → Scope → List Stmt → Type 0
  pub of_arms : Bool → Scope → Scope → Arms → Type 0
  -- what is declared in a block
  pub enumerator : (v : ℕ) → of_name (meaning.Enumerator v)
  pub scalar_local : (n : ℕ) (t : CType) (fixed : Bool) → slice_get function.locals n ≡ Some (scalar t) → of_name (scalar_meaning n t fixed)
  pub array_local : (n : ℕ) (t : CType) (size : ℕ) (fixed : Bool) → slice_get function.locals n ≡ Some (array t size) → of_name (array_meaning n t fixed)
  -- what keeps the rules in a scope whose names have the property
  pub value : (s : Scope) → Holds program function of_name s → (e : Node) → IfGood (value_judgement s e) (of_value s)
  pub effect : (s : Scope) → Holds program function of_name s → (e : Node) → IfGood (effect_judgement s e) (of_value s)
  pub initials : (s : Scope) → Holds program function of_name s → (d : Declarator) (taken : Bool) (l : Local) → IfGood (local_values d taken l s) (of_values s l)
  -- lines
  pub no_lines : (b c : Bool) (s t : Scope) → Enumerates s t → of_lines b c s t []
  pub more_lines : (b c : Bool) (s t u : Scope) (ss ts : List Stmt) → of_lines b c s t ss → of_lines b c t u ts → of_lines b c s u (ss ++ ts)
  pub stmt_line : (b c : Bool) (s t : Scope) (x : Stmt) → of_stmt b c s t x → of_lines b c s t (x ∷ [])
  pub clear_line : (b c : Bool) (s t : Scope) (name : List ℕ) (l : Local) (m : Meaning) (es : List Expr) → t.names ≡ s.names → MeansLocal (length t.locals) l m →
      slice_get function.locals (length t.locals) ≡ Some l → of_values (declared (with_local t l) name m) l es →
      of_lines b c s (declared (with_local t l) name m) (stmt.Clear (length t.locals) es ∷ [])
  -- a part of a statement, which may be left out
  pub no_part : (b c : Bool) (s : Scope) → of_part b c s s []
  pub stmt_part : (b c : Bool) (s t : Scope) (x : Stmt) → of_stmt b c s t x → of_part b c s t (x ∷ [])
  -- the forms of a statement
  pub empty_form : (b c : Bool) (s : Scope) → of_stmt b c s s (stmt.Block [])
  pub block_form : (b c : Bool) (s t : Scope) (ss : List Stmt) → (block_left t).names ≡ s.names → of_lines b c (block_entered s) t ss → of_stmt b c s (block_left t) (stmt.Block ss)
  pub express_form : (b c : Bool) (s : Scope) (e : Expr) → of_value s e → of_stmt b c s s (stmt.Express e)
  pub if_form : (b c : Bool) (s t u : Scope) (e : Expr) (ss ts : List Stmt) → of_value s e → of_part b c s t ss → of_part b c t u ts → of_stmt b c s u (stmt.If e ss ts)
  pub while_form : (b c : Bool) (s t : Scope) (e : Expr) (ss : List Stmt) → of_value s e → of_part true true s t ss → of_stmt b c s t (stmt.While e ss)
  pub do_form : (b c : Bool) (s t : Scope) (ss : List Stmt) (e : Expr) → of_part true true s t ss → of_value t e → of_stmt b c s t (stmt.Do ss e)
  pub for_form : (b c : Bool) (s t u : Scope) (first : List Stmt) (test step : Option Expr) (ss : List Stmt) → (block_left u).names ≡ s.names →
      of_lines b c (block_entered s) t first → OfOption (of_value t) test → OfOption (of_value t) step → of_part true true t u ss →
      of_stmt b c s (block_left u) (stmt.For first test step ss)
  pub break_form : (c : Bool) (s : Scope) → of_stmt true c s s stmt.Break
  pub continue_form : (b : Bool) (s : Scope) → of_stmt b true s s stmt.Continue
  pub nothing_form : (b c : Bool) (s : Scope) → is_void function.result ≡ true → of_stmt b c s s (stmt.Return None)
  pub return_form : (b c : Bool) (s : Scope) (e : Expr) → is_void function.result ≡ false → converts e function.result ≡ true → of_value s e →
      of_stmt b c s s (stmt.Return (Some (converted_to function.result e)))
  pub switch_form : (b c : Bool) (s t : Scope) (e : Expr) (x : Arms) → is_integer e.ctype ≡ true → of_value s e → of_arms c s t x →
      of_stmt b c s t (stmt.Switch (promoted e) (arms_of x))
  -- the arms of a `switch`, so far
  pub no_arm_form : (c : Bool) (s : Scope) → of_arms c s s no_arms
  pub case_form : (c : Bool) (s t : Scope) (v : ℕ) (x : Arms) → of_arms c s t x → of_arms c s t (with_case v x)
  pub default_form : (c : Bool) (s t : Scope) (x : Arms) → x.other ≡ false → of_arms c s t x → of_arms c s t (with_default x)
  pub statement_form : (c : Bool) (s t u : Scope) (y : Stmt) (x : Arms) → of_stmt true c t u y → of_arms c s t x → of_arms c s u (with_statement y x)
  pub arms_form : (c : Bool) (s t : Scope) (x : Arms) → (block_left t).names ≡ s.names → of_arms c (block_entered s) t x → of_arms c s (block_left t) x

-- ---- the same, without scopes

-- A property of names, of expressions, of the values of a local, of statements and of the arms of a `switch`. That of a statement goes by whether a `break`
-- and a `continue` may stand there, that of arms by the latter.
pub record Property : Type 1 where
  pub program : Program
  pub function : Function
  pub of_name : Meaning → Type 0
  pub of_value : Expr → Type 0
  pub of_values : Local → List Expr → Type 0
  pub of_stmt : Bool → Bool → Stmt → Type 0
  pub of_arms : Bool → Arms → Type 0
  -- what is declared in a block
  pub enumerator : (v : ℕ) → of_name (meaning.Enumerator v)
  pub scalar_local : (n : ℕ) (t : CType) (fixed : Bool) → slice_get function.locals n ≡ Some (scalar t) → of_name (scalar_meaning n t fixed)
  pub array_local : (n : ℕ) (t : CType) (size : ℕ) (fixed : Bool) → slice_get function.locals n ≡ Some (array t size) → of_name (array_meaning n t fixed)
  -- what keeps the rules in a scope whose names have the property
  pub value : (s : Scope) → Holds program function of_name s → (e : Node) → IfGood (value_judgement s e) of_value
  pub effect : (s : Scope) → Holds program function of_name s → (e : Node) → IfGood (effect_judgement s e) of_value
  pub initials : (s : Scope) → Holds program function of_name s → (d : Declarator) (taken : Bool) (l : Local) → IfGood (local_values d taken l s) (of_values l)
  -- the forms of a statement
  pub block_form : (b c : Bool) (ss : List Stmt) → AllByRecursion (of_stmt b c) ss → of_stmt b c (stmt.Block ss)
  pub clear_form : (b c : Bool) (n : ℕ) (l : Local) (es : List Expr) → slice_get function.locals n ≡ Some l → of_values l es → of_stmt b c (stmt.Clear n es)
  pub express_form : (b c : Bool) (e : Expr) → of_value e → of_stmt b c (stmt.Express e)
  pub if_form : (b c : Bool) (e : Expr) (ss ts : List Stmt) → of_value e → AllByRecursion (of_stmt b c) ss → AllByRecursion (of_stmt b c) ts → of_stmt b c (stmt.If e ss ts)
  pub while_form : (b c : Bool) (e : Expr) (ss : List Stmt) → of_value e → AllByRecursion (of_stmt true true) ss → of_stmt b c (stmt.While e ss)
  pub do_form : (b c : Bool) (ss : List Stmt) (e : Expr) → AllByRecursion (of_stmt true true) ss → of_value e → of_stmt b c (stmt.Do ss e)
  pub for_form : (b c : Bool) (first : List Stmt) (test step : Option Expr) (ss : List Stmt) → AllByRecursion (of_stmt b c) first → OfOption of_value test →
      OfOption of_value step → AllByRecursion (of_stmt true true) ss → of_stmt b c (stmt.For first test step ss)
  pub break_form : (c : Bool) → of_stmt true c stmt.Break
  pub continue_form : (b : Bool) → of_stmt b true stmt.Continue
  pub nothing_form : (b c : Bool) → is_void function.result ≡ true → of_stmt b c (stmt.Return None)
  pub return_form : (b c : Bool) (e : Expr) → is_void function.result ≡ false → converts e function.result ≡ true → of_value e →
      of_stmt b c (stmt.Return (Some (converted_to function.result e)))
  pub switch_form : (b c : Bool) (e : Expr) (x : Arms) → is_integer e.ctype ≡ true → of_value e → of_arms c x → of_stmt b c (stmt.Switch (promoted e) (arms_of x))
  -- the arms of a `switch`, so far
  pub no_arm_form : (c : Bool) → of_arms c no_arms
  pub case_form : (c : Bool) (v : ℕ) (x : Arms) → of_arms c x → of_arms c (with_case v x)
  pub default_form : (c : Bool) (x : Arms) → x.other ≡ false → of_arms c x → of_arms c (with_default x)
  pub statement_form : (c : Bool) (s : Stmt) (x : Arms) → of_stmt true c s → of_arms c x → of_arms c (with_statement s x)

-- a property that doesn't go by scopes
abbrev pub passage : Property → Passage
passage x = record {
  program = x.program;
  function = x.function;
  of_name = x.of_name;
  of_value = λ s e. x.of_value e;
  of_values = λ s l es. x.of_values l es;
  of_stmt = λ b c s t y. x.of_stmt b c y;
  of_part = λ b c s t ss. AllByRecursion (x.of_stmt b c) ss;
  of_lines = λ b c s t ss. AllByRecursion (x.of_stmt b c) ss;
  of_arms = λ c s t y. x.of_arms c y;
  enumerator = x.enumerator;
  scalar_local = x.scalar_local;
  array_local = x.array_local;
  value = x.value;
  effect = x.effect;
  initials = x.initials;
  no_lines = λ b c s t h. tt;
  more_lines = λ b c s t u ss ts h k. all_append (x.of_stmt b c) ss ts h k;
  stmt_line = λ b c s t y h. (h, tt);
  clear_line = λ b c s t name l m es n k there h. (x.clear_form b c (length t.locals) l es there h, tt);
  no_part = λ b c s. tt;
  stmt_part = λ b c s t y h. (h, tt);
  empty_form = λ b c s. x.block_form b c [] tt;
  block_form = λ b c s t ss n h. x.block_form b c ss h;
  express_form = λ b c s e h. x.express_form b c e h;
  if_form = λ b c s t u e ss ts h i j. x.if_form b c e ss ts h i j;
  while_form = λ b c s t e ss h i. x.while_form b c e ss h i;
  do_form = λ b c s t ss e h i. x.do_form b c ss e h i;
  for_form = λ b c s t u first test step ss n h i j k. x.for_form b c first test step ss h i j k;
  break_form = λ c s. x.break_form c;
  continue_form = λ b s. x.continue_form b;
  nothing_form = λ b c s q. x.nothing_form b c q;
  return_form = λ b c s e q k h. x.return_form b c e q k h;
  switch_form = λ b c s t e y q h k. x.switch_form b c e y q h k;
  no_arm_form = λ c s. x.no_arm_form c;
  case_form = λ c s t v y h. x.case_form c v y h;
  default_form = λ c s t y q h. x.default_form c y q h;
  statement_form = λ c s t u y z h k. x.statement_form c y z h k;
  arms_form = λ c s t y n h. h;
}
