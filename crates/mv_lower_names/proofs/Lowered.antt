-- What the code of a lowered function names.
use Rattle.std.proofs.Common.{◌≡◌, ℕ, zero, suc, ◌+◌, ◌<◌, ◌≤◌, ◌^◌, Bool, true, false, cond, List, [], ◌∷◌, map, length, Option, Some, All, refl, ap, ◌∙◌, arith}
use Rattle.std.specs.Prelude.{◌&&◌, nat_eq, nat_lt, slice_get}
use Rattle.std.proofs.lemmas.Bool.{ltb-true}
use Rattle.std.proofs.lemmas.List.{length-map}
use Rattle.mv_ast.specs.declared.program.Program.{Program}
use Rattle.mv_ast.specs.declared.program.Function.{Function}
use Rattle.mv_ast.specs.declared.program.Local.{Local}
use Rattle.mv_ast.specs.declared.program.Known.{Known}
use Rattle.mv_ast.specs.declared.program.Known.TheVariants.{Getchar, Putchar, Poll, Plan}
use Rattle.mv_ast.specs.declared.program.Expr.{Expr}
use Rattle.mv_ast.specs.declared.program.Form.{Form, Form-F}
use Rattle.mv_ast.specs.declared.program.Form.TheOpen as form
use Rattle.mv_ast.specs.declared.program.Target.{Target}
use Rattle.mv_ast.specs.declared.program.Stmt.{Stmt, Stmt-F}
use Rattle.mv_ast.specs.declared.program.Stmt.TheOpen as stmt
use Rattle.mv_ast.specs.declared.program.Arm.{Arm, Arm-F}
use Rattle.mv_ast.specs.Counts.{words_of_size}
use Rattle.mv_ir.proofs.Induction.{Each}
use Rattle.mv_select.specs.Calls.Environment.{IsDirect}
use Rattle.mv_select_code.specs.Control.Labels.{functions}
use Rattle.mv_source_forms.specs.Typing.{IsTypedFunction}
use Rattle.mv_source_forms.specs.Lists.{all_of}
use Rattle.mv_source_forms.specs.Names.{is_void, size_in}
use Rattle.mv_lower_spec.specs.Functions.{outermost, lower_body, ending, lower_function_code, lower_function, marked_from}
use Rattle.mv_source_forms.specs.Uses.{known_is_there, known_parameters, form_calls_known, calls_known, all_layer, all_arm_layer}
use Rattle.mv_lower_spec.specs.Shape.Law.{IsFunctionOf}
use Rattle.mv_lower_spec.proofs.OfShape.WithinExpressions.{at_index}
use Rattle.mv_select.specs.Bodies.SelectedBodies.{HasWords, IsOrder, constants, knowns}
use Rattle.mv_select.proofs.OfBodies.NamedTrees.{IsWord}
use Rattle.mv_lower_spec.specs.Calls.Bindings.{NeverRebinds, keeps_bindings, form_never_rebinds, never_rebinds}
use Rattle.mv_lower_names.specs.Sources.{NumbersAreWords, is_word, fits_order, form_has_words, has_words, layer_has_words, arm_has_words}
use Rattle.mv_select.proofs.OfBodies.Naming.{CodeNames, code_functions, code_knowns, code_constants}
use Rattle.mv_select_code.proofs.OfControl.TreeNames.{AnyNumber, each_any}
use Rattle.mv_lower_names.proofs.Naming.{both, number_names, return_names}
use Rattle.mv_lower_names.proofs.Premises.{KnownOf, StmtsKnown}
use Rattle.mv_lower_names.proofs.Statements.{body_names}
use Rattle.mv_lower_names.proofs.FromTypes as types
use Rattle.mv_lower_names.proofs.FromFolds as tests
use Rattle.mv_num.proofs.Booleans.{and_cases, from_falsity}
use Rattle.mv_ir.proofs.Common.{each_is_all}

-- ---- a function

module _ (F : ℕ → Type 0) (K : Known → Type 0) (C : ℕ → Type 0) (zero_is : C 0) (one_is : C 1) (greatest_is : C 4294967295) (pointers : List ℕ) (g : Function) where
  ending_names : (void : Bool) → CodeNames F K C (ending void)
  ending_names true = tt
  ending_names false = (return_names F K C _ (number_names F K C 0 zero_is), tt)

  function_names : (PF : Form → Type 0) (PT : Target → Type 0) (PE : Expr → Type 0) (PS : Stmt → Type 0) (PA : Arm → Type 0) → KnownOf F K C PF PT PE → StmtsKnown F K C (size_in g.locals) PE PS PA →
      Each PS g.body → CodeNames F K C (lower_function_code pointers g).code
  function_names PF PT PE PS PA source known h =
      both F K C (lower_body pointers g).code (ending (is_void g.result))
      (body_names F K C zero_is one_is greatest_is (length g.locals) pointers (size_in g.locals) (is_void g.result) PF PT PE PS PA source known g.body h outermost)
      (ending_names (is_void g.result))

-- ---- functions

pub functions_there : (p : Program) (f : ℕ) (g : Function) → IsFunctionOf p f g → All (λ k. k < length p.functions) (functions (lower_function p g).code)
functions_there p f g h =
    let sizes = size_in g.locals in
    let typed = (at_index (IsTypedFunction p) p.functions f g h.formed.typed.functions h.there).body in
    each_is_all (λ k. k < length p.functions) (functions (lower_function p g).code)
    (code_functions (types.IsThere p g sizes) (types.AnyKnown p g sizes) AnyNumber (lower_function_code p.pointers g).code
    (function_names (types.IsThere p g sizes) (types.AnyKnown p g sizes) AnyNumber tt tt tt p.pointers g (types.PF p g sizes) (types.PT p g sizes) (types.PE p g sizes) (types.PS p g sizes) (types.PA p g sizes)
    (types.typed_known p g sizes) (types.typed_stmts_known p g sizes) (types.body_known p g sizes g.body typed)))

-- ---- known functions

-- a test that tells of known functions, and asks for one of all parts of a form
module _ (K : Known → Type 0) (test : Form-F Bool Bool Bool → Bool) (g : Function) where
  abbrev Tells : Form-F Form Target Expr → Type 0
  Tells = tests.Tells AnyNumber K AnyNumber test

  abbrev holds : Expr → Bool
  holds = tests.holds AnyNumber K AnyNumber test

  stmt_tells : (x : Stmt-F Stmt Arm) → all_layer holds (tests.tested_stmt AnyNumber K AnyNumber test (size_in g.locals) (all_layer holds) all_arm_layer x) ≡ true →
      tests.StmtTells AnyNumber K AnyNumber test (size_in g.locals) (all_layer holds) all_arm_layer x
  stmt_tells (stmt.Block body) q = record { counts = tt; parts = q }
  stmt_tells (stmt.Clear l values) q = record { counts = λ i lt. tt; parts = q }
  stmt_tells (stmt.Express e) q = record { counts = tt; parts = q }
  stmt_tells (stmt.If e a b) q = record { counts = tt; parts = q }
  stmt_tells (stmt.While e body) q = record { counts = tt; parts = q }
  stmt_tells (stmt.Do body e) q = record { counts = tt; parts = q }
  stmt_tells (stmt.For first when step body) q = record { counts = tt; parts = q }
  stmt_tells (stmt.Switch e arms) q = record { counts = λ i lt. tt; parts = q }
  stmt_tells stmt.Break q = record { counts = tt; parts = q }
  stmt_tells stmt.Continue q = record { counts = tt; parts = q }
  stmt_tells (stmt.Return e) q = record { counts = tt; parts = q }

  knowns_there : (pointers : List ℕ) → ((x : Form-F Form Target Expr) → test (tests.tested AnyNumber K AnyNumber test x) ≡ true → Tells x) →
      all_of (map (tests.stmt_holds AnyNumber K AnyNumber test (size_in g.locals) (all_layer holds) all_arm_layer) g.body) ≡ true → All K (knowns (lower_function_code pointers g).code)
  knowns_there pointers tells q =
      let sizes = size_in g.locals in
      let layers = all_layer holds in
      each_is_all K (knowns (lower_function_code pointers g).code)
      (code_knowns AnyNumber K AnyNumber (lower_function_code pointers g).code
      (function_names AnyNumber K AnyNumber tt tt tt pointers g (tests.PF AnyNumber K AnyNumber test) (tests.PT AnyNumber K AnyNumber test) (tests.PE AnyNumber K AnyNumber test)
      (tests.PS AnyNumber K AnyNumber test sizes layers all_arm_layer) (tests.PA AnyNumber K AnyNumber test sizes layers all_arm_layer) (tests.test_known AnyNumber K AnyNumber test tells)
      (tests.test_stmts_known AnyNumber K AnyNumber test sizes layers all_arm_layer stmt_tells (λ x r. record { labels = each_any x.labels; body = r }))
      (tests.each_true (tests.stmt_holds AnyNumber K AnyNumber test sizes layers all_arm_layer) g.body q)))

abbrev IsKnownThere : Program → Known → Type 0
IsKnownThere p k = known_is_there p k ≡ true

calls_tell : (p : Program) (g : Function) (x : Form-F Form Target Expr) → form_calls_known p (tests.tested AnyNumber (IsKnownThere p) AnyNumber (form_calls_known p) x) ≡ true → Tells (IsKnownThere p) (form_calls_known p) g x
calls_tell p g (form.Number n) q = record { own = tt; parts = q }
calls_tell p g (form.Read t) q = record { own = tt; parts = q }
calls_tell p g (form.Function f) q = record { own = tt; parts = q }
calls_tell p g (form.Unary op a) q = record { own = tt; parts = q }
calls_tell p g (form.Binary op a b) q = record { own = tt; parts = q }
calls_tell p g (form.Both a b) q = record { own = tt; parts = q }
calls_tell p g (form.Either a b) q = record { own = tt; parts = q }
calls_tell p g (form.Choose c a b) q = record { own = tt; parts = q }
calls_tell p g (form.Convert a) q = record { own = tt; parts = q }
calls_tell p g (form.Set t a) q = record { own = tt; parts = q }
calls_tell p g (form.Change op kind t a) q = record { own = tt; parts = q }
calls_tell p g (form.After up t) q = record { own = tt; parts = q }
calls_tell p g (form.Direct f args) q = record { own = tt; parts = q }
calls_tell p g (form.Through args e) q = record { own = tt; parts = q }
calls_tell p g (form.Known k args) q =
    let all = all_of (map (calls_known p) args) in
    let count = nat_eq (length (map (calls_known p) args)) (known_parameters k) in
    let s = and_cases (known_is_there p k) (count && all) q in
    record { own = s.0; parts = (and_cases count all s.1).1 }

pub orders_there : (p : Program) (f : ℕ) (g : Function) → IsFunctionOf p f g → All (λ k. known_is_there p k ≡ true) (knowns (lower_function p g).code)
orders_there p f g h = knowns_there (IsKnownThere p) (form_calls_known p) g p.pointers (calls_tell p g) (h.formed.functions f g h.there).known

direct : (k : Known) → keeps_bindings k ≡ true → IsDirect k
direct Getchar q = tt
direct Putchar q = tt
direct Poll q = from_falsity q
direct (Plan code index) q = from_falsity q

bindings_tell : (g : Function) (x : Form-F Form Target Expr) → form_never_rebinds (tests.tested AnyNumber IsDirect AnyNumber form_never_rebinds x) ≡ true → Tells IsDirect form_never_rebinds g x
bindings_tell g (form.Number n) q = record { own = tt; parts = q }
bindings_tell g (form.Read t) q = record { own = tt; parts = q }
bindings_tell g (form.Function f) q = record { own = tt; parts = q }
bindings_tell g (form.Unary op a) q = record { own = tt; parts = q }
bindings_tell g (form.Binary op a b) q = record { own = tt; parts = q }
bindings_tell g (form.Both a b) q = record { own = tt; parts = q }
bindings_tell g (form.Either a b) q = record { own = tt; parts = q }
bindings_tell g (form.Choose c a b) q = record { own = tt; parts = q }
bindings_tell g (form.Convert a) q = record { own = tt; parts = q }
bindings_tell g (form.Set t a) q = record { own = tt; parts = q }
bindings_tell g (form.Change op kind t a) q = record { own = tt; parts = q }
bindings_tell g (form.After up t) q = record { own = tt; parts = q }
bindings_tell g (form.Direct f args) q = record { own = tt; parts = q }
bindings_tell g (form.Through args e) q = record { own = tt; parts = q }
bindings_tell g (form.Known k args) q = let s = and_cases (keeps_bindings k) (all_of (map never_rebinds args)) q in record { own = direct k s.0; parts = s.1 }

pub only_direct : (p : Program) (f : ℕ) (g : Function) → slice_get p.functions f ≡ Some g → NeverRebinds p → All IsDirect (knowns (lower_function p g).code)
only_direct p f g there never = knowns_there IsDirect form_never_rebinds g p.pointers (bindings_tell g) (never f g there)

-- ---- marks

none_marked : (is_called : ℕ → Bool) (f : ℕ) (gs : List Function) → ((k : ℕ) (h : Function) → slice_get gs k ≡ Some h → h.attributed ≡ false) → marked_from is_called f gs ≡ []
none_marked is_called f [] h = refl
none_marked is_called f (g ∷ gs) h =
    ap (λ b. cond (b && is_called f) (f ∷ marked_from is_called (suc f) gs) (marked_from is_called (suc f) gs)) (h 0 g refl) ∙ none_marked is_called (suc f) gs (λ k x e. h (suc k) x e)

pub nothing_marked : (p : Program) (g : Function) → ((k : ℕ) (h : Function) → slice_get p.functions k ≡ Some h → h.attributed ≡ false) → (lower_function p g).marked ≡ []
nothing_marked p g h = none_marked _ 0 p.functions h

-- ---- constants

word : (n : ℕ) → is_word n ≡ true → IsWord n
word n q = ltb-true n (2 ^ 32) q

all_words : (ls : List ℕ) → all_of (map is_word ls) ≡ true → Each IsWord ls
all_words [] q = tt
all_words (l ∷ ls) q = let s = and_cases (is_word l) (all_of (map is_word ls)) q in (word l s.0, all_words ls s.1)

order : (k : Known) → fits_order k ≡ true → IsOrder k
order Getchar q = tt
order Putchar q = tt
order Poll q = tt
order (Plan code index) q = let s = and_cases (nat_lt code 256) (is_word index) q in (ltb-true code 256 s.0, word index s.1)

words_tell : (x : Form-F Form Target Expr) → form_has_words (tests.tested AnyNumber IsOrder IsWord form_has_words x) ≡ true → tests.Tells AnyNumber IsOrder IsWord form_has_words x
words_tell (form.Number n) q = record { own = word n q; parts = refl }
words_tell (form.Read t) q = record { own = tt; parts = q }
words_tell (form.Function f) q = record { own = tt; parts = q }
words_tell (form.Unary op a) q = record { own = tt; parts = q }
words_tell (form.Binary op a b) q = record { own = tt; parts = q }
words_tell (form.Both a b) q = record { own = tt; parts = q }
words_tell (form.Either a b) q = record { own = tt; parts = q }
words_tell (form.Choose c a b) q = record { own = tt; parts = q }
words_tell (form.Convert a) q = record { own = tt; parts = q }
words_tell (form.Set t a) q = record { own = tt; parts = q }
words_tell (form.Change op kind t a) q = record { own = tt; parts = q }
words_tell (form.After up t) q = record { own = tt; parts = q }
words_tell (form.Direct f args) q = record { own = tt; parts = q }
words_tell (form.Through args e) q = record { own = tt; parts = q }
words_tell (form.Known k args) q = let s = and_cases (fits_order k) (all_of (map has_words args)) q in record { own = order k s.0; parts = s.1 }

small_sizes : (locals : List Local) → All (λ (x : Local). words_of_size x.size ≤ 262144) locals → (l : ℕ) → words_of_size (size_in locals l) ≤ 262144
small_sizes [] h l = omega arith
small_sizes (x ∷ xs) h zero = h 0 x (omega arith)
small_sizes (x ∷ xs) h (suc l) = small_sizes xs (λ i y lt. h (suc i) y (omega (arith, lt))) l

module _ (sizes : ℕ → Option ℕ) (small : (l : ℕ) → words_of_size (sizes l) ≤ 262144) where
  abbrev tested : Stmt-F Stmt Arm → Stmt-F Bool Bool
  tested = tests.tested_stmt AnyNumber IsOrder IsWord form_has_words sizes layer_has_words arm_has_words

  abbrev StmtTold : Stmt-F Stmt Arm → Type 0
  StmtTold = tests.StmtTells AnyNumber IsOrder IsWord form_has_words sizes layer_has_words arm_has_words

  plain : (n : ℕ) (b : Bool) → (is_word n && b) ≡ true → b ≡ true
  plain n b q = (and_cases (is_word n) b q).1

  stmt_words : (x : Stmt-F Stmt Arm) → layer_has_words (tested x) ≡ true → StmtTold x
  stmt_words (stmt.Block body) q = record { counts = tt; parts = plain 1 _ q }
  stmt_words (stmt.Clear l values) q =
      let s = and_cases (is_word (length values + 1)) (all_layer has_words (tested (stmt.Clear l values))) q in
      let few = word (length values + 1) s.0 in
      let less = small l in
      record { counts = λ i lt. omega (arith, lt, few, less); parts = s.1 }
  stmt_words (stmt.Express e) q = record { counts = tt; parts = plain 1 _ q }
  stmt_words (stmt.If e a b) q = record { counts = tt; parts = plain 1 _ q }
  stmt_words (stmt.While e body) q = record { counts = tt; parts = plain 1 _ q }
  stmt_words (stmt.Do body e) q = record { counts = tt; parts = plain 1 _ q }
  stmt_words (stmt.For first when step body) q = record { counts = tt; parts = plain 1 _ q }
  stmt_words (stmt.Switch e arms) q =
      let arm_test = tests.arm_holds AnyNumber IsOrder IsWord form_has_words sizes layer_has_words arm_has_words in
      let s = and_cases (is_word (length (map arm_test arms) + 1)) (all_layer has_words (tested (stmt.Switch e arms))) q in
      let few = word (length (map arm_test arms) + 1) s.0 in
      let same = length-map arms arm_test in
      record { counts = λ i lt. omega (arith, lt, few, same); parts = s.1 }
  stmt_words stmt.Break q = record { counts = tt; parts = plain 1 _ q }
  stmt_words stmt.Continue q = record { counts = tt; parts = plain 1 _ q }
  stmt_words (stmt.Return e) q = record { counts = tt; parts = plain 1 _ q }

  arm_words : (x : Arm-F Stmt Arm) → arm_has_words (tests.tested_arm AnyNumber IsOrder IsWord form_has_words sizes layer_has_words arm_has_words x) ≡ true →
      tests.ArmTells AnyNumber IsOrder IsWord form_has_words sizes layer_has_words arm_has_words x
  arm_words x q =
      let stmt_test = tests.stmt_holds AnyNumber IsOrder IsWord form_has_words sizes layer_has_words arm_has_words in
      let s = and_cases (all_of (map is_word x.labels)) (all_of (map stmt_test x.body)) q in
      record { labels = all_words x.labels s.0; body = s.1 }

pub words_there : (p : Program) (f : ℕ) (g : Function) → IsFunctionOf p f g → NumbersAreWords p → HasWords (lower_function p g).code
words_there p f g h numbers =
    let sizes = size_in g.locals in
    let small = small_sizes g.locals (at_index (λ (x : Function). All (λ (l : Local). words_of_size l.size ≤ 262144) x.locals) p.functions f g h.formed.limits.local_elements h.there) in
    let code : CodeNames AnyNumber IsOrder IsWord (lower_function_code p.pointers g).code =
    function_names AnyNumber IsOrder IsWord (omega arith) (omega arith) (omega arith) p.pointers g (tests.PF AnyNumber IsOrder IsWord form_has_words) (tests.PT AnyNumber IsOrder IsWord form_has_words)
    (tests.PE AnyNumber IsOrder IsWord form_has_words) (tests.PS AnyNumber IsOrder IsWord form_has_words sizes layer_has_words arm_has_words)
    (tests.PA AnyNumber IsOrder IsWord form_has_words sizes layer_has_words arm_has_words) (tests.test_known AnyNumber IsOrder IsWord form_has_words words_tell)
    (tests.test_stmts_known AnyNumber IsOrder IsWord form_has_words sizes layer_has_words arm_has_words (stmt_words sizes small) (arm_words sizes small))
    (tests.each_true (tests.stmt_holds AnyNumber IsOrder IsWord form_has_words sizes layer_has_words arm_has_words) g.body (numbers f g h.there)) in
    record {
      constants = each_is_all IsWord (constants (lower_function_code p.pointers g).code) (code_constants AnyNumber IsOrder IsWord (lower_function_code p.pointers g).code code);
      orders = each_is_all IsOrder (knowns (lower_function_code p.pointers g).code) (code_knowns AnyNumber IsOrder IsWord (lower_function_code p.pointers g).code code);
    }
