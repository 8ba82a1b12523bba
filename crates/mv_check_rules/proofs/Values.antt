-- Initial values, which the code judges and gathers in one go, agree with those that are judged first and then put together.
use Rattle.std.proofs.Common.{◌≡◌, ℕ, ◌+◌, refl, sym, ◌∙◌, ap, Bool, true, false, ◌&&◌, not, nat_eq, eqb-true, unwrap_or, if◌then◌else◌, Option, Some, None, List, [], ◌∷◌, ◌++◌, map, length, suc, append_assoc, append-nil}
use Rattle.std.specs.List.{list_any}
use Rattle.mv_ast.specs.declared.program.CType.{CType}
use Rattle.mv_ast.specs.declared.program.Expr.{Expr}
use Rattle.mv_ast.specs.declared.program.Form.{Form, Form-F, out-Form}
use Rattle.mv_ast.specs.declared.program.Form.TheOpen as form
use Rattle.mv_ast.specs.declared.program.Local.{Local}
use Rattle.mv_ast.specs.declared.program.Target.{Target}
use Rattle.mv_syntax.specs.declared.unit.Initial.{Initial}
use Rattle.mv_syntax.specs.declared.unit.Initial.TheVariants as initial
use Rattle.mv_syntax.specs.declared.unit.Node.{Node}
use Rattle.mv_check_scope.specs.declared.scope.Scope.{Scope}
use Rattle.mv_check_scope.specs.Constants.{constant_value, converts}
use Rattle.mv_check_expressions.specs.declared.constant.Constant.{Constant}
use Rattle.mv_check_expressions.specs.Calls.{function_form, named_function}
use Rattle.mv_check_expressions.specs.Judged.{Judged, Good, Broken, and_then, each}
use Rattle.mv_check_expressions.specs.Judgements.{value_judgement}
use Rattle.mv_check_declarations.specs.declared.globals.Words.{Words}
use Rattle.mv_check_declarations.specs.declared.initials.Converted.{Converted}
use Rattle.mv_check_declarations.specs.Turns.{through}
use Rattle.mv_check_declarations.specs.Globals as code_globals
use Rattle.mv_check_declarations.specs.Globals.{address_form, with_word, word_or_broken, first_word, no_words, string_words, global_words}
use Rattle.mv_check_declarations.specs.Initials.{with_converted, converted_value, none_converted, initial_values, unless_zero}
use Rattle.mv_check_declarations.specs.Initials as code_initials
use Rattle.mv_check_declarations.specs.Constants.{is_positive}
use Rattle.mv_check_rules.specs.Nodes.{Given, Nothing, Value, Values, Characters}
use Rattle.mv_check_rules.specs.Nodes as node
use Rattle.mv_check_rules.specs.Rules.{all_convert, array_size, concluded}
use Rattle.mv_check_rules.specs.Declarations.{given}
use Rattle.mv_check_rules.specs.Units.{address_or, constant_word, constant_expression, word_of}
use Rattle.mv_check_rules.proofs.Agreement.{mapped}
use Rattle.mv_check_rules.proofs.Parts.{IfGood, none_fails}
use Rattle.mv_num.proofs.Booleans.{and_true}

-- ---- values in their order

module _ {X : Type 0} (add : X → Expr → X) where
  abbrev pub added : X → List Expr → X
  added x [] = x
  added x (e ∷ es) = added (add x e) es

module _ {X : Type 0} (expression : Node → Judged Expr) (add : X → Expr → X) (step : Node → X → Judged X) (agree : (n : Node) (x : X) → step n x ≡ mapped (add x) (expression n)) where
  rest_added : (x : X) (e : Expr) (js : Judged (List Expr)) → mapped (added add (add x e)) js ≡ mapped (added add x) (and_then js (λ es. Good (e ∷ es)))
  rest_added x e (Good es) = refl
  rest_added x e (Broken place rule) = refl

  first_added : (x : X) (j : Judged Expr) (next : X → Judged X) (js : Judged (List Expr)) → ((y : X) → next y ≡ mapped (added add y) js) →
      and_then (mapped (add x) j) next ≡ mapped (added add x) (and_then j (λ e. and_then js (λ es. Good (e ∷ es))))
  first_added x (Good e) next js h = h (add x e) ∙ rest_added x e js
  first_added x (Broken place rule) next js h = refl

  pub values_agree : (ns : List Node) (x : X) → through step ns x ≡ mapped (added add x) (each (map expression ns))
  values_agree [] x = refl
  values_agree (n ∷ ns) x = ap (λ j. and_then j (through step ns)) (agree n x) ∙ first_added x (expression n) (through step ns) (each (map expression ns)) (values_agree ns)

-- ---- what is given is what is written

abbrev pub IsOf : Option Initial → Given → Type 0
IsOf None Nothing = Unit {0}
IsOf (Some (initial.Value n)) (Value e) = Unit {0}
IsOf (Some (initial.Values ns)) (Values es) = length ns ≡ length es
IsOf (Some (initial.Chars bytes)) (Characters them) = bytes ≡ them
IsOf _ _ = ⊥

each_counted : (f : Node → Judged Expr) (ns : List Node) → IfGood (λ es. length ns ≡ length es) (each (map f ns))
each_counted f [] = refl
each_counted f (n ∷ ns) = by (f n) (each (map f ns)) (each_counted f ns)
  where
    by : (j : Judged Expr) (k : Judged (List Expr)) → IfGood (λ es. length ns ≡ length es) k →
        IfGood (λ es. length (n ∷ ns) ≡ length es) (and_then j (λ e. and_then k (λ rest. Good (e ∷ rest))))
    by (Good e) (Good es) h = ap suc h
    by (Good e) (Broken place rule) h = tt
    by (Broken place rule) k h = tt

pub given_is : (f : Scope → Node → Judged Expr) (values : Option Initial) (s : Scope) → IfGood (IsOf values) (given f values s)
given_is f None s = tt
given_is f (Some (initial.Value n)) s = by (f s n)
  where
    by : (j : Judged Expr) → IfGood (IsOf (Some (initial.Value n))) (and_then j (λ e. Good (Value e)))
    by (Good e) = tt
    by (Broken place rule) = tt
given_is f (Some (initial.Values ns)) s = by (each (map (f s) ns)) (each_counted (f s) ns)
  where
    by : (js : Judged (List Expr)) → IfGood (λ es. length ns ≡ length es) js → IfGood (IsOf (Some (initial.Values ns))) (and_then js (λ es. Good (Values es)))
    by (Good es) h = h
    by (Broken place rule) h = tt
given_is f (Some (initial.Chars bytes)) s = refl

unless_zero_same : (n : ℕ) → unwrap_or (unless_zero n) 0 ≡ n
unless_zero_same n = by (nat_eq n 0) refl
  where
    by : (b : Bool) → nat_eq n 0 ≡ b → unwrap_or (if b then None else Some n) 0 ≡ n
    by true e = sym (eqb-true n 0 e)
    by false e = refl

pub sizes_agree : (size : Option Constant) (values : Option Initial) (g : Given) → IsOf values g → unwrap_or (code_initials.array_size size values) 0 ≡ array_size size g
sizes_agree (Some c) values g h = by (is_positive c)
  where
    by : (positive : Bool) → unwrap_or (if positive then Some c.value else None) 0 ≡ (if positive then c.value else 0)
    by true = refl
    by false = refl
sizes_agree None None Nothing h = refl
sizes_agree None (Some (initial.Value n)) (Value e) h = refl
sizes_agree None (Some (initial.Values ns)) (Values es) h = unless_zero_same (length ns) ∙ h
sizes_agree None (Some (initial.Chars bytes)) (Characters more) h = ap (λ b. length b + 1) h
sizes_agree None values g h = elim h [ ]

-- ---- the values of locals and of functions

abbrev pub converted_of : CType → Given → Converted
converted_of t Nothing = none_converted
converted_of t (Value e) = with_converted t none_converted e
converted_of t (Values es) = added (with_converted t) none_converted es
converted_of t (Characters bytes) = none_converted

converted_agrees : (t : CType) (s : Scope) (n : Node) (x : Converted) → converted_value t s n x ≡ mapped (with_converted t x) (value_judgement s n)
converted_agrees t s n x = by (value_judgement s n)
  where
    by : (j : Judged Expr) → and_then j (λ e. Good (with_converted t x e)) ≡ mapped (with_converted t x) j
    by (Good e) = refl
    by (Broken place rule) = refl

pub initial_agrees : (t : CType) (values : Option Initial) (s : Scope) → initial_values t values s ≡ mapped (converted_of t) (given value_judgement values s)
initial_agrees t None s = refl
initial_agrees t (Some (initial.Value n)) s = by (value_judgement s n)
  where
    by : (j : Judged Expr) → and_then j (λ e. Good (with_converted t none_converted e)) ≡ mapped (converted_of t) (and_then j (λ e. Good (Value e)))
    by (Good e) = refl
    by (Broken place rule) = refl
initial_agrees t (Some (initial.Values ns)) s =
    values_agree (value_judgement s) (with_converted t) (converted_value t s) (converted_agrees t s) ns none_converted ∙ by (each (map (value_judgement s) ns))
  where
    by : (js : Judged (List Expr)) → mapped (added (with_converted t) none_converted) js ≡ mapped (converted_of t) (and_then js (λ es. Good (Values es)))
    by (Good es) = refl
    by (Broken place rule) = refl
initial_agrees t (Some (initial.Chars bytes)) s = refl

-- ---- the words of globals

function_same : (x : Form-F Form Target Expr) → address_form x ≡ function_form x
function_same (form.Function f) = refl
function_same x = refl

address_same : (address value : Option ℕ) → code_globals.address_or address value ≡ address_or address value
address_same None value = refl
address_same (Some f) value = refl

word_same : (e : Expr) → code_globals.constant_word e ≡ constant_word e
word_same e = ap (λ f. code_globals.address_or f (constant_value e)) (function_same (out-Form e.what)) ∙ address_same (named_function e) (constant_value e)

abbrev pub add_word : CType → Words → Expr → Words
add_word t x e = with_word t x e (unwrap_or (constant_word e) 0)

abbrev pub words_of : Local → Given → Words
words_of l Nothing = no_words
words_of l (Value e) = add_word l.ctype no_words e
words_of l (Values es) = added (add_word l.ctype) no_words es
words_of l (Characters bytes) = string_words l bytes

word_agrees : (t : CType) (s : Scope) (n : Node) (x : Words) → first_word t s n x ≡ mapped (add_word t x) (constant_expression s n)
word_agrees t s n x = by (value_judgement s n)
  where
    constant : (e : Expr) (o : Option ℕ) → constant_word e ≡ o → word_or_broken n.place t x e o ≡ mapped (add_word t x) (concluded n.place s (node.Needed o) e)
    constant e None h = refl
    constant e (Some w) h = ap (λ (o : Option ℕ). Good (with_word t x e (unwrap_or o 0))) (sym h)

    by : (j : Judged Expr) → and_then j (λ e. word_or_broken n.place t x e (code_globals.constant_word e)) ≡
        mapped (add_word t x) (and_then j (λ e. concluded n.place s (node.Needed (constant_word e)) e))
    by (Good e) = ap (word_or_broken n.place t x e) (word_same e) ∙ constant e (constant_word e) refl
    by (Broken place rule) = refl

pub words_agree : (l : Local) (values : Option Initial) (s : Scope) → global_words l values s ≡ mapped (words_of l) (given constant_expression values s)
words_agree l None s = refl
words_agree l (Some (initial.Value n)) s = word_agrees l.ctype s n no_words ∙ by (constant_expression s n)
  where
    by : (j : Judged Expr) → mapped (add_word l.ctype no_words) j ≡ mapped (words_of l) (and_then j (λ e. Good (Value e)))
    by (Good e) = refl
    by (Broken place rule) = refl
words_agree l (Some (initial.Values ns)) s =
    values_agree (constant_expression s) (add_word l.ctype) (first_word l.ctype s) (word_agrees l.ctype s) ns no_words ∙ by (each (map (constant_expression s) ns))
  where
    by : (js : Judged (List Expr)) → mapped (added (add_word l.ctype) no_words) js ≡ mapped (words_of l) (and_then js (λ es. Good (Values es)))
    by (Good es) = refl
    by (Broken place rule) = refl
words_agree l (Some (initial.Chars bytes)) s = refl

-- ---- what the words of a list are

pub all_convert_added : (t : CType) (es : List Expr) (x : Words) → (added (add_word t) x es).all ≡ (x.all && all_convert t es)
all_convert_added t [] x = sym (and_true x.all)
all_convert_added t (e ∷ es) x = all_convert_added t es (add_word t x e) ∙ none_fails x.all (converts e t) (list_any (λ e. not (converts e t)) es)

pub words_added : (t : CType) (es : List Expr) (x : Words) → (added (add_word t) x es).words ≡ x.words ++ map (word_of t) es
words_added t [] x = sym (append-nil x.words)
words_added t (e ∷ es) x = words_added t es (add_word t x e) ∙ append_assoc x.words (word_of t e ∷ []) (map (word_of t) es)
