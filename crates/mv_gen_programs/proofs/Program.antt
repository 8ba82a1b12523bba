-- Each generated text is this program.
use Rattle.std.proofs.Common.{◌≡◌, ℕ, zero, suc, ◌+◌, ◌<◌, ◌≤◌, ◌%◌, true, List, [], ◌∷◌, ◌++◌, map, Option, Some, refl, ap, subst, ◌∙◌, arith, append-nil}
use Rattle.std.specs.Prelude.{codes}
use Rattle.std.specs.List.{concat}
use Rattle.mv_syntax.specs.declared.place.Place.{Place}
use Rattle.mv_ast.specs.declared.program.Expr.{Expr, fold_out-Expr}
use Rattle.mv_ast.specs.declared.program.Form.{Form, Form-F, out-Form, map-Form, fold-Form, fold_out-Form}
use Rattle.mv_ast.specs.declared.program.Form.TheVariants as form
use Rattle.mv_ast.specs.declared.program.Function.{Function}
use Rattle.mv_ast.specs.declared.program.Global.{Global}
use Rattle.mv_ast.specs.declared.program.Program.{Program}
use Rattle.mv_ast.specs.declared.program.CType.{CType}
use Rattle.mv_ast.specs.declared.program.Arm.{Arm, fold-Arm}
use Rattle.mv_ast.specs.declared.program.Stmt.{Stmt, Stmt-F, map-Stmt, fold_out-Stmt}
use Rattle.mv_ast.specs.declared.program.Stmt.TheVariants as stmt
use Rattle.mv_ast.specs.declared.program.Switch.{Switch}
use Rattle.mv_ast.specs.declared.program.Target.{Target, Target-F, out-Target, map-Target, fold-Target, fold_out-Target}
use Rattle.mv_ast.specs.declared.program.Target.TheVariants as target
use Rattle.mv_num.specs.Lists.{is_among}
use Rattle.mv_check_scope.specs.Conversions.{int, typed}
use Rattle.mv_syntax.specs.declared.unit.Act.TheVariants as a
use Rattle.mv_parse_grammar.specs.Statements.{line_at}
use Rattle.mv_check_expressions.specs.Judged.{Judged, Good, and_then}
use Rattle.mv_check_declarations.specs.Objects.{scalar}
use Rattle.mv_check_declarations.specs.Turns.{through}
use Rattle.mv_check_uses.specs.Uses.{expr_globals, stmt_globals, switches_named, numbers_from, form_layer, target_layer, expr_layer, stmt_layer, arm_layer}
use Rattle.mv_types.specs.declared.contents.Contents.{Contents}
use Rattle.mv_types.specs.declared.contents.Foreknown.{Foreknown}
use Rattle.mv_types.specs.Foreknown.{pointers_of}
use Rattle.mv_types.specs.Contents.{nothing_declared, present}
use Rattle.mv_types.specs.Units.{item_judgement, program_of, program_judgement, unit_judgement, with_switches}
use Rattle.mv_check_scope.specs.Spaces.{named}
use Rattle.mv_check_scope.specs.declared.meaning.Meaning.TheVariants as meaning
use Rattle.mv_gen.specs.Generated.{drawn, functions, form_of, switch_of, constant_of}
use Rattle.mv_gen_programs.proofs.Lines.{function_name, switch_parts}
use Rattle.mv_gen_programs.proofs.Trees.{Places}
use Rattle.mv_gen_programs.proofs.Read.{past, main_lines, object_places, main_places, unit_of}
use Rattle.mv_gen_programs.proofs.Lexed.{unit_places, unit_tokens}
use Rattle.mv_gen_programs.proofs.Values.{read_local, read_global, constant, binary, choose}
use Rattle.mv_gen_programs.proofs.Bodies.{four, form_expression}
use Rattle.mv_gen_programs.proofs.MainBody.{function_signature, main_signature}
use Rattle.mv_gen_programs.proofs.Declared.{plain_function}
use Rattle.mv_gen_programs.proofs.Names.{other_named}
use Rattle.mv_gen_programs.proofs.Known.{unit_items, foreknown_is}
use Rattle.mv_gen_programs.proofs.Judged.{slots, drawn_functions, domain, all_objects, main_function, main_routine}
use Rattle.mv_gen_programs.proofs.Made.{all_meanings, last_meanings, last_contents, items_judged}

-- ---- the program

abbrev pub switches : List Switch
switches = record { global = 0; values = domain } ∷ record { global = 1; values = domain } ∷ record { global = 2; values = domain } ∷ record { global = 3; values = domain } ∷ []

-- the switches that an expression names
abbrev pub own_switches : (form switch : ℕ) → List ℕ
own_switches zero j = j ∷ []
own_switches (suc zero) j = j ∷ []
own_switches (suc (suc zero)) j = j ∷ []
own_switches (suc (suc (suc f))) j = []

abbrev pub marked_function : (i form switch constant : ℕ) → Function
marked_function i f j c = record {
  name = function_name i;
  attributed = true;
  result = int;
  params = 1;
  locals = scalar int ∷ [];
  switches = own_switches f j;
  body = stmt.Return (Some (form_expression f j c)) ∷ [];
}

unfoldable pub marked_functions : (seed i count : ℕ) → List Function
marked_functions seed i zero = []
marked_functions seed i (suc count) =
    let x = drawn seed (suc i) in marked_function i (form_of x) (switch_of x) (constant_of x) ∷ marked_functions seed (suc i) count

abbrev pub globals : List Global
globals = map (λ o. o.global) all_objects

abbrev pub program_with : (seed count : ℕ) → Program
program_with seed count = record {
  signatures = function_signature ∷ main_signature ∷ [];
  globals = globals;
  functions = marked_functions seed 0 count ++ main_function count ∷ [];
  switches = switches;
  pointers = [];
  main = count;
}

-- ---- the switches of a function

form_named : Form → List ℕ
form_named = fold-Form (List ℕ) (List ℕ) (List ℕ) form_layer target_layer expr_layer

target_named : Target → List ℕ
target_named = fold-Target (List ℕ) (List ℕ) (List ℕ) form_layer target_layer expr_layer

abbrev layer_named : Form-F Form Target Expr → List ℕ
layer_named x = form_layer (map-Form Form Target Expr (List ℕ) (List ℕ) (List ℕ) form_named target_named expr_globals x)

named_as : (t : CType) (w : Form) (x : Form-F Form Target Expr) → out-Form w ≡ x → expr_globals (typed t w) ≡ layer_named x
unfolding expr_globals form_named target_named
named_as t w x e =
    fold_out-Expr (List ℕ) (List ℕ) (List ℕ) form_layer target_layer expr_layer (typed t w)
    ∙ (fold_out-Form (List ℕ) (List ℕ) (List ℕ) form_layer target_layer expr_layer w ∙ ap layer_named e)

target_as : (t : Target) (x : Target-F Form Target Expr) → out-Target t ≡ x →
    target_named t ≡ target_layer (map-Target Form Target Expr (List ℕ) (List ℕ) (List ℕ) form_named target_named expr_globals x)
unfolding expr_globals form_named target_named
target_as t x e =
    fold_out-Target (List ℕ) (List ℕ) (List ℕ) form_layer target_layer expr_layer t
    ∙ ap (λ (y : Target-F Form Target Expr). target_layer (map-Target Form Target Expr (List ℕ) (List ℕ) (List ℕ) form_named target_named expr_globals y)) e

names_number : (n : ℕ) → expr_globals (constant n) ≡ []
names_number n = named_as int (form.Number n) _ (form.outs-Number n)

names_local : (l : ℕ) → expr_globals (read_local l) ≡ []
names_local l = named_as int (form.Read (target.Local l)) _ (form.outs-Read (target.Local l)) ∙ rw (target_as (target.Local l) _ (target.outs-Local l)) refl

names_global : (g : ℕ) → expr_globals (read_global g) ≡ g ∷ []
names_global g = named_as int (form.Read (target.Global g)) _ (form.outs-Read (target.Global g)) ∙ rw (target_as (target.Global g) _ (target.outs-Global g)) refl

names_binary : (op : ℕ) (a b : Expr) → expr_globals (binary op a b) ≡ expr_globals a ++ (expr_globals b ++ [])
names_binary op a b = named_as int (form.Binary op a b) _ (form.outs-Binary op a b)

names_choose : (c a b : Expr) → expr_globals (choose c a b) ≡ expr_globals c ++ (expr_globals a ++ (expr_globals b ++ []))
names_choose c a b = named_as int (form.Choose c a b) _ (form.outs-Choose c a b)

expression_names : (f j c : ℕ) → expr_globals (form_expression f j c) ≡ own_switches f j
expression_names zero j c = simp (names_number, names_local, names_global, names_binary, names_choose)
expression_names (suc zero) j c = simp (names_number, names_local, names_global, names_binary, names_choose)
expression_names (suc (suc zero)) j c = simp (names_number, names_local, names_global, names_binary, names_choose)
expression_names (suc (suc (suc f))) j c = names_local 0

arm_named : Arm → List ℕ
arm_named = fold-Arm (List ℕ) (List ℕ) stmt_layer arm_layer

return_names : (e : Expr) → stmt_globals (stmt.Return (Some e)) ≡ (expr_globals e ++ []) ++ []
unfolding stmt_globals arm_named
return_names e =
    fold_out-Stmt (List ℕ) (List ℕ) stmt_layer arm_layer (stmt.Return (Some e))
    ∙ ap (λ (x : Stmt-F Stmt Arm). stmt_layer (map-Stmt Stmt Arm (List ℕ) (List ℕ) stmt_globals arm_named x)) (stmt.outs-Return (Some e))

body_names : (f j c : ℕ) → concat (map stmt_globals (stmt.Return (Some (form_expression f j c)) ∷ [])) ≡ own_switches f j
body_names f j c =
    let xs = own_switches f j in
    ap (λ (ns : List ℕ). ns ++ []) (return_names (form_expression f j c) ∙ ap (λ (ns : List ℕ). (ns ++ []) ++ []) (expression_names f j c))
    ∙ simp append-nil

one_switch : (j : ℕ) → j < 4 → numbers_from (λ g. is_among g (j ∷ [])) 0 switches ≡ j ∷ []
one_switch j h = four (λ j. numbers_from (λ g. is_among g (j ∷ [])) 0 switches ≡ j ∷ []) j h refl refl refl refl

number_switches : (f j : ℕ) → j < 4 → numbers_from (λ g. is_among g (own_switches f j)) 0 switches ≡ own_switches f j
number_switches zero j h = one_switch j h
number_switches (suc zero) j h = one_switch j h
number_switches (suc (suc zero)) j h = one_switch j h
number_switches (suc (suc (suc f))) j h = refl

function_switches : (i f j c : ℕ) → j < 4 → with_switches switches (plain_function i f j c) ≡ marked_function i f j c
unfolding switches_named
function_switches i f j c h =
    ap (λ (ns : List ℕ). record (plain_function i f j c) { switches = numbers_from (λ g. is_among g ns) 0 switches }) (body_names f j c)
    ∙ ap (λ (ns : List ℕ). record (plain_function i f j c) { switches = ns }) (number_switches f j h)

functions_switches : (seed i count : ℕ) (rest : List Function) →
    map (with_switches switches) (drawn_functions seed i count ++ rest) ≡ marked_functions seed i count ++ map (with_switches switches) rest
unfolding drawn_functions marked_functions
functions_switches seed i zero rest = refl
functions_switches seed i (suc count) rest =
    let x = drawn seed (suc i) in
    ap (λ (f : Function). f ∷ map (with_switches switches) (drawn_functions seed (suc i) count ++ rest)) (function_switches i (form_of x) (switch_of x) (constant_of x) (omega arith))
    ∙ ap (λ (fs : List Function). marked_function i (form_of x) (switch_of x) (constant_of x) ∷ fs) (functions_switches seed (suc i) count rest)

-- all that are there
present_all : (fs : List Function) → present (slots fs 0) ≡ fs
present_all [] = refl
present_all (f ∷ fs) = ap (λ (gs : List Function). f ∷ gs) (present_all fs)

-- ---- the judgement on the unit

program_made : (seed count : ℕ) → program_of (last_contents count (slots (drawn_functions seed 0 count ++ main_function count ∷ []) 0)) [] count ≡ program_with seed count
unfolding program_of
program_made seed count =
    ap (λ (fs : List Function). record { signatures = function_signature ∷ main_signature ∷ []; globals = globals; functions = map (with_switches switches) fs; switches = switches; pointers = []; main = count })
    (present_all (drawn_functions seed 0 count ++ main_function count ∷ []))
    ∙ ap (λ (fs : List Function). record { signatures = function_signature ∷ main_signature ∷ []; globals = globals; functions = fs; switches = switches; pointers = []; main = count })
    (functions_switches seed 0 count (main_function count ∷ []))

main_found : (seed count : ℕ) (end : Place) (fs : List (Option Function)) → program_judgement end [] (last_contents count fs) ≡ Good (program_of (last_contents count fs) [] count)
unfolding program_judgement
main_found seed count end fs =
    let e : named (codes "main") (all_meanings count) ≡ Some (meaning.Function (main_routine count)) = other_named 109 (97 ∷ 105 ∷ 110 ∷ []) 0 count (last_meanings count) refl in
    rw e refl

module _ (p q r m : Places) (seed n : ℕ) (few : suc n ≤ 40) (at end : Place) where
  unit_judged : unit_judgement (record { items = unit_items p q r m seed (suc n) (line_at at (a.Block (main_lines m (suc n)))); end = end }) ≡ Good (program_with seed (suc n))
  unfolding unit_judgement
  unit_judged =
      let count = suc n in
      let items = unit_items p q r m seed count (line_at at (a.Block (main_lines m count))) in
      let all = slots (drawn_functions seed 0 count ++ main_function count ∷ []) 0 in
      ap (λ (k : Foreknown). and_then (through (item_judgement k) items (nothing_declared k)) (program_judgement end (pointers_of k))) (foreknown_is p q r m seed count (line_at at (a.Block (main_lines m count))) few)
      ∙ (ap (λ (v : Judged Contents). and_then v (program_judgement end [])) (items_judged p q r m seed n few at)
      ∙ (main_found seed count end all ∙ ap Good (program_made seed count)))

-- the program of a generated text
abbrev pub program : ℕ → Program
program seed = program_with seed (functions seed)

pub unit_good : (seed : ℕ) → unit_judgement (unit_of seed) ≡ Good (program seed)
unit_good seed =
    let p = unit_places seed in
    let n = 7 + seed % 29 in
    let e : suc n ≡ functions seed = omega arith in
    let few : suc n ≤ 40 = omega arith in
    at_count (suc n) e (λ q r m at. unit_judged p q r m seed n few at (unit_tokens seed).end)
  where
    at_count : (k : ℕ) → k ≡ functions seed →
        ((q r m : Places) (at : Place) → unit_judgement (record { items = unit_items (unit_places seed) q r m seed k (line_at at (a.Block (main_lines m k))); end = (unit_tokens seed).end }) ≡ Good (program_with seed k)) →
        unit_judgement (unit_of seed) ≡ Good (program seed)
    at_count k e h =
        let go = subst (λ c. (q r m : Places) (at : Place) →
        unit_judgement (record {
          items = unit_items (unit_places seed) q r m seed c (line_at at (a.Block (main_lines m c)));
          end = (unit_tokens seed).end;
        }) ≡
        Good (program_with seed c)) e h in
        go (past (unit_places seed) switch_parts) (object_places seed (unit_places seed)) (main_places seed (unit_places seed)) (main_places seed (unit_places seed) 5)
