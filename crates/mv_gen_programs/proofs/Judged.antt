-- Generated texts break no rule.
use Rattle.std.proofs.Common.{◌≡◌, ℕ, zero, suc, ◌+◌, ◌<◌, ◌≤◌, Bool, true, false, List, [], ◌∷◌, ◌++◌, length, replicate, Option, Some, None, refl, sym, ap, ◌∙◌, arith, append-nil, append_assoc, length-append}
use Rattle.std.specs.Prelude.{codes, slice_get, slice_set}
use Rattle.std.proofs.Math.Seq.{set-append_seam}
use Rattle.mv_num.specs.Words.{narrow}
use Rattle.mv_syntax.specs.declared.place.Place.{Place}
use Rattle.mv_ast.specs.declared.program.CType.{CType}
use Rattle.mv_ast.specs.declared.program.Expr.{fold_out-Expr}
use Rattle.mv_ast.specs.declared.program.Form.{fold-Form, fold_out-Form}
use Rattle.mv_ast.specs.declared.program.Form.TheVariants as form
use Rattle.mv_ast.specs.declared.program.Function.{Function}
use Rattle.mv_ast.specs.declared.program.Signature.{Signature}
use Rattle.mv_syntax.specs.declared.unit.Act.TheVariants as a
use Rattle.mv_syntax.specs.declared.unit.Declarator.{Declarator}
use Rattle.mv_syntax.specs.declared.unit.Item.{Item}
use Rattle.mv_syntax.specs.declared.unit.Mark.{out-roll-Mark}
use Rattle.mv_syntax.specs.declared.unit.Shape.{fold_out-Shape}
use Rattle.mv_syntax.specs.declared.unit.Shape.TheVariants as shape
use Rattle.mv_syntax.specs.declared.unit.Specs.{out-roll-Specs}
use Rattle.mv_parse_grammar.specs.Statements.{line_at}
use Rattle.mv_check_scope.specs.declared.meaning.Meaning.TheVariants as meaning
use Rattle.mv_check_scope.specs.declared.meaning.Routine.{Routine}
use Rattle.mv_check_scope.specs.declared.scope.Scope.{Scope}
use Rattle.mv_check_scope.specs.Constants.{constant_value, computed, Evaluated, is_constant, evaluated, constant_form, constant_target, constant_expr, value_form, value_target, value_expr}
use Rattle.mv_check_scope.specs.Conversions.{int}
use Rattle.mv_check_scope.specs.Names.{Names}
use Rattle.mv_check_scope.specs.Spaces.{named}
use Rattle.mv_check_expressions.specs.Judged.{Judged, Good, and_then}
use Rattle.mv_check_expressions.specs.NeededConstants.{constant_judgement}
use Rattle.mv_check_expressions.specs.TypeNames.{named_kind}
use Rattle.mv_check_outline.specs.Names.{is_among, place_of}
use Rattle.mv_check_outline.specs.Outlined.{is_function, declares_pointer}
use Rattle.mv_check_declarations.specs.declared.attributes.Position.TheVariants as position
use Rattle.mv_check_declarations.specs.declared.declarators.Entity.TheVariants as entity
use Rattle.mv_check_declarations.specs.declared.specifiers.Specified.{Specified}
use Rattle.mv_check_declarations.specs.Attributes.{held, holder_of, with_value}
use Rattle.mv_check_declarations.specs.Constants.{is_value_of}
use Rattle.mv_check_declarations.specs.Declarators.{designated, Shapes, Declarators, Params, shape_step, declarator_step, param_step}
use Rattle.mv_check_declarations.specs.Objects.{scalar, least}
use Rattle.mv_check_declarations.specs.Specifiers.{specifiers, type_by_rules}
use Rattle.mv_check_declarations.specs.Turns.{through}
use Rattle.mv_types.specs.declared.contents.Contents.{Contents}
use Rattle.mv_types.specs.declared.contents.Foreknown.{Foreknown}
use Rattle.mv_types.specs.declared.contents.Object.{Object}
use Rattle.mv_types.specs.Contents.{in_scope}
use Rattle.mv_types.specs.Functions.{function_judgement, function_scope, broken_rule, params_of}
use Rattle.mv_types.specs.Objects.{object_judgement, object_scope, objects_behind}
use Rattle.mv_types.specs.Units.{item_judgement, declarator_judgement, named_declarator, names_judgement, holders}
use Rattle.mv_gen.specs.Generated.{drawn, form_of, switch_of, constant_of}
use Rattle.mv_gen_programs.proofs.Lines.{function_name}
use Rattle.mv_gen_programs.proofs.Scanned.{behind}
use Rattle.mv_gen_programs.proofs.Trees.{Places, number, marked_specs, definition_declarator, definition_body, definition_tree, drawn_tree, drawn_words, definition_trees, switch_specs, plain_declarator, switch_tree, object_tree, main_declarator, main_tree}
use Rattle.mv_gen_programs.proofs.Read.{main_lines}
use Rattle.mv_gen_programs.proofs.Values.{constant, number_value}
use Rattle.mv_gen_programs.proofs.Bodies.{switch_meanings}
use Rattle.mv_gen_programs.proofs.MainBody.{int_specified, plain_designated, function_signature, main_signature, routine, object_variable, AreNames, main_statements, main_body}
use Rattle.mv_gen_programs.proofs.Declared.{marked_specified, marked_int, signatures_at, file_scope, function_declarator, parameters_first, plain_function, IsForeknown, contents_at, function_judged}
use Rattle.mv_gen_programs.proofs.Names.{function_meanings, function_new, meanings_more}
use Rattle.mv_gen_programs.proofs.Known.{known, function_known}

-- ---- one function

function_declared : (k : Foreknown) (p : Places) (i f j c : ℕ) (new : Bool) (names : Names) (objects : List Object) (functions : List (Option Function)) → j < 4 → IsForeknown k i →
    named (function_name i) names ≡ None → slice_get functions i ≡ Some None →
    declarator_judgement k marked_int (Some (definition_body p f j c)) (definition_declarator p i) (contents_at names (signatures_at new) objects functions)
    ≡ Good (contents_at (names ++ (function_name i, meaning.Function (routine i)) ∷ []) (function_signature ∷ []) objects (slice_set functions i (Some (plain_function i f j c))))
unfolding declarator_judgement named_declarator
function_declared k p i f j c new names objects functions h known fresh empty =
    rw (parameters_first p i f j c (switch_meanings ++ names) new) (rw known.changing (rw (function_declarator p i (switch_meanings ++ names) new) (function_judged k p i f j c names objects functions h known fresh empty)))

definition_judged : (k : Foreknown) (p : Places) (i f j c : ℕ) (new : Bool) (names : Names) (objects : List Object) (functions : List (Option Function)) → j < 4 → IsForeknown k i →
    named (function_name i) names ≡ None → slice_get functions i ≡ Some None →
    item_judgement k (definition_tree p i f j c) (contents_at names (signatures_at new) objects functions)
    ≡ Good (contents_at (names ++ (function_name i, meaning.Function (routine i)) ∷ []) (function_signature ∷ []) objects (slice_set functions i (Some (plain_function i f j c))))
unfolding item_judgement
definition_judged k p i f j c new names objects functions h known fresh empty =
    let d : Declarator = definition_declarator p i in
    let at = contents_at names (signatures_at new) objects functions in
    let x = definition_tree p i f j c in
    let held_by : holders k (d ∷ []) ≡ d ∷ [] = rw (shape.outs-Function, is_function) refl in
    ap (λ (ds : List Declarator). and_then (specifiers position.File ds (marked_specs p) at.scope) (λ b. names_judgement k b.1 x (in_scope at b.0))) held_by
    ∙ (ap (λ (v : Judged (Scope × Specified)). and_then v (λ b. names_judgement k b.1 x (in_scope at b.0))) (marked_specified p i at.scope)
    ∙ ap (λ (v : Judged Contents). and_then v (λ c. Good c)) (function_declared k p i f j c new names objects functions h known fresh empty))

-- ---- all functions

-- those that are there, and so many that aren't
abbrev pub somes : List Function → List (Option Function)
somes [] = []
somes (f ∷ fs) = Some f ∷ somes fs

abbrev pub slots : List Function → ℕ → List (Option Function)
slots fs n = somes fs ++ replicate n None

abbrev pub drawn_function : (i x : ℕ) → Function
drawn_function i x = plain_function i (form_of x) (switch_of x) (constant_of x)

unfoldable pub drawn_functions : (seed i count : ℕ) → List Function
drawn_functions seed i zero = []
drawn_functions seed i (suc count) = drawn_function i (drawn seed (suc i)) ∷ drawn_functions seed (suc i) count

map_long : (fs : List Function) → length (somes fs) ≡ length fs
map_long [] = refl
map_long (f ∷ fs) = ap suc (map_long fs)

get_seam : (xs : List (Option Function)) (y : Option Function) (ys : List (Option Function)) → slice_get (xs ++ y ∷ ys) (length xs) ≡ Some y
get_seam [] y ys = refl
get_seam (x ∷ xs) y ys = get_seam xs y ys

map_more : (fs : List Function) (f : Function) (n : ℕ) → somes fs ++ (Some f ∷ replicate n None) ≡ slots (fs ++ f ∷ []) n
map_more [] f n = refl
map_more (g ∷ fs) f n = ap (λ (xs : List (Option Function)). Some g ∷ xs) (map_more fs f n)

pub slot_empty : (fs : List Function) (i n : ℕ) → length fs ≡ i → slice_get (slots fs (suc n)) i ≡ Some None
slot_empty fs i n h = ap (slice_get (slots fs (suc n))) (sym h ∙ sym (map_long fs)) ∙ get_seam (somes fs) None (replicate n None)

pub slot_filled : (fs : List Function) (f : Function) (i n : ℕ) → length fs ≡ i → slice_set (slots fs (suc n)) i (Some f) ≡ slots (fs ++ f ∷ []) n
slot_filled fs f i n h =
    ap (λ k. slice_set (slots fs (suc n)) k (Some f)) (sym h ∙ sym (map_long fs)) ∙ (set-append_seam (somes fs) None (replicate n None) (Some f) ∙ map_more fs f n)

-- one function, at its place
pub function_step : (count i : ℕ) (p : Places) (x : ℕ) (new : Bool) (objects : List Object) (fs : List Function) (n : ℕ) → count ≤ 40 → i < count → length fs ≡ i →
    item_judgement (known count) (drawn_tree p i x) (contents_at (function_meanings 0 i) (signatures_at new) objects (slots fs (suc n)))
    ≡ Good (contents_at (function_meanings 0 (suc i)) (function_signature ∷ []) objects (slots (fs ++ drawn_function i x ∷ []) n))
function_step count i p x new objects fs n few h long =
    let names = function_meanings 0 i in
    let e : 0 + i ≡ i = omega arith in
    let fresh : named (function_name i) names ≡ None =
    ap (named (function_name i)) (sym (append-nil names)) ∙ function_new i 0 i [] (omega arith) (omega arith) (omega arith) in
    let more : names ++ (function_name i, meaning.Function (routine i)) ∷ [] ≡ function_meanings 0 (suc i) =
    sym (meanings_more 0 i ∙ ap (λ k. names ++ (function_name k, meaning.Function (routine k)) ∷ []) e) in
    definition_judged (known count) p i (form_of x) (switch_of x) (constant_of x) new names objects (slots fs (suc n)) (omega arith) (function_known count i few h) fresh (slot_empty fs i n long)
    ∙ (ap (λ (ms : Names). Good (contents_at ms (function_signature ∷ []) objects (slice_set (slots fs (suc n)) i (Some (drawn_function i x))))) more
    ∙ ap (λ (gs : List (Option Function)). Good (contents_at (function_meanings 0 (suc i)) (function_signature ∷ []) objects gs)) (slot_filled fs (drawn_function i x) i n long))

pub functions_judged : (count : ℕ) → count ≤ 40 → (seed i n m : ℕ) (p : Places) (objects : List Object) (fs : List Function) (rest : List Item) → i + n ≤ count → length fs ≡ i →
    through (item_judgement (known count)) (definition_trees p seed i n ++ rest) (contents_at (function_meanings 0 i) (function_signature ∷ []) objects (slots fs (n + m)))
    ≡ through (item_judgement (known count)) rest (contents_at (function_meanings 0 (i + n)) (function_signature ∷ []) objects (slots (fs ++ drawn_functions seed i n) m))
unfolding definition_trees drawn_functions
functions_judged count few seed i zero m p objects fs rest h long =
    let e : 0 + m ≡ m = omega arith in
    let g : i ≡ i + 0 = omega arith in
    ap (λ k. through (item_judgement (known count)) rest (contents_at (function_meanings 0 i) (function_signature ∷ []) objects (slots fs k))) e
    ∙ (ap (λ k. through (item_judgement (known count)) rest (contents_at (function_meanings 0 k) (function_signature ∷ []) objects (slots fs m))) g
    ∙ ap (λ (gs : List Function). through (item_judgement (known count)) rest (contents_at (function_meanings 0 (i + 0)) (function_signature ∷ []) objects (slots gs m))) (sym (append-nil fs)))
functions_judged count few seed i (suc n) m p objects fs rest h long =
    let x = drawn seed (suc i) in
    let q = behind p (length (drawn_words i x)) in
    let f = drawn_function i x in
    let go = through (item_judgement (known count)) in
    let e : suc n + m ≡ suc (n + m) = omega arith in
    let g : suc i + n ≡ i + suc n = omega arith in
    let longer : length (fs ++ f ∷ []) ≡ suc i = omega (arith, long, length-append fs (f ∷ [])) in
    ap (λ k. go (drawn_tree p i x ∷ (definition_trees q seed (suc i) n ++ rest)) (contents_at (function_meanings 0 i) (function_signature ∷ []) objects (slots fs k))) e
    ∙ (ap (λ (v : Judged Contents). and_then v (go (definition_trees q seed (suc i) n ++ rest))) (function_step count i p x false objects fs (n + m) few (omega arith) long)
    ∙ (functions_judged count few seed (suc i) n m q objects (fs ++ f ∷ []) rest (omega arith) longer
    ∙ (ap (λ k. go rest (contents_at (function_meanings 0 k) (function_signature ∷ []) objects (slots ((fs ++ f ∷ []) ++ drawn_functions seed (suc i) n) m))) g
    ∙ ap (λ (gs : List Function). go rest (contents_at (function_meanings 0 (i + suc n)) (function_signature ∷ []) objects (slots gs m))) (append_assoc fs (f ∷ []) (drawn_functions seed (suc i) n)))))

-- ---- the switches

number_constant : (n : ℕ) → constant_value (constant n) ≡ Some n
number_constant n =
    let e : is_constant (constant n) ≡ true =
    fold_out-Expr Bool (Unit {0}) Bool constant_form constant_target constant_expr (constant n)
    ∙ (fold_out-Form Bool (Unit {0}) Bool constant_form constant_target constant_expr (form.Number n) ∙ rw form.outs-Number refl) in
    let value = fold-Form (CType → Option ℕ) (Unit {0}) Evaluated value_form value_target value_expr (form.Number n) in
    let v : value ≡ (λ t. Some n) =
    fold_out-Form (CType → Option ℕ) (Unit {0}) Evaluated value_form value_target value_expr (form.Number n) ∙ rw form.outs-Number refl in
    let f : evaluated (constant n) ≡ record { ctype = int; value = Some n } =
    fold_out-Expr (CType → Option ℕ) (Unit {0}) Evaluated value_form value_target value_expr (constant n)
    ∙ ap (λ (g : CType → Option ℕ). record { ctype = int; value = g int }) v in
    let g : computed (constant n) ≡ Some n = ap (λ (v : Evaluated). v.value) f in
    rw (e, g) refl

constant_judged : (s : Scope) (at : Place) (n : ℕ) → constant_judgement s (number at n) ≡ Good (record { value = n; ctype = int })
constant_judged s at n = rw (number_value s at n) (rw (number_constant n) refl)

abbrev pub domain : List ℕ
domain = 0 ∷ 1 ∷ 2 ∷ 3 ∷ []

abbrev pub switch_declarators : Places → List Declarator
switch_declarators p =
    plain_declarator (p 16) (codes "s0") ∷ plain_declarator (p 18) (codes "s1") ∷ plain_declarator (p 20) (codes "s2") ∷ plain_declarator (p 22) (codes "s3") ∷ []

abbrev pub switch_int : Specified
switch_int = record { ctype = int; fixed = false; enumeration = None; attribute = Some (record { values = Some domain }) }

switches_specified : (p : Places) (s : Scope) → specifiers position.File (switch_declarators p) (switch_specs p) s ≡ Good (s, switch_int)
unfolding type_by_rules named_kind held with_value is_value_of narrow
switches_specified p s =
    simp (out-roll-Specs, out-roll-Mark, shape.outs-Plain, holder_of, constant_judged)

-- ---- objects

abbrev pub object_named : List ℕ → Option (List ℕ) → Object
object_named name domain = record { global = record { name = name; ctype = int; size = None; first = [] }; given = false; domain = domain }

abbrev pub switch_objects : List Object
switch_objects =
    object_named (codes "s0") (Some domain) ∷ object_named (codes "s1") (Some domain) ∷ object_named (codes "s2") (Some domain) ∷ object_named (codes "s3") (Some domain) ∷ []

switches_declared : (count : ℕ) (p : Places) (functions : List (Option Function)) →
    through (declarator_judgement (known count) switch_int None) (switch_declarators p) (record { scope = file_scope [] []; objects = []; functions = functions })
    ≡ Good (contents_at [] [] switch_objects functions)
unfolding declarator_judgement named_declarator object_judgement least object_scope objects_behind
switches_declared count p functions = simp (plain_designated, shape.outs-Plain, declares_pointer)

pub switches_judged : (count : ℕ) (p : Places) (functions : List (Option Function)) →
    item_judgement (known count) (switch_tree p) (record { scope = file_scope [] []; objects = []; functions = functions }) ≡ Good (contents_at [] [] switch_objects functions)
unfolding item_judgement
switches_judged count p functions =
    let k = known count in
    let at : Contents = record { scope = file_scope [] []; objects = []; functions = functions } in
    let x = switch_tree p in
    let held_by : holders k (switch_declarators p) ≡ switch_declarators p = simp (shape.outs-Plain, is_function) in
    ap (λ (ds : List Declarator). and_then (specifiers position.File ds (switch_specs p) at.scope) (λ b. names_judgement k b.1 x (in_scope at b.0))) held_by
    ∙ (ap (λ (v : Judged (Scope × Specified)). and_then v (λ b. names_judgement k b.1 x (in_scope at b.0))) (switches_specified p at.scope)
    ∙ switches_declared count p functions)

-- `acc`
abbrev pub all_objects : List Object
all_objects = switch_objects ++ object_named (codes "acc") None ∷ []

abbrev pub plain_int : Specified
plain_int = record { ctype = int; fixed = false; enumeration = None; attribute = None }

object_declared : (count : ℕ) (p : Places) (names : Names) (signatures : List Signature) (functions : List (Option Function)) → named (codes "acc") names ≡ None →
    declarator_judgement (known count) plain_int None (plain_declarator (p 1) (codes "acc")) (contents_at names signatures switch_objects functions)
    ≡ Good (contents_at (names ++ (codes "acc", meaning.Object object_variable) ∷ []) signatures all_objects functions)
unfolding declarator_judgement named_declarator object_judgement least object_scope objects_behind
object_declared count p names signatures functions fresh =
    rw (plain_designated int false (file_scope (switch_meanings ++ names) signatures)) (rw fresh (rw (shape.outs-Plain, declares_pointer) refl))

pub object_judged : (count : ℕ) (p : Places) (names : Names) (signatures : List Signature) (functions : List (Option Function)) → named (codes "acc") names ≡ None →
    item_judgement (known count) (object_tree p) (contents_at names signatures switch_objects functions)
    ≡ Good (contents_at (names ++ (codes "acc", meaning.Object object_variable) ∷ []) signatures all_objects functions)
unfolding item_judgement
object_judged count p names signatures functions fresh =
    let k = known count in
    let at = contents_at names signatures switch_objects functions in
    let x = object_tree p in
    ap (λ (v : Judged (Scope × Specified)). and_then v (λ b. names_judgement k b.1 x (in_scope at b.0)))
    (int_specified position.File (holders k (plain_declarator (p 1) (codes "acc") ∷ [])) (p 0) at.scope)
    ∙ ap (λ (v : Judged Contents). and_then v (λ c. Good c)) (object_declared count p names signatures functions fresh)

-- ---- main

abbrev pub main_routine : ℕ → Routine
main_routine count = record { number = Some count; signature = 1; attributed = None }

abbrev pub main_function : ℕ → Function
main_function count = record {
  name = codes "main";
  attributed = false;
  result = int;
  params = 0;
  locals = scalar int ∷ [];
  switches = [];
  body = main_statements count;
}

main_designated : (names : Names) →
    designated (shape.Function []) int false (file_scope names (function_signature ∷ [])) ≡ Good (file_scope names (function_signature ∷ main_signature ∷ []), entity.Function 1)
main_designated names =
    ap (λ (f : Shapes). f int false (file_scope names (function_signature ∷ []))) (fold_out-Shape Shapes Declarators Params shape_step declarator_step param_step (shape.Function []))
    ∙ rw shape.outs-Function refl

-- what is known of `main`
pub record IsMainKnown (k : Foreknown) (count : ℕ) : Type 0 where
  pub number : place_of (codes "main") k.outline.functions ≡ Some count
  pub unmarked : is_among (codes "main") k.attributed ≡ false
  pub changing : is_among (codes "main") k.constants ≡ false

main_defined : (k : Foreknown) (count : ℕ) (p : Places) (at : Place) (names : Names) (objects : List Object) (functions : List (Option Function)) →
    IsMainKnown k count → AreNames (names ++ (codes "main", meaning.Function (main_routine count)) ∷ []) count → named (codes "main") names ≡ None → slice_get functions count ≡ Some None →
    function_judgement k (main_declarator p) (codes "main") int 1 (Some (line_at at (a.Block (main_lines p count)))) (contents_at names (function_signature ∷ main_signature ∷ []) objects functions)
    ≡ Good (contents_at (names ++ (codes "main", meaning.Function (main_routine count)) ∷ []) (function_signature ∷ main_signature ∷ []) objects (slice_set functions count (Some (main_function count))))
unfolding function_judgement broken_rule function_scope
main_defined k count p at names objects functions is are fresh empty =
    let more = names ++ (codes "main", meaning.Function (main_routine count)) ∷ [] in
    rw (fresh, is.number) (rw (empty, is.unmarked) (rw (shape.outs-Function, params_of) (rw (main_body more count are p at) refl)))

main_declared : (k : Foreknown) (count : ℕ) (p : Places) (at : Place) (names : Names) (objects : List Object) (functions : List (Option Function)) →
    IsMainKnown k count → AreNames (names ++ (codes "main", meaning.Function (main_routine count)) ∷ []) count → named (codes "main") names ≡ None → slice_get functions count ≡ Some None →
    declarator_judgement k plain_int (Some (line_at at (a.Block (main_lines p count)))) (main_declarator p) (contents_at names (function_signature ∷ []) objects functions)
    ≡ Good (contents_at (names ++ (codes "main", meaning.Function (main_routine count)) ∷ []) (function_signature ∷ main_signature ∷ []) objects (slice_set functions count (Some (main_function count))))
unfolding declarator_judgement named_declarator
main_declared k count p at names objects functions is are fresh empty =
    rw (shape.outs-Function, params_of) (rw is.changing (rw (main_designated (switch_meanings ++ names)) (main_defined k count p at names objects functions is are fresh empty)))

pub main_judged : (k : Foreknown) (count : ℕ) (p : Places) (at : Place) (names : Names) (objects : List Object) (functions : List (Option Function)) →
    IsMainKnown k count → AreNames (names ++ (codes "main", meaning.Function (main_routine count)) ∷ []) count → named (codes "main") names ≡ None → slice_get functions count ≡ Some None →
    item_judgement k (main_tree p (line_at at (a.Block (main_lines p count)))) (contents_at names (function_signature ∷ []) objects functions)
    ≡ Good (contents_at (names ++ (codes "main", meaning.Function (main_routine count)) ∷ []) (function_signature ∷ main_signature ∷ []) objects (slice_set functions count (Some (main_function count))))
unfolding item_judgement
main_judged k count p at names objects functions is are fresh empty =
    let c = contents_at names (function_signature ∷ []) objects functions in
    let x = main_tree p (line_at at (a.Block (main_lines p count))) in
    ap (λ (v : Judged (Scope × Specified)). and_then v (λ b. names_judgement k b.1 x (in_scope c b.0))) (int_specified position.File (holders k (main_declarator p ∷ [])) (p 0) c.scope)
    ∙ ap (λ (v : Judged Contents). and_then v (λ d. Good d)) (main_declared k count p at names objects functions is are fresh empty)
