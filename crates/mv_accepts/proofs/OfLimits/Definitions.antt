-- Functions and objects at file scope: what a declarator adds to the contents is at most four times as many nodes as the declarator and its body.
use Rattle.std.proofs.Common.{◌≡◌, ℕ, zero, suc, ◌+◌, ◌*◌, ◌≤◌, Bool, true, false, refl, ap, arith, Option, Some, None, is_some, if◌then◌else◌, List, [], ◌∷◌, map, length, length-append, slice_get}
use Rattle.std.specs.Prelude.{sum, slice_set, unwrap_or}
use Rattle.std.proofs.lemmas.List.{length-map}
use Rattle.std.proofs.lemmas.List.Sums.{sum_by-cons}
use Rattle.mv_syntax.specs.declared.place.Place.{Place}
use Rattle.mv_ast.specs.declared.program.CType.{CType}
use Rattle.mv_ast.specs.declared.program.Expr.{Expr}
use Rattle.mv_ast.specs.declared.program.Function.{Function}
use Rattle.mv_ast.specs.declared.program.Local.{Local}
use Rattle.mv_ast.specs.declared.program.Stmt.{Stmt}
use Rattle.mv_syntax.specs.declared.unit.Declarator.{Declarator, fold_out-Declarator}
use Rattle.mv_syntax.specs.declared.unit.Initial.{Initial}
use Rattle.mv_syntax.specs.declared.unit.Initial.TheVariants as initial
use Rattle.mv_syntax.specs.declared.unit.Line.{Line}
use Rattle.mv_syntax.specs.declared.unit.Node.{Node}
use Rattle.mv_syntax.specs.declared.unit.Param.{Param, fold_out-Param}
use Rattle.mv_syntax.specs.declared.unit.Shape.{Shape, Shape-F, out-Shape, map-Shape, fold_out-Shape}
use Rattle.mv_syntax.specs.declared.unit.Shape.TheOpen as shape
use Rattle.mv_ast.specs.Counts.{stmt_nodes, nodes}
use Rattle.mv_ast.specs.Operators.{converted}
use Rattle.mv_check_scope.specs.declared.meaning.Meaning.{Meaning}
use Rattle.mv_check_scope.specs.declared.scope.Scope.{Scope}
use Rattle.mv_check_expressions.specs.Judged.{Judged}
use Rattle.mv_check_expressions.specs.Judgements.{value_judgement}
use Rattle.mv_check_declarations.specs.declared.globals.Words.{Words}
use Rattle.mv_check_declarations.specs.Globals.{constant_word, word_or_broken, first_word, no_words, first_words, room_behind, string_words, global_words}
use Rattle.mv_check_declarations.specs.Initials.{plain_values}
use Rattle.mv_check_declarations.specs.Objects.{least}
use Rattle.mv_check_declarations.specs.Parameters.{parameters_judgement}
use Rattle.mv_check_declarations.specs.Turns.{through}
use Rattle.mv_check_statements.specs.Statements.{body_judgement}
use Rattle.mv_types.specs.declared.contents.Contents.{Contents}
use Rattle.mv_types.specs.declared.contents.Foreknown.{Foreknown}
use Rattle.mv_types.specs.declared.contents.Object.{Object}
use Rattle.mv_types.specs.declared.functions.Before.{Before}
use Rattle.mv_types.specs.Contents.{in_scope}
use Rattle.mv_types.specs.Foreknown.{is_attributed}
use Rattle.mv_types.specs.Functions.{params_of, params_of_form, body_entered, left_with, function_of, defined, unless_broken, rule_of, before_of, function_scope, function_judgement}
use Rattle.mv_types.specs.Objects.{object_scope, new_object, again, replaced, objects_again, objects_behind, number_of, breaches, object_words, object_judgement}
use Rattle.mv_check_scope.specs.Spaces.{named}
use Rattle.mv_accepts.proofs.OfStatements.Judging.{IfGood, if_any, if_then, if_more}
use Rattle.mv_accepts.proofs.OfStatements.Unbroken.{if_unbroken}
use Rattle.mv_accepts.proofs.OfStatements.Parameters.{Adds, parameters_add}
use Rattle.mv_accepts.specs.Limits.Nodes.{initial_nodes, shape_count, declarator_count, param_count, declarator_nodes, line_nodes, body_nodes}
use Rattle.mv_accepts.proofs.OfLimits.DeclaratorCounts.{shape_nodes, param_nodes}
use Rattle.mv_accepts.proofs.OfLimits.Totals.{total, total_append, sum_total, stmts_nodes}
use Rattle.mv_accepts.proofs.OfLimits.Locals.{LinesFew, declarator_has}
use Rattle.mv_accepts.proofs.OfLimits.Statements.{body_few}

-- ---- totals of lists in which an element is put

module _ {X : Type 0} (f : X → ℕ) where
  total_set : (xs : List X) (i : ℕ) (y : X) → total f (slice_set xs i y) ≤ total f xs + f y
  total_set [] i y = omega arith
  total_set (x ∷ xs) zero y = omega arith
  total_set (x ∷ xs) (suc i) y = omega (arith, total_set xs i y)

  total_replaced : (xs : List X) (i : ℕ) (x y : X) → slice_get xs i ≡ Some x → total f (slice_set xs i y) + f x ≡ total f xs + f y
  total_replaced [] i x y h = absurd (cc)
  total_replaced (z ∷ xs) zero x y h = let q : z ≡ x = cc in let r : f z ≡ f x = ap f q in omega (arith, r)
  total_replaced (z ∷ xs) (suc i) x y h = omega (arith, total_replaced xs i x y h)

-- ---- the nodes of the contents

-- a function that is defined, by its name and its own nodes
abbrev pub function_weight : Option Function → ℕ
function_weight None = 0
function_weight (Some f) = 1 + nodes f

-- a global, by its name and its given values
abbrev pub object_weight : Object → ℕ
object_weight o = 1 + length o.global.first

abbrev pub weight : Contents → ℕ
weight c = total function_weight c.functions + total object_weight c.objects

abbrev pub Adding : Contents → ℕ → Contents → Type 0
Adding c n d = weight d ≤ weight c + 4 * n

-- ---- a declarator's parameters

one_for : (p : Param) → 1 ≤ param_nodes p
one_for p = let h = fold_out-Param ℕ ℕ ℕ shape_count declarator_count param_count p in omega (arith, h, declarator_has p.name)

params_few : (ps : List Param) → length ps ≤ sum (map param_nodes ps)
params_few [] = omega arith
params_few (p ∷ ps) = omega (arith, one_for p, params_few ps, sum_by-cons (λ n. n) (param_nodes p) (map param_nodes ps))

form_params : (x : Shape-F Shape Declarator Param) → length (params_of_form x) ≤ shape_count (map-Shape Shape Declarator Param ℕ ℕ ℕ shape_nodes declarator_nodes param_nodes x)
form_params (shape.Function params) = params_few params
form_params x = omega arith

declarator_params : (d : Declarator) → 1 + length (params_of d) ≤ declarator_nodes d
declarator_params d =
    let h = fold_out-Declarator ℕ ℕ ℕ shape_count declarator_count param_count d in
    let g = fold_out-Shape ℕ ℕ ℕ shape_count declarator_count param_count d.shape in
    omega (arith, h, g, form_params (out-Shape d.shape))

-- ---- functions

-- its name and parameters, and what its body comes to
abbrev FunctionFew : ℕ → ℕ → Scope × Function → Type 0
FunctionFew params body f = 1 + nodes f.1 ≤ 1 + (params + 4 * body)

left_few : (name : List ℕ) (attributed : Bool) (result : CType) (params : ℕ) (ss : List Stmt) (s : Scope) (n : ℕ) → length s.locals + stmts_nodes ss ≤ n →
    nodes (left_with name attributed result params ss s).1 ≤ n
left_few name attributed result params ss s n h = omega (arith, h, sum_total stmt_nodes ss)

function_few : (k : Foreknown) (name : List ℕ) (result : CType) (params : List Param) (body : Line) (s : Scope) →
    IfGood (function_of k name result params body s) (FunctionFew (length params) (line_nodes body))
function_few k name result params body s =
    let entered : Scope = body_entered (is_attributed k name) s in
    if_then (Adds (length params) entered) (FunctionFew (length params) (line_nodes body)) (parameters_judgement entered params) _ (parameters_add params entered) (λ p h.
    if_then (LinesFew (p, []) (line_nodes body)) (FunctionFew (length params) (line_nodes body)) (body_judgement result body p) _ (body_few result body p) (λ b g.
    let q : length p.locals ≡ length h.0 = ap length h.1 in
    omega (arith, left_few name (is_attributed k name) result (length params) b.1 b.0 (length params + 4 * line_nodes body) (omega (arith, g, q, h.2)))))

defined_few : (k : Foreknown) (d : Declarator) (name : List ℕ) (result : CType) (body : Option Line) (number : Option ℕ) (c : Contents) →
    IfGood (defined k name result (params_of d) body number c) (Adding c (declarator_nodes d + body_nodes body))
defined_few k d name result None number c = omega arith
defined_few k d name result (Some body) number c =
    if_then (FunctionFew (length (params_of d)) (line_nodes body)) (Adding c (declarator_nodes d + line_nodes body)) (function_of k name result (params_of d) body c.scope) _
    (function_few k name result (params_of d) body c.scope)
    (λ f h. omega (arith, h, total_set function_weight c.functions (unwrap_or number 0) (Some f.1), declarator_params d))

unless_few : (place : Place) (rule : Option ℕ) (j : Judged Contents) (P : Contents → Type 0) → IfGood j P → IfGood (unless_broken place rule j) P
unless_few place None j P h = h
unless_few place (Some rule) j P h = tt

pub function_adds : (k : Foreknown) (d : Declarator) (name : List ℕ) (result : CType) (signature : ℕ) (body : Option Line) (c : Contents) →
    IfGood (function_judgement k d name result signature body c) (Adding c (declarator_nodes d + body_nodes body))
unfolding function_judgement
function_adds k d name result signature body c =
    let b : Before = before_of k name c.scope in
    let s : Scope = function_scope k name signature b.meaning b.builtin c.scope in
    if_then (λ x. Unit {0}) (Adding c (declarator_nodes d + body_nodes body)) (plain_values d.initial s) _ (if_any (plain_values d.initial s)) (λ x u.
    unless_few d.place (rule_of d signature body c b) (defined k name result (params_of d) body b.number (in_scope c s)) (Adding c (declarator_nodes d + body_nodes body))
    (defined_few k d name result body b.number (in_scope c s)))

-- ---- words

abbrev MoreWords : Words → ℕ → Words → Type 0
MoreWords x n y = length y.words ≤ length x.words + n

word_more : (place : Place) (t : CType) (x : Words) (e : Expr) (w : Option ℕ) → IfGood (word_or_broken place t x e w) (MoreWords x 1)
word_more place t x e None = tt
word_more place t x e (Some w) = omega (arith, length-append x.words (converted t w ∷ []))

first_more : (t : CType) (s : Scope) (node : Node) (x : Words) → IfGood (first_word t s node x) (MoreWords x 1)
first_more t s node x =
    if_then (λ e. Unit {0}) (MoreWords x 1) (value_judgement s node) _ (if_any (value_judgement s node)) (λ e u. word_more node.place t x e (constant_word e))

all_words : (t : CType) (s : Scope) (ns : List Node) (x : Words) → IfGood (through (first_word t s) ns x) (MoreWords x (length ns))
all_words t s [] x = omega arith
all_words t s (n ∷ ns) x =
    if_then (MoreWords x 1) (MoreWords x (length (n ∷ ns))) (first_word t s n x) _ (first_more t s n x) (λ y h.
    if_more (MoreWords y (length ns)) (MoreWords x (length (n ∷ ns))) (through (first_word t s) ns y) (λ z k. omega (arith, h, k)) (all_words t s ns y))

abbrev FewWords : ℕ → List ℕ → Type 0
FewWords n ws = length ws ≤ n

zero_behind : (b : Bool) → length (if◌then◌else◌ {A = List ℕ} b (0 ∷ []) []) ≤ 1
zero_behind true = omega arith
zero_behind false = omega arith

-- at most so many words are given, and the 0 of a string
abbrev GivenFew : Option Initial → Words → Type 0
GivenFew given x = FewWords (1 + initial_nodes given) x.words

string_few : (l : Local) (bytes : List ℕ) → GivenFew (Some (initial.Chars bytes)) (string_words l bytes)
string_few l bytes =
    let last : List ℕ = if room_behind l.size (length bytes) then 0 ∷ [] else [] in
    omega (arith, length-append (map (converted l.ctype) bytes) last, length-map bytes (converted l.ctype), zero_behind (room_behind l.size (length bytes)))

given_few : (l : Local) (given : Option Initial) (s : Scope) → IfGood (global_words l given s) (GivenFew given)
given_few l None s = omega arith
given_few l (Some (initial.Value node)) s =
    if_more (MoreWords no_words 1) (GivenFew (Some (initial.Value node))) (first_word l.ctype s node no_words) (λ x h. omega (arith, h)) (first_more l.ctype s node no_words)
given_few l (Some (initial.Values ns)) s =
    if_more (MoreWords no_words (length ns)) (GivenFew (Some (initial.Values ns))) (first_words l.ctype s ns) (λ x h. omega (arith, h)) (all_words l.ctype s ns no_words)
given_few l (Some (initial.Chars bytes)) s = string_few l bytes

words_few : (d : Declarator) (before : Option Meaning) (objects : List Object) (l : Local) (domain : Option (List ℕ)) (block : Bool) (s : Scope) →
    IfGood (object_words d before objects l domain block s) (FewWords (1 + initial_nodes d.initial))
words_few d before objects l domain block s =
    if_then (GivenFew d.initial) (FewWords (1 + initial_nodes d.initial)) (global_words l d.initial s) _ (given_few l d.initial s) (λ x h.
    if_unbroken (FewWords (1 + initial_nodes d.initial)) d.place (least (breaches before objects l d.initial x domain block)) x.words (λ q. h))

-- ---- objects

abbrev ObjectsFew : List Object → ℕ → List Object → Type 0
ObjectsFew xs n ys = total object_weight ys ≤ total object_weight xs + n

again_weight : (o : Object) (words : List ℕ) (given : Bool) (domain : Option (List ℕ)) → object_weight (again o words given domain) ≤ object_weight o + length words
again_weight o words true domain = omega arith
again_weight o words false domain = omega arith

replaced_few : (xs : List Object) (n : ℕ) (o : Option Object) (words : List ℕ) (given : Bool) (domain : Option (List ℕ)) → slice_get xs n ≡ o →
    ObjectsFew xs (length words) (replaced xs n o words given domain)
replaced_few xs n None words given domain h = omega arith
replaced_few xs n (Some o) words given domain h =
    omega (arith, total_replaced object_weight xs n o (again o words given domain) h, again_weight o words given domain)

again_few : (xs : List Object) (n : Option ℕ) (words : List ℕ) (given : Bool) (domain : Option (List ℕ)) → ObjectsFew xs (length words) (objects_again xs n words given domain)
again_few xs None words given domain = omega arith
again_few xs (Some n) words given domain = replaced_few xs n (slice_get xs n) words given domain refl

behind_few : (xs : List Object) (name : List ℕ) (before : Option Meaning) (l : Local) (words : List ℕ) (given : Bool) (domain : Option (List ℕ)) →
    ObjectsFew xs (1 + length words) (objects_behind xs name before l words given domain)
unfolding objects_behind
behind_few xs name None l words given domain = omega (arith, total_append object_weight xs (new_object name l words given domain ∷ []))
behind_few xs name (Some m) l words given domain = omega (arith, again_few xs (number_of m) words given domain)

pub object_adds : (k : Foreknown) (d : Declarator) (name : List ℕ) (l : Local) (domain : Option (List ℕ)) (block : Bool) (c : Contents) →
    IfGood (object_judgement k d name l domain block c) (Adding c (declarator_nodes d))
unfolding object_judgement
object_adds k d name l domain block c =
    let before : Option Meaning = named name c.scope.names.here in
    let s : Scope = object_scope k name before l (length c.objects) c.scope in
    if_then (FewWords (1 + initial_nodes d.initial)) (Adding c (declarator_nodes d)) (object_words d before c.objects l domain block s) _
    (words_few d before c.objects l domain block s)
    (λ words h. omega (arith, h, behind_few c.objects name before l words (is_some d.initial) domain, declarator_has d))
