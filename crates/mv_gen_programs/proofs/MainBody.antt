-- What the body of `main` comes to.
use Rattle.std.proofs.Common.{◌≡◌, ℕ, zero, suc, ◌+◌, ◌<◌, ◌≤◌, Bool, true, false, List, [], ◌∷◌, ◌++◌, map, Some, None, refl, sym, ap, ◌∙◌, arith, append_assoc, append-nil}
use Rattle.std.specs.Prelude.{codes}
use Rattle.mv_syntax.specs.declared.place.Place.{Place}
use Rattle.mv_ast.specs.declared.program.CType.{CType}
use Rattle.mv_ast.specs.declared.program.Expr.{Expr}
use Rattle.mv_ast.specs.declared.program.Form.TheVariants as form
use Rattle.mv_ast.specs.declared.program.Known.TheVariants as known
use Rattle.mv_ast.specs.declared.program.Signature.{Signature}
use Rattle.mv_ast.specs.declared.program.Stmt.{Stmt}
use Rattle.mv_ast.specs.declared.program.Stmt.TheVariants as stmt
use Rattle.mv_ast.specs.declared.program.Target.TheVariants as target
use Rattle.mv_syntax.specs.declared.unit.Declarator.{Declarator}
use Rattle.mv_syntax.specs.declared.unit.Node.{Node}
use Rattle.mv_syntax.specs.declared.unit.Act.TheVariants as a
use Rattle.mv_syntax.specs.declared.unit.Shape.{fold_out-Shape}
use Rattle.mv_syntax.specs.declared.unit.Shape.TheVariants as shape
use Rattle.mv_syntax.specs.declared.unit.Specs.{out-roll-Specs}
use Rattle.mv_syntax.specs.declared.unit.What.TheVariants as w
use Rattle.mv_parse_grammar.specs.Expressions.{node_at}
use Rattle.mv_parse_grammar.specs.Statements.{line_at}
use Rattle.mv_check_scope.specs.declared.meaning.Routine.{Routine}
use Rattle.mv_check_scope.specs.declared.meaning.Variable.{Variable}
use Rattle.mv_check_scope.specs.declared.meaning.Meaning.TheVariants as meaning
use Rattle.mv_check_scope.specs.declared.meaning.Storage.TheVariants as storage
use Rattle.mv_check_scope.specs.declared.scope.Scope.{Scope}
use Rattle.mv_check_scope.specs.Conversions.{int, typed, converted_to}
use Rattle.mv_check_scope.specs.Names.{Names}
use Rattle.mv_check_scope.specs.Scoped.{meaning_of, block_entered}
use Rattle.mv_check_scope.specs.Spaces.{named}
use Rattle.mv_check_expressions.specs.declared.seen.Seen.{Seen}
use Rattle.mv_check_expressions.specs.declared.seen.Seen.TheVariants as seen
use Rattle.mv_check_expressions.specs.declared.seen.Use.TheVariants as «use»
use Rattle.mv_check_expressions.specs.Breaches.{concluded}
use Rattle.mv_check_expressions.specs.Calls.{called_with}
use Rattle.mv_check_expressions.specs.Found.{binary_of, assign_to}
use Rattle.mv_check_expressions.specs.Judged.{Judged, Good, and_then}
use Rattle.mv_check_expressions.specs.Judgements.{judgement, value_judgement, effect_judgement}
use Rattle.mv_check_expressions.specs.Rules.{takes_two}
use Rattle.mv_check_expressions.specs.Seen.{object_of_variable, value_of}
use Rattle.mv_check_expressions.specs.TypeNames.{named_kind}
use Rattle.mv_check_declarations.specs.declared.attributes.Position.{Position}
use Rattle.mv_check_declarations.specs.declared.declarators.Entity.TheVariants as entity
use Rattle.mv_check_declarations.specs.Declarators.{designated, Shapes, Declarators, Params, shape_step, declarator_step, param_step}
use Rattle.mv_check_declarations.specs.Locals.{own_scope}
use Rattle.mv_check_declarations.specs.Objects.{scalar}
use Rattle.mv_check_declarations.specs.Objects.{least as object_least}
use Rattle.mv_check_declarations.specs.Specifiers.{specifiers, type_by_rules}
use Rattle.mv_check_statements.specs.declared.around.Around.{Around}
use Rattle.mv_check_statements.specs.Statements.{judges_of, lines_in_turn, body_judgement}
use Rattle.mv_check_statements.specs.Surroundings.{in_function, in_loop}
use Rattle.mv_gen_programs.proofs.Lines.{function_name, commit_parts}
use Rattle.mv_gen_programs.proofs.Trees.{Places, word, int_specs, local_tree, store_tree, commit_tree, if_tree, call_tree, call_trees, loop_tree, output_tree, feed_tree, return_tree}
use Rattle.mv_gen_programs.proofs.Values.{object_value, object_place, known_callee, function_callee, one_argument, number_value, binary_judged, assign_judged, after_judged, call_judged, read_local, read_global, constant, binary}
use Rattle.mv_gen_programs.proofs.Lined.{GivesLine, return_line, express_line, block_statement, if_line, for_line, function_body, turn_more, declare_line}
use Rattle.mv_gen_programs.proofs.Bodies.{switch_variable, local_variable, count_of, switch_meanings}
use Rattle.mv_gen_programs.proofs.Scanned.{behind}
use Rattle.mv_gen_programs.proofs.Read.{past, inside, loop_lines, main_lines, local_places, loop_places, output_places, feed_places, return_places}

-- ---- declarations of an `int`

-- `int` says no more than the type
pub int_specified : (position : Position) (names : List Declarator) (at : Place) (s : Scope) →
    specifiers position names (int_specs at) s ≡ Good (s, record { ctype = int; fixed = false; enumeration = None; attribute = None })
unfolding type_by_rules named_kind
int_specified position names at s = simp out-roll-Specs

-- a plain declarator is a scalar
pub plain_designated : (t : CType) (fixed : Bool) (s : Scope) → designated shape.Plain t fixed s ≡ Good (s, entity.Scalar t fixed)
plain_designated t fixed s =
    ap (λ (f : Shapes). f t fixed s) (fold_out-Shape Shapes Declarators Params shape_step declarator_step param_step shape.Plain)
    ∙ rw shape.outs-Plain refl

-- ---- the names

-- `acc`, which is the global behind the switches
abbrev pub object_variable : Variable
object_variable = record { storage = storage.Global 4; ctype = int; fixed = false; switch = None }

-- the i-th function
abbrev pub routine : ℕ → Routine
routine i = record { number = Some i; signature = 0; attributed = Some i }

abbrev pub function_signature : Signature
function_signature = record { result = int; params = int ∷ [] }

abbrev pub main_signature : Signature
main_signature = record { result = int; params = [] }

-- the scope of the body of `main`, where these names are declared behind the switches
abbrev pub main_scope : Names → Scope
main_scope names = record {
  names = record { here = []; around = (switch_meanings ++ names) ∷ [] };
  tags = record { here = []; around = [] ∷ [] };
  enumerations = [];
  signatures = function_signature ∷ main_signature ∷ [];
  locals = [];
  attributed = false;
}

-- behind the declaration of `i`
abbrev pub local_scope : Names → Scope
local_scope names = record {
  names = record { here = (codes "i", meaning.Object local_variable) ∷ []; around = (switch_meanings ++ names) ∷ [] };
  tags = record { here = []; around = [] ∷ [] };
  enumerations = [];
  signatures = function_signature ∷ main_signature ∷ [];
  locals = scalar int ∷ [];
  attributed = false;
}

-- what these names mean
pub record AreNames (names : Names) (count : ℕ) : Type 0 where
  pub object : named (codes "acc") names ≡ Some (meaning.Object object_variable)
  pub output : named (codes "putchar") names ≡ None
  pub commit : named (codes "multiverse_commit") names ≡ None
  pub functions : (i : ℕ) → i < count → named (function_name i) names ≡ Some (meaning.Function (routine i))

-- ---- statements

abbrev pub set_global : ℕ → Expr → Stmt
set_global g e = stmt.Express (typed int (form.Set (target.Global g) e))

abbrev pub store_statement : (j n : ℕ) → Stmt
store_statement j n = set_global j (binary 17 (binary 15 (read_local 0) (constant n)) (constant 3))

abbrev pub call_statement : ℕ → Stmt
call_statement i = set_global 4 (typed int (form.Direct i (read_global 4 ∷ [])))

unfoldable pub call_statements : (i count : ℕ) → List Stmt
call_statements i zero = []
call_statements i (suc count) = call_statement i ∷ call_statements (suc i) count

abbrev pub commit_statement : Stmt
commit_statement = stmt.Express (typed int (form.Known (known.Plan 0 0) []))

abbrev pub if_statement : Stmt
if_statement =
    stmt.If (binary 29 (binary 16 (read_local 0) (constant 100)) (constant 0))
    (stmt.Block (store_statement 0 100 ∷ store_statement 1 200 ∷ store_statement 2 300 ∷ store_statement 3 400 ∷ commit_statement ∷ []) ∷ []) []

abbrev pub loop_statement : ℕ → Stmt
loop_statement count =
    stmt.For (stmt.Express (typed int (form.Set (target.Local 0) (constant 0))) ∷ []) (Some (binary 20 (read_local 0) (constant 1000)))
    (Some (typed int (form.After true (target.Local 0)))) (stmt.Block (if_statement ∷ call_statements 0 count) ∷ [])

abbrev pub put : Expr → Stmt
put e = stmt.Express (typed int (form.Known known.Putchar (e ∷ [])))

abbrev pub main_statements : ℕ → List Stmt
main_statements count =
    stmt.Clear 0 [] ∷ loop_statement count ∷ put (binary 12 (constant 65) (binary 17 (read_global 4) (constant 15))) ∷ put (constant 10) ∷ stmt.Return (Some (constant 0)) ∷ []

-- ---- lines

abbrev local : Seen
local = seen.Object (object_of_variable local_variable)

abbrev object : Seen
object = seen.Object (object_of_variable object_variable)

abbrev switch : ℕ → Seen
switch j = seen.Object (object_of_variable (switch_variable j))

-- the value, or the effect, of what is found
value_is : (s : Scope) (n : Node) (x : Seen) → judgement s n «use».Value ≡ Good x → value_judgement s n ≡ Good (value_of x)
value_is s n x h = ap (λ (v : Judged Seen). and_then v (λ y. Good (value_of y))) h

effect_is : (s : Scope) (n : Node) (x : Seen) → judgement s n «use».Effect ≡ Good x → effect_judgement s n ≡ Good (value_of x)
effect_is s n x h = ap (λ (v : Judged Seen). and_then v (λ y. Good (value_of y))) h

module _ (names : Names) (count : ℕ) (are : AreNames names count) (around : Around) where
  abbrev s : Scope
  s = local_scope names

  -- in the loop, in its block, and in the block of the `if`
  abbrev t : Scope
  t = block_entered s

  abbrev u : Scope
  u = block_entered t

  abbrev v : Scope
  v = block_entered u

  local_line_is : (p : Places) → GivesLine (local_tree p) around (main_scope names) s (stmt.Clear 0 [])
  unfolding own_scope object_least
  local_line_is p = declare_line (p 0) around (main_scope names) s (int_specs (p 0)) _ (stmt.Clear 0 [])
      (rw (int_specified _ _ (p 0) (main_scope names), plain_designated int false (main_scope names)) refl)

  -- `sJ = i / N & 3;`
  store_line : (p : Places) (name : List ℕ) (j n : ℕ) → meaning_of v name ≡ Some (meaning.Object (switch_variable j)) → GivesLine (store_tree p name n) around v v (store_statement j n)
  unfolding concluded takes_two binary_of assign_to converted_to
  store_line p name j n h =
      express_line (p 0) around v _ _
      (effect_is v _ (seen.Value (typed int (form.Set (target.Global j) (binary 17 (binary 15 (read_local 0) (constant n)) (constant 3)))))
      (assign_judged v (p 0) «use».Effect 22 _ _ (switch j) (seen.Value (binary 17 (binary 15 (read_local 0) (constant n)) (constant 3))) _
      (object_place v (p 0) name (switch_variable j) h)
      (binary_judged v (p 2) «use».Value 17 _ _ (seen.Value (binary 15 (read_local 0) (constant n))) (count_of 3) _
      (binary_judged v (p 2) «use».Value 15 _ _ local (count_of n) _ (object_value v (p 2) (codes "i") local_variable refl refl) (number_value v (p 4) n) refl)
      (number_value v (p 6) 3) refl) refl))

  commit_line : (p : Places) → GivesLine (commit_tree p) around v v commit_statement
  unfolding concluded called_with
  commit_line p =
      express_line (p 0) around v _ _
      (effect_is v _ (seen.Value (typed int (form.Known (known.Plan 0 0) [])))
      (call_judged v (p 0) «use».Effect _ [] (seen.Known (known.Plan 0 0)) _ [] (known_callee v (p 0) (codes "multiverse_commit") (known.Plan 0 0) (rw are.commit refl)) refl refl))

  stores_turn : (p : Places) →
      lines_in_turn (map judges_of (store_tree (behind p 9) (codes "s0") 100 ∷ store_tree (behind p 17) (codes "s1") 200 ∷ store_tree (behind p 25) (codes "s2") 300
      ∷ store_tree (behind p 33) (codes "s3") 400 ∷ commit_tree (behind p 41) ∷ [])) around (v, [])
      ≡ Good (v, store_statement 0 100 ∷ store_statement 1 200 ∷ store_statement 2 300 ∷ store_statement 3 400 ∷ commit_statement ∷ [])
  stores_turn p =
      let last = commit_tree (behind p 41) ∷ [] in
      let third = store_tree (behind p 33) (codes "s3") 400 ∷ last in
      let second = store_tree (behind p 25) (codes "s2") 300 ∷ third in
      let first = store_tree (behind p 17) (codes "s1") 200 ∷ second in
      turn_more (store_tree (behind p 9) (codes "s0") 100) first around v v (store_statement 0 100) [] (store_line (behind p 9) (codes "s0") 0 100 refl)
      ∙ (turn_more (store_tree (behind p 17) (codes "s1") 200) second around v v (store_statement 1 200) (store_statement 0 100 ∷ []) (store_line (behind p 17) (codes "s1") 1 200 refl)
      ∙ (turn_more (store_tree (behind p 25) (codes "s2") 300) third around v v (store_statement 2 300) (store_statement 0 100 ∷ store_statement 1 200 ∷ [])
      (store_line (behind p 25) (codes "s2") 2 300 refl)
      ∙ (turn_more (store_tree (behind p 33) (codes "s3") 400) last around v v (store_statement 3 400) (store_statement 0 100 ∷ store_statement 1 200 ∷ store_statement 2 300 ∷ [])
      (store_line (behind p 33) (codes "s3") 3 400 refl)
      ∙ turn_more (commit_tree (behind p 41)) [] around v v commit_statement (store_statement 0 100 ∷ store_statement 1 200 ∷ store_statement 2 300 ∷ store_statement 3 400 ∷ [])
      (commit_line (behind p 41)))))

  if_line_is : (p : Places) → GivesLine (if_tree p) around u u if_statement
  unfolding concluded takes_two binary_of converted_to
  if_line_is p =
      if_line (p 0) around u _ _ _ u _
      (value_is u _ (seen.Value (binary 29 (binary 16 (read_local 0) (constant 100)) (constant 0)))
      (binary_judged u (p 2) «use».Value 29 _ _ (seen.Value (binary 16 (read_local 0) (constant 100))) (count_of 0) _
      (binary_judged u (p 2) «use».Value 16 _ _ local (count_of 100) _ (object_value u (p 2) (codes "i") local_variable refl refl) (number_value u (p 4) 100) refl)
      (number_value u (p 6) 0) refl))
      (block_statement (p 8) around u _ v _ (stores_turn p))

  object_at : (at : Place) → judgement u (word at (codes "acc")) «use».Value ≡ Good object
  object_at at = object_value u at (codes "acc") object_variable refl (rw are.object refl)

  call_line : (p : Places) (i : ℕ) → i < count → GivesLine (call_tree p i) around u u (call_statement i)
  unfolding concluded called_with assign_to converted_to
  call_line p i h =
      let f : named (function_name i) names ≡ Some (meaning.Function (routine i)) = are.functions i h in
      express_line (p 0) around u _ _
      (effect_is u _ (seen.Value (typed int (form.Set (target.Global 4) (typed int (form.Direct i (read_global 4 ∷ []))))))
      (assign_judged u (p 0) «use».Effect 22 _ _ object (seen.Value (typed int (form.Direct i (read_global 4 ∷ [])))) _
      (object_place u (p 0) (codes "acc") object_variable (rw are.object refl))
      (call_judged u (p 2) «use».Value _ _ (seen.Function (routine i)) _ (object ∷ []) (function_callee u (p 2) (function_name i) (routine i) i refl (rw f refl))
      (one_argument u _ «use».Value object (object_at (p 4))) (rw form.outs-Function refl)) refl))

  -- the calls in turn
  calls_turn : (i n : ℕ) (p : Places) (ss : List Stmt) → i + n ≤ count →
      lines_in_turn (map judges_of (call_trees p i n)) around (u, ss) ≡ Good (u, ss ++ call_statements i n)
  unfolding call_trees call_statements
  calls_turn i zero p ss h = ap (λ (xs : List Stmt). Good (u, xs)) (sym (append-nil ss))
  calls_turn i (suc n) p ss h =
      turn_more (call_tree p i) (call_trees (behind p 7) (suc i) n) around u u (call_statement i) ss (call_line p i (omega arith))
      ∙ (calls_turn (suc i) n (behind p 7) (ss ++ call_statement i ∷ []) (omega arith)
      ∙ ap (λ (xs : List Stmt). Good (u, xs)) (append_assoc ss (call_statement i ∷ []) (call_statements (suc i) n)))

  loop_turn : (p : Places) → lines_in_turn (map judges_of (loop_lines p count)) around (u, []) ≡ Good (u, if_statement ∷ call_statements 0 count)
  loop_turn p =
      turn_more (if_tree (inside p)) _ around u u if_statement [] (if_line_is (inside p))
      ∙ calls_turn 0 count (past (inside p) commit_parts) (if_statement ∷ []) (omega arith)

  -- ---- behind the loop

  -- a call of `putchar`
  put_line : (p : Places) (n : Node) (x : Seen) → judgement s n «use».Value ≡ Good x → (value_of x).ctype ≡ int →
      GivesLine (line_at (p 0) (a.Express (Some (node_at (p 0) (w.Call (word (p 0) (codes "putchar")) (n ∷ [])))))) around s s (put (value_of x))
  unfolding concluded called_with converted_to
  put_line p n x h e =
      express_line (p 0) around s _ _
      (effect_is s _ (seen.Value (typed int (form.Known known.Putchar (value_of x ∷ []))))
      (call_judged s (p 0) «use».Effect _ _ (seen.Known known.Putchar) _ (x ∷ []) (known_callee s (p 0) (codes "putchar") known.Putchar (rw are.output refl))
      (one_argument s n «use».Value x h) (rw e refl)))

  output_line : (p : Places) → GivesLine (output_tree p) around s s (put (binary 12 (constant 65) (binary 17 (read_global 4) (constant 15))))
  unfolding concluded takes_two binary_of converted_to
  output_line p =
      put_line p _ (seen.Value (binary 12 (constant 65) (binary 17 (read_global 4) (constant 15))))
      (binary_judged s (p 2) «use».Value 12 _ _ (count_of 65) (seen.Value (binary 17 (read_global 4) (constant 15))) _ (number_value s (p 2) 65)
      (binary_judged s (p 5) «use».Value 17 _ _ object (count_of 15) _ (object_value s (p 5) (codes "acc") object_variable refl (rw are.object refl)) (number_value s (p 7) 15) refl) refl) refl

  feed_line : (p : Places) → GivesLine (feed_tree p) around s s (put (constant 10))
  feed_line p = put_line p _ (count_of 10) (number_value s (p 2) 10) refl

-- the loop, whatever is around it
loop_line : (names : Names) (count : ℕ) → AreNames names count → (around : Around) (p : Places) →
    GivesLine (loop_tree p (loop_lines p count)) around (local_scope names) (local_scope names) (loop_statement count)
unfolding concluded takes_two binary_of assign_to converted_to
loop_line names count are around p =
    let s = local_scope names in
    let t = block_entered s in
    for_line (p 0) around s t t _ _ _ _ _ (binary 20 (read_local 0) (constant 1000)) (typed int (form.After true (target.Local 0))) _
    (express_line (p 2) around t _ _
    (effect_is t _ (seen.Value (typed int (form.Set (target.Local 0) (constant 0))))
    (assign_judged t (p 2) «use».Effect 22 _ _ local (count_of 0) _ (object_place t (p 2) (codes "i") local_variable refl) (number_value t (p 4) 0) refl)))
    (value_is t _ (seen.Value (binary 20 (read_local 0) (constant 1000)))
    (binary_judged t (p 6) «use».Value 20 _ _ local (count_of 1000) _ (object_value t (p 6) (codes "i") local_variable refl refl) (number_value t (p 8) 1000) refl))
    (effect_is t _ (seen.Value (typed int (form.After true (target.Local 0))))
    (after_judged t (p 10) «use».Effect true _ local _ (object_place t (p 10) (codes "i") local_variable refl) refl))
    (block_statement (p 13) (in_loop around) t _ (block_entered t) _ (loop_turn names count are (in_loop around) p))

-- the body of `main`
pub main_body : (names : Names) (count : ℕ) → AreNames names count → (p : Places) (at : Place) →
    body_judgement int (line_at at (a.Block (main_lines p count))) (main_scope names) ≡ Good (local_scope names, main_statements count)
main_body names count are p at =
    let around = in_function int in
    let s = main_scope names in
    let r = local_scope names in
    let last = return_tree (return_places p count) ∷ [] in
    let third = feed_tree (feed_places p count) ∷ last in
    let second = output_tree (output_places p count) ∷ third in
    let first = loop_tree (loop_places p) (loop_lines (loop_places p) count) ∷ second in
    let put_one = put (binary 12 (constant 65) (binary 17 (read_global 4) (constant 15))) in
    function_body at (main_lines p count) int s r (main_statements count)
    (turn_more (local_tree (local_places p)) first around s r (stmt.Clear 0 []) [] (local_line_is names count are around (local_places p))
    ∙ (turn_more (loop_tree (loop_places p) (loop_lines (loop_places p) count)) second around r r (loop_statement count) (stmt.Clear 0 [] ∷ []) (loop_line names count are around (loop_places p))
    ∙ (turn_more (output_tree (output_places p count)) third around r r put_one (stmt.Clear 0 [] ∷ loop_statement count ∷ []) (output_line names count are around (output_places p count))
    ∙ (turn_more (feed_tree (feed_places p count)) last around r r (put (constant 10)) (stmt.Clear 0 [] ∷ loop_statement count ∷ put_one ∷ []) (feed_line names count are around (feed_places p count))
    ∙ turn_more (return_tree (return_places p count)) [] around r r (stmt.Return (Some (constant 0))) (stmt.Clear 0 [] ∷ loop_statement count ∷ put_one ∷ put (constant 10) ∷ [])
    (return_line (return_places p count 0) around r _ (form.Number 0) (value_is r _ (count_of 0) (number_value r (return_places p count 1) 0)) refl)))))
