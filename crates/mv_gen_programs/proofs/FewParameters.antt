-- The functions of generated texts have few parameters.
use Rattle.std.proofs.Common.{◌≡◌, ℕ, zero, suc, refl, ap, ◌∙◌, List, [], ◌∷◌, ◌++◌, map, length, Option, Some, None}
use Rattle.std.specs.Prelude.{codes}
use Rattle.std.specs.List.{concat}
use Rattle.std.specs.Option.{option_or}
use Rattle.mv_syntax.specs.declared.place.Place.{Place}
use Rattle.mv_syntax.specs.declared.unit.Act.TheVariants as a
use Rattle.mv_syntax.specs.declared.unit.Declarator.{Declarator}
use Rattle.mv_syntax.specs.declared.unit.Item.{Item}
use Rattle.mv_syntax.specs.declared.unit.Line.{Line}
use Rattle.mv_syntax.specs.declared.unit.Node.{Node}
use Rattle.mv_syntax.specs.declared.unit.Param.{Param}
use Rattle.mv_syntax.specs.declared.unit.Shape.TheVariants as shape
use Rattle.mv_syntax.specs.declared.unit.Specs.{Specs}
use Rattle.mv_parse_grammar.specs.Declarations.{declarator_of}
use Rattle.mv_parse_grammar.specs.Statements.{line_at}
use Rattle.mv_check_limits.specs.Limits.{first_above}
use Rattle.mv_check_limits.specs.Ordered.{declarator_parameters, act_parameters, line_parameters, optional_parameters, item_parameters, unit_parameters}
use Rattle.mv_check_limits.proofs.Forms.{declarator_is, shape_plain, shape_function, line_is, act_block, act_declare, act_express, act_if, act_for, act_return}
use Rattle.mv_check_limits.proofs.Told.{joined_none}
use Rattle.mv_gen.specs.Generated.{drawn, functions, form_of, switch_of, constant_of}
use Rattle.mv_gen_programs.proofs.Lines.{function_name, switch_parts, commit_parts}
use Rattle.mv_gen_programs.proofs.Scanned.{behind}
use Rattle.mv_gen_programs.proofs.Trees.{Places, plain_declarator, argument, form_tree, definition_declarator, drawn_tree, drawn_words, definition_trees, switch_tree, object_tree, local_tree, store_tree, commit_tree, if_tree, call_tree, call_trees, loop_tree, output_tree, feed_tree, return_tree, main_declarator}
use Rattle.mv_gen_programs.proofs.Lexed.{unit_places}
use Rattle.mv_gen_programs.proofs.Read.{past, inside, loop_lines, main_lines, local_places, loop_places, output_places, feed_places, return_places, object_places, main_places, main_item, items_of, unit_of}

-- no more than eight
abbrev Few : List ℕ → Type 0
Few counts = first_above 8 counts ≡ None

-- ---- declarators

plain_few : (at : Place) (name : List ℕ) → Few (declarator_parameters (plain_declarator at name))
plain_few at name = ap (first_above 8) (declarator_is (plain_declarator at name)) ∙ shape_plain

one_few : (d : Declarator) → Few (declarator_parameters d) → Few (concat (map declarator_parameters (d ∷ [])))
one_few d h = joined_none 8 (declarator_parameters d) [] h refl

next_few : (d : Declarator) (ds : List Declarator) → Few (declarator_parameters d) → Few (concat (map declarator_parameters ds)) →
    Few (concat (map declarator_parameters (d ∷ ds)))
next_few d ds h k = joined_none 8 (declarator_parameters d) (concat (map declarator_parameters ds)) h k

function_few : (at : Place) (name : Option (List ℕ)) (x : Param) → Few (declarator_parameters x.name) →
    Few (declarator_parameters (declarator_of at name (shape.Function (x ∷ []))))
function_few at name x h =
    ap (first_above 8) (declarator_is (declarator_of at name (shape.Function (x ∷ [])))) ∙
    (shape_function (x ∷ []) ∙ joined_none 8 (declarator_parameters x.name) [] h refl)

nothing_few : (at : Place) (name : Option (List ℕ)) → Few (declarator_parameters (declarator_of at name (shape.Function [])))
nothing_few at name = ap (first_above 8) (declarator_is (declarator_of at name (shape.Function []))) ∙ shape_function []

-- ---- statements

line_few : (l : Line) → first_above 8 (act_parameters l.what) ≡ None → Few (line_parameters l)
line_few l h = ap (first_above 8) (line_is l) ∙ h

more_few : (l : Line) (ls : List Line) → Few (line_parameters l) → Few (concat (map line_parameters ls)) → Few (concat (map line_parameters (l ∷ ls)))
more_few l ls h k = joined_none 8 (line_parameters l) (concat (map line_parameters ls)) h k

module _ (at : Place) where
  express_few : (e : Option Node) → Few (line_parameters (line_at at (a.Express e)))
  express_few e = line_few (line_at at (a.Express e)) (act_express e)

  return_few : (e : Option Node) → Few (line_parameters (line_at at (a.Return e)))
  return_few e = line_few (line_at at (a.Return e)) (act_return e)

  block_few : (ls : List Line) → Few (concat (map line_parameters ls)) → Few (line_parameters (line_at at (a.Block ls)))
  block_few ls h = line_few (line_at at (a.Block ls)) (act_block ls ∙ h)

  if_few : (e : Node) (l : Line) → Few (line_parameters l) → Few (line_parameters (line_at at (a.If e l None)))
  if_few e l h = line_few (line_at at (a.If e l None)) (act_if e l None ∙ ap (λ (o : Option ℕ). option_or o None) h)

  for_few : (first l : Line) (test step : Option Node) → Few (line_parameters first) → Few (line_parameters l) →
      Few (line_parameters (line_at at (a.For (Some first) test step l)))
  for_few first l test step h k =
      line_few (line_at at (a.For (Some first) test step l))
      (act_for (Some first) test step l ∙ (ap (λ (o : Option ℕ). option_or o (first_above 8 (line_parameters l))) h ∙ k))

  declare_few : (specs : Specs) (d : Declarator) → Few (declarator_parameters d) → Few (line_parameters (line_at at (a.Declare specs (d ∷ []))))
  declare_few specs d h = line_few (line_at at (a.Declare specs (d ∷ []))) (act_declare specs (d ∷ []) ∙ one_few d h)

calls_few : (p : Places) (i count : ℕ) → Few (concat (map line_parameters (call_trees p i count)))
unfolding call_trees
calls_few p i zero = refl
calls_few p i (suc count) = more_few (call_tree p i) (call_trees (behind p 7) (suc i) count) (express_few (p 0) _) (calls_few (behind p 7) (suc i) count)

stores_few : (p : Places) → Few (line_parameters (if_tree p))
stores_few p =
    let fifth : List Line = commit_tree (behind p 41) ∷ [] in
    let fourth : List Line = store_tree (behind p 33) (codes "s3") 400 ∷ fifth in
    let third : List Line = store_tree (behind p 25) (codes "s2") 300 ∷ fourth in
    let second : List Line = store_tree (behind p 17) (codes "s1") 200 ∷ third in
    let first : List Line = store_tree (behind p 9) (codes "s0") 100 ∷ second in
    if_few (p 0) _ (line_at (p 8) (a.Block first)) (block_few (p 8) first
    (more_few (store_tree (behind p 9) (codes "s0") 100) second (express_few (p 9) _)
    (more_few (store_tree (behind p 17) (codes "s1") 200) third (express_few (p 17) _)
    (more_few (store_tree (behind p 25) (codes "s2") 300) fourth (express_few (p 25) _)
    (more_few (store_tree (behind p 33) (codes "s3") 400) fifth (express_few (p 33) _)
    (more_few (commit_tree (behind p 41)) [] (express_few (p 41) _) refl))))))

loop_few : (p : Places) (ls : List Line) → Few (concat (map line_parameters ls)) → Few (line_parameters (loop_tree p ls))
loop_few p ls h = for_few (p 0) _ _ _ _ (express_few (p 2) _) (block_few (p 13) ls h)

main_few : (p : Places) (count : ℕ) → Few (concat (map line_parameters (main_lines p count)))
main_few p count =
    let q : Places = loop_places p in
    let last : List Line = return_tree (return_places p count) ∷ [] in
    let feeds : List Line = feed_tree (feed_places p count) ∷ last in
    let writes : List Line = output_tree (output_places p count) ∷ feeds in
    let loops : List Line = loop_tree q (loop_lines q count) ∷ writes in
    more_few (local_tree (local_places p)) loops (declare_few (local_places p 0) _ _ (plain_few (local_places p 1) (codes "i")))
    (more_few (loop_tree q (loop_lines q count)) writes
    (loop_few q (loop_lines q count)
    (more_few (if_tree (inside q)) (call_trees (past (inside q) commit_parts) 0 count) (stores_few (inside q)) (calls_few (past (inside q) commit_parts) 0 count)))
    (more_few (output_tree (output_places p count)) feeds (express_few (output_places p count 0) _)
    (more_few (feed_tree (feed_places p count)) last (express_few (feed_places p count 0) _)
    (more_few (return_tree (return_places p count)) [] (return_few (return_places p count 0) _) refl))))

-- ---- items

items_few : (i : Item) (is : List Item) → Few (concat (map declarator_parameters i.names)) → Few (optional_parameters i.body) →
    Few (concat (map item_parameters is)) → Few (concat (map item_parameters (i ∷ is)))
items_few i is h k more =
    joined_none 8 (item_parameters i) (concat (map item_parameters is))
    (joined_none 8 (concat (map declarator_parameters i.names)) (optional_parameters i.body) h k) more

definitions_few : (p : Places) (seed i count : ℕ) (rest : List Item) → Few (concat (map item_parameters rest)) →
    Few (concat (map item_parameters (definition_trees p seed i count ++ rest)))
unfolding definition_trees
definitions_few p seed i zero rest h = h
definitions_few p seed i (suc count) rest h =
    let x = drawn seed (suc i) in
    let q : Places = behind p (length (drawn_words i x)) in
    let answer : Line = line_at (p 13) (a.Return (Some (form_tree p (form_of x) (switch_of x) (constant_of x)))) in
    items_few (drawn_tree p i x) (definition_trees q seed (suc i) count ++ rest)
    (one_few (definition_declarator p i) (function_few (p 7) (Some (function_name i)) (argument p) (plain_few (p 10) (codes "a"))))
    (block_few (p 12) (answer ∷ []) (more_few answer [] (return_few (p 13) (Some (form_tree p (form_of x) (switch_of x) (constant_of x)))) refl))
    (definitions_few q seed (suc i) count rest h)

items_are_few : (seed : ℕ) (p : Places) → Few (concat (map item_parameters (items_of seed p)))
items_are_few seed p =
    let o : Places = object_places seed p in
    let m : Places = main_places seed p in
    let late : List Item = object_tree o ∷ main_item seed p ∷ [] in
    let third : List Declarator = plain_declarator (p 22) (codes "s3") ∷ [] in
    let second : List Declarator = plain_declarator (p 20) (codes "s2") ∷ third in
    let first : List Declarator = plain_declarator (p 18) (codes "s1") ∷ second in
    items_few (switch_tree p) (definition_trees (past p switch_parts) seed 0 (functions seed) ++ late)
    (next_few (plain_declarator (p 16) (codes "s0")) first (plain_few (p 16) (codes "s0"))
    (next_few (plain_declarator (p 18) (codes "s1")) second (plain_few (p 18) (codes "s1"))
    (next_few (plain_declarator (p 20) (codes "s2")) third (plain_few (p 20) (codes "s2"))
    (one_few (plain_declarator (p 22) (codes "s3")) (plain_few (p 22) (codes "s3")))))) refl
    (definitions_few (past p switch_parts) seed 0 (functions seed) late
    (items_few (object_tree o) (main_item seed p ∷ []) (one_few (plain_declarator (o 1) (codes "acc")) (plain_few (o 1) (codes "acc"))) refl
    (items_few (main_item seed p) [] (one_few (main_declarator m) (nothing_few (m 1) (Some (codes "main"))))
    (block_few (m 5) (main_lines m (functions seed)) (main_few m (functions seed))) refl)))

pub few_parameters : (seed : ℕ) → Few (unit_parameters (unit_of seed))
few_parameters seed = items_are_few seed (unit_places seed)
