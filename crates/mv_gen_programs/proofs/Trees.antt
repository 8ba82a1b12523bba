-- The trees of generated texts, line by line. Of the places of a line's tokens the k-th has the number k.
use Rattle.std.proofs.Common.{ℕ, zero, suc, true, false, List, [], ◌∷◌, length, Some, None}
use Rattle.std.specs.Prelude.{codes}
use Rattle.mv_num.specs.declared.kind.Kind.TheVariants.{Int}
use Rattle.mv_syntax.specs.declared.place.Place.{Place}
use Rattle.mv_syntax.specs.declared.unit.Node.{Node}
use Rattle.mv_syntax.specs.declared.unit.What.TheVariants as w
use Rattle.mv_syntax.specs.declared.unit.Specs.{Specs}
use Rattle.mv_syntax.specs.declared.unit.Declarator.{Declarator}
use Rattle.mv_syntax.specs.declared.unit.Shape.TheVariants as shape
use Rattle.mv_syntax.specs.declared.unit.Param.{Param}
use Rattle.mv_syntax.specs.declared.unit.Line.{Line}
use Rattle.mv_syntax.specs.declared.unit.Act.TheVariants as a
use Rattle.mv_syntax.specs.declared.unit.Item.{Item}
use Rattle.mv_parse_grammar.specs.Expressions.{node_at, specs_of}
use Rattle.mv_parse_grammar.specs.Declarations.{mark_at, declarator_of, param_of}
use Rattle.mv_parse_grammar.specs.Statements.{line_at}
use Rattle.mv_parse_grammar.specs.Units.{item_of}
use Rattle.mv_gen.specs.Generated.{drawn, form_of, switch_of, constant_of}
use Rattle.mv_gen_programs.proofs.Parts.{Word, words}
use Rattle.mv_gen_programs.proofs.Scanned.{behind}
use Rattle.mv_gen_programs.proofs.Lines.{function_name, switch_name, drawn_parts}

abbrev pub Places : Type 0
Places = ℕ → Place

-- `int`, as the type of what is declared
abbrev pub int_specs : Place → Specs
int_specs at = specs_of at false false (12 ∷ []) [] []

abbrev pub word : Place → List ℕ → Node
word at s = node_at at (w.Name s)

abbrev pub number : Place → ℕ → Node
number at n = node_at at (w.Number n Int)

-- expressions, whose first token has the number k
abbrev pub sum_tree : Places → (switch constant : ℕ) → Node
sum_tree p j c = node_at (p 14) (w.Binary 12 (word (p 14) (codes "a")) (node_at (p 16) (w.Binary 14 (word (p 16) (switch_name j)) (number (p 18) c))))

abbrev pub choice_tree : Places → (switch constant : ℕ) → Node
choice_tree p j c =
    node_at (p 14) (w.Choose (word (p 14) (switch_name j)) (node_at (p 16) (w.Binary 19 (word (p 16) (codes "a")) (number (p 18) c))) (word (p 20) (codes "a")))

abbrev pub test_tree : Places → (switch constant : ℕ) → Node
test_tree p j c =
    node_at (p 14) (w.Choose (node_at (p 14) (w.Binary 29 (word (p 14) (switch_name j)) (number (p 16) 2)))
    (node_at (p 18) (w.Binary 12 (node_at (p 18) (w.Binary 14 (word (p 18) (codes "a")) (number (p 20) 3))) (number (p 22) c)))
    (node_at (p 24) (w.Binary 13 (word (p 24) (codes "a")) (number (p 26) c))))

abbrev pub form_tree : Places → (form switch constant : ℕ) → Node
form_tree p zero j c = sum_tree p j c
form_tree p (suc zero) j c = choice_tree p j c
form_tree p (suc (suc zero)) j c = test_tree p j c
form_tree p (suc (suc (suc f))) j c = word (p 14) (codes "a")

-- `__attribute__((multiverse)) int`
abbrev pub marked_specs : Places → Specs
marked_specs p = specs_of (p 0) false false (12 ∷ []) [] (mark_at (p 0) None ∷ [])

abbrev pub argument : Places → Param
argument p = param_of (int_specs (p 9)) (declarator_of (p 10) (Some (codes "a")) shape.Plain)

abbrev pub definition_declarator : Places → ℕ → Declarator
definition_declarator p i = declarator_of (p 7) (Some (function_name i)) (shape.Function (argument p ∷ []))

abbrev pub definition_body : Places → (form switch constant : ℕ) → Line
definition_body p f j c = line_at (p 12) (a.Block (line_at (p 13) (a.Return (Some (form_tree p f j c))) ∷ []))

abbrev pub definition_tree : Places → (i form switch constant : ℕ) → Item
definition_tree p i f j c = item_of (marked_specs p) (definition_declarator p i ∷ []) (Some (definition_body p f j c))

-- of the i-th function, for a word
abbrev pub drawn_tree : Places → (i x : ℕ) → Item
drawn_tree p i x = definition_tree p i (form_of x) (switch_of x) (constant_of x)

abbrev pub drawn_words : (i x : ℕ) → List Word
drawn_words i x = words (drawn_parts i x)

-- so many functions, one behind the other
unfoldable pub definition_trees : Places → (seed i count : ℕ) → List Item
definition_trees p seed i zero = []
definition_trees p seed i (suc count) =
    drawn_tree p i (drawn seed (suc i)) ∷ definition_trees (behind p (length (drawn_words i (drawn seed (suc i))))) seed (suc i) count

-- ---- objects

abbrev pub plain_declarator : Place → List ℕ → Declarator
plain_declarator at s = declarator_of at (Some s) shape.Plain

-- `__attribute__((multiverse(0, 1, 2, 3))) int s0, s1, s2, s3;`
abbrev pub switch_specs : Places → Specs
switch_specs p = specs_of (p 0) false false (12 ∷ []) [] (mark_at (p 0) (Some (number (p 5) 0 ∷ number (p 7) 1 ∷ number (p 9) 2 ∷ number (p 11) 3 ∷ [])) ∷ [])

abbrev pub switch_tree : Places → Item
switch_tree p =
    item_of (switch_specs p)
    (plain_declarator (p 16) (codes "s0") ∷ plain_declarator (p 18) (codes "s1") ∷ plain_declarator (p 20) (codes "s2") ∷ plain_declarator (p 22) (codes "s3") ∷ []) None

-- `int acc;`
abbrev pub object_tree : Places → Item
object_tree p = item_of (int_specs (p 0)) (plain_declarator (p 1) (codes "acc") ∷ []) None

-- ---- main

-- `int i;`
abbrev pub local_tree : Places → Line
local_tree p = line_at (p 0) (a.Declare (int_specs (p 0)) (plain_declarator (p 1) (codes "i") ∷ []))

-- `sJ = i / N & 3;`
abbrev pub store_tree : Places → List ℕ → ℕ → Line
store_tree p s n =
    line_at (p 0) (a.Express (Some (node_at (p 0) (w.Assign 22 (word (p 0) s)
    (node_at (p 2) (w.Binary 17 (node_at (p 2) (w.Binary 15 (word (p 2) (codes "i")) (number (p 4) n))) (number (p 6) 3)))))))

-- `multiverse_commit();`
abbrev pub commit_tree : Places → Line
commit_tree p = line_at (p 0) (a.Express (Some (node_at (p 0) (w.Call (word (p 0) (codes "multiverse_commit")) []))))

-- the `if`
abbrev pub if_tree : Places → Line
if_tree p =
    line_at (p 0) (a.If (node_at (p 2) (w.Binary 29 (node_at (p 2) (w.Binary 16 (word (p 2) (codes "i")) (number (p 4) 100))) (number (p 6) 0)))
    (line_at (p 8) (a.Block (store_tree (behind p 9) (codes "s0") 100 ∷ store_tree (behind p 17) (codes "s1") 200 ∷ store_tree (behind p 25) (codes "s2") 300
    ∷ store_tree (behind p 33) (codes "s3") 400 ∷ commit_tree (behind p 41) ∷ []))) None)

-- `acc = fI(acc);`
abbrev pub call_tree : Places → ℕ → Line
call_tree p i =
    line_at (p 0) (a.Express (Some (node_at (p 0) (w.Assign 22 (word (p 0) (codes "acc")) (node_at (p 2) (w.Call (word (p 2) (function_name i)) (word (p 4) (codes "acc") ∷ [])))))))

unfoldable pub call_trees : Places → (i count : ℕ) → List Line
call_trees p i zero = []
call_trees p i (suc count) = call_tree p i ∷ call_trees (behind p 7) (suc i) count

-- the loop, whose block's statements these are
abbrev pub loop_tree : Places → List Line → Line
loop_tree p lines =
    line_at (p 0) (a.For (Some (line_at (p 2) (a.Express (Some (node_at (p 2) (w.Assign 22 (word (p 2) (codes "i")) (number (p 4) 0)))))))
    (Some (node_at (p 6) (w.Binary 20 (word (p 6) (codes "i")) (number (p 8) 1000)))) (Some (node_at (p 10) (w.After true (word (p 10) (codes "i")))))
    (line_at (p 13) (a.Block lines)))

-- `putchar(65 + (acc & 15));`
abbrev pub output_tree : Places → Line
output_tree p =
    line_at (p 0) (a.Express (Some (node_at (p 0) (w.Call (word (p 0) (codes "putchar"))
    (node_at (p 2) (w.Binary 12 (number (p 2) 65) (node_at (p 5) (w.Binary 17 (word (p 5) (codes "acc")) (number (p 7) 15)))) ∷ [])))))

-- `putchar(10);`
abbrev pub feed_tree : Places → Line
feed_tree p = line_at (p 0) (a.Express (Some (node_at (p 0) (w.Call (word (p 0) (codes "putchar")) (number (p 2) 10 ∷ [])))))

-- `return 0;`
abbrev pub return_tree : Places → Line
return_tree p = line_at (p 0) (a.Return (Some (number (p 1) 0)))

-- `int main(void)`
abbrev pub main_declarator : Places → Declarator
main_declarator p = declarator_of (p 1) (Some (codes "main")) (shape.Function [])

abbrev pub main_tree : Places → Line → Item
main_tree p body = item_of (int_specs (p 0)) (main_declarator p ∷ []) (Some body)
