-- Generated texts read as these units.
use Rattle.std.proofs.Common.{◌≡◌, ℕ, zero, suc, ◌+◌, ◌-◌, ◌≤◌, true, false, List, [], ◌∷◌, ◌++◌, length, Some, refl, sym, ap, ◌∙◌, arith, append_assoc, append-nil}
use Rattle.mv_syntax.specs.declared.unit.Item.{Item}
use Rattle.mv_syntax.specs.declared.unit.Line.{Line}
use Rattle.mv_syntax.specs.declared.unit.Act.TheVariants as a
use Rattle.mv_syntax.specs.declared.unit.Unit as tree
use Rattle.mv_parse_grammar.specs.Terminals.{Terminal, is_keyword, is_no_end}
use Rattle.mv_parse_grammar.specs.Reader.{Read, Ends, next, chain, pushed}
use Rattle.mv_parse_grammar.specs.Statements.{line_at}
use Rattle.mv_parse_grammar.specs.ExpressionReader.{read}
use Rattle.mv_parse_grammar.specs.DeclarationReader.{params}
use Rattle.mv_parse_grammar.specs.StatementReader.{block_item, block, locals, statements}
use Rattle.mv_parse_grammar.specs.UnitReader.{item, items, unit}
use Rattle.mv_parse_grammar.specs.Units.{AreItems}
use Rattle.mv_parse_grammar.proofs.Verdict.{read_items}
use Rattle.mv_parse_reading.specs.Texts.{ReadsAs}
use Rattle.mv_gen.specs.Generated.{drawn, functions, form_of, switch_of, constant_of, generated}
use Rattle.mv_gen_programs.proofs.Parts.{Part, sign, Word, word_of, words}
use Rattle.mv_gen_programs.proofs.Scanned.{placed, placed_append, placed_behind, behind}
use Rattle.mv_gen_programs.proofs.Lines.{feed, switch_parts, drawn_parts, definitions_parts, object_parts, head_parts, local_parts, loop_parts, commit_parts, call_parts, calls_parts, output_parts, feed_parts, return_parts, after_parts, unit_parts}
use Rattle.mv_gen_programs.proofs.Lexed.{unit_tokens, unit_terminals, unit_places, unit_placed, unit_lexed}
use Rattle.mv_gen_programs.proofs.Trees.{Places, switch_tree, drawn_tree, definition_trees, object_tree, local_tree, if_tree, call_tree, call_trees, loop_tree, output_tree, feed_tree, return_tree, main_tree}
use Rattle.mv_gen_programs.proofs.Parsed.{definition_read, switch_read, object_read, main_read, local_read, if_read, call_read, output_read, feed_read, return_read, line_more, statement_line, local_line, loop_read, block_read, block_statement, lines_end, item_more}

-- ---- words in a row

words_append : (xs ys : List Part) → words (xs ++ ys) ≡ words xs ++ words ys
words_append [] ys = refl
words_append (x ∷ xs) ys = ap (λ (ws : List Word). word_of x ++ ws) (words_append xs ys) ∙ sym (append_assoc (word_of x) (words xs) (words ys))

-- the places behind some parts
abbrev pub past : Places → List Part → Places
past p xs = behind p (length (words xs))

cut : (p : Places) (xs ys : List Part) → placed p 0 (words (xs ++ ys)) ≡ placed p 0 (words xs) ++ placed (past p xs) 0 (words ys)
cut p xs ys =
    ap (placed p 0) (words_append xs ys)
    ∙ (placed_append p 0 (words xs) (words ys)
    ∙ ap (λ (ts : List Terminal). placed p 0 (words xs) ++ ts) (placed_behind p (length (words xs)) 0 (words ys)))

-- ---- calls

abbrev in_loop : ℕ → List Line → List Terminal → Read (List Line)
in_loop = chain is_no_end (pushed (block_item (locals 58) (statements 58)))

-- the places behind so many calls
unfoldable pub calls_end : Places → (i count : ℕ) → Places
calls_end p i zero = p
calls_end p i (suc count) = calls_end (past p (call_parts i)) (suc i) count

calls_read : (i count : ℕ) (p : Places) (n m : ℕ) (ls : List Line) (ys : List Part) → n ≡ count + m →
    in_loop n ls (placed p 0 (words (calls_parts i count ++ ys))) ≡ in_loop m (ls ++ call_trees p i count) (placed (calls_end p i count) 0 (words ys))
unfolding calls_parts call_trees calls_end
calls_read i zero p n m ls ys e =
    let same : n ≡ m = omega arith in
    ap (λ k. in_loop k ls (placed p 0 (words ys))) same ∙ ap (λ ks. in_loop m ks (placed p 0 (words ys))) (sym (append-nil ls))
calls_read i (suc count) p n m ls ys e =
    let more : n ≡ suc (count + m) = omega arith in
    let q = past p (call_parts i) in
    let l = call_tree p i in
    let here = placed p 0 (words (call_parts i)) in
    let rest = placed q 0 (words (calls_parts (suc i) count ++ ys)) in
    ap (λ k. in_loop k ls (placed p 0 (words ((call_parts i ++ calls_parts (suc i) count) ++ ys)))) more
    ∙ (ap (λ (xs : List Part). in_loop (suc (count + m)) ls (placed p 0 (words xs))) (append_assoc (call_parts i) (calls_parts (suc i) count) ys)
    ∙ (ap (in_loop (suc (count + m)) ls) (cut p (call_parts i) (calls_parts (suc i) count ++ ys))
    ∙ (line_more (locals 58) (statements 58) (count + m) ls l (here ++ rest) rest refl (statement_line (locals 58) (statements 58) l (here ++ rest) rest refl (call_read p i rest))
    ∙ (calls_read (suc i) count q (count + m) m (ls ++ l ∷ []) ys refl
    ∙ ap (λ ks. in_loop m ks (placed (calls_end q (suc i) count) 0 (words ys))) (append_assoc ls (l ∷ []) (call_trees q (suc i) count))))))

-- no `else` comes behind the `if`
no_else : (i count : ℕ) (p : Places) → next (is_keyword 8) (placed p 0 (words (calls_parts i count ++ after_parts))) ≡ false
unfolding calls_parts
no_else i zero p = refl
no_else i (suc count) p = refl

-- ---- the loop

-- the places behind the loop's brace
abbrev pub inside : Places → Places
inside p = behind (past p loop_parts) 1

abbrev pub loop_lines : Places → ℕ → List Line
loop_lines p count = if_tree (inside p) ∷ call_trees (past (inside p) commit_parts) 0 count

-- and behind the calls
abbrev pub loop_end : Places → ℕ → Places
loop_end p count = calls_end (past (inside p) commit_parts) 0 count

-- what stands behind the loop
abbrev rest_parts : List Part
rest_parts = output_parts ++ (feed_parts ++ (return_parts ++ (sign 5 ∷ feed ∷ [])))

loop_block : (p : Places) (count : ℕ) → count ≤ 40 →
    in_loop 58 [] (placed (inside p) 0 (words (commit_parts ++ (calls_parts 0 count ++ after_parts))))
    ≡ Ends (Some (loop_lines p count)) (placed (loop_end p count) 0 (words after_parts))
loop_block p count few =
    let q = inside p in
    let r = past q commit_parts in
    let here = placed q 0 (words commit_parts) in
    let rest = placed r 0 (words (calls_parts 0 count ++ after_parts)) in
    let enough : 57 ≡ count + suc (56 - count) = omega arith in
    ap (in_loop 58 []) (cut q commit_parts (calls_parts 0 count ++ after_parts))
    ∙ (line_more (locals 58) (statements 58) 57 [] (if_tree q) (here ++ rest) rest refl
    (statement_line (locals 58) (statements 58) (if_tree q) (here ++ rest) rest refl (if_read q rest (no_else 0 count r)))
    ∙ (calls_read 0 count r 57 (suc (56 - count)) (if_tree q ∷ []) after_parts enough
    ∙ lines_end (locals 58) (statements 58) (56 - count) (loop_end p count 0) (loop_lines p count) (placed (loop_end p count) 1 (words rest_parts))))

-- the loop is read up to its brace
loop_is : (p : Places) (count : ℕ) → count ≤ 40 →
    statements 60 (placed p 0 (words (loop_parts ++ (sign 4 ∷ feed ∷ (commit_parts ++ (calls_parts 0 count ++ after_parts))))))
    ≡ Ends (Some (loop_tree p (loop_lines p count))) (placed (behind (loop_end p count) 1) 0 (words rest_parts))
loop_is p count few =
    let inner = commit_parts ++ (calls_parts 0 count ++ after_parts) in
    let q = past p loop_parts in
    let e = loop_end p count in
    let behind_brace : placed q 0 (words (sign 4 ∷ feed ∷ inner)) ≡ placed q 0 (words (sign 4 ∷ feed ∷ [])) ++ placed (inside p) 0 (words inner) =
    ap (λ (ts : List Terminal). placed q 0 (words (sign 4 ∷ feed ∷ [])) ++ ts) (placed_behind q 1 0 (words inner)) in
    let ends : placed e 1 (words rest_parts) ≡ placed (behind e 1) 0 (words rest_parts) = placed_behind e 1 0 (words rest_parts) in
    let body = block_read (locals 58) (statements 58) 58 (q 0) (e 0) (loop_lines p count) (placed (inside p) 0 (words inner)) (placed e 1 (words rest_parts)) (loop_block p count few) in
    ap (statements 60) (cut p loop_parts (sign 4 ∷ feed ∷ inner))
    ∙ loop_read p (statements 59) (placed q 0 (words (sign 4 ∷ feed ∷ inner))) (placed (behind e 1) 0 (words rest_parts)) (loop_lines p count)
    (ap (statements 59) behind_brace
    ∙ (block_statement (q 0) (placed (inside p) 0 (words inner))
    ∙ (body ∙ ap (λ (ts : List Terminal). Ends (Some (line_at (q 0) (a.Block (loop_lines p count)))) ts) ends)))

-- ---- main

abbrev in_main : ℕ → List Line → List Terminal → Read (List Line)
in_main = chain is_no_end (pushed (block_item (locals 60) (statements 60)))

-- the parts of `main` behind its brace
abbrev inner_parts : ℕ → List Part
inner_parts count = (feed ∷ local_parts) ++ (loop_parts ++ (sign 4 ∷ feed ∷ (commit_parts ++ (calls_parts 0 count ++ after_parts))))

-- the places of the local, of the loop, and of the lines behind it
abbrev pub local_places : Places → Places
local_places p = behind (past p head_parts) 1

abbrev pub loop_places : Places → Places
loop_places p = past (local_places p) (feed ∷ local_parts)

abbrev pub output_places : Places → ℕ → Places
output_places p count = behind (loop_end (loop_places p) count) 1

abbrev pub feed_places : Places → ℕ → Places
feed_places p count = past (output_places p count) output_parts

abbrev pub return_places : Places → ℕ → Places
return_places p count = past (feed_places p count) feed_parts

abbrev pub main_lines : Places → ℕ → List Line
main_lines p count =
    local_tree (local_places p) ∷ loop_tree (loop_places p) (loop_lines (loop_places p) count) ∷ output_tree (output_places p count) ∷ feed_tree (feed_places p count)
    ∷ return_tree (return_places p count) ∷ []

main_block : (p : Places) (count : ℕ) → count ≤ 40 →
    in_main 60 [] (placed (local_places p) 0 (words (inner_parts count))) ≡ Ends (Some (main_lines p count)) (placed (past (return_places p count) return_parts) 0 (words (sign 5 ∷ feed ∷ [])))
main_block p count few =
    let D = locals 60 in
    let T = statements 60 in
    let q = local_places p in
    let r = loop_places p in
    let o = output_places p count in
    let f = feed_places p count in
    let t = return_places p count in
    let loop_words = loop_parts ++ (sign 4 ∷ feed ∷ (commit_parts ++ (calls_parts 0 count ++ after_parts))) in
    let local = placed q 0 (words (feed ∷ local_parts)) in
    let output = placed o 0 (words output_parts) in
    let line_feed = placed f 0 (words feed_parts) in
    let return = placed t 0 (words return_parts) in
    let a = placed r 0 (words loop_words) in
    let b = placed o 0 (words (output_parts ++ (feed_parts ++ (return_parts ++ (sign 5 ∷ feed ∷ []))))) in
    let c = placed f 0 (words (feed_parts ++ (return_parts ++ (sign 5 ∷ feed ∷ [])))) in
    let d = placed t 0 (words (return_parts ++ (sign 5 ∷ feed ∷ []))) in
    let e = placed (past t return_parts) 0 (words (sign 5 ∷ feed ∷ [])) in
    let l1 = local_tree q in
    let l2 = loop_tree r (loop_lines r count) in
    let l3 = output_tree o in
    let l4 = feed_tree f in
    let l5 = return_tree t in
    ap (in_main 60 []) (cut q (feed ∷ local_parts) loop_words)
    ∙ (line_more D T 59 [] l1 (local ++ a) a refl (local_line D T l1 (local ++ a) a refl (local_read q a))
    ∙ (line_more D T 58 (l1 ∷ []) l2 a b refl (statement_line D T l2 a b refl (loop_is r count few))
    ∙ (ap (in_main 58 (l1 ∷ l2 ∷ [])) (cut o output_parts (feed_parts ++ (return_parts ++ (sign 5 ∷ feed ∷ []))))
    ∙ (line_more D T 57 (l1 ∷ l2 ∷ []) l3 (output ++ c) c refl (statement_line D T l3 (output ++ c) c refl (output_read o c))
    ∙ (ap (in_main 57 (l1 ∷ l2 ∷ l3 ∷ [])) (cut f feed_parts (return_parts ++ (sign 5 ∷ feed ∷ [])))
    ∙ (line_more D T 56 (l1 ∷ l2 ∷ l3 ∷ []) l4 (line_feed ++ d) d refl (statement_line D T l4 (line_feed ++ d) d refl (feed_read f d))
    ∙ (ap (in_main 56 (l1 ∷ l2 ∷ l3 ∷ l4 ∷ [])) (cut t return_parts (sign 5 ∷ feed ∷ []))
    ∙ (line_more D T 55 (l1 ∷ l2 ∷ l3 ∷ l4 ∷ []) l5 (return ++ e) e refl (statement_line D T l5 (return ++ e) e refl (return_read t e))
    ∙ lines_end D T 54 (past t return_parts 0) (main_lines p count) []))))))))

item_is : (ts : List Terminal) → items 60 ts ≡ item 60 (read 60) (params 60) (block 60 (locals 60) (statements 60)) ts
item_is ts = refl

main_is : (p : Places) (count : ℕ) → count ≤ 40 →
    items 60 (placed p 0 (words (head_parts ++ (sign 4 ∷ inner_parts count)))) ≡ Ends (Some (main_tree p (line_at (p 5) (a.Block (main_lines p count))))) []
main_is p count few =
    let q = past p head_parts in
    let ts = placed (local_places p) 0 (words (inner_parts count)) in
    let brace : placed q 0 (words (sign 4 ∷ inner_parts count)) ≡ placed q 0 (words (sign 4 ∷ [])) ++ ts =
    ap (λ (us : List Terminal). placed q 0 (words (sign 4 ∷ [])) ++ us) (placed_behind q 1 0 (words (inner_parts count))) in
    let body = block_read (locals 60) (statements 60) 60 (p 5) (past (return_places p count) return_parts 0) (main_lines p count) ts [] (main_block p count few) in
    let joined : placed p 0 (words head_parts) ++ (placed q 0 (words (sign 4 ∷ [])) ++ ts) ≡ placed p 0 (words (head_parts ++ sign 4 ∷ [])) ++ ts = refl in
    let all : placed p 0 (words (head_parts ++ (sign 4 ∷ inner_parts count))) ≡ placed p 0 (words (head_parts ++ sign 4 ∷ [])) ++ ts =
    cut p head_parts (sign 4 ∷ inner_parts count) ∙ (ap (λ (us : List Terminal). placed p 0 (words head_parts) ++ us) brace ∙ joined) in
    ap (items 60) all
    ∙ (item_is (placed p 0 (words (head_parts ++ sign 4 ∷ [])) ++ ts)
    ∙ main_read p (block 60 (locals 60) (statements 60)) ts [] (line_at (p 5) (a.Block (main_lines p count))) body)

-- ---- functions

abbrev in_unit : ℕ → List Item → List Terminal → Read (List Item)
in_unit = chain (λ _. true) (pushed (items 60))

-- the places behind so many functions
unfoldable pub definitions_end : Places → (seed i count : ℕ) → Places
definitions_end p seed i zero = p
definitions_end p seed i (suc count) = definitions_end (past p (drawn_parts i (drawn seed (suc i)))) seed (suc i) count

definitions_read : (seed i count : ℕ) (p : Places) (n m : ℕ) (xs : List Item) (ys : List Part) → n ≡ count + m →
    in_unit n xs (placed p 0 (words (definitions_parts seed i count ++ ys))) ≡ in_unit m (xs ++ definition_trees p seed i count) (placed (definitions_end p seed i count) 0 (words ys))
unfolding definitions_parts definition_trees definitions_end
definitions_read seed i zero p n m xs ys e =
    let same : n ≡ m = omega arith in
    ap (λ k. in_unit k xs (placed p 0 (words ys))) same ∙ ap (λ ks. in_unit m ks (placed p 0 (words ys))) (sym (append-nil xs))
definitions_read seed i (suc count) p n m xs ys e =
    let more : n ≡ suc (count + m) = omega arith in
    let w = drawn seed (suc i) in
    let parts = drawn_parts i w in
    let q = past p parts in
    let x = drawn_tree p i w in
    let here = placed p 0 (words parts) in
    let rest = placed q 0 (words (definitions_parts seed (suc i) count ++ ys)) in
    ap (λ k. in_unit k xs (placed p 0 (words ((parts ++ definitions_parts seed (suc i) count) ++ ys)))) more
    ∙ (ap (λ (zs : List Part). in_unit (suc (count + m)) xs (placed p 0 (words zs))) (append_assoc parts (definitions_parts seed (suc i) count) ys)
    ∙ (ap (in_unit (suc (count + m)) xs) (cut p parts (definitions_parts seed (suc i) count ++ ys))
    ∙ (item_more (items 60) (count + m) xs x (here ++ rest) rest refl (definition_read p i (form_of w) (switch_of w) (constant_of w) rest)
    ∙ (definitions_read seed (suc i) count q (count + m) m (xs ++ x ∷ []) ys refl
    ∙ ap (λ ks. in_unit m ks (placed (definitions_end q seed (suc i) count) 0 (words ys))) (append_assoc xs (x ∷ []) (definition_trees q seed (suc i) count))))))

-- ---- the unit

abbrev pub object_places : ℕ → Places → Places
object_places seed p = definitions_end (past p switch_parts) seed 0 (functions seed)

abbrev pub main_places : ℕ → Places → Places
main_places seed p = past (object_places seed p) object_parts

abbrev pub main_item : ℕ → Places → Item
main_item seed p = main_tree (main_places seed p) (line_at (main_places seed p 5) (a.Block (main_lines (main_places seed p) (functions seed))))

abbrev pub items_of : ℕ → Places → List Item
items_of seed p =
    switch_tree p ∷ (definition_trees (past p switch_parts) seed 0 (functions seed) ++ (object_tree (object_places seed p) ∷ main_item seed p ∷ []))

few : (seed : ℕ) → functions seed ≤ 40
few seed = omega arith

unit_is : (seed : ℕ) (p : Places) → unit 60 (placed p 0 (words (unit_parts seed))) ≡ Ends (Some (items_of seed p)) []
unit_is seed p =
    let f = functions seed in
    let q = past p switch_parts in
    let o = object_places seed p in
    let m = main_places seed p in
    let main_words = head_parts ++ (sign 4 ∷ inner_parts f) in
    let later = object_parts ++ main_words in
    let x = switch_tree p in
    let trees = definition_trees q seed 0 f in
    let enough : 59 ≡ f + suc (suc (suc (56 - f))) = omega (arith, few seed) in
    let here = placed p 0 (words switch_parts) in
    let rest = placed q 0 (words (definitions_parts seed 0 f ++ later)) in
    let object = placed o 0 (words object_parts) in
    let main = placed m 0 (words main_words) in
    ap (in_unit 60 []) (cut p switch_parts (definitions_parts seed 0 f ++ later))
    ∙ (item_more (items 60) 59 [] x (here ++ rest) rest refl (switch_read p rest)
    ∙ (definitions_read seed 0 f q 59 (suc (suc (suc (56 - f)))) (x ∷ []) later enough
    ∙ (ap (in_unit (suc (suc (suc (56 - f)))) (x ∷ trees)) (cut o object_parts main_words)
    ∙ (item_more (items 60) (suc (suc (56 - f))) (x ∷ trees) (object_tree o) (object ++ main) main refl (object_read o main)
    ∙ (item_more (items 60) (suc (56 - f)) ((x ∷ trees) ++ object_tree o ∷ []) (main_item seed p) main [] refl (main_is m f (few seed))
    ∙ ap (λ (xs : List Item). Ends (Some xs) []) (append_assoc (x ∷ trees) (object_tree o ∷ []) (main_item seed p ∷ [])))))))

-- the unit of a generated text
abbrev pub unit_of : ℕ → tree.Unit
unit_of seed = record { items = items_of seed (unit_places seed); end = (unit_tokens seed).end }

pub unit_items : (seed : ℕ) → AreItems (unit_terminals seed) (items_of seed (unit_places seed))
unit_items seed =
    read_items 60 (unit_terminals seed) (items_of seed (unit_places seed)) [] (ap (unit 60) (unit_placed seed) ∙ unit_is seed (unit_places seed))

unfoldable pub unit_reads : (seed : ℕ) → ReadsAs (generated seed) (unit_of seed)
unit_reads seed = record { tokens = unit_tokens seed; lexed = unit_lexed seed; parsed = record { items = unit_items seed; end = refl } }
