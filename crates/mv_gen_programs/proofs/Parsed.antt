-- How the lines of generated texts are read.
use Rattle.std.proofs.Common.{◌≡◌, ℕ, zero, suc, true, false, List, [], ◌∷◌, ◌++◌, Some, refl}
use Rattle.std.specs.Prelude.{codes}
use Rattle.mv_syntax.specs.declared.token.Piece.TheVariants as piece
use Rattle.mv_syntax.specs.declared.unit.Item.{Item}
use Rattle.mv_syntax.specs.declared.unit.Line.{Line}
use Rattle.mv_syntax.specs.declared.unit.Act.TheVariants as a
use Rattle.mv_syntax.specs.declared.unit.Specs.{out-roll-Specs}
use Rattle.mv_parse_grammar.specs.Terminals.{Terminal, is_keyword, is_specifier, is_no_end}
use Rattle.mv_parse_grammar.specs.Reader.{Read, Ends, next, chain, pushed}
use Rattle.mv_parse_grammar.specs.Declarations.{place_of_specs, is_void, is_plain}
use Rattle.mv_syntax.specs.declared.place.Place.{Place}
use Rattle.mv_syntax.specs.declared.unit.Shape.TheVariants as shape
use Rattle.mv_parse_grammar.specs.Statements.{line_at}
use Rattle.mv_parse_grammar.specs.StatementReader.{LineReader, block_item, block, statement, locals, statements}
use Rattle.mv_parse_grammar.specs.UnitReader.{item, items}
use Rattle.mv_parse_grammar.specs.ExpressionReader.{level, read}
use Rattle.mv_parse_grammar.specs.DeclarationReader.{params}
use Rattle.mv_gen_programs.proofs.Parts.{sign, words}
use Rattle.mv_gen_programs.proofs.Scanned.{placed}
use Rattle.mv_gen_programs.proofs.Lines.{switch_parts, definition_parts, object_parts, head_parts, local_parts, loop_parts, commit_parts, call_parts, output_parts, feed_parts, return_parts}
use Rattle.mv_gen_programs.proofs.Trees.{Places, definition_tree, switch_tree, object_tree, local_tree, loop_tree, if_tree, call_tree, output_tree, feed_tree, return_tree, main_tree}

-- ---- items

pub definition_read : (p : Places) (i f j c : ℕ) (rest : List Terminal) →
    items 60 (placed p 0 (words (definition_parts i f j c)) ++ rest) ≡ Ends (Some (definition_tree p i f j c)) rest
unfolding level
definition_read p i zero j c rest = simp out-roll-Specs
definition_read p i (suc zero) j c rest = simp out-roll-Specs
definition_read p i (suc (suc zero)) j c rest = simp out-roll-Specs
definition_read p i (suc (suc (suc f))) j c rest = simp out-roll-Specs

pub switch_read : (p : Places) (rest : List Terminal) → items 60 (placed p 0 (words switch_parts) ++ rest) ≡ Ends (Some (switch_tree p)) rest
unfolding level
switch_read p rest = simp out-roll-Specs

pub object_read : (p : Places) (rest : List Terminal) → items 60 (placed p 0 (words object_parts) ++ rest) ≡ Ends (Some (object_tree p)) rest
unfolding level
object_read p rest = simp out-roll-Specs

-- `main`, whatever reads its block
pub main_read : (p : Places) (B : LineReader) (ts rest : List Terminal) (body : Line) → B (placed p 5 (words (sign 4 ∷ [])) ++ ts) ≡ Ends (Some body) rest →
    item 60 (read 60) (params 60) B (placed p 0 (words (head_parts ++ sign 4 ∷ [])) ++ ts) ≡ Ends (Some (main_tree p body)) rest
unfolding level
main_read p B ts rest body h = rw h (simp (out-roll-Specs, shape.outs-Plain, place_of_specs, is_void, is_plain))

-- ---- lines of a block

pub local_read : (p : Places) (rest : List Terminal) → locals 60 (placed p 0 (words local_parts) ++ rest) ≡ Ends (Some (local_tree p)) rest
unfolding level
local_read p rest = simp (out-roll-Specs, place_of_specs)

pub if_read : (p : Places) (rest : List Terminal) → next (is_keyword 8) rest ≡ false → statements 58 (placed p 0 (words commit_parts) ++ rest) ≡ Ends (Some (if_tree p)) rest
unfolding level
if_read p rest e = rw e refl

pub call_read : (p : Places) (i : ℕ) (rest : List Terminal) → statements 58 (placed p 0 (words (call_parts i)) ++ rest) ≡ Ends (Some (call_tree p i)) rest
unfolding level
call_read p i rest = refl

pub output_read : (p : Places) (rest : List Terminal) → statements 60 (placed p 0 (words output_parts) ++ rest) ≡ Ends (Some (output_tree p)) rest
unfolding level
output_read p rest = refl

pub feed_read : (p : Places) (rest : List Terminal) → statements 60 (placed p 0 (words feed_parts) ++ rest) ≡ Ends (Some (feed_tree p)) rest
unfolding level
feed_read p rest = refl

pub return_read : (p : Places) (rest : List Terminal) → statements 60 (placed p 0 (words return_parts) ++ rest) ≡ Ends (Some (return_tree p)) rest
unfolding level
return_read p rest = refl

-- ---- from lines to blocks

-- one more line
pub line_more : (D T : LineReader) (n : ℕ) (ls : List Line) (l : Line) (ts rest : List Terminal) → next is_no_end ts ≡ true → block_item D T ts ≡ Ends (Some l) rest →
    chain is_no_end (pushed (block_item D T)) (suc n) ls ts ≡ chain is_no_end (pushed (block_item D T)) n (ls ++ l ∷ []) rest
line_more D T n ls l ts rest goes h = rw (goes, h) refl

-- a statement as a line
pub statement_line : (D T : LineReader) (l : Line) (ts rest : List Terminal) → next is_specifier ts ≡ false → T ts ≡ Ends (Some l) rest → block_item D T ts ≡ Ends (Some l) rest
statement_line D T l ts rest e h = rw (e, h) refl

pub local_line : (D T : LineReader) (l : Line) (ts rest : List Terminal) → next is_specifier ts ≡ true → D ts ≡ Ends (Some l) rest → block_item D T ts ≡ Ends (Some l) rest
local_line D T l ts rest e h = rw (e, h) refl

-- the loop, whatever reads its block
pub loop_read : (p : Places) (T : LineReader) (ts rest : List Terminal) (lines : List Line) → T ts ≡ Ends (Some (line_at (p 13) (a.Block lines))) rest →
    statement 59 (read 59) (locals 59) T (placed p 0 (words loop_parts) ++ ts) ≡ Ends (Some (loop_tree p lines)) rest
unfolding level
loop_read p T ts rest lines h = rw h refl

-- what a block's brace begins
abbrev pub opening : Place → Terminal
opening at = record { place = at; what = piece.Mark 4; spelling = codes "{" }

abbrev pub closing : Place → Terminal
closing at = record { place = at; what = piece.Mark 5; spelling = codes "}" }

pub block_read : (D T : LineReader) (n : ℕ) (at to : Place) (ls : List Line) (ts rest : List Terminal) →
    chain is_no_end (pushed (block_item D T)) n [] ts ≡ Ends (Some ls) (closing to ∷ rest) → block n D T (opening at ∷ ts) ≡ Ends (Some (line_at at (a.Block ls))) rest
block_read D T n at to ls ts rest h = rw h refl

pub block_statement : (at : Place) (ts : List Terminal) → statements 59 (opening at ∷ ts) ≡ block 58 (locals 58) (statements 58) (opening at ∷ ts)
unfolding level
block_statement at ts = refl

pub lines_end : (D T : LineReader) (n : ℕ) (at : Place) (ls : List Line) (rest : List Terminal) →
    chain is_no_end (pushed (block_item D T)) (suc n) ls (closing at ∷ rest) ≡ Ends (Some ls) (closing at ∷ rest)
lines_end D T n at ls rest = refl

-- one more item
pub item_more : (P : List Terminal → Read Item) (n : ℕ) (xs : List Item) (x : Item) (ts rest : List Terminal) → next (λ _. true) ts ≡ true → P ts ≡ Ends (Some x) rest →
    chain (λ _. true) (pushed P) (suc n) xs ts ≡ chain (λ _. true) (pushed P) n (xs ++ x ∷ []) rest
item_more P n xs x ts rest goes h = rw (goes, h) refl
