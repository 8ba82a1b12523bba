-- The tokens of generated texts are nested little.
use Rattle.std.proofs.Common.{◌≡◌, ℕ, zero, suc, ◌≤◌, Bool, true, false, List, [], ◌∷◌, ◌++◌, refl, ap, subst, ◌∙◌, append_assoc, arith}
use Rattle.std.specs.Prelude.{◌&&◌, nat_le, All}
use Rattle.std.proofs.lemmas.Bool.{and_parts, leb-true}
use Rattle.mv_syntax.specs.declared.token.Piece.{Piece}
use Rattle.mv_syntax.specs.declared.token.Token.{Token}
use Rattle.mv_parse_grammar.specs.Terminals.{terminals}
use Rattle.mv_parse_nesting.specs.Nesting.{Pairs, start, level_of, after_piece, continues, goes_on, levels_from}
use Rattle.mv_parser.specs.Verdict.{IsShallow}
use Rattle.mv_gen.specs.Generated.{drawn, functions, form_of, switch_of, constant_of, generated}
use Rattle.mv_gen_programs.proofs.Parts.{Part, Word, words}
use Rattle.mv_gen_programs.proofs.Scanned.{words_in}
use Rattle.mv_gen_programs.proofs.Lines.{switch_parts, definition_parts, drawn_parts, definitions_parts, before_parts, call_parts, calls_parts, after_parts, unit_parts}
use Rattle.mv_gen_programs.proofs.Lexed.{unit_tokens, unit_words}

abbrev pieces : List Word → List Piece
pieces [] = []
pieces (w ∷ ws) = w.0 ∷ pieces ws

abbrev whats : List Token → List Piece
whats [] = []
whats (t ∷ ts) = t.what ∷ whats ts

abbrev continued : List Piece → Bool
continued [] = false
continued (x ∷ xs) = continues x

-- whether no level is above 255, behind what gave these pairs
abbrev shallow : Pairs → List Piece → Bool
shallow s [] = true
shallow s (x ∷ xs) = nat_le (level_of (after_piece x (continued xs) s)) 255 && shallow (after_piece x (continued xs) s) xs

continued_same : (ts : List Token) → continued (whats ts) ≡ goes_on ts
continued_same [] = refl
continued_same (t ∷ ts) = refl

all_more : (x : ℕ) (xs : List ℕ) → x ≤ 255 → All (λ level. level ≤ 255) xs → All (λ level. level ≤ 255) (x ∷ xs)
all_more x xs h hs zero d lt = h
all_more x xs h hs (suc k) d lt = hs k d (omega arith)

all_shallow : (s : Pairs) (ts : List Token) → shallow s (whats ts) ≡ true → All (λ level. level ≤ 255) (levels_from s ts)
all_shallow s [] h = λ k d lt. absurd (omega arith)
all_shallow s (t ∷ ts) h =
    let h' = subst (λ (b : Bool). (nat_le (level_of (after_piece t.what b s)) 255 && shallow (after_piece t.what b s) (whats ts)) ≡ true) (continued_same ts) h in
    let next = after_piece t.what (goes_on ts) s in
    let parts = and_parts (nat_le (level_of next) 255) (shallow next (whats ts)) h' in
    all_more (level_of next) (levels_from next ts) (leb-true (level_of next) 255 parts.0) (all_shallow next ts parts.1)

whats_words : (text : List ℕ) (ts : List Token) → whats ts ≡ pieces (words_in (terminals text ts))
whats_words text [] = refl
whats_words text (t ∷ ts) = ap (λ (xs : List Piece). t.what ∷ xs) (whats_words text ts)

-- ---- line by line

abbrev pieces_of : List Part → List Piece
pieces_of xs = pieces (words xs)

-- inside the loop of `main`
abbrev in_loop : Pairs
in_loop = record { top = record { opened = 0; elses = 0 }; below = record { opened = 3; elses = 0 } ∷ record { opened = 2; elses = 0 } ∷ [] }

definition_level : (i f j c : ℕ) (ys : List Part) → continued (pieces_of ys) ≡ false → shallow start (pieces_of (definition_parts i f j c ++ ys)) ≡ shallow start (pieces_of ys)
definition_level i zero j c ys e = rw e refl
definition_level i (suc zero) j c ys e = rw e refl
definition_level i (suc (suc zero)) j c ys e = rw e refl
definition_level i (suc (suc (suc f))) j c ys e = rw e refl

call_level : (i : ℕ) (ys : List Part) → continued (pieces_of ys) ≡ false → shallow in_loop (pieces_of (call_parts i ++ ys)) ≡ shallow in_loop (pieces_of ys)
call_level i ys e = rw e refl

switch_level : (ys : List Part) → continued (pieces_of ys) ≡ false → shallow start (pieces_of (switch_parts ++ ys)) ≡ shallow start (pieces_of ys)
switch_level ys e = rw e refl

before_level : (ys : List Part) → continued (pieces_of ys) ≡ false → shallow start (pieces_of (before_parts ++ ys)) ≡ shallow in_loop (pieces_of ys)
before_level ys e = rw e refl

after_level : shallow in_loop (pieces_of after_parts) ≡ true
after_level = refl

-- ---- all together

calls_stop : (i count : ℕ) → continued (pieces_of (calls_parts i count ++ after_parts)) ≡ false
unfolding calls_parts
calls_stop i zero = refl
calls_stop i (suc count) = refl

calls_level : (i count : ℕ) → shallow in_loop (pieces_of (calls_parts i count ++ after_parts)) ≡ true
unfolding calls_parts
calls_level i zero = after_level
calls_level i (suc count) =
    ap (λ (xs : List Part). shallow in_loop (pieces_of xs)) (append_assoc (call_parts i) (calls_parts (suc i) count) after_parts)
    ∙ (call_level i (calls_parts (suc i) count ++ after_parts) (calls_stop (suc i) count) ∙ calls_level (suc i) count)

abbrev later : ℕ → List Part
later count = before_parts ++ (calls_parts 0 count ++ after_parts)

definitions_stop : (seed i count all : ℕ) → continued (pieces_of (definitions_parts seed i count ++ later all)) ≡ false
unfolding definitions_parts
definitions_stop seed i zero all = refl
definitions_stop seed i (suc count) all = refl

definitions_level : (seed i count all : ℕ) → shallow start (pieces_of (definitions_parts seed i count ++ later all)) ≡ true
unfolding definitions_parts
definitions_level seed i zero all = before_level (calls_parts 0 all ++ after_parts) (calls_stop 0 all) ∙ calls_level 0 all
definitions_level seed i (suc count) all =
    let x = drawn seed (suc i) in
    let rest = definitions_parts seed (suc i) count ++ later all in
    ap (λ (xs : List Part). shallow start (pieces_of xs)) (append_assoc (drawn_parts i x) (definitions_parts seed (suc i) count) (later all))
    ∙ (definition_level i (form_of x) (switch_of x) (constant_of x) rest (definitions_stop seed (suc i) count all) ∙ definitions_level seed (suc i) count all)

unit_level : (seed : ℕ) → shallow start (pieces_of (unit_parts seed)) ≡ true
unit_level seed =
    switch_level (definitions_parts seed 0 (functions seed) ++ later (functions seed)) (definitions_stop seed 0 (functions seed) (functions seed))
    ∙ definitions_level seed 0 (functions seed) (functions seed)

pub unit_shallow : (seed : ℕ) → IsShallow (unit_tokens seed)
unit_shallow seed =
    all_shallow start (unit_tokens seed).items
    (ap (shallow start) (whats_words (generated seed) (unit_tokens seed).items ∙ ap pieces (unit_words seed)) ∙ unit_level seed)
