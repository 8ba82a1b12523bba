-- What the reading of statements and local declarations takes, step by step.
use Rattle.std.specs.Prelude.{ℕ, zero, suc, Option, Some, None, List, []}
use Rattle.mv_syntax.specs.declared.place.Place.{Place}
use Rattle.mv_syntax.specs.declared.unit.Node.{Node}
use Rattle.mv_syntax.specs.declared.unit.Line.{Line}
use Rattle.mv_syntax.specs.declared.unit.Act.{Act}
use Rattle.mv_syntax.specs.declared.unit.Act.TheVariants as a
use Rattle.mv_ast.specs.Marks as marks
use Rattle.mv_syntax.specs.Keywords as keywords
use Rattle.mv_parse_grammar.specs.Terminals.{Terminal, is_mark, is_keyword, is_specifier, is_no_end}
use Rattle.mv_parse_grammar.specs.Reader.{Read, Deep, give, token, ◌>>=◌, choice, marked, chain, pushed, comma_list}
use Rattle.mv_parse_grammar.specs.Expressions.{Assign, Cond}
use Rattle.mv_parse_grammar.specs.ExpressionReader.{Readers, read}
use Rattle.mv_parse_grammar.specs.Declarations.{place_of_specs}
use Rattle.mv_parse_grammar.specs.DeclarationReader.{ParameterReader, specs, declared, params}
use Rattle.mv_parse_grammar.specs.Statements.{line_at, express}

abbrev pub LineReader : Type 0
LineReader = List Terminal → Read Line

abbrev pub local : ℕ → Readers → ParameterReader → LineReader
local n E P = specs n E >>= λ s. comma_list n (declared n E P) >>= λ ds. token (is_mark marks.semicolon) >>= λ _. give (line_at (place_of_specs s) (a.Declare s ds))

abbrev pub condition : Readers → List Terminal → Read Node
condition E = token (is_mark marks.open_parenthesis) >>= λ _. E Assign >>= λ x. token (is_mark marks.close_parenthesis) >>= λ _. give x

abbrev pub value : ℕ → Readers → List Terminal → Read (Option Node)
value n E = choice (is_mark n) (token (is_mark n) >>= λ _. give None) (E Assign >>= λ x. token (is_mark n) >>= λ _. give (Some x))

abbrev pub first_clause : Readers → LineReader → List Terminal → Read (Option Line)
first_clause E D = choice is_specifier (D >>= λ l. give (Some l)) (marked (value marks.semicolon E) >>= λ m. give (express m.0 m.1))

-- a statement or a local declaration in a block
abbrev pub block_item : LineReader → LineReader → LineReader
block_item D T = choice is_specifier D T

-- what follows the first terminal of each form, for a statement at this place

abbrev pub block_rest : ℕ → LineReader → LineReader → Place → LineReader
block_rest n D T place = chain is_no_end (pushed (block_item D T)) n [] >>= λ ls. token (is_mark marks.close_brace) >>= λ _. give (line_at place (a.Block ls))

abbrev pub if_rest : Readers → LineReader → Place → LineReader
if_rest E T place = condition E >>= λ c. T >>= λ x.
    choice (is_keyword keywords.else) (token (is_keyword keywords.else) >>= λ _. T >>= λ y. give (line_at place (a.If c x (Some y))))
    (give (line_at place (a.If c x None)))

abbrev pub while_rest : Readers → LineReader → Place → LineReader
while_rest E T place = condition E >>= λ c. T >>= λ x. give (line_at place (a.While c x))

abbrev pub do_rest : Readers → LineReader → Place → LineReader
do_rest E T place = T >>= λ x. token (is_keyword keywords.while) >>= λ _. condition E >>= λ c. token (is_mark marks.semicolon) >>= λ _. give (line_at place (a.Do x c))

abbrev pub for_rest : Readers → LineReader → LineReader → Place → LineReader
for_rest E D T place = token (is_mark marks.open_parenthesis) >>= λ _. first_clause E D >>= λ first. value marks.semicolon E >>= λ test. value marks.close_parenthesis E >>= λ step. T >>= λ x.
    give (line_at place (a.For first test step x))

abbrev pub switch_rest : Readers → LineReader → Place → LineReader
switch_rest E T place = condition E >>= λ c. T >>= λ x. give (line_at place (a.Switch c x))

abbrev pub case_rest : Readers → Place → LineReader
case_rest E place = E Cond >>= λ x. token (is_mark marks.colon) >>= λ _. give (line_at place (a.Case x))

abbrev pub word_rest : ℕ → Act → Place → LineReader
word_rest m what place = token (is_mark m) >>= λ _. give (line_at place what)

abbrev pub return_rest : Readers → Place → LineReader
return_rest E place = value marks.semicolon E >>= λ x. give (line_at place (a.Return x))

-- the forms

abbrev pub block : ℕ → LineReader → LineReader → LineReader
block n D T = token (is_mark marks.open_brace) >>= λ t. block_rest n D T t.place

abbrev pub if_else : Readers → LineReader → LineReader
if_else E T = token (is_keyword keywords.if) >>= λ t. if_rest E T t.place

abbrev pub while : Readers → LineReader → LineReader
while E T = token (is_keyword keywords.while) >>= λ t. while_rest E T t.place

abbrev pub do_while : Readers → LineReader → LineReader
do_while E T = token (is_keyword keywords.do) >>= λ t. do_rest E T t.place

abbrev pub for : Readers → LineReader → LineReader → LineReader
for E D T = token (is_keyword keywords.for) >>= λ t. for_rest E D T t.place

abbrev pub switch : Readers → LineReader → LineReader
switch E T = token (is_keyword keywords.switch) >>= λ t. switch_rest E T t.place

abbrev pub case : Readers → LineReader
case E = token (is_keyword keywords.case) >>= λ t. case_rest E t.place

abbrev pub word : ℕ → ℕ → Act → LineReader
word n m what = token (is_keyword n) >>= λ t. word_rest m what t.place

abbrev pub return : Readers → LineReader
return E = token (is_keyword keywords.return) >>= λ t. return_rest E t.place

abbrev pub simple : Readers → LineReader
simple E = marked (value marks.semicolon E) >>= λ m. give (line_at m.0 (a.Express m.1))

abbrev pub statement : ℕ → Readers → LineReader → LineReader → LineReader
statement n E D T =
    choice (is_mark marks.open_brace) (block n D T)
    (choice (is_keyword keywords.if) (if_else E T)
    (choice (is_keyword keywords.while) (while E T)
    (choice (is_keyword keywords.do) (do_while E T)
    (choice (is_keyword keywords.for) (for E D T)
    (choice (is_keyword keywords.switch) (switch E T)
    (choice (is_keyword keywords.case) (case E)
    (choice (is_keyword keywords.default) (word keywords.default marks.colon a.Default)
    (choice (is_keyword keywords.break) (word keywords.break marks.semicolon a.Break)
    (choice (is_keyword keywords.continue) (word keywords.continue marks.semicolon a.Continue)
    (choice (is_keyword keywords.return) (return E)
    (simple E)))))))))))

-- the local declarations and the statements with at most n steps one inside the other

abbrev pub locals : ℕ → LineReader
locals n = local n (read n) (params n)

abbrev pub statements : ℕ → LineReader
statements zero ts = Deep
statements (suc n) ts = statement n (read n) (locals n) (statements n) ts
