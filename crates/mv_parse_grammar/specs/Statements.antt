-- The grammar of statements and local declarations (C11 6.8), production by production.
use Rattle.std.specs.Prelude.{◌≡◌, ℕ, zero, suc, Bool, true, false, Option, Some, None, List, []}
use Rattle.mv_syntax.specs.declared.place.Place.{Place}
use Rattle.mv_syntax.specs.declared.unit.Node.{Node}
use Rattle.mv_syntax.specs.declared.unit.Line.{Line, Line-F, fold-Line}
use Rattle.mv_syntax.specs.declared.unit.Act.{Act, Act-F}
use Rattle.mv_syntax.specs.declared.unit.Act.TheOpen as o
use Rattle.mv_syntax.specs.declared.unit.Act.TheVariants as a
use Rattle.mv_ast.specs.Marks as marks
use Rattle.mv_syntax.specs.Keywords as keywords
use Rattle.mv_parse_grammar.specs.Terminals.{Terminal, is_mark, is_keyword}
use Rattle.mv_parse_grammar.specs.Language.{give, token, ◌>>=◌, ◌or◌, marked, chain, when, pushed, comma_list}
use Rattle.mv_parse_grammar.specs.Expressions.{Expressions, Assign, Cond, phrase}
use Rattle.mv_parse_grammar.specs.Declarations.{Parameters, specs, declared, params, place_of_specs}

-- Whether a statement ends in an `if` without `else`, so that an `else` behind it belongs to that `if`.
abbrev pub act_open : Act-F Bool Bool → Bool
act_open (o.If c x None) = true
act_open (o.If c x (Some y)) = y
act_open (o.While c x) = x
act_open (o.For first test step x) = x
act_open (o.Switch c x) = x
act_open (o.Do x c) = false
act_open (o.Block ls) = false
act_open (o.Declare s ds) = false
act_open (o.Express e) = false
act_open (o.Case e) = false
act_open o.Default = false
act_open o.Break = false
act_open o.Continue = false
act_open (o.Return e) = false

abbrev pub line_open : Line-F Bool Bool → Bool
line_open l = l.what

unfoldable pub is_open : Line → Bool
is_open = fold-Line Bool Bool act_open line_open

abbrev pub line_at : Place → Act → Line
line_at p what = record { place = p; what = what }

abbrev pub Lines : Type 1
Lines = Line → List Terminal → Type 0

-- local = specs declared ("," declared)* ";"
abbrev pub local : Expressions → Parameters → Line → List Terminal → Type 0
local E P = specs E >>= λ s. comma_list (declared E P) >>= λ ds. token (is_mark marks.semicolon) >>= λ _. give (line_at (place_of_specs s) (a.Declare s ds))

-- block = "{" (statement | local)* "}"
abbrev pub block : Lines → Lines → Line → List Terminal → Type 0
block D T = token (is_mark marks.open_brace) >>= λ t. chain (pushed (D or T)) [] >>= λ ls. token (is_mark marks.close_brace) >>= λ _. give (line_at t.place (a.Block ls))

-- "(" assign ")"
abbrev pub condition : Expressions → Node → List Terminal → Type 0
condition E = token (is_mark marks.open_parenthesis) >>= λ _. E Assign >>= λ x. token (is_mark marks.close_parenthesis) >>= λ _. give x

-- [assign], and the mark after it
abbrev pub value : ℕ → Expressions → Option Node → List Terminal → Type 0
value n E = (token (is_mark n) >>= λ _. give None) or (E Assign >>= λ x. token (is_mark n) >>= λ _. give (Some x))

-- an expression statement, and no line where there is no expression
abbrev pub express : Place → Option Node → Option Line
express p None = None
express p (Some x) = Some (line_at p (a.Express (Some x)))

-- "if" "(" assign ")" statement ["else" statement], where an `else` belongs to the nearest `if`
abbrev pub if_else : Expressions → Lines → Line → List Terminal → Type 0
if_else E T = token (is_keyword keywords.if) >>= λ t. condition E >>= λ c. T >>= λ x.
    (when (is_open x ≡ false) (token (is_keyword keywords.else) >>= λ _. T >>= λ y. give (line_at t.place (a.If c x (Some y))))
    or give (line_at t.place (a.If c x None)))

-- "while" "(" assign ")" statement
abbrev pub while : Expressions → Lines → Line → List Terminal → Type 0
while E T = token (is_keyword keywords.while) >>= λ t. condition E >>= λ c. T >>= λ x. give (line_at t.place (a.While c x))

-- "do" statement "while" "(" assign ")" ";"
abbrev pub do_while : Expressions → Lines → Line → List Terminal → Type 0
do_while E T = token (is_keyword keywords.do) >>= λ t. T >>= λ x. token (is_keyword keywords.while) >>= λ _. condition E >>= λ c. token (is_mark marks.semicolon) >>= λ _. give (line_at t.place (a.Do x c))

-- local | [assign] ";"
abbrev pub first_clause : Expressions → Lines → Option Line → List Terminal → Type 0
first_clause E D = (D >>= λ l. give (Some l)) or (marked (value marks.semicolon E) >>= λ m. give (express m.0 m.1))

-- "for" "(" (local | [assign] ";") [assign] ";" [assign] ")" statement
abbrev pub for : Expressions → Lines → Lines → Line → List Terminal → Type 0
for E D T = token (is_keyword keywords.for) >>= λ t. token (is_mark marks.open_parenthesis) >>= λ _. first_clause E D >>= λ first. value marks.semicolon E >>= λ test. value marks.close_parenthesis E >>= λ step. T >>= λ x.
    give (line_at t.place (a.For first test step x))

-- "switch" "(" assign ")" statement
abbrev pub switch : Expressions → Lines → Line → List Terminal → Type 0
switch E T = token (is_keyword keywords.switch) >>= λ t. condition E >>= λ c. T >>= λ x. give (line_at t.place (a.Switch c x))

-- "case" cond ":"
abbrev pub case : Expressions → Line → List Terminal → Type 0
case E = token (is_keyword keywords.case) >>= λ t. E Cond >>= λ x. token (is_mark marks.colon) >>= λ _. give (line_at t.place (a.Case x))

-- a keyword, and a mark after it
abbrev pub word : ℕ → ℕ → Act → Line → List Terminal → Type 0
word n m what = token (is_keyword n) >>= λ t. token (is_mark m) >>= λ _. give (line_at t.place what)

-- "return" [assign] ";"
abbrev pub return : Expressions → Line → List Terminal → Type 0
return E = token (is_keyword keywords.return) >>= λ t. value marks.semicolon E >>= λ x. give (line_at t.place (a.Return x))

-- [assign] ";"
abbrev pub simple : Expressions → Line → List Terminal → Type 0
simple E = marked (value marks.semicolon E) >>= λ m. give (line_at m.0 (a.Express m.1))

abbrev pub statement : Expressions → Lines → Lines → Line → List Terminal → Type 0
statement E D T =
    block D T
    or (if_else E T
    or (while E T
    or (do_while E T
    or (for E D T
    or (switch E T
    or (case E
    or (word keywords.default marks.colon a.Default
    or (word keywords.break marks.semicolon a.Break
    or (word keywords.continue marks.semicolon a.Continue
    or (return E
    or simple E))))))))))

-- the local declarations and the statements with at most n productions one inside the other

abbrev pub locals : ℕ → Lines
locals n = local (phrase n) (params n)

abbrev pub statements : ℕ → Lines
statements zero l ts = ⊥
statements (suc n) l ts = statement (phrase n) (locals n) (statements n) l ts
