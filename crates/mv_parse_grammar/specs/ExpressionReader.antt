-- What the reading of expressions takes, step by step.
use Rattle.std.specs.Prelude.{ℕ, zero, suc, List, []}
use Rattle.mv_syntax.specs.declared.place.Place.{Place}
use Rattle.mv_syntax.specs.declared.unit.Node.{Node}
use Rattle.mv_syntax.specs.declared.unit.Specs.{Specs}
use Rattle.mv_syntax.specs.declared.unit.What.TheVariants as w
use Rattle.mv_ast.specs.Marks as marks
use Rattle.mv_syntax.specs.Keywords as keywords
use Rattle.mv_parse_grammar.specs.Terminals.{Terminal, mark, keyword, is_mark, is_keyword, is_name, is_number, is_rank, is_sign, is_step, is_type_word, is_type_part}
use Rattle.mv_parse_grammar.specs.Reader.{Read, Deep, give, token, ◌>>=◌, choice, choice_two, marked, chain, comma_list}
use Rattle.mv_parse_grammar.specs.Expressions.{Nonterminal, Assign, Cond, Cast, Unary, node_at, joined, name_node, number_node, no_specs, specs_at, with_const, with_word, with_tag, tag_of}

abbrev pub Readers : Type 0
Readers = Nonterminal → List Terminal → Read Node

abbrev pub primary : Readers → List Terminal → Read Node
primary S =
    choice is_name (token is_name >>= λ t. give (name_node t))
    (choice is_number (token is_number >>= λ t. give (number_node t))
    (token (is_mark marks.open_parenthesis) >>= λ _. S Assign >>= λ x. token (is_mark marks.close_parenthesis) >>= λ _. give x))

abbrev pub arguments : ℕ → Readers → List Terminal → Read (List Node)
arguments n S =
    choice (is_mark marks.close_parenthesis) (token (is_mark marks.close_parenthesis) >>= λ _. give [])
    (comma_list n (S Assign) >>= λ xs. token (is_mark marks.close_parenthesis) >>= λ _. give xs)

abbrev pub suffix : ℕ → Readers → Place × Node → List Terminal → Read (Place × Node)
suffix n S left =
    choice (is_mark marks.open_bracket) (token (is_mark marks.open_bracket) >>= λ _. S Assign >>= λ i. token (is_mark marks.close_bracket) >>= λ _. give (joined left (λ x. w.Index x i)))
    (choice (is_mark marks.open_parenthesis) (token (is_mark marks.open_parenthesis) >>= λ _. arguments n S >>= λ xs. give (joined left (λ x. w.Call x xs)))
    (token is_step >>= λ t. give (joined left (λ x. w.After (is_mark marks.increment t) x))))

abbrev pub postfix : ℕ → Readers → List Terminal → Read Node
postfix n S = marked (primary S) >>= λ l. chain (is_rank 0) (suffix n S) n l >>= λ y. give y.1

abbrev pub unary : ℕ → Readers → List Terminal → Read Node
unary n S =
    choice is_step (token is_step >>= λ t. S Unary >>= λ x. give (node_at t.place (w.Before (is_mark marks.increment t) x)))
    (choice is_sign (token is_sign >>= λ t. S Cast >>= λ x. give (node_at t.place (w.Unary (mark t) x)))
    (postfix n S))

abbrev pub type_part : Specs → List Terminal → Read Specs
type_part s =
    choice (is_keyword keywords.const) (token (is_keyword keywords.const) >>= λ _. give (with_const s))
    (choice is_type_word (token is_type_word >>= λ t. give (with_word s (keyword t)))
    (token (is_keyword keywords.enum) >>= λ _. token is_name >>= λ t. give (with_tag s (tag_of t))))

abbrev pub type_name : ℕ → List Terminal → Read Specs
type_name n = marked (type_part no_specs) >>= λ m. chain is_type_part type_part n (specs_at m.0 m.1)

-- a type name in parentheses, and its operand
abbrev pub typed : ℕ → Readers → List Terminal → Read Node
typed n S = token (is_mark marks.open_parenthesis) >>= λ t. type_name n >>= λ s. token (is_mark marks.close_parenthesis) >>= λ _. S Cast >>= λ x. give (node_at t.place (w.Cast s x))

abbrev pub cast : ℕ → Readers → List Terminal → Read Node
cast n S = choice_two (is_mark marks.open_parenthesis) is_type_part (typed n S) (unary n S)

-- an operator of this rank, and its right operand
abbrev pub operation : (List Terminal → Read Node) → ℕ → Place × Node → List Terminal → Read (Place × Node)
operation lower rank left = token (is_rank rank) >>= λ t. lower >>= λ right. give (joined left (λ x. w.Binary (mark t) x right))

unfoldable pub level : ℕ → Readers → ℕ → List Terminal → Read Node
level n S zero = S Cast
level n S (suc k) = marked (level n S k) >>= λ l. chain (is_rank (suc k)) (operation (level n S k) (suc k)) n l >>= λ y. give y.1

abbrev pub cond : ℕ → Readers → List Terminal → Read Node
cond n S = marked (level n S 10) >>= λ l.
    choice (is_mark marks.question) (token (is_mark marks.question) >>= λ _. S Assign >>= λ a. token (is_mark marks.colon) >>= λ _. S Cond >>= λ b. give (node_at l.0 (w.Choose l.1 a b)))
    (give l.1)

abbrev pub assign : Readers → List Terminal → Read Node
assign S = marked (S Cond) >>= λ l.
    choice (is_rank 12) (token (is_rank 12) >>= λ t. S Assign >>= λ r. give (node_at l.0 (w.Assign (mark t) l.1 r)))
    (give l.1)

abbrev pub step : ℕ → Readers → Readers
step n S Assign = assign S
step n S Cond = cond n S
step n S Cast = cast n S
step n S Unary = unary n S

-- the reading with at most n steps one inside the other, and as many turns of each loop
abbrev pub read : ℕ → Readers
read zero r ts = Deep
read (suc n) r ts = step n (read n) r ts
