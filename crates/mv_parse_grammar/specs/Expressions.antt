-- The grammar of expressions (C11 6.5), production by production.
use Rattle.std.specs.Prelude.{ℕ, zero, suc, Bool, true, false, Some, None, List, [], ◌∷◌, ◌++◌}
use Rattle.mv_syntax.specs.declared.place.Place.{Place}
use Rattle.mv_syntax.specs.declared.token.Piece.{Piece}
use Rattle.mv_syntax.specs.declared.token.Piece.TheVariants as piece
use Rattle.mv_syntax.specs.declared.unit.Node.{Node}
use Rattle.mv_syntax.specs.declared.unit.Specs.{Specs, roll-Specs, out-Specs}
use Rattle.mv_syntax.specs.declared.unit.EnumSpec.{EnumSpec, roll-EnumSpec}
use Rattle.mv_syntax.specs.declared.unit.Mark.{Mark}
use Rattle.mv_syntax.specs.declared.unit.What.{What}
use Rattle.mv_syntax.specs.declared.unit.What.TheVariants as w
use Rattle.mv_ast.specs.Marks as marks
use Rattle.mv_syntax.specs.Keywords as keywords
use Rattle.mv_num.specs.declared.kind.Kind.TheVariants.{Int}
use Rattle.mv_parse_grammar.specs.Terminals.{Terminal, mark, keyword, is_mark, is_keyword, is_name, is_number, is_rank, is_sign, is_step, is_type_word}
use Rattle.mv_parse_grammar.specs.Language.{give, token, ◌>>=◌, ◌or◌, marked, chain, comma_list}

-- the nonterminals that lead back to themselves
pub data Nonterminal : Type 0 where
  Assign : Nonterminal
  Cond : Nonterminal
  Cast : Nonterminal
  Unary : Nonterminal

-- the phrases of each of these
abbrev pub Expressions : Type 1
Expressions = Nonterminal → Node → List Terminal → Type 0

abbrev pub node_at : Place → What → Node
node_at p what = record { place = p; what = what }

-- a left operand under an operator, at the same place
abbrev pub joined : Place × Node → (Node → What) → Place × Node
joined left f = (left.0, node_at left.0 (f left.1))

abbrev pub piece_value : Piece → What
piece_value (piece.Number n k) = w.Number n k
piece_value piece.Name = w.Number 0 Int
piece_value (piece.Keyword n) = w.Number 0 Int
piece_value (piece.Chars cs) = w.Number 0 Int
piece_value (piece.Mark n) = w.Number 0 Int

abbrev pub name_node : Terminal → Node
name_node t = node_at t.place (w.Name t.spelling)

abbrev pub number_node : Terminal → Node
number_node t = node_at t.place (piece_value t.what)

-- the parts of specifiers
abbrev pub specs_of : Place → Bool → Bool → List ℕ → List EnumSpec → List Mark → Specs
specs_of p hidden fixed words tags marks = roll-Specs (record { place = p; hidden = hidden; fixed = fixed; words = words; tags = tags; marks = marks })

-- no specifiers
abbrev pub no_specs : Specs
no_specs = specs_of (record { line = 0; column = 0 }) false false [] [] []

abbrev pub specs_at : Place → Specs → Specs
specs_at p s = let f = out-Specs s in specs_of p f.hidden f.fixed f.words f.tags f.marks

abbrev pub with_const : Specs → Specs
with_const s = let f = out-Specs s in specs_of f.place f.hidden true f.words f.tags f.marks

abbrev pub with_word : Specs → ℕ → Specs
with_word s n = let f = out-Specs s in specs_of f.place f.hidden f.fixed (f.words ++ n ∷ []) f.tags f.marks

abbrev pub with_tag : Specs → EnumSpec → Specs
with_tag s e = let f = out-Specs s in specs_of f.place f.hidden f.fixed f.words (f.tags ++ e ∷ []) f.marks

-- an enum by its tag
abbrev pub tag_of : Terminal → EnumSpec
tag_of t = roll-EnumSpec (record { tag = Some t.spelling; members = None })

-- primary = NAME | NUMBER | CHARACTER | "(" assign ")"
abbrev pub primary : Expressions → Node → List Terminal → Type 0
primary S =
    (token is_name >>= λ t. give (name_node t))
    or ((token is_number >>= λ t. give (number_node t))
    or (token (is_mark marks.open_parenthesis) >>= λ _. S Assign >>= λ x. token (is_mark marks.close_parenthesis) >>= λ _. give x))

-- [assign ("," assign)*] ")"
abbrev pub arguments : Expressions → List Node → List Terminal → Type 0
arguments S =
    (token (is_mark marks.close_parenthesis) >>= λ _. give [])
    or (comma_list (S Assign) >>= λ xs. token (is_mark marks.close_parenthesis) >>= λ _. give xs)

-- "[" assign "]" | "(" arguments | "++" | "--"
abbrev pub suffix : Expressions → Place × Node → Place × Node → List Terminal → Type 0
suffix S left =
    (token (is_mark marks.open_bracket) >>= λ _. S Assign >>= λ i. token (is_mark marks.close_bracket) >>= λ _. give (joined left (λ x. w.Index x i)))
    or ((token (is_mark marks.open_parenthesis) >>= λ _. arguments S >>= λ xs. give (joined left (λ x. w.Call x xs)))
    or (token is_step >>= λ t. give (joined left (λ x. w.After (is_mark marks.increment t) x))))

-- postfix = primary suffix*
abbrev pub postfix : Expressions → Node → List Terminal → Type 0
postfix S = marked (primary S) >>= λ l. chain (suffix S) l >>= λ y. give y.1

-- unary = ("++" | "--") unary | ("+" | "-" | "~" | "!" | "&" | "*") cast | postfix
abbrev pub unary : Expressions → Node → List Terminal → Type 0
unary S =
    (token is_step >>= λ t. S Unary >>= λ x. give (node_at t.place (w.Before (is_mark marks.increment t) x)))
    or ((token is_sign >>= λ t. S Cast >>= λ x. give (node_at t.place (w.Unary (mark t) x)))
    or postfix S)

-- "const" | typeword | "enum" NAME
abbrev pub type_part : Specs → Specs → List Terminal → Type 0
type_part s =
    (token (is_keyword keywords.const) >>= λ _. give (with_const s))
    or ((token is_type_word >>= λ t. give (with_word s (keyword t)))
    or (token (is_keyword keywords.enum) >>= λ _. token is_name >>= λ t. give (with_tag s (tag_of t))))

-- one or more of these, at the place of the first
abbrev pub type_name : Specs → List Terminal → Type 0
type_name = marked (type_part no_specs) >>= λ m. chain type_part (specs_at m.0 m.1)

-- cast = "(" type_name ")" cast | unary
abbrev pub cast : Expressions → Node → List Terminal → Type 0
cast S =
    (token (is_mark marks.open_parenthesis) >>= λ t. type_name >>= λ s. token (is_mark marks.close_parenthesis) >>= λ _. S Cast >>= λ x. give (node_at t.place (w.Cast s x)))
    or unary S

-- an operator of this rank, and its right operand
abbrev pub operation : (Node → List Terminal → Type 0) → ℕ → Place × Node → Place × Node → List Terminal → Type 0
operation lower rank left = token (is_rank rank) >>= λ t. lower >>= λ right. give (joined left (λ x. w.Binary (mark t) x right))

-- The operators on two operands, by rank: each takes operands of the ranks below it, and groups to the left.
unfoldable pub level : Expressions → ℕ → Node → List Terminal → Type 0
level S zero = S Cast
level S (suc k) = marked (level S k) >>= λ l. chain (operation (level S k) (suc k)) l >>= λ y. give y.1

-- cond = binary ["?" assign ":" cond]
abbrev pub cond : Expressions → Node → List Terminal → Type 0
cond S = marked (level S 10) >>= λ l.
    ((token (is_mark marks.question) >>= λ _. S Assign >>= λ a. token (is_mark marks.colon) >>= λ _. S Cond >>= λ b. give (node_at l.0 (w.Choose l.1 a b)))
    or give l.1)

-- assign = cond [asop assign]
abbrev pub assign : Expressions → Node → List Terminal → Type 0
assign S = marked (S Cond) >>= λ l.
    ((token (is_rank 12) >>= λ t. S Assign >>= λ r. give (node_at l.0 (w.Assign (mark t) l.1 r)))
    or give l.1)

abbrev pub production : Expressions → Expressions
production S Assign = assign S
production S Cond = cond S
production S Cast = cast S
production S Unary = unary S

-- the phrases of at most n productions one inside the other
abbrev pub phrase : ℕ → Expressions
phrase zero r x ts = ⊥
phrase (suc n) r x ts = production (phrase n) r x ts
