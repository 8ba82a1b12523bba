-- What the reading of a translation unit takes, step by step.
use Rattle.std.specs.Prelude.{ℕ, true, Some, None, List, [], ◌∷◌}
use Rattle.mv_syntax.specs.declared.unit.Specs.{Specs}
use Rattle.mv_syntax.specs.declared.unit.Declarator.{Declarator}
use Rattle.mv_syntax.specs.declared.unit.Item.{Item}
use Rattle.mv_ast.specs.Marks as marks
use Rattle.mv_parse_grammar.specs.Terminals.{Terminal, is_mark}
use Rattle.mv_parse_grammar.specs.Reader.{Read, give, token, ◌>>=◌, choice, chain, pushed, comma_pushed}
use Rattle.mv_parse_grammar.specs.ExpressionReader.{Readers, read}
use Rattle.mv_parse_grammar.specs.DeclarationReader.{ParameterReader, specs, declarator, with_init, declared, params}
use Rattle.mv_parse_grammar.specs.StatementReader.{LineReader, block, locals, statements}
use Rattle.mv_parse_grammar.specs.Units.{item_of}

-- after the specifiers and the first declarator: a block, or the rest of the declared and ";"
abbrev pub after_declarator : ℕ → Readers → ParameterReader → LineReader → Specs → Declarator → List Terminal → Read Item
after_declarator n E P B s d =
    choice (is_mark marks.open_brace) (B >>= λ b. give (item_of s (d ∷ []) (Some b)))
    (with_init n E d >>= λ x. chain (is_mark marks.comma) (comma_pushed (declared n E P)) n (x ∷ []) >>= λ ds. token (is_mark marks.semicolon) >>= λ _. give (item_of s ds None))

abbrev pub item : ℕ → Readers → ParameterReader → LineReader → List Terminal → Read Item
item n E P B = specs n E >>= λ s.
    choice (is_mark marks.semicolon) (token (is_mark marks.semicolon) >>= λ _. give (item_of s [] None))
    (declarator n E P >>= λ d. after_declarator n E P B s d)

-- with at most n steps one inside the other
abbrev pub items : ℕ → List Terminal → Read Item
items n = item n (read n) (params n) (block n (locals n) (statements n))

-- items up to the end
abbrev pub unit : ℕ → List Terminal → Read (List Item)
unit n = chain (λ _. true) (pushed (items n)) n []
