-- The grammar of a translation unit (C11 6.9), and what it is for tokens to be one.
use Rattle.std.specs.Prelude.{ℕ, Option, Some, None, List, [], ◌∷◌}
use Rattle.mv_syntax.specs.declared.unit.Specs.{Specs}
use Rattle.mv_syntax.specs.declared.unit.Declarator.{Declarator}
use Rattle.mv_syntax.specs.declared.unit.Line.{Line}
use Rattle.mv_syntax.specs.declared.unit.Item.{Item}
use Rattle.mv_ast.specs.Marks as marks
use Rattle.mv_parse_grammar.specs.Terminals.{Terminal, is_mark}
use Rattle.mv_parse_grammar.specs.Language.{give, token, ◌>>=◌, ◌or◌, chain, pushed, comma_list}
use Rattle.mv_parse_grammar.specs.Expressions.{Expressions, phrase}
use Rattle.mv_parse_grammar.specs.Declarations.{Parameters, specs, declarator, declared, params}
use Rattle.mv_parse_grammar.specs.Statements.{Lines, block, locals, statements}

abbrev pub item_of : Specs → List Declarator → Option Line → Item
item_of s ds b = record { specs = s; names = ds; body = b }

-- item = specs [declared ("," declared)*] ";" | specs declarator block
abbrev pub item : Expressions → Parameters → Lines → Item → List Terminal → Type 0
item E P B =
    (specs E >>= λ s. (comma_list (declared E P) or give []) >>= λ ds. token (is_mark marks.semicolon) >>= λ _. give (item_of s ds None))
    or (specs E >>= λ s. declarator E P >>= λ d. B >>= λ b. give (item_of s (d ∷ []) (Some b)))

-- the items with at most n productions one inside the other
abbrev pub items : ℕ → Item → List Terminal → Type 0
items n = item (phrase n) (params n) (block (locals n) (statements n))

-- unit = item* end
pub record AreItems (ts : List Terminal) (xs : List Item) : Type 0 where
  pub depth : ℕ
  pub phrases : chain (pushed (items depth)) [] xs ts
