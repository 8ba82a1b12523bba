-- What the reading of declared names takes, where the first declarator was read.
use Rattle.std.specs.Prelude.{ℕ, List, [], ◌∷◌}
use Rattle.mv_syntax.specs.declared.unit.Declarator.{Declarator}
use Rattle.mv_parse_grammar.specs.Terminals.{Terminal, is_mark}
use Rattle.mv_parse_grammar.specs.Reader.{Read, ◌>>=◌, chain, comma_pushed}
use Rattle.mv_parse_grammar.specs.ExpressionReader.{read}
use Rattle.mv_parse_grammar.specs.DeclarationReader.{with_init, declared, params}

-- its initial value, and more declared names
abbrev pub declared_from : ℕ → Declarator → List Terminal → Read (List Declarator)
declared_from n d = with_init n (read n) d >>= λ x. chain (is_mark 7) (comma_pushed (declared n (read n) (params n))) n (x ∷ [])
