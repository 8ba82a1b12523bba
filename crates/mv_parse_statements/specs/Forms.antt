-- What the reading of statements takes, for those that hold no other statement.
use Rattle.std.specs.Prelude.{ℕ}
use Rattle.mv_syntax.specs.declared.unit.Line.{Line}
use Rattle.mv_syntax.specs.declared.unit.Act.TheVariants as a
use Rattle.mv_parse_grammar.specs.Terminals.{is_mark, is_keyword}
use Rattle.mv_parse_grammar.specs.Reader.{give, token, ◌>>=◌, choice}
use Rattle.mv_parse_grammar.specs.ExpressionReader.{Readers}
use Rattle.mv_parse_grammar.specs.StatementReader.{LineReader, case, word, return, simple}

-- a statement, before the mark that ends it
abbrev pub ended : ℕ → Line → LineReader
ended m line = token (is_mark m) >>= λ _. give line

-- a label, a jump or an expression
abbrev pub leaf : Readers → LineReader
leaf E =
    choice (is_keyword 2) (case E)
    (choice (is_keyword 6) (word 6 8 a.Default)
    (choice (is_keyword 1) (word 1 6 a.Break)
    (choice (is_keyword 5) (word 5 6 a.Continue)
    (choice (is_keyword 13) (return E)
    (simple E)))))
