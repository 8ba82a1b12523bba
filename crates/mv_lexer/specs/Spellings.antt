-- How each keyword and each punctuator is spelled, by its name.
use Rattle.std.specs.Prelude.{ℕ, ◌≡◌, List, [], ◌∷◌, map, codes, slice_index_or}
use Rattle.mv_syntax.specs.Keywords as keywords
use Rattle.mv_ast.specs.Marks as marks
use Rattle.mv_lexer.specs.declared.table.Table.{Table}
use Rattle.mv_lexer.specs.Tables.{entries}

abbrev pub spelled_keywords : List (ℕ × List ℕ)
spelled_keywords =
    (keywords.bool, codes "_Bool") ∷ (keywords.break, codes "break") ∷ (keywords.case, codes "case") ∷
    (keywords.char, codes "char") ∷ (keywords.const, codes "const") ∷ (keywords.continue, codes "continue") ∷
    (keywords.default, codes "default") ∷ (keywords.do, codes "do") ∷ (keywords.else, codes "else") ∷
    (keywords.enum, codes "enum") ∷ (keywords.for, codes "for") ∷ (keywords.if, codes "if") ∷
    (keywords.int, codes "int") ∷ (keywords.return, codes "return") ∷ (keywords.short, codes "short") ∷
    (keywords.signed, codes "signed") ∷ (keywords.static, codes "static") ∷ (keywords.switch, codes "switch") ∷
    (keywords.unsigned, codes "unsigned") ∷ (keywords.void, codes "void") ∷ (keywords.while, codes "while") ∷
    (keywords.attribute, codes "__attribute__") ∷ []

abbrev pub spelled_marks : List (ℕ × List ℕ)
spelled_marks =
    (marks.open_parenthesis, codes "(") ∷ (marks.close_parenthesis, codes ")") ∷ (marks.open_bracket, codes "[") ∷
    (marks.close_bracket, codes "]") ∷ (marks.open_brace, codes "{") ∷ (marks.close_brace, codes "}") ∷
    (marks.semicolon, codes ";") ∷ (marks.comma, codes ",") ∷ (marks.colon, codes ":") ∷ (marks.question, codes "?") ∷
    (marks.tilde, codes "~") ∷ (marks.exclamation, codes "!") ∷ (marks.plus, codes "+") ∷ (marks.minus, codes "-") ∷
    (marks.star, codes "*") ∷ (marks.slash, codes "/") ∷ (marks.percent, codes "%") ∷ (marks.ampersand, codes "&") ∷
    (marks.bar, codes "|") ∷ (marks.caret, codes "^") ∷ (marks.less, codes "<") ∷ (marks.greater, codes ">") ∷
    (marks.assign, codes "=") ∷ (marks.increment, codes "++") ∷ (marks.decrement, codes "--") ∷
    (marks.shift_left, codes "<<") ∷ (marks.shift_right, codes ">>") ∷ (marks.less_or_equal, codes "<=") ∷
    (marks.greater_or_equal, codes ">=") ∷ (marks.equal, codes "==") ∷ (marks.not_equal, codes "!=") ∷
    (marks.logical_and, codes "&&") ∷ (marks.logical_or, codes "||") ∷ (marks.plus_assign, codes "+=") ∷
    (marks.minus_assign, codes "-=") ∷ (marks.star_assign, codes "*=") ∷ (marks.slash_assign, codes "/=") ∷
    (marks.percent_assign, codes "%=") ∷ (marks.ampersand_assign, codes "&=") ∷ (marks.bar_assign, codes "|=") ∷
    (marks.caret_assign, codes "^=") ∷ (marks.shift_left_assign, codes "<<=") ∷
    (marks.shift_right_assign, codes ">>=") ∷ []

-- each number is the place at which the spelling stands in a table
abbrev pub AreEntries : Table → List (ℕ × List ℕ) → Type 0
AreEntries table spelled = map (λ x. slice_index_or (entries table) x.0 []) spelled ≡ map (λ x. x.1) spelled
