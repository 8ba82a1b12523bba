-- The terminals of the grammar: tokens with their spelling, and the classes of them that its productions name.
use Rattle.std.specs.Prelude.{ℕ, ◌-◌, ◌||◌, ◌&&◌, not, Bool, true, false, List, [], ◌∷◌, nat_eq, nat_le, take, drop, codes}
use Rattle.std.specs.List.{position_or_len}
use Rattle.std.specs.Str.{bytes_eq}
use Rattle.mv_num.specs.Lists.{is_among}
use Rattle.mv_syntax.specs.declared.place.Place.{Place}
use Rattle.mv_syntax.specs.declared.token.Token.{Token}
use Rattle.mv_syntax.specs.declared.token.Piece.{Piece}
use Rattle.mv_syntax.specs.declared.token.Piece.TheVariants.{Keyword, Name, Number, Chars, Mark}
use Rattle.mv_ast.specs.Marks as marks
use Rattle.mv_syntax.specs.Keywords as keywords

-- a token, with the bytes that it is in its source
pub record Terminal : Type 0 where
  pub place : Place
  pub what : Piece
  pub spelling : List ℕ

abbrev pub terminal : List ℕ → Token → Terminal
terminal text t = record { place = t.place; what = t.what; spelling = take (t.stop - t.start) (drop t.start text) }

-- the tokens of a source
abbrev pub terminals : List ℕ → List Token → List Terminal
terminals text [] = []
terminals text (t ∷ ts) = terminal text t ∷ terminals text ts

-- the number of a mark, and 255 for what is no mark
abbrev pub mark_of : Piece → ℕ
mark_of (Mark n) = n
mark_of _ = 255

-- the number of a keyword, and 255 for what is no keyword
abbrev pub keyword_of : Piece → ℕ
keyword_of (Keyword n) = n
keyword_of _ = 255

abbrev pub mark : Terminal → ℕ
mark t = mark_of t.what

abbrev pub keyword : Terminal → ℕ
keyword t = keyword_of t.what

abbrev pub is_mark : ℕ → Terminal → Bool
is_mark n t = nat_eq (mark t) n

abbrev pub is_keyword : ℕ → Terminal → Bool
is_keyword n t = nat_eq (keyword t) n

abbrev pub is_name_piece : Piece → Bool
is_name_piece Name = true
is_name_piece _ = false

-- an identifier
abbrev pub is_name : Terminal → Bool
is_name t = is_name_piece t.what

abbrev pub is_number_piece : Piece → Bool
is_number_piece (Number n k) = true
is_number_piece _ = false

-- an integer constant or a character constant
abbrev pub is_number : Terminal → Bool
is_number t = is_number_piece t.what

abbrev pub is_string_piece : Piece → Bool
is_string_piece (Chars cs) = true
is_string_piece _ = false

-- a string literal
abbrev pub is_string : Terminal → Bool
is_string t = is_string_piece t.what

-- the name of the one attribute
abbrev pub is_multiverse : Terminal → Bool
is_multiverse t = is_name t && bytes_eq t.spelling (codes "multiverse")

-- The marks that go on from an operand, by rank, the tightest first: what stands behind an operand, the operators on two operands, `?`, the assignments.
abbrev pub ranks : List (List ℕ)
ranks =
    (marks.open_parenthesis ∷ marks.open_bracket ∷ marks.increment ∷ marks.decrement ∷ []) ∷
    (marks.star ∷ marks.slash ∷ marks.percent ∷ []) ∷
    (marks.plus ∷ marks.minus ∷ []) ∷
    (marks.shift_left ∷ marks.shift_right ∷ []) ∷
    (marks.less ∷ marks.greater ∷ marks.less_or_equal ∷ marks.greater_or_equal ∷ []) ∷
    (marks.equal ∷ marks.not_equal ∷ []) ∷
    (marks.ampersand ∷ []) ∷
    (marks.caret ∷ []) ∷
    (marks.bar ∷ []) ∷
    (marks.logical_and ∷ []) ∷
    (marks.logical_or ∷ []) ∷
    (marks.question ∷ []) ∷
    (marks.assign ∷ marks.plus_assign ∷ marks.minus_assign ∷ marks.star_assign ∷ marks.slash_assign ∷ marks.percent_assign ∷ marks.ampersand_assign ∷
    marks.bar_assign ∷ marks.caret_assign ∷ marks.shift_left_assign ∷ marks.shift_right_assign ∷ []) ∷
    []

-- how loosely a terminal binds the operand before it, by its place in these; every other terminal has 13
abbrev pub rank : Terminal → ℕ
rank t = position_or_len (λ rank. is_among (mark t) rank) ranks

abbrev pub is_rank : ℕ → Terminal → Bool
is_rank n t = nat_eq (rank t) n

-- what goes on from an expression of this rank
abbrev pub within_rank : ℕ → Terminal → Bool
within_rank n t = nat_le (rank t) n

-- `~ ! + - * &`, the operators on one operand that may be a cast
abbrev pub is_sign : Terminal → Bool
is_sign t = is_mark marks.tilde t || is_mark marks.exclamation t || is_mark marks.plus t || is_mark marks.minus t || is_mark marks.star t || is_mark marks.ampersand t

-- `++ --`
abbrev pub is_step : Terminal → Bool
is_step t = is_mark marks.increment t || is_mark marks.decrement t

-- `_Bool char int short signed unsigned void`
abbrev pub is_type_word : Terminal → Bool
is_type_word t = is_keyword keywords.bool t || is_keyword keywords.char t || is_keyword keywords.int t || is_keyword keywords.short t || is_keyword keywords.signed t || is_keyword keywords.unsigned t || is_keyword keywords.void t

-- what a part of a type name begins with: `const`, a type word or `enum`
abbrev pub is_type_part : Terminal → Bool
is_type_part t = is_keyword keywords.const t || is_type_word t || is_keyword keywords.enum t

-- what a declaration specifier begins with: those, `static` or `__attribute__`
abbrev pub is_specifier : Terminal → Bool
is_specifier t = is_keyword keywords.static t || is_type_part t || is_keyword keywords.attribute t

-- all but `}`
abbrev pub is_no_end : Terminal → Bool
is_no_end t = not (is_mark marks.close_brace t)
