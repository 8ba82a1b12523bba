-- How deep the tokens are nested.
use Rattle.std.specs.Prelude.{◌≡◌, ℕ, ◌+◌, ◌<◌, ◌≤◌, Bool, false, ◌||◌, nat_eq, if◌then◌else◌, List, [], ◌∷◌, length, drop, slice_index}
use Rattle.mv_syntax.specs.declared.place.Place.{Place}
use Rattle.mv_syntax.specs.declared.token.Token.{Token}
use Rattle.mv_syntax.specs.declared.token.Piece.{Piece}
use Rattle.mv_syntax.specs.declared.token.Piece.TheVariants.{Keyword, Name, Number, Chars, Mark}
use Rattle.mv_ast.specs.Marks as marks
use Rattle.mv_syntax.specs.Keywords as keywords
use Rattle.mv_parse_nesting.specs.declared.stack.Counts.{Counts}

-- pairs of counters, the top one apart, and the others from the top down
pub record Pairs : Type 0 where
  pub top : Counts
  pub below : List Counts

abbrev pub zeros : Counts
zeros = record { opened = 0; elses = 0 }

abbrev pub start : Pairs
start = record { top = zeros; below = [] }

-- the top pair's counters

abbrev pub more_opened : Pairs → Pairs
more_opened s = record { top = record { opened = s.top.opened + 1; elses = s.top.elses }; below = s.below }

abbrev pub more_elses : Pairs → Pairs
more_elses s = record { top = record { opened = s.top.opened; elses = s.top.elses + 1 }; below = s.below }

abbrev pub none_opened : Pairs → Pairs
none_opened s = record { top = record { opened = 0; elses = s.top.elses }; below = s.below }

abbrev pub no_elses : Pairs → Pairs
no_elses s = record { top = record { opened = s.top.opened; elses = 0 }; below = s.below }

-- a new pair on top of one that has one more open
abbrev pub entered : Pairs → Pairs
entered s = record { top = zeros; below = record { opened = s.top.opened + 1; elses = s.top.elses } ∷ s.below }

abbrev pub left_to : Pairs → List Counts → Pairs
left_to s [] = s
left_to s (c ∷ cs) = record { top = c; below = cs }

-- without the top pair, if it isn't the only one
abbrev pub left : Pairs → Pairs
left s = left_to s s.below

-- at the end of a statement, which goes on with `else` or `while` or doesn't
abbrev pub after_end : Bool → Pairs → Pairs
after_end goes_on s = if goes_on then none_opened s else no_elses (none_opened s)

abbrev pub is_one_of : List ℕ → ℕ → Bool
is_one_of [] n = false
is_one_of (m ∷ ms) n = nat_eq n m || is_one_of ms n

-- behind a punctuator
abbrev pub after_mark : ℕ → Bool → Pairs → Pairs
after_mark n goes_on s =
    if is_one_of (marks.open_parenthesis ∷ marks.open_bracket ∷ marks.open_brace ∷ []) n then entered s
    else (if is_one_of (marks.close_parenthesis ∷ marks.close_bracket ∷ []) n then left s
    else (if nat_eq n marks.close_brace then after_end goes_on (left s)
    else (if nat_eq n marks.semicolon then after_end goes_on s
    else (if nat_eq n marks.comma then none_opened s
    else (if nat_eq n marks.colon then s else more_opened s)))))

-- behind a keyword
abbrev pub after_keyword : ℕ → Pairs → Pairs
after_keyword n s =
    if nat_eq n keywords.else then more_elses s
    else (if is_one_of (keywords.do ∷ keywords.for ∷ keywords.if ∷ keywords.switch ∷ keywords.while ∷ []) n then more_opened s else s)

abbrev pub after_piece : Piece → Bool → Pairs → Pairs
after_piece (Mark n) goes_on s = after_mark n goes_on s
after_piece (Keyword n) goes_on s = after_keyword n s
after_piece Name goes_on s = s
after_piece (Number n k) goes_on s = s
after_piece (Chars bs) goes_on s = s

-- whether `else` or `while` comes next
abbrev pub continues : Piece → Bool
continues (Keyword n) = nat_eq n keywords.else || nat_eq n keywords.while
continues (Mark n) = false
continues Name = false
continues (Number n k) = false
continues (Chars bs) = false

abbrev pub goes_on : List Token → Bool
goes_on [] = false
goes_on (t ∷ ts) = continues t.what

abbrev pub sum_of : List Counts → ℕ
sum_of [] = 0
sum_of (c ∷ cs) = c.opened + c.elses + sum_of cs

-- the sum of all counters
abbrev pub level_of : Pairs → ℕ
level_of s = s.top.opened + s.top.elses + sum_of s.below

-- the level at each of these tokens, after those that gave these pairs
abbrev pub levels_from : Pairs → List Token → List ℕ
levels_from s [] = []
levels_from s (t ∷ ts) = level_of (after_piece t.what (goes_on ts) s) ∷ levels_from (after_piece t.what (goes_on ts) s) ts

-- the level at each token
abbrev pub levels : List Token → List ℕ
levels tokens = levels_from start tokens

-- the place of the first of these tokens
abbrev pub place_of : List Token → Place
place_of [] = record { line = 0; column = 0 }
place_of (t ∷ ts) = t.place

-- the place of the first token whose level is above the limit
pub record IsFirstAbove (limit : ℕ) (levels : List ℕ) (tokens : List Token) (place : Place) : Type 0 where
  pub index : ℕ
  pub in_range : index < length tokens
  pub above : limit < slice_index levels index
  pub first : (k : ℕ) → k < index → slice_index levels k ≤ limit
  pub at : place ≡ place_of (drop index tokens)
