-- Readers: what is taken from the front of the terminals, without going back.
use Rattle.std.specs.Prelude.{ℕ, zero, suc, Bool, false, ◌&&◌, Option, Some, None, List, [], ◌∷◌, ◌++◌, if◌then◌else◌}
use Rattle.mv_syntax.specs.declared.place.Place.{Place}
use Rattle.mv_ast.specs.Marks as marks
use Rattle.mv_parse_grammar.specs.Terminals.{Terminal, is_mark}
use Rattle.mv_parse_grammar.specs.Language.{place_of}

-- A value and the terminals after it; no value, and the terminals from the one that fits nothing; or the bound was too small.
pub data Read (X : Type 0) : Type 0 where
  Ends : Option X → List Terminal → Read X
  Deep : Read X

-- whether a terminal of this class comes next
abbrev pub next : (Terminal → Bool) → List Terminal → Bool
next test [] = false
next test (t ∷ ts) = test t

-- whether terminals of these two classes come next
abbrev pub next_two : (Terminal → Bool) → (Terminal → Bool) → List Terminal → Bool
next_two first second [] = false
next_two first second (t ∷ []) = false
next_two first second (t ∷ u ∷ ts) = first t && second u

abbrev pub give : {X : Type 0} → X → List Terminal → Read X
give x ts = Ends (Some x) ts

abbrev pub token : (Terminal → Bool) → List Terminal → Read Terminal
token test [] = Ends None []
token test (t ∷ ts) = if test t then Ends (Some t) ts else Ends None (t ∷ ts)

abbrev pub go_on : {X Y : Type 0} → (X → List Terminal → Read Y) → Read X → Read Y
go_on f Deep = Deep
go_on f (Ends None ts) = Ends None ts
go_on f (Ends (Some x) ts) = f x ts

infixl 10 ◌>>=◌
abbrev pub ◌>>=◌ : {X Y : Type 0} → (List Terminal → Read X) → (X → List Terminal → Read Y) → List Terminal → Read Y
(p >>= f) ts = go_on f (p ts)

-- the first where such a terminal comes next, else the second
abbrev pub choice : {X : Type 0} → (Terminal → Bool) → (List Terminal → Read X) → (List Terminal → Read X) → List Terminal → Read X
choice test p q ts = if next test ts then p ts else q ts

-- the first where two such terminals come next, else the second
abbrev pub choice_two : {X : Type 0} → (Terminal → Bool) → (Terminal → Bool) → (List Terminal → Read X) → (List Terminal → Read X) → List Terminal → Read X
choice_two first second p q ts = if next_two first second ts then p ts else q ts

abbrev pub marked : {X : Type 0} → (List Terminal → Read X) → List Terminal → Read (Place × X)
marked p ts = go_on (λ x. give (place_of ts, x)) (p ts)

-- again and again, as long as such a terminal comes next
abbrev pub chain : {X : Type 0} → (Terminal → Bool) → (X → List Terminal → Read X) → ℕ → X → List Terminal → Read X
chain test f zero x ts = Deep
chain test f (suc n) x ts = if next test ts then go_on (chain test f n) (f x ts) else give x ts

-- a phrase where such a terminal comes next
abbrev pub optional : {X : Type 0} → (Terminal → Bool) → (List Terminal → Read X) → List Terminal → Read (Option X)
optional test p = choice test (p >>= λ x. give (Some x)) (give None)

-- a phrase after those of a list
abbrev pub pushed : {X : Type 0} → (List Terminal → Read X) → List X → List Terminal → Read (List X)
pushed p xs = p >>= λ x. give (xs ++ x ∷ [])

-- "," phrase
abbrev pub comma_pushed : {X : Type 0} → (List Terminal → Read X) → List X → List Terminal → Read (List X)
comma_pushed p xs = token (is_mark marks.comma) >>= λ _. pushed p xs

-- phrase ("," phrase)*
abbrev pub comma_list : {X : Type 0} → ℕ → (List Terminal → Read X) → List Terminal → Read (List X)
comma_list n p = p >>= λ x. chain (is_mark marks.comma) (comma_pushed p) n (x ∷ [])

-- what is after a phrase in a braced list: "}", or "," and then "}" or another phrase
abbrev pub closing : {X : Type 0} → ℕ → (List Terminal → Read X) → List X → List Terminal → Read (List X)
closing zero p xs ts = Deep
closing (suc n) p xs ts =
    choice (is_mark marks.comma)
    (token (is_mark marks.comma) >>= λ _. choice (is_mark marks.close_brace) (token (is_mark marks.close_brace) >>= λ _. give xs) (p >>= λ x. closing n p (xs ++ x ∷ [])))
    (token (is_mark marks.close_brace) >>= λ _. give xs) ts

-- "{" phrase ("," phrase)* [","] "}"
abbrev pub braced_list : {X : Type 0} → ℕ → (List Terminal → Read X) → List Terminal → Read (List X)
braced_list n p = token (is_mark marks.open_brace) >>= λ _. p >>= λ x. closing n p (x ∷ [])
