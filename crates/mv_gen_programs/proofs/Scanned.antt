-- A text of parts that fit is read as these lexemes, and its tokens are these words.
use Rattle.std.proofs.Common.{◌≡◌, ℕ, suc, ◌+◌, ◌-◌, ◌<◌, true, List, [], ◌∷◌, ◌++◌, length, get_or, take, drop, refl, sym, ap, subst, ◌∙◌, arith, append_assoc, length-append}
use Rattle.std.proofs.lemmas.Bool.{and_parts}
use Rattle.std.proofs.Math.ListN.{get_or-append}
use Rattle.std.proofs.Math.Seq.{take-append_seam, drop-append_seam}
use Rattle.mv_num.specs.declared.kind.Kind.TheVariants.{Int}
use Rattle.mv_syntax.specs.declared.place.Place.{Place}
use Rattle.mv_syntax.specs.declared.token.Piece.{Piece}
use Rattle.mv_syntax.specs.declared.token.Piece.TheVariants as piece
use Rattle.mv_syntax.specs.declared.token.Token.{Token}
use Rattle.mv_parse_grammar.specs.Terminals.{Terminal, terminals}
use Rattle.mv_lexer.specs.Place.{after}
use Rattle.mv_lexer.specs.Reading.{Scans, StandsInFront, tokens_of}
use Rattle.mv_lexer.specs.declared.position.Position.{Position}
use Rattle.mv_gen_programs.proofs.Parts.{Part, blank, word, name, number, sign, bytes, class_of, lexeme, lexemes, texts, Word, word_of, words, fits, first, all_fit}
use Rattle.mv_gen_programs.proofs.Longest.{stands, accepted, lexeme_bytes}

-- the byte in front of some parts and what is behind them
first_byte : (xs : List Part) (rest : List ℕ) → all_fit xs (get_or rest 0 0) ≡ true → get_or (texts xs ++ rest) 0 0 ≡ first xs (get_or rest 0 0)
first_byte [] rest h = refl
first_byte (x ∷ xs) rest h =
    let some : 0 < length (bytes x) = lexeme_bytes x (first xs (get_or rest 0 0)) (and_parts (fits x (first xs (get_or rest 0 0))) (all_fit xs (get_or rest 0 0)) h).0 in
    ap (λ (t : List ℕ). get_or t 0 0) (append_assoc (bytes x) (texts xs) rest) ∙ get_or-append (bytes x) (texts xs ++ rest) 0 0 some

pub scanned : (at : Position) (xs : List Part) (rest : List ℕ) → all_fit xs (get_or rest 0 0) ≡ true → Scans at (lexemes xs) (texts xs ++ rest) rest
scanned at [] rest h = refl
scanned at (x ∷ xs) rest h =
    let next = first xs (get_or rest 0 0) in
    let parts = and_parts (fits x next) (all_fit xs (get_or rest 0 0)) h in
    let whole : bytes x ++ (texts xs ++ rest) ≡ (bytes x ++ texts xs) ++ rest = sym (append_assoc (bytes x) (texts xs) rest) in
    let here = stands at.at_line_start x (texts xs ++ rest) (ap (fits x) (first_byte xs rest parts.1) ∙ parts.0) in
    let behind : drop (length (bytes x)) ((bytes x ++ texts xs) ++ rest) ≡ texts xs ++ rest =
    ap (drop (length (bytes x))) (sym whole) ∙ drop-append_seam (bytes x) (texts xs ++ rest) in (
      subst (λ t. StandsInFront at.at_line_start t (lexeme x)) whole here,
      accepted x,
      subst (λ t. Scans (after at (class_of x) (bytes x)) (lexemes xs) t rest) (sym behind) (scanned (after at (class_of x) (bytes x)) xs rest parts.1),
    )

-- ---- the words of the tokens

abbrev pub word_at : Terminal → Word
word_at t = (t.what, t.spelling)

abbrev pub words_in : List Terminal → List Word
words_in [] = []
words_in (t ∷ ts) = word_at t ∷ words_in ts

slice_there : (before s rest : List ℕ) (n : ℕ) → n ≡ length before → take ((n + length s) - n) (drop n (before ++ (s ++ rest))) ≡ s
slice_there before s rest n e =
    let k : (n + length s) - n ≡ length s = omega arith in
    ap (λ m. take m (drop n (before ++ (s ++ rest)))) k
    ∙ (ap (λ m. take (length s) (drop m (before ++ (s ++ rest)))) e
    ∙ (ap (take (length s)) (drop-append_seam before (s ++ rest))
    ∙ take-append_seam s rest))

-- one more token
token_word : (text before s rest : List ℕ) (at : Position) (what : Piece) (ts : List Token) (ws : List Word) → text ≡ before ++ (s ++ rest) → at.offset ≡ length before →
    words_in (terminals text ts) ≡ ws →
    words_in (terminals text (record { place = at.place; start = at.offset; stop = at.offset + length s; what = what } ∷ ts)) ≡ (what, s) ∷ ws
token_word text before s rest at what ts ws whole e h =
    let slice : take ((at.offset + length s) - at.offset) (drop at.offset text) ≡ s =
    ap (λ t. take ((at.offset + length s) - at.offset) (drop at.offset t)) whole ∙ slice_there before s rest at.offset e in
    ap (λ t. (what, t) ∷ words_in (terminals text ts)) slice ∙ ap (λ t. (what, s) ∷ t) h

-- what the tokens of these parts are, in whatever text they stand
abbrev Spelled : List Part → Type 0
Spelled xs =
    (text before rest : List ℕ) (at : Position) → text ≡ before ++ (texts xs ++ rest) → at.offset ≡ length before → words_in (terminals text (tokens_of at (lexemes xs))) ≡ words xs

module _ (xs : List Part) (go : Spelled xs) (text before rest : List ℕ) (at : Position) (e : at.offset ≡ length before) where
  spelled_behind : (x : Part) → text ≡ before ++ ((bytes x ++ texts xs) ++ rest) → words_in (terminals text (tokens_of (after at (class_of x) (bytes x)) (lexemes xs))) ≡ words xs
  spelled_behind x whole =
      go text (before ++ bytes x) rest (after at (class_of x) (bytes x))
      (whole ∙ (ap (λ t. before ++ t) (append_assoc (bytes x) (texts xs) rest) ∙ sym (append_assoc before (bytes x) (texts xs ++ rest))))
      (ap (λ n. n + length (bytes x)) e ∙ sym (length-append before (bytes x)))

  spelled_token : (x : Part) (what : Piece) → text ≡ before ++ ((bytes x ++ texts xs) ++ rest) →
      words_in (terminals text (record { place = at.place; start = at.offset; stop = at.offset + length (bytes x); what = what } ∷ tokens_of (after at (class_of x) (bytes x)) (lexemes xs)))
      ≡ (what, bytes x) ∷ words xs
  spelled_token x what whole =
      token_word text before (bytes x) (texts xs ++ rest) at what (tokens_of (after at (class_of x) (bytes x)) (lexemes xs)) (words xs)
      (whole ∙ ap (λ t. before ++ t) (append_assoc (bytes x) (texts xs) rest)) e (spelled_behind x whole)

  spelled_more : (x : Part) → text ≡ before ++ ((bytes x ++ texts xs) ++ rest) → words_in (terminals text (tokens_of at (lexeme x ∷ lexemes xs))) ≡ word_of x ++ words xs
  spelled_more (blank b) whole = spelled_behind (blank b) whole
  spelled_more (word k) whole = spelled_token (word k) (piece.Keyword k) whole
  spelled_more (name s) whole = spelled_token (name s) piece.Name whole
  spelled_more (number n) whole = spelled_token (number n) (piece.Number n Int) whole
  spelled_more (sign k) whole = spelled_token (sign k) (piece.Mark k) whole

pub spelled : (xs : List Part) → Spelled xs
spelled [] text before rest at whole e = refl
spelled (x ∷ xs) text before rest at whole e = spelled_more xs (spelled xs) text before rest at e x whole

-- ---- terminals by their places and words

-- the terminals of some words, of which the first has the place with this number
abbrev pub placed : (ℕ → Place) → ℕ → List Word → List Terminal
placed p k [] = []
placed p k (w ∷ ws) = record { place = p k; what = w.0; spelling = w.1 } ∷ placed p (suc k) ws

abbrev pub default_terminal : Terminal
default_terminal = record { place = record { line = 0; column = 0 }; what = piece.Name; spelling = [] }

abbrev pub place_in : List Terminal → ℕ → Place
place_in ts n = (get_or ts n default_terminal).place

shifted : (p : ℕ → Place) (k : ℕ) (ws : List Word) → placed (λ n. p (suc n)) k ws ≡ placed p (suc k) ws
shifted p k [] = refl
shifted p k (w ∷ ws) = ap (λ ts. record { place = p (suc k); what = w.0; spelling = w.1 } ∷ ts) (shifted p (suc k) ws)

pub placed_in : (ts : List Terminal) → ts ≡ placed (place_in ts) 0 (words_in ts)
placed_in [] = refl
placed_in (t ∷ ts) = ap (λ us. t ∷ us) (placed_in ts ∙ shifted (place_in (t ∷ ts)) 0 (words_in ts))

pub placed_append : (p : ℕ → Place) (k : ℕ) (ws vs : List Word) → placed p k (ws ++ vs) ≡ placed p k ws ++ placed p (k + length ws) vs
placed_append p k [] vs = let e : k ≡ k + 0 = omega arith in ap (λ n. placed p n vs) e
placed_append p k (w ∷ ws) vs =
    let e : suc k + length ws ≡ k + suc (length ws) = omega arith in
    ap (λ ts. record { place = p k; what = w.0; spelling = w.1 } ∷ ts) (placed_append p (suc k) ws vs ∙ ap (λ n. placed p (suc k) ws ++ placed p n vs) e)

-- places counted from the k-th on
abbrev pub behind : (ℕ → Place) → ℕ → ℕ → Place
behind p k n = p (n + k)

pub placed_behind : (p : ℕ → Place) (k j : ℕ) (ws : List Word) → placed p (j + k) ws ≡ placed (behind p k) j ws
placed_behind p k j [] = refl
placed_behind p k j (w ∷ ws) =
    let e : suc (j + k) ≡ suc j + k = omega arith in
    ap (λ ts. record { place = p (j + k); what = w.0; spelling = w.1 } ∷ ts) (ap (λ n. placed p n ws) e ∙ placed_behind p k (suc j) ws)
