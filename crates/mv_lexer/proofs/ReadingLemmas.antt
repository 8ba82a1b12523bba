-- One more lexeme of a reading.
use Rattle.std.proofs.Common.{◌≡◌, ℕ, Bool, ◌<◌, ◌≤◌, List, [], ◌∷◌, ◌++◌, drop, take, length, ap, sym, ◌∙◌, subst, arith, Some, None, Ok, Err, refl, append_assoc, inr}
use Rattle.std.proofs.lemmas.List.{append-nil, drop-drop, length-take-le}
use Rattle.mv_lexer.proofs.IncludeLemmas.{front_range}
use Rattle.mv_lexer.specs.Include.{IsFrontLexeme}
use Rattle.mv_lexer.specs.declared.class.TokenClass.{TokenClass}
use Rattle.mv_syntax.specs.declared.token.Piece.{Piece}
use Rattle.mv_lexer.specs.Place.{start, after}
use Rattle.mv_lexer.specs.Reading.{Lexeme, StandsInFront, IsAccepted, Scans, after_all, token_of, tokens_of, IsStep, IsRefused, Refuses, IsFirstRefused, IsCause, GivesEvaluation, Evaluates, token, skipped, Evaluation, bad, unsupported, too_long}
use Rattle.mv_lexer.specs.declared.position.Position.{Position}
use Rattle.mv_lexer.specs.declared.error.LexError.{LexError}
use Rattle.mv_lexer.specs.declared.error.LexError.TheVariants.{BadToken, Unsupported, TooLong, Memory}
use Rattle.mv_syntax.specs.declared.place.Place.{Place}
use Rattle.mv_syntax.specs.declared.token.Token.{Token}

-- one more lexeme at the end
lexemes_more : (at : Position) (lexemes : List Lexeme) (lexeme : Lexeme) (text rest : List ℕ) → Scans at lexemes text rest →
    StandsInFront (after_all at lexemes).at_line_start rest lexeme → IsAccepted lexeme.evaluation →
    Scans at (lexemes ++ lexeme ∷ []) text (drop (length lexeme.bytes) rest)
lexemes_more at [] lexeme text rest same is accepted = (subst (λ t. StandsInFront at.at_line_start t lexeme) (sym same) is, accepted, ap (drop (length lexeme.bytes)) same)
lexemes_more at (c ∷ lexemes) lexeme text rest before is accepted = (before.0, before.1, lexemes_more (after at c.class c.bytes) lexemes lexeme (drop (length c.bytes) text) rest before.2 is accepted)

after_all_more : (at : Position) (lexemes : List Lexeme) (lexeme : Lexeme) → after_all at (lexemes ++ lexeme ∷ []) ≡ after (after_all at lexemes) lexeme.class lexeme.bytes
after_all_more at [] lexeme = refl
after_all_more at (c ∷ lexemes) lexeme = after_all_more (after at c.class c.bytes) lexemes lexeme

tokens_of_more : (at : Position) (lexemes : List Lexeme) (lexeme : Lexeme) → tokens_of at (lexemes ++ lexeme ∷ []) ≡ tokens_of at lexemes ++ token_of (after_all at lexemes) lexeme.bytes lexeme.evaluation
tokens_of_more at [] lexeme = append-nil (token_of at lexeme.bytes lexeme.evaluation)
tokens_of_more at (c ∷ lexemes) lexeme =
    ap (λ ts. token_of at c.bytes c.evaluation ++ ts) (tokens_of_more (after at c.class c.bytes) lexemes lexeme) ∙
    sym (append_assoc (token_of at c.bytes c.evaluation) (tokens_of (after at c.class c.bytes) lexemes)
    (token_of (after_all (after at c.class c.bytes) lexemes) lexeme.bytes lexeme.evaluation))

-- what has been read of a text
pub record IsRead (text : List ℕ) (at : Position) (items : List Token) : Type 0 where
  pub lexemes : List Lexeme
  pub reading : Scans start lexemes text (drop at.offset text)
  pub at_is : at ≡ after_all start lexemes
  pub items_are : items ≡ tokens_of start lexemes

pub read_more : (text : List ℕ) (at at' : Position) (items items' : List Token) → IsRead text at items → IsStep (drop at.offset text) at items at' items' → IsRead text at' items'
read_more text at at' items items' before step = record {
  lexemes = before.lexemes ++ step.lexeme ∷ [];
  reading = subst (Scans start (before.lexemes ++ step.lexeme ∷ []) text)
      (drop-drop (length step.lexeme.bytes) at.offset text ∙ ap (λ (p : Position). drop p.offset text) (sym step.at_is))
      (lexemes_more start before.lexemes step.lexeme text (drop at.offset text) before.reading
      (subst (λ (p : Position). StandsInFront p.at_line_start (drop at.offset text) step.lexeme) before.at_is step.is) step.accepted);
  at_is = step.at_is ∙ ap (λ (p : Position). after p step.lexeme.class step.lexeme.bytes) before.at_is ∙ sym (after_all_more start before.lexemes step.lexeme);
  items_are = step.items_are ∙ ap (λ ts. ts ++ token_of at step.lexeme.bytes step.lexeme.evaluation) before.items_are ∙
      ap (λ (p : Position). tokens_of start before.lexemes ++ token_of p step.lexeme.bytes step.lexeme.evaluation) before.at_is ∙
      sym (tokens_of_more start before.lexemes step.lexeme);
}

refused_at : (text : List ℕ) (at : Position) (items : List Token) (evaluation : Evaluation) (place : Place) → (IsAccepted evaluation → ⊥) →
    length text ≤ 1048576 → IsRead text at items → IsRefused at.at_line_start (drop at.offset text) at.place evaluation place →
    IsFirstRefused text evaluation place
refused_at text at items evaluation place not_accepted fits read is = record {
  fits = fits;
  lexemes = read.lexemes;
  rest = drop at.offset text;
  refused = is.lexeme;
  reading = read.reading;
  next = subst (λ (p : Position). StandsInFront p.at_line_start (drop at.offset text) is.lexeme) read.at_is is.is;
  evaluates_to = is.evaluates_to;
  not_accepted = not_accepted;
  stands = is.stands ∙ ap (λ (p : Position). p.place) read.at_is;
}

pub cause_of : (text : List ℕ) (at : Position) (items : List Token) (e : LexError) → length text ≤ 1048576 → IsRead text at items → Refuses at.at_line_start (drop at.offset text) at.place e → IsCause text e
cause_of text at items (BadToken place) fits read is = refused_at text at items bad place (λ h. h) fits read is
cause_of text at items (Unsupported place) fits read is = refused_at text at items unsupported place (λ h. h) fits read is
cause_of text at items (TooLong n) fits read is = inr (at.place, refused_at text at items (too_long n) at.place (λ h. h) fits read is)
cause_of text at items (Memory e) fits read is = tt

module _ (at_line_start : Bool) (rest : List ℕ) (class : TokenClass) (n : ℕ) (here : IsFrontLexeme at_line_start rest class n) where
  length_front : length (take n rest) ≡ n
  length_front = length-take-le n rest (front_range at_line_start rest class n here).1

  lexeme_of : (evaluation : Evaluation) → Evaluates class (take n rest) evaluation → StandsInFront at_line_start rest (record { class = class; bytes = take n rest; evaluation = evaluation })
  lexeme_of evaluation is = record {
    front = ap (λ m. take m rest) length_front;
    here = subst (IsFrontLexeme at_line_start rest class) (sym length_front) here;
    evaluation = is;
  }

  -- a lexeme that is nothing was passed
  pub step_skipped : (at at' : Position) (items items' : List Token) → at_line_start ≡ at.at_line_start →
      GivesEvaluation class (take n rest) at.place (Ok None) → at' ≡ after at class (take n rest) → items' ≡ items → IsStep rest at items at' items'
  step_skipped at at' items items' at_line_start_is is at_is same = record {
    lexeme = record { class = class; bytes = take n rest; evaluation = skipped };
    is = subst (λ f. StandsInFront f rest (record { class = class; bytes = take n rest; evaluation = skipped })) at_line_start_is (lexeme_of skipped is);
    accepted = tt;
    at_is = at_is;
    items_are = same ∙ sym (append-nil items);
  }

  -- a token was taken
  pub step_token : (at at' : Position) (what : Piece) (items items' : List Token) → at_line_start ≡ at.at_line_start →
      GivesEvaluation class (take n rest) at.place (Ok (Some what)) → at' ≡ after at class (take n rest) →
      items' ≡ items ++ record { place = at.place; start = at.offset; stop = at'.offset; what = what } ∷ [] → IsStep rest at items at' items'
  step_token at at' what items items' at_line_start_is is at_is more = record {
    lexeme = record { class = class; bytes = take n rest; evaluation = token what };
    is = subst (λ f. StandsInFront f rest (record { class = class; bytes = take n rest; evaluation = token what })) at_line_start_is (lexeme_of (token what) is);
    accepted = tt;
    at_is = at_is;
    items_are = more ∙ ap (λ (p : Position). items ++ record { place = at.place; start = at.offset; stop = p.offset; what = what } ∷ []) at_is;
  }

  refused : (evaluation : Evaluation) (place at : Place) → Evaluates class (take n rest) evaluation → at ≡ place → IsRefused at_line_start rest place evaluation at
  refused evaluation place at is stands = record {
    lexeme = record { class = class; bytes = take n rest; evaluation = evaluation };
    is = lexeme_of evaluation is;
    evaluates_to = refl;
    stands = stands;
  }

  pub refuses_of : (place : Place) (e : LexError) → GivesEvaluation class (take n rest) place (Err e) → Refuses at_line_start rest place e
  refuses_of place (BadToken at) is = refused bad place at is.0 is.1
  refuses_of place (Unsupported at) is = refused unsupported place at is.0 is.1
  refuses_of place (TooLong count) is = refused (too_long count) place place is refl
  refuses_of place (Memory e) is = tt

-- a step goes on by at least a byte
pub step_goes_on : (rest : List ℕ) (at at' : Position) (items items' : List Token) → IsStep rest at items at' items' → at.offset < at'.offset
step_goes_on rest at at' items items' step =
    let some = front_range at.at_line_start rest step.lexeme.class (length step.lexeme.bytes) step.is.here in
    let on = ap (λ (p : Position). p.offset) step.at_is in
    omega (arith, some.0, on)
