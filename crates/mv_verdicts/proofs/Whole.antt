-- No text is without a verdict.
use Rattle.std.proofs.Common.{◌≡◌, ℕ, ◌<◌, ◌≤◌, List, [], length, ◌⊎◌, inl, inr, refl, sym, subst, arith}
use Rattle.std.proofs.lemmas.Bool.{cases_lt}
use Rattle.mv_ast.specs.declared.program.Program.{Program}
use Rattle.mv_syntax.specs.declared.place.Place.{Place}
use Rattle.mv_syntax.specs.declared.token.Tokens.{Tokens}
use Rattle.mv_lexer.specs.Place.{start}
use Rattle.mv_lexer.specs.Reading as lexing
use Rattle.mv_lexer.specs.Reading.{Evaluation, Lexeme, StandsInFront, IsAccepted, IsFirstRefused, Scans, tokens_of, after_all}
use Rattle.mv_front.specs.Codes as refusals
use Rattle.mv_front.specs.Refusals.{at_place, counted}
use Rattle.mv_front.specs.Verdicts.{IsProgram, IsRefused, long_source, long_name, no_token, unsupported}
use Rattle.mv_front.specs.declared.refusal.Refusal.{Refusal}
use Rattle.mv_verdicts.specs.Laws.{HasVerdict, accepted, refused}
use Rattle.mv_verdicts.proofs.Lexed.{scanned}
use Rattle.mv_verdicts.proofs.Judged.{judged}

module _ (text : List ℕ) (none : (r : Refusal) → IsRefused text r → ⊥) (fits : length text ≤ 1048576) where
  module _ (cs : List Lexeme) (rest : List ℕ) (c : Lexeme) (reading : Scans start cs text rest) (next : StandsInFront (after_all start cs).at_line_start rest c) (fails : IsAccepted c.evaluation → ⊥) where
    place : Place
    place = (after_all start cs).place

    first : (e : Evaluation) → c.evaluation ≡ e → IsFirstRefused text e place
    unfolding place
    first e same = record {
      fits = fits;
      lexemes = cs;
      rest = rest;
      refused = c;
      reading = reading;
      next = next;
      evaluates_to = same;
      not_accepted = λ h. fails (subst IsAccepted (sym same) h);
      stands = refl;
    }

    by : (e : Evaluation) → c.evaluation ≡ e → ⊥
    by lexing.skipped same = fails (subst IsAccepted (sym same) tt)
    by (lexing.token what) same = fails (subst IsAccepted (sym same) tt)
    by lexing.bad same = none (at_place refusals.token place) (no_token place (first lexing.bad same))
    by lexing.unsupported same = none (at_place refusals.unsupported place) (unsupported place (first lexing.unsupported same))
    by (lexing.too_long n) same = none (counted refusals.length 0 n) (long_name n place (first (lexing.too_long n) same))

    no_refused : ⊥
    no_refused = by c.evaluation refl

  module _ (no_program : (p : Program) → IsProgram text p → ⊥) where
    no_verdict : HasVerdict text → ⊥
    no_verdict (accepted p is) = no_program p is
    no_verdict (refused r is) = none r is

    no_reading : (cs : List Lexeme) → Scans start cs text [] → ⊥
    no_reading cs reading =
        let tokens : Tokens = record { items = tokens_of start cs; end = (after_all start cs).place } in
        no_verdict (judged text tokens (record { fits = fits; lexemes = cs; reading = reading; tokens = refl; at_end = refl }))

    contradicted : ⊥
    contradicted = scanned (length text) start text (omega arith) no_reading no_refused

pub none_without : (text : List ℕ) → ((p : Program) → IsProgram text p → ⊥) → ((r : Refusal) → IsRefused text r → ⊥) → ⊥
none_without text no_program none = by (cases_lt 1048576 (length text))
  where
    by : (1048576 < length text) ⊎ (length text ≤ 1048576) → ⊥
    by (inl above) = none (counted refusals.length 0 (length text)) (long_source above)
    by (inr fits) = contradicted text none fits no_program
