-- The answers of the stages, as answers on a source.
use Rattle.std.proofs.Common.{◌≡◌, ℕ, List, inl, inr, sym, ap, subst, ◌∙◌}
use Rattle.std.specs.Prelude.{Ok, Err}
use Rattle.mv_syntax.specs.declared.place.Place.{Place}
use Rattle.mv_ast.specs.declared.program.Program.{Program}
use Rattle.mv_syntax.specs.declared.token.Token.{Token}
use Rattle.mv_syntax.specs.declared.token.Tokens.{Tokens}
use Rattle.mv_syntax.specs.declared.unit.Unit as tree
use Rattle.mv_lexer.proofs.OneReading.{tokens_same}
use Rattle.mv_lexer.specs.Reading as lexing
use Rattle.mv_lexer.specs.declared.error.LexError.{LexError}
use Rattle.mv_lexer.specs.declared.error.LexError.TheVariants as lex
use Rattle.mv_parser.specs.Verdict as parsing
use Rattle.mv_parser.specs.declared.error.ParseError.{ParseError}
use Rattle.mv_parser.specs.declared.error.ParseError.TheVariants as parse
use Rattle.mv_check_expressions.specs.Judged.{Judged, Good, Broken}
use Rattle.mv_types.specs.Units.{unit_judgement}
use Rattle.mv_types.specs.Checked.{IsChecked}
use Rattle.mv_types.specs.declared.error.TypeError.{TypeError}
use Rattle.mv_types.specs.declared.error.TypeError.TheVariants as check
use Rattle.mv_check_rules.specs.Units.{judged_by_rules}
use Rattle.mv_check_rules.proofs.Units.{same_judgement}
use Rattle.mv_front.specs.Errors.{of_lexing, of_parsing, of_checking}
use Rattle.mv_front.specs.Refusals.{counted}
use Rattle.mv_front.specs.Verdicts.{IsUnit, IsProgram, IsRefused, IsCause, long_source, long_name, no_token, unsupported, too_deep, no_unit, broken_rule, over_limit}

pub lexing_cause : (text : List ℕ) (e : LexError) → lexing.IsCause text e → IsCause text (of_lexing e)
lexing_cause text (lex.BadToken place) h = no_token place h
lexing_cause text (lex.Unsupported place) h = unsupported place h
lexing_cause text (lex.TooLong n) (inl h) = subst (λ m. IsRefused text (counted 3 0 m)) (sym h.1) (long_source h.0)
lexing_cause text (lex.TooLong n) (inr h) = long_name n h.0 h.1
lexing_cause text (lex.Memory e) h = tt

tokens_of : List Token → Place → Tokens
tokens_of items end = record { items = items; end = end }

-- a source has one list of tokens
pub one_tokens : (text : List ℕ) (t u : Tokens) → lexing.AreTokens text t.items t.end → lexing.AreTokens text u.items u.end → t ≡ u
unfolding tokens_of
one_tokens text t u h k =
    let e = tokens_same text t.items u.items t.end u.end h k in
    ap (λ z. tokens_of z t.end) e.0 ∙ ap (tokens_of u.items) e.1

pub accepted_unit : (text : List ℕ) (tokens : Tokens) (u : tree.Unit) → lexing.AreTokens text tokens.items tokens.end → parsing.IsAccepted text tokens u → IsUnit text u
accepted_unit text tokens u h a = record {
  reads = a.reads;
  shallow = subst parsing.IsShallow (one_tokens text tokens a.reads.tokens h a.reads.lexed) a.shallow;
}

pub parsing_cause : (text : List ℕ) (tokens : Tokens) (e : ParseError) → lexing.AreTokens text tokens.items tokens.end → parsing.IsCause text tokens e → IsCause text (of_parsing e)
parsing_cause text tokens (parse.Nesting place) h c = too_deep tokens place h c
parsing_cause text tokens (parse.Syntax place) h c = no_unit tokens place h c
parsing_cause text tokens (parse.Memory e) h c = tt

module _ (text : List ℕ) (u : tree.Unit) (reads : IsUnit text u) where
  program_by : (q : Program) (j : Judged Program) → judged_by_rules u ≡ j → IsChecked u j (Ok q) → IsProgram text q
  program_by q (Good p) e h = subst (IsProgram text) (sym h.0) (record { unit = u; reads = reads; good = e; within = h.1 })
  program_by q (Broken place rule) e h = absurd h

  pub checked_program : (q : Program) → IsChecked u (unit_judgement u) (Ok q) → IsProgram text q
  checked_program q h = program_by q (unit_judgement u) (same_judgement u) h

  cause_by : (error : TypeError) (j : Judged Program) → judged_by_rules u ≡ j → IsChecked u j (Err error) → IsCause text (of_checking error)
  cause_by (check.Rule at r) (Good p) e h = absurd h
  cause_by (check.Limit n c) (Good p) e h = over_limit u p n c reads e h
  cause_by (check.Memory m) (Good p) e h = tt
  cause_by (check.Rule at r) (Broken place rule) e h = broken_rule u at r reads (e ∙ ap (λ z. Broken z rule) (sym h.0) ∙ ap (Broken at) (sym h.1))
  cause_by (check.Limit n c) (Broken place rule) e h = absurd h
  cause_by (check.Memory m) (Broken place rule) e h = tt

  pub checking_cause : (error : TypeError) → IsChecked u (unit_judgement u) (Err error) → IsCause text (of_checking error)
  checking_cause error h = cause_by error (unit_judgement u) (same_judgement u) h
