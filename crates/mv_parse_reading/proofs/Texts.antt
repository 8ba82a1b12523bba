-- One source has one unit.
use Rattle.std.proofs.Common.{◌≡◌, ℕ, List, ap, subst, ◌∙◌}
use Rattle.mv_syntax.specs.declared.place.Place.{Place}
use Rattle.mv_syntax.specs.declared.token.Token.{Token}
use Rattle.mv_syntax.specs.declared.token.Tokens.{Tokens}
use Rattle.mv_syntax.specs.declared.unit.Unit as unit
use Rattle.mv_lexer.proofs.OneReading.{tokens_same}
use Rattle.mv_parse_grammar.specs.Reading.{Reads}
use Rattle.mv_parse_grammar.proofs.Verdict.{one_reading}
use Rattle.mv_parse_reading.specs.Texts.{ReadsAs}

abbrev tokens_of : List Token → Place → Tokens
tokens_of items end = record { items = items; end = end }

pub one_unit : (text : List ℕ) (u v : unit.Unit) → ReadsAs text u → ReadsAs text v → u ≡ v
one_unit text u v h k =
    let e = tokens_same text k.tokens.items h.tokens.items k.tokens.end h.tokens.end k.lexed h.lexed in
    let same : k.tokens ≡ h.tokens = ap (λ z. tokens_of z k.tokens.end) e.0 ∙ ap (tokens_of h.tokens.items) e.1 in
    one_reading text h.tokens u v h.parsed (subst (λ z. Reads text z v) same k.parsed)
