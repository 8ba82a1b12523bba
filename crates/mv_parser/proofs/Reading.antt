-- What reads all items, at a bound that is enough, tells what the tokens are.
use Rattle.std.proofs.Common.{◌≡◌, ℕ, Some, None, Ok, Err, List, [], length, refl, sym, ap, subst, ◌∙◌}
use Rattle.mv_syntax.specs.declared.place.Place.{Place}
use Rattle.mv_syntax.specs.declared.token.Token.{Token}
use Rattle.mv_syntax.specs.declared.token.Tokens.{Tokens}
use Rattle.mv_syntax.specs.declared.unit.Item.{Item}
use Rattle.mv_syntax.specs.declared.unit.Unit as unit
use Rattle.mv_parse_nodes.specs.Gives.{Gives, Told}
use Rattle.mv_parse_nodes.specs.declared.fault.Fault.TheVariants.{Syntax}
use Rattle.mv_parse_grammar.specs.Terminals.{Terminal, terminals}
use Rattle.mv_parse_grammar.specs.Reader as R
use Rattle.mv_parse_grammar.specs.Reader.{Read, Deep}
use Rattle.mv_parse_grammar.specs.UnitReader as model
use Rattle.mv_parse_grammar.specs.Reading.{Exactly, Breaks, BreaksAt, place_left, bound}
use Rattle.mv_parse_grammar.proofs.Verdict.{whole, broken, enough, breaks_at}

-- the items, and nothing after them
abbrev pub all : List Item → List Item × List Terminal
all items = (items, [])

pub reads_all : (text : List ℕ) (tokens : Tokens) (given : List Token) (u : unit.Unit) → given ≡ tokens.items → u.end ≡ tokens.end → ((n : ℕ) → Gives all (Ok u.items) (model.unit n (terminals text given))) → Exactly text tokens u
reads_all text tokens given u s p h = go (model.unit n ts) refl (subst (λ z. Gives all (Ok u.items) (model.unit n (terminals text z))) s (h n)).told
  where
    ts : List Terminal
    ts = terminals text tokens.items

    n : ℕ
    n = bound (length ts)

    go : (read : Read (List Item)) → model.unit n ts ≡ read → Told all (Ok u.items) read → Exactly text tokens u
    go Deep e t = absurd (enough ts e)
    go (R.Ends None s) e t = absurd t
    go (R.Ends (Some items) s) e t = whole text tokens n u s (e ∙ ap (λ z. R.Ends (Some z) s) t.0) p

breaks_all : (ts : List Terminal) (left : ℕ) → ((n : ℕ) → Gives all (Err (Syntax left)) (model.unit n ts)) → Breaks ts left
breaks_all ts left h = go (model.unit n ts) refl (h n).told
  where
    n : ℕ
    n = bound (length ts)

    go : (read : Read (List Item)) → model.unit n ts ≡ read → Told all (Err (Syntax left)) read → Breaks ts left
    go Deep e t = absurd (enough ts e)
    go (R.Ends None s) e t = subst (Breaks ts) (sym t) (broken n ts s e)
    go (R.Ends (Some items) s) e t = absurd t

pub breaks_off : (text : List ℕ) (tokens : Tokens) (given : List Token) (left : ℕ) (place : Place) → given ≡ tokens.items →
    place ≡ place_left given left tokens.end → ((n : ℕ) → Gives all (Err (Syntax left)) (model.unit n (terminals text given))) →
    BreaksAt text tokens place
breaks_off text tokens given left place s p h =
    breaks_at text tokens left place (subst (λ z. Breaks (terminals text z) left) s (breaks_all (terminals text given) left h)) (p ∙ ap (λ z. place_left z left tokens.end) s)
