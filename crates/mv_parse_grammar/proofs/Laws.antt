-- Tokens are a unit or break off at one place, and what begins a unit does so in some source.
use Rattle.std.proofs.Common.{◌≡◌, ℕ, Some, None, List, [], ◌∷◌, ◌++◌, ◌⊎◌, inl, inr, length, refl, sym, ap, subst, ◌∙◌, append_assoc}
use Rattle.std.proofs.lemmas.List.{append-nil}
use Rattle.mv_syntax.specs.declared.place.Place.{Place}
use Rattle.mv_syntax.specs.declared.token.Tokens.{Tokens}
use Rattle.mv_syntax.specs.declared.unit.Item.{Item}
use Rattle.mv_syntax.specs.declared.unit.Unit as unit
use Rattle.mv_parse_grammar.specs.Terminals.{Terminal, terminals}
use Rattle.mv_parse_grammar.specs.Reader as R
use Rattle.mv_parse_grammar.specs.Reader.{Read, Deep}
use Rattle.mv_parse_grammar.specs.Units.{AreItems}
use Rattle.mv_parse_grammar.specs.UnitReader as M
use Rattle.mv_parse_grammar.specs.Reading.{Reads, Begins, Ends, Breaks, BreaksAt, place_or, bound}
use Rattle.mv_parse_grammar.proofs.Verdict.{whole, broken, enough}

-- a unit doesn't break off

no_items : (ts before rest : List Terminal) (xs : List Item) → ts ≡ before ++ rest → Ends before rest → AreItems ts xs → ⊥
no_items ts before [] xs w e h = e xs (subst (λ z. AreItems z xs) (w ∙ append-nil before) h)
no_items ts before (t ∷ q) xs w e h = e q xs (subst (λ z. AreItems z xs) w h)

pub unit_is_whole : (text : List ℕ) (tokens : Tokens) (u : unit.Unit) (place : Place) → Reads text tokens u → BreaksAt text tokens place → ⊥
unit_is_whole text tokens u place h b = no_items (terminals text tokens.items) b.breaks.before b.breaks.rest u.items b.breaks.whole b.breaks.ends h.items

-- nor do tokens break off twice

-- two cuts of one list are one, or one is before the other
data Cuts (a r b s : List Terminal) : Type 0 where
  together : r ≡ s → Cuts a r b s
  before : (t : Terminal) (q : List Terminal) → b ≡ a ++ (t ∷ q) → r ≡ (t ∷ q) ++ s → Cuts a r b s
  behind : (t : Terminal) (q : List Terminal) → a ≡ b ++ (t ∷ q) → s ≡ (t ∷ q) ++ r → Cuts a r b s

cut : (a r b s : List Terminal) → a ++ r ≡ b ++ s → Cuts a r b s
cut [] r [] s e = together e
cut [] r (t ∷ b) s e = before t b refl e
cut (t ∷ a) r [] s e = behind t a refl (sym e)
cut (t ∷ a) r (u ∷ b) s e = go (cut a r b s tails)
  where
    tails : a ++ r ≡ b ++ s
    tails = cc

    heads : t ≡ u
    heads = cc

    go : Cuts a r b s → Cuts (t ∷ a) r (u ∷ b) s
    go (together h) = together h
    go (before v q h k) = before v q (ap (λ z. u ∷ z) h ∙ ap (λ z. z ∷ (a ++ (v ∷ q))) (sym heads)) k
    go (behind v q h k) = behind v q (ap (λ z. t ∷ z) h ∙ ap (λ z. z ∷ (b ++ (v ∷ q))) heads) k

-- what goes on beyond a place where nothing does begins no unit
begun_twice : (a b q rest : List Terminal) (t : Terminal) → b ≡ a ++ (t ∷ q) → Ends a (t ∷ rest) → Begins b → ⊥
begun_twice a b q rest t w e h = e (q ++ h.more) h.items (subst (λ z. AreItems z h.items) (ap (λ z. z ++ h.more) w ∙ append_assoc a (t ∷ q) h.more) h.reads)

one_rest : (ts : List Terminal) (left other : ℕ) (b : Breaks ts left) (c : Breaks ts other) → b.rest ≡ c.rest
one_rest ts left other b c = go (cut b.before b.rest c.before c.rest (sym b.whole ∙ c.whole))
  where
    go : Cuts b.before b.rest c.before c.rest → b.rest ≡ c.rest
    go (together h) = h
    go (before t q h k) = absurd (begun_twice b.before c.before q (q ++ c.rest) t h (subst (Ends b.before) k b.ends) c.begins)
    go (behind t q h k) = absurd (begun_twice c.before b.before q (q ++ b.rest) t h (subst (Ends c.before) k c.ends) b.begins)

pub one_place : (text : List ℕ) (tokens : Tokens) (place other : Place) → BreaksAt text tokens place → BreaksAt text tokens other → place ≡ other
one_place text tokens place other b c =
    b.at ∙ (ap (λ z. place_or z tokens.end) (one_rest (terminals text tokens.items) b.left c.left b.breaks c.breaks) ∙ sym c.at)

-- but they do one or the other

pub unit_or_place : (text : List ℕ) (tokens : Tokens) → ((u : unit.Unit) × Reads text tokens u) ⊎ ((place : Place) × BreaksAt text tokens place)
unit_or_place text tokens = go (M.unit (bound (length ts)) ts) refl
  where
    ts : List Terminal
    ts = terminals text tokens.items

    go : (read : Read (List Item)) → M.unit (bound (length ts)) ts ≡ read → ((u : unit.Unit) × Reads text tokens u) ⊎ ((place : Place) × BreaksAt text tokens place)
    go Deep e = absurd (enough ts e)
    go (R.Ends (Some xs) r) e =
        let u : unit.Unit = record { items = xs; end = tokens.end } in
        inl (u, (whole text tokens (bound (length ts)) u r e refl).reads)
    go (R.Ends None r) e =
        let b : Breaks ts (length r) = broken (bound (length ts)) ts r e in
        inr (place_or b.rest tokens.end, record { left = length r; breaks = b; at = refl })
