-- What it is for the tokens of a source to be a translation unit, and where tokens that are none break off.
use Rattle.std.specs.Prelude.{◌≡◌, ◌≤◌, ℕ, ◌-◌, ◌+◌, ◌*◌, ◌==◌, ◌||◌, nat_lt, if◌then◌else◌, List, [], ◌∷◌, ◌++◌, length, drop}
use Rattle.mv_syntax.specs.declared.place.Place.{Place}
use Rattle.mv_syntax.specs.declared.token.Token.{Token}
use Rattle.mv_syntax.specs.declared.token.Tokens.{Tokens}
use Rattle.mv_syntax.specs.declared.unit.Item.{Item}
use Rattle.mv_syntax.specs.declared.unit.Unit as unit
use Rattle.mv_parse_grammar.specs.Terminals.{Terminal, terminals}
use Rattle.mv_parse_grammar.specs.Units.{AreItems}

-- the tokens of a source are this unit
pub record Reads (text : List ℕ) (tokens : Tokens) (u : unit.Unit) : Type 0 where
  pub items : AreItems (terminals text tokens.items) u.items
  pub end : u.end ≡ tokens.end

-- the tokens are this unit and no other
pub record Exactly (text : List ℕ) (tokens : Tokens) (u : unit.Unit) : Type 0 where
  pub reads : Reads text tokens u
  pub only : (other : unit.Unit) → Reads text tokens other → other ≡ u

-- with some more terminals these are a unit
pub record Begins (before : List Terminal) : Type 0 where
  pub more : List Terminal
  pub items : List Item
  pub reads : AreItems (before ++ more) items

-- With the next terminal, whatever follows it, or with the end, there is no unit.
abbrev pub Ends : List Terminal → List Terminal → Type 0
Ends before [] = (items : List Item) → AreItems before items → ⊥
Ends before (t ∷ rest) = (more : List Terminal) (items : List Item) → AreItems (before ++ t ∷ more) items → ⊥

-- The terminals before a place begin a unit, and those up to and with it begin none. From the place on so many are left.
pub record Breaks (ts : List Terminal) (left : ℕ) : Type 0 where
  pub before : List Terminal
  pub rest : List Terminal
  pub whole : ts ≡ before ++ rest
  pub count : left ≡ length rest
  pub begins : Begins before
  pub ends : Ends before rest

-- the place of the first of these terminals, or the end
abbrev pub place_or : List Terminal → Place → Place
place_or [] end = end
place_or (t ∷ ts) end = t.place

-- the place where the tokens break off
pub record BreaksAt (text : List ℕ) (tokens : Tokens) (place : Place) : Type 0 where
  pub left : ℕ
  pub breaks : Breaks (terminals text tokens.items) left
  pub at : place ≡ place_or breaks.rest tokens.end

abbrev pub place_or_end : List Token → Place → Place
place_or_end [] end = end
place_or_end (t ∷ ts) end = t.place

-- the place from which so many tokens are left
abbrev pub place_left : List Token → ℕ → Place → Place
place_left tokens left end = if left == 0 || nat_lt (length tokens) left then end else place_or_end (drop (length tokens - left) tokens) end

-- a bound at which a reading of so many terminals isn't too deep
abbrev pub bound : ℕ → ℕ
bound count = 3 * count + 5

-- each of these tokens ends within a text of this length
abbrev pub AreWithin : ℕ → List Token → Type 0
AreWithin size [] = Unit {0}
AreWithin size (t ∷ ts) = (t.stop ≤ size) × AreWithin size ts

-- With some more text, which leaves these tokens as they are, and some more tokens, there is a unit.
pub record BeginsIn (text : List ℕ) (before : List Token) : Type 0 where
  pub extra : List ℕ
  pub more : List Token
  pub items : List Item
  pub kept : terminals (text ++ extra) before ≡ terminals text before
  pub reads : AreItems (terminals (text ++ extra) (before ++ more)) items
