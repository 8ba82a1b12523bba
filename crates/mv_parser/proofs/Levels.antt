-- Levels are all within the limit, or there is one first token that is too deep.
use Rattle.std.proofs.Common.{◌≡◌, ℕ, suc, ◌<◌, ◌≤◌, List, [], ◌∷◌, ◌⊎◌, inl, inr, length, drop, slice_index, refl, sym, ap, ◌∙◌, arith}
use Rattle.std.proofs.lemmas.Bool.{cases_lt}
use Rattle.mv_syntax.specs.declared.place.Place.{Place}
use Rattle.mv_syntax.specs.declared.token.Token.{Token}
use Rattle.mv_syntax.specs.declared.token.Tokens.{Tokens}
use Rattle.mv_parse_nesting.specs.Nesting.{Pairs, after_piece, goes_on, levels_from, levels, start, place_of}
use Rattle.mv_parser.specs.Verdict.{IsShallow, IsTooDeep}

length_levels : (s : Pairs) (ts : List Token) → length (levels_from s ts) ≡ length ts
length_levels s [] = refl
length_levels s (t ∷ ts) = ap suc (length_levels (after_piece t.what (goes_on ts) s) ts)

pub never_both : (tokens : Tokens) (place : Place) → IsShallow tokens → IsTooDeep tokens place → ⊥
never_both tokens place s d =
    let n : length (levels tokens.items) ≡ length tokens.items = length_levels start tokens.items in
    let i : d.index < length tokens.items = d.in_range in
    let a : 255 < slice_index (levels tokens.items) d.index = d.above in
    let b : slice_index (levels tokens.items) d.index ≤ 255 = s d.index 0 (omega arith) in
    absurd (omega arith)

one_index : (xs : List ℕ) (i j : ℕ) → 255 < slice_index xs i → 255 < slice_index xs j → ((k : ℕ) → k < i → slice_index xs k ≤ 255) → ((k : ℕ) → k < j → slice_index xs k ≤ 255) → i ≡ j
one_index xs i j h k f g = go (cases_lt i j) (cases_lt j i)
  where
    go : (i < j) ⊎ (j ≤ i) → (j < i) ⊎ (i ≤ j) → i ≡ j
    go (inl l) q = let a : slice_index xs i ≤ 255 = g i l in absurd (omega arith)
    go (inr l) (inl m) = let a : slice_index xs j ≤ 255 = f j m in absurd (omega arith)
    go (inr l) (inr m) = omega arith

pub one_place : (tokens : Tokens) (place other : Place) → IsTooDeep tokens place → IsTooDeep tokens other → place ≡ other
one_place tokens place other d e =
    let i : d.index ≡ e.index = one_index (levels tokens.items) d.index e.index d.above e.above d.first e.first in
    d.at ∙ (ap (λ n. place_of (drop n tokens.items)) i ∙ sym e.at)
