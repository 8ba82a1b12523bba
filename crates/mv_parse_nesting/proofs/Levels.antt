-- The first level above a limit, by the level of the first token.
use Rattle.std.proofs.Common.{◌≡◌, ℕ, zero, suc, ◌<◌, ◌≤◌, List, ◌∷◌, length, slice_index, get_or, All, refl, sym, subst, arith}
use Rattle.mv_syntax.specs.declared.place.Place.{Place}
use Rattle.mv_syntax.specs.declared.token.Token.{Token}
use Rattle.mv_parse_nesting.specs.Nesting.{Pairs, IsFirstAbove, after_piece, goes_on, level_of, levels_from}

pub above_here : (limit level : ℕ) (levels : List ℕ) (t : Token) (ts : List Token) → limit < level → IsFirstAbove limit (level ∷ levels) (t ∷ ts) t.place
above_here limit level levels t ts h = record {
  index = 0;
  in_range = omega arith;
  above = h;
  first = λ k l. absurd (omega (arith, l));
  at = refl;
}

pub above_later : (limit level : ℕ) (levels : List ℕ) (t : Token) (ts : List Token) (place : Place) → level ≤ limit → IsFirstAbove limit levels ts place → IsFirstAbove limit (level ∷ levels) (t ∷ ts) place
above_later limit level levels t ts place h a = record {
  index = suc a.index;
  in_range = let r : a.index < length ts = a.in_range in omega (arith, r);
  above = a.above;
  first = go;
  at = a.at;
}
  where
    go : (k : ℕ) → k < suc a.index → slice_index (level ∷ levels) k ≤ limit
    go zero l = h
    go (suc k) l = a.first k (omega (arith, l))

-- the level at the first token, where s and then s' are the counters

pub here : (s s' : Pairs) (ts : List Token) (t : Token) (rest : List Token) → ts ≡ t ∷ rest → s' ≡ after_piece t.what (goes_on rest) s → 255 < level_of s'
    → IsFirstAbove 255 (levels_from s ts) ts t.place
here s s' ts t rest e f h =
    subst (λ z. IsFirstAbove 255 (levels_from s z) z t.place) (sym e)
    (subst (λ z. IsFirstAbove 255 (level_of z ∷ levels_from z rest) (t ∷ rest) t.place) f (above_here 255 (level_of s') (levels_from s' rest) t rest h))

pub later : (s s' : Pairs) (ts : List Token) (t : Token) (rest : List Token) (place : Place) → ts ≡ t ∷ rest → s' ≡ after_piece t.what (goes_on rest) s → level_of s' ≤ 255
    → IsFirstAbove 255 (levels_from s' rest) rest place → IsFirstAbove 255 (levels_from s ts) ts place
later s s' ts t rest place e f h a =
    subst (λ z. IsFirstAbove 255 (levels_from s z) z place) (sym e)
    (subst (λ z. IsFirstAbove 255 (level_of z ∷ levels_from z rest) (t ∷ rest) place) f (above_later 255 (level_of s') (levels_from s' rest) t rest place h a))

all_later : (limit level : ℕ) (levels : List ℕ) → level ≤ limit → All (λ l. l ≤ limit) levels → All (λ l. l ≤ limit) (level ∷ levels)
all_later limit level levels h a = go
  where
    go : (k d : ℕ) → k < suc (length levels) → get_or (level ∷ levels) k d ≤ limit
    go zero d l = h
    go (suc k) d l = a k d (omega (arith, l))

pub shallow : (s s' : Pairs) (ts : List Token) (t : Token) (rest : List Token) → ts ≡ t ∷ rest → s' ≡ after_piece t.what (goes_on rest) s → level_of s' ≤ 255
    → All (λ level. level ≤ 255) (levels_from s' rest) → All (λ level. level ≤ 255) (levels_from s ts)
shallow s s' ts t rest e f h a =
    subst (λ z. All (λ level. level ≤ 255) (levels_from s z)) (sym e)
    (subst (λ z. All (λ level. level ≤ 255) (level_of z ∷ levels_from z rest)) f (all_later 255 (level_of s') (levels_from s' rest) h a))
