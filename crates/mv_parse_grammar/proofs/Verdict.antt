-- What is read tells what the tokens are: a unit and no other, or where they break off.
use Rattle.std.proofs.Common.{◌≡◌, ℕ, zero, suc, ◌+◌, ◌-◌, ◌<◌, true, false, cond, Option, Some, None, List, [], ◌∷◌, ◌++◌, length, drop, refl, sym, ap, subst, ◌∙◌, arith, length-append}
use Rattle.std.specs.Prelude.{nat_eq, nat_lt}
use Rattle.std.proofs.lemmas.List.{append-nil}
use Rattle.std.proofs.Math.Seq.{drop-append_seam}
use Rattle.std.proofs.lemmas.Bool.Decides.{nat_tests}
use Rattle.mv_syntax.specs.declared.place.Place.{Place}
use Rattle.mv_syntax.specs.declared.token.Token.{Token}
use Rattle.mv_syntax.specs.declared.token.Tokens.{Tokens}
use Rattle.mv_syntax.specs.declared.unit.Item.{Item}
use Rattle.mv_syntax.specs.declared.unit.Unit as unit
use Rattle.mv_parse_grammar.specs.Terminals.{Terminal, terminals}
use Rattle.mv_parse_grammar.specs.Language as L
use Rattle.mv_parse_grammar.specs.Reader as R
use Rattle.mv_parse_grammar.specs.Reader.{Read, Deep, next}
use Rattle.mv_parse_grammar.specs.Units.{AreItems, items}
use Rattle.mv_parse_grammar.specs.UnitReader as M
use Rattle.mv_parse_grammar.specs.Reading.{Reads, Exactly, Ends, Breaks, BreaksAt, place_or, place_or_end, place_left, bound}
use Rattle.mv_parse_grammar.proofs.Exact.{Got, Lost, Found, none_next}
use Rattle.mv_parse_grammar.proofs.ExpressionExactness.{deep}
use Rattle.mv_parse_grammar.proofs.UnitExactness.{unit_exact}
use Rattle.std.proofs.lemmas.Bool.{or_left, or_from}

nothing_left : (r : List Terminal) → next (λ _. true) r ≡ false → r ≡ []
nothing_left [] h = refl
nothing_left (t ∷ r) h = absurd (cc)

-- what is read to the end is what the terminals are
found : (n : ℕ) (ts : List Terminal) (xs : List Item) (o : Option (List Item)) (r : List Terminal) → AreItems ts xs → M.unit n ts ≡ R.Ends o r → o ≡ Some xs
found n ts xs o r h e =
    go o (subst (λ z. Found z xs []) e (subst (λ z. Found (M.unit n z) xs []) (append-nil ts) ((unit_exact n h.depth).complete xs ts [] h.phrases refl refl)))
  where
    go : (o : Option (List Item)) → Found (R.Ends o r) xs [] → o ≡ Some xs
    go None u = absurd u
    go (Some x) u = ap Some u.0

-- what is read are items
pub read_items : (n : ℕ) (ts : List Terminal) (xs : List Item) (r : List Terminal) → M.unit n ts ≡ R.Ends (Some xs) r → AreItems ts xs
read_items n ts xs r e =
    let g : Got (L.chain (L.pushed (items (deep n))) []) (λ _ _. true) ts xs r = (unit_exact n zero).judged ts (Some xs) r (none_next ts) e in
    let k : ts ≡ g.front = g.whole ∙ (ap (λ z. g.front ++ z) (nothing_left r g.stop) ∙ append-nil g.front) in
    record { depth = deep n; phrases = subst (λ z. L.chain (L.pushed (items (deep n))) [] xs z) (sym k) g.phrase }

unit_same : (u v : unit.Unit) → u.items ≡ v.items → u.end ≡ v.end → u ≡ v
unit_same u v h k = ap (λ z. unit_of z u.end) h ∙ ap (unit_of v.items) k
  where
    unit_of : List Item → Place → unit.Unit
    unit_of xs p = record { items = xs; end = p }

-- where the reading has an answer, the tokens are this unit alone
pub whole : (text : List ℕ) (tokens : Tokens) (n : ℕ) (u : unit.Unit) (r : List Terminal) → M.unit n (terminals text tokens.items) ≡ R.Ends (Some u.items) r → u.end ≡ tokens.end → Exactly text tokens u
whole text tokens n u r e p = record {
  reads = record { items = read_items n (terminals text tokens.items) u.items r e; end = p };
  only = λ other h. let s : Some u.items ≡ Some other.items = found n (terminals text tokens.items) other.items (Some u.items) r h.items e in let q : other.items ≡ u.items = cc in unit_same other u q (h.end ∙ sym p);
}

ends_there : (n : ℕ) (ts before rest : List Terminal) → ts ≡ before ++ rest → M.unit n ts ≡ R.Ends None rest → Ends before rest
ends_there n ts before [] w e = λ xs h.
    let u : None ≡ Some xs = found n before xs None [] h (ap (M.unit n) (sym (append-nil before) ∙ sym w) ∙ e) in absurd (cc)
ends_there n ts before (t ∷ q) w e = λ q' xs h.
    let k : M.unit n (before ++ (t ∷ q')) ≡ R.Ends None (t ∷ q') = (unit_exact n zero).local before t q q' None [] (none_next (before ++ (t ∷ q))) (ap (M.unit n) (sym w) ∙ e) in
    let u : None ≡ Some xs = found n (before ++ (t ∷ q')) xs None (t ∷ q') h k in absurd (cc)

-- where it has none, they break off there
pub broken : (n : ℕ) (ts rest : List Terminal) → M.unit n ts ≡ R.Ends None rest → Breaks ts (length rest)
broken n ts rest e =
    let g : Lost (L.chain (L.pushed (items (deep n))) []) ts rest = (unit_exact n zero).judged ts None rest (none_next ts) e in
    record {
      before = g.front;
      rest = rest;
      whole = g.whole;
      count = refl;
      begins = record { more = g.rest; items = g.value; reads = record { depth = deep n; phrases = g.phrase } };
      ends = ends_there n ts g.front rest g.whole e;
    }

-- and at this bound it has one or the other
pub enough : (ts : List Terminal) → M.unit (bound (length ts)) ts ≡ Deep → ⊥
enough ts e = (unit_exact (bound (length ts)) zero).total ts (none_next ts) (record { enough = omega arith }) e

items_same : (ts : List Terminal) (xs ys : List Item) → AreItems ts xs → AreItems ts ys → xs ≡ ys
items_same ts xs ys h k = go (M.unit (bound (length ts)) ts) refl
  where
    go : (read : Read (List Item)) → M.unit (bound (length ts)) ts ≡ read → xs ≡ ys
    go Deep e = absurd (enough ts e)
    go (R.Ends o r) e =
        let u : o ≡ Some xs = found (bound (length ts)) ts xs o r h e in
        let v : o ≡ Some ys = found (bound (length ts)) ts ys o r k e in
        cc

-- the same tokens are no two units
pub one_reading : (text : List ℕ) (tokens : Tokens) (u v : unit.Unit) → Reads text tokens u → Reads text tokens v → u ≡ v
one_reading text tokens u v h k = unit_same u v (items_same (terminals text tokens.items) u.items v.items h.items k.items) (h.end ∙ sym k.end)

-- places

pub length_terminals : (text : List ℕ) (ts : List Token) → length (terminals text ts) ≡ length ts
length_terminals text [] = refl
length_terminals text (t ∷ ts) = ap suc (length_terminals text ts)

none_left : (left : ℕ) → left ≡ 0 → nat_eq left 0 ≡ true
none_left left h = grind (arith, nat_tests)

some_left : (left n : ℕ) → 0 < left → left < suc n → (nat_eq left 0 ≡ false) × (nat_lt n left ≡ false)
some_left left n h k = (a left h, b left n k)
  where
    a : (left : ℕ) → 0 < left → nat_eq left 0 ≡ false
    a left h = grind (arith, nat_tests)

    b : (left n : ℕ) → left < suc n → nat_lt n left ≡ false
    b left n h = grind (arith, nat_tests)

-- tokens without the first of them
dropped : (text : List ℕ) (k : ℕ) (ts : List Token) (end : Place) → place_or_end (drop k ts) end ≡ place_or (drop k (terminals text ts)) end
dropped text zero [] end = refl
dropped text zero (t ∷ ts) end = refl
dropped text (suc k) [] end = refl
dropped text (suc k) (t ∷ ts) end = dropped text k ts end

placed : (text : List ℕ) (items : List Token) (before rest : List Terminal) (left : ℕ) (end : Place) → terminals text items ≡ before ++ rest → left ≡ length rest → place_left items left end ≡ place_or rest end
placed text items before [] left end w e =
    ap (λ v. cond v end (place_or_end (drop (length items - left) items) end)) (or_left (nat_eq left 0) (nat_lt (length items) left) (none_left left e))
placed text items before (t ∷ q) left end w e =
    let l : length (terminals text items) ≡ length before + length (t ∷ q) = ap length w ∙ length-append before (t ∷ q) in
    let s : length (terminals text items) ≡ length items = length_terminals text items in
    let k : (nat_eq left 0 ≡ false) × (nat_lt (length items) left ≡ false) = some_left left (length items) (omega arith) (omega arith) in
    let m : length items - left ≡ length before = omega arith in
    ap (λ v. cond v end (place_or_end (drop (length items - left) items) end)) (or_from (nat_eq left 0) (nat_lt (length items) left) k.0 k.1)
    ∙ (ap (λ n. place_or_end (drop n items) end) m
    ∙ (dropped text (length before) items end
    ∙ (ap (λ z. place_or (drop (length before) z) end) w
    ∙ ap (λ z. place_or z end) (drop-append_seam before (t ∷ q)))))

-- the place where tokens break off, told by how many are left
pub breaks_at : (text : List ℕ) (tokens : Tokens) (left : ℕ) (place : Place) → Breaks (terminals text tokens.items) left → place ≡ place_left tokens.items left tokens.end → BreaksAt text tokens place
breaks_at text tokens left place b p =
    record { left = left; breaks = b; at = p ∙ placed text tokens.items b.before b.rest left tokens.end b.whole b.count }
