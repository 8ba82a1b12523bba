-- Different pointer switches stand behind different numbers of words, and have different places in the rooms of a body.
use Rattle.std.proofs.Common.{arith, ◌≡◌, ◌⊎◌, inl, inr, ℕ, zero, suc, ◌+◌, ◌*◌, ◌^◌, ◌<◌, ◌≤◌, Bool, true, false, cond, eqb, ◌||◌, All, List, [], ◌∷◌, Some, length, map, take, refl, sym, subst, ap, ◌∙◌}
use Rattle.std.specs.Prelude.{slice_get, sum, sum_by}
use Rattle.std.proofs.lemmas.Bool.{eqb-true}
use Rattle.std.proofs.lemmas.List.Elements.{All-head, All-tail}
use Rattle.std.proofs.lemmas.List.Sums.{sum_by-cons, sum_by-le}
use Rattle.mv_ast.specs.declared.program.Program.{Program}
use Rattle.mv_ast.specs.declared.program.Global.{Global}
use Rattle.mv_ast.specs.Counts.{is_pointer, words_of_size}
use Rattle.mv_num.specs.Limits.{element_limit}
use Rattle.mv_num.specs.Lists.{is_among}
use Rattle.mv_num.proofs.Booleans.{from_falsity}
use Rattle.mv_num.proofs.Lists.{sum_cons}
use Rattle.mv_ir.specs.declared.body.Room.{Room}
use Rattle.mv_ir.specs.WellFormed.{has_room}
use Rattle.mv_source_forms.specs.WellFormed.{IsWellFormed, IsWellFormedPointer}
use Rattle.mv_select_code.specs.Trees.Rooms.{place_in}
use Rattle.mv_lower_spec.specs.Functions.{address_behind, rooms_from}

abbrev size_of : Global → ℕ
size_of x = words_of_size x.size

-- ---- with two scalars among them, all globals have words below 2^32

abbrev AreSmall : List Global → Type 0
AreSmall xs = All (λ (x : Global). size_of x ≤ element_limit) xs

abbrev IsScalarAt : List Global → ℕ → Type 0
IsScalarAt xs i = (y : Global) × (slice_get xs i ≡ Some y) × (size_of y ≡ 1)

first_scalar : (x : Global) (xs : List Global) → IsScalarAt (x ∷ xs) 0 → size_of x ≡ 1
first_scalar x xs (y, there, one) = let same : x ≡ y = cc in ap size_of same ∙ one

one_scalar : (xs : List Global) (i : ℕ) → AreSmall xs → IsScalarAt xs i → sum_by size_of xs + element_limit ≤ length xs * element_limit + 1
one_scalar [] i small (y, there, one) = absurd (let bad : ⊥ = cc in bad)
one_scalar (x ∷ xs) zero small at =
    let first = first_scalar x xs at in
    let others = sum_by-le size_of element_limit xs (All-tail (λ (z : Global). size_of z ≤ element_limit) x xs small) in
    omega (arith, first, others, sum_by-cons size_of x xs)
one_scalar (x ∷ xs) (suc i) small at =
    let first = All-head (λ (z : Global). size_of z ≤ element_limit) x xs small in
    let others = one_scalar xs i (All-tail (λ (z : Global). size_of z ≤ element_limit) x xs small) at in
    omega (arith, first, others, sum_by-cons size_of x xs)

two_scalars : (xs : List Global) (i j : ℕ) → (i ≡ j → ⊥) → AreSmall xs → IsScalarAt xs i → IsScalarAt xs j → sum_by size_of xs + 2 * element_limit ≤ length xs * element_limit + 2
two_scalars [] i j other small (y, there, one) k = absurd (let bad : ⊥ = cc in bad)
two_scalars (x ∷ xs) zero zero other small h k = absurd (other refl)
two_scalars (x ∷ xs) zero (suc j) other small h k =
    let first = first_scalar x xs h in
    let others = one_scalar xs j (All-tail (λ (z : Global). size_of z ≤ element_limit) x xs small) k in
    omega (arith, first, others, sum_by-cons size_of x xs)
two_scalars (x ∷ xs) (suc i) zero other small h k =
    let first = first_scalar x xs k in
    let others = one_scalar xs i (All-tail (λ (z : Global). size_of z ≤ element_limit) x xs small) h in
    omega (arith, first, others, sum_by-cons size_of x xs)
two_scalars (x ∷ xs) (suc i) (suc j) other small h k =
    let first = All-head (λ (z : Global). size_of z ≤ element_limit) x xs small in
    let others = two_scalars xs i j (λ e. other (ap suc e)) (All-tail (λ (z : Global). size_of z ≤ element_limit) x xs small) h k in
    omega (arith, first, others, sum_by-cons size_of x xs)

-- ---- and stand behind different numbers of words

same_words : (xs : List Global) (i j : ℕ) → IsScalarAt xs i → IsScalarAt xs j → sum (take i (map size_of xs)) ≡ sum (take j (map size_of xs)) → i ≡ j
same_words [] i j (y, there, one) k e = absurd (let bad : ⊥ = cc in bad)
same_words (x ∷ xs) zero zero h k e = refl
same_words (x ∷ xs) zero (suc j) h k e =
    let first = first_scalar x xs h in absurd (omega (arith, first, e, sum_cons (size_of x) (take j (map size_of xs))))
same_words (x ∷ xs) (suc i) zero h k e =
    let first = first_scalar x xs k in absurd (omega (arith, first, e, sum_cons (size_of x) (take i (map size_of xs))))
same_words (x ∷ xs) (suc i) (suc j) h k e =
    ap suc (same_words xs i j h k (omega (arith, e, sum_cons (size_of x) (take i (map size_of xs)), sum_cons (size_of x) (take j (map size_of xs)))))

-- ---- rooms

-- their last word is below 2^32
abbrev Within : (before : ℕ) → List Global → Type 0
Within before xs = 0x0010_0000 + 4 * (before + sum_by size_of xs) < 2 ^ 32

address : (n : ℕ) → 0x0010_0000 + 4 * n < 2 ^ 32 → address_behind n ≡ 0x0010_0000 + 4 * n
address n lt = omega (arith, lt)

module _ (is_named : ℕ → Bool) where
  -- a global behind so many words has no room, or stands behind them
  abbrev Lies : (before : ℕ) → (has : Bool) (place : ℕ) → Type 0
  Lies before has place = ((has ≡ false) × (place ≡ 0)) ⊎ (0x0010_0000 + 4 * before ≤ place)

  lies : (from before : ℕ) (xs : List Global) → Within before xs → (k : ℕ) →
      Lies before (has_room (rooms_from is_named from before xs) k) (place_in (rooms_from is_named from before xs) k)
  lies from before [] within k = inl (refl, refl)
  lies from before (x ∷ xs) within k = by (is_named from) (lies (suc from) (before + size_of x) xs (omega (arith, within, sum_by-cons size_of x xs)) k)
    where
      rest : List Room
      rest = rooms_from is_named (suc from) (before + size_of x) xs

      first : Room
      first = record { global = from; at = address_behind before; size = size_of x }

      Later : Type 0
      Later = Lies (before + size_of x) (has_room rest k) (place_in rest k)

      further : Later → Lies before (has_room rest k) (place_in rest k)
      further (inl h) = inl h
      further (inr h) = inr (omega (arith, h))

      picked : (same : Bool) → Later → Lies before (same || has_room rest k) (cond same (address_behind before) (place_in rest k))
      picked true h = inr (omega (arith, address before (omega (arith, within))))
      picked false h = further h

      by : (named : Bool) → Later → Lies before (has_room (cond named (first ∷ rest) rest) k) (place_in (cond named (first ∷ rest) rest) k)
      by true h = picked (eqb from k) h
      by false h = further h

  -- of two different globals with words one has a room: then they have different places
  module _ (W : ℕ → Type 0) (x h : ℕ) (with_x : W x) (with_h : W h) (other : x ≡ h → ⊥) where
    abbrev Wide : (from : ℕ) → List Global → Type 0
    Wide from xs = (i : ℕ) (y : Global) → slice_get xs i ≡ Some y → W (from + i) → 1 ≤ size_of y

    abbrev Apart : List Room → Type 0
    Apart rooms = has_room rooms h ≡ true → place_in rooms x ≡ place_in rooms h → ⊥

    apart : (from before : ℕ) (xs : List Global) → Within before xs → Wide from xs → Apart (rooms_from is_named from before xs)
    apart from before [] within wide = λ there same. from_falsity there
    apart from before (y ∷ xs) within wide =
        by (is_named from)
        (apart (suc from) (before + size_of y) xs later (λ i z e w. wide (suc i) z e (subst W (let number : suc from + i ≡ from + suc i = omega arith in number) w)))
      where
        later : Within (before + size_of y) xs
        later = omega (arith, within, sum_by-cons size_of y xs)

        rest : List Room
        rest = rooms_from is_named (suc from) (before + size_of y) xs

        first : Room
        first = record { global = from; at = address_behind before; size = size_of y }

        LiesLater : ℕ → Type 0
        LiesLater k = Lies (before + size_of y) (has_room rest k) (place_in rest k)

        some : (k : ℕ) → eqb from k ≡ true → W k → 1 ≤ size_of y
        some k e w = wide 0 y refl (subst W (let number : k ≡ from + 0 = omega (arith, eqb-true from k e) in number) w)

        here : address_behind before ≡ 0x0010_0000 + 4 * before
        here = address before (omega (arith, within))

        -- the first of both stands here, and what else has a room stands behind it
        before_h : 1 ≤ size_of y → LiesLater h → has_room rest h ≡ true → address_behind before ≡ place_in rest h → ⊥
        before_h one (inl l) there same = from_falsity (sym l.0 ∙ there)
        before_h one (inr l) there same = omega (arith, one, l, here, same)

        before_x : 1 ≤ size_of y → LiesLater x → place_in rest x ≡ address_behind before → ⊥
        before_x one (inl l) same = omega (arith, l.1, here, same)
        before_x one (inr l) same = omega (arith, one, l, here, same)

        picked : (is_x is_h : Bool) → eqb from x ≡ is_x → eqb from h ≡ is_h → Apart rest →
            (is_h || has_room rest h) ≡ true → cond is_x (address_behind before) (place_in rest x) ≡ cond is_h (address_behind before) (place_in rest h) → ⊥
        picked true true e f k there same = other (sym (eqb-true from x e) ∙ eqb-true from h f)
        picked true false e f k there same = before_h (some x e with_x) (lies (suc from) (before + size_of y) xs later h) there same
        picked false true e f k there same = before_x (some h f with_h) (lies (suc from) (before + size_of y) xs later x) same
        picked false false e f k there same = k there same

        by : (named : Bool) → Apart rest → Apart (cond named (first ∷ rest) rest)
        by true k = picked (eqb from x) (eqb from h) refl refl k
        by false k = k

-- ---- pointer switches

one_pointer : (p : Program) (k : ℕ) (ps : List ℕ) → All (IsWellFormedPointer p) ps → is_among k ps ≡ true → IsWellFormedPointer p k
one_pointer p k [] all e = from_falsity e
one_pointer p k (x ∷ ps) all e = by (eqb k x) refl (one_pointer p k ps (All-tail (IsWellFormedPointer p) x ps all)) e
  where
    by : (z : Bool) → eqb k x ≡ z → (is_among k ps ≡ true → IsWellFormedPointer p k) → (z || is_among k ps) ≡ true → IsWellFormedPointer p k
    by true q later e = subst (IsWellFormedPointer p) (sym (eqb-true k x q)) (All-head (IsWellFormedPointer p) x ps all)
    by false q later e = later e

module _ (p : Program) (formed : IsWellFormed p) where
  pointer_there : (k : ℕ) → is_pointer p k ≡ true → IsScalarAt p.globals k
  pointer_there k e = let pointer = one_pointer p k p.pointers formed.pointers e in (pointer.global, pointer.there, ap words_of_size pointer.scalar)

  pub words_apart : (x y : ℕ) → is_pointer p x ≡ true → is_pointer p y ≡ true → sum (take x (map size_of p.globals)) ≡ sum (take y (map size_of p.globals)) → x ≡ y
  words_apart x y is_x is_y e = same_words p.globals x y (pointer_there x is_x) (pointer_there y is_y) e

  pub places_apart : (is_named : ℕ → Bool) (x h : ℕ) → is_pointer p x ≡ true → is_pointer p h ≡ true → (x ≡ h → ⊥) → has_room (rooms_from is_named 0 0 p.globals) h ≡ true →
      place_in (rooms_from is_named 0 0 p.globals) x ≡ place_in (rooms_from is_named 0 0 p.globals) h → ⊥
  places_apart is_named x h is_x is_h other =
      let words = two_scalars p.globals x h other formed.limits.global_elements (pointer_there x is_x) (pointer_there h is_h) in
      let few = formed.limits.globals in
      apart is_named (λ k. is_pointer p k ≡ true) x h is_x is_h other 0 0 p.globals (omega (arith, words, few)) wide
    where
      wide : (i : ℕ) (y : Global) → slice_get p.globals i ≡ Some y → is_pointer p (0 + i) ≡ true → 1 ≤ size_of y
      wide i y there e =
          let number : 0 + i ≡ i = omega arith in
          let (z, at, one) = pointer_there i (subst (λ k. is_pointer p k ≡ true) number e) in
          let same : y ≡ z = cc in
          omega (arith, one, ap size_of same)
