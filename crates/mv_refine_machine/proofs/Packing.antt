-- Globals and arrays that stand one behind the other are laid out.
use Rattle.std.proofs.Common.{◌≡◌, ⊎_elim, ℕ, ◌+◌, ◌*◌, ◌<◌, ◌≤◌, max, List, length, get_or, take, sum, ap, arith}
use Rattle.std.proofs.lemmas.Bool.{cases_lt}
use Rattle.std.proofs.lemmas.List.{take-take, get_or-take, get_or_past, length-take-le}
use Rattle.std.proofs.lemmas.List.Sums.{sum_by_more_le}
use Rattle.mv_select_code.specs.Statements.Frames.{Site}
use Rattle.mv_refine_machine.specs.Layout.{IsPacked, IsLaidOut}

-- a size that isn't 0 is one of the list
listed : (xs : List ℕ) (i : ℕ) → 0 < get_or xs i 0 → i < length xs
listed xs i some = ⊎_elim (λ (lt : i < length xs). lt) (λ (past : length xs ≤ i). let none = get_or_past xs i 0 past in absurd (omega (arith, some, none))) (cases_lt i (length xs))

-- what stands before the next one
before_all : (xs : List ℕ) (i : ℕ) → i < length xs → sum (take i xs) + get_or xs i 0 ≤ sum xs
before_all xs i lt = sum_by_more_le (λ x. x) xs i 0 lt

before_later : (xs : List ℕ) (i j : ℕ) → i < j → j ≤ length xs → sum (take i xs) + get_or xs i 0 ≤ sum (take j xs)
before_later xs i j lt le =
    let count : length (take j xs) ≡ j = length-take-le j xs le in
    let all = before_all (take j xs) i (omega (arith, lt, count)) in
    let front : take i (take j xs) ≡ take i xs = take-take i j xs (omega (arith, lt)) in
    let here : get_or (take j xs) i 0 ≡ get_or xs i 0 = get_or-take j xs i 0 lt in
    let sums = ap sum front in omega (arith, all, sums, here)

max_least : (n : ℕ) → (9 ≤ max 9 n) × (n ≤ max 9 n)
max_least n = (omega arith, omega arith)

max_above : (n : ℕ) → 9 < n → max 9 n ≡ n
max_above n lt = omega arith

module _ (globals arrays : List ℕ) (bytes : ℕ) (s : Site) (h : IsPacked globals arrays bytes s) where
  global_listed : (g : ℕ) → 0 < s.size g → g < length globals
  global_listed g some = let size = h.sizes g in listed globals g (omega (arith, some, size))

  array_listed : (a : ℕ) → 0 < s.array_size a → a < length arrays
  array_listed a some = let size = h.array_sizes a in listed arrays a (omega (arith, some, size))

  data_begins : (g : ℕ) → 0 < s.size g → 0x0010_0000 ≤ s.seats.place g
  data_begins g some = let place = h.places g (global_listed g some) in omega (arith, place)

  data_ends : (g : ℕ) → 0 < s.size g → s.seats.place g + 4 * s.size g ≤ 0x0020_0000
  data_ends g some =
      let there = global_listed g some in
      let place = h.places g there in let size = h.sizes g in let all = before_all globals g there in let fits = h.data_fits in omega (arith, place, size, all, fits)

  globals_ascend : (f g : ℕ) → f < g → 0 < s.size f → 0 < s.size g → s.seats.place f + 4 * s.size f ≤ s.seats.place g
  globals_ascend f g lt some more =
      let there = global_listed g more in
      let place = h.places f (global_listed f some) in let later = h.places g there in let size = h.sizes f in
      let before = before_later globals f g lt (omega (arith, there)) in omega (arith, place, later, size, before)

  temps_end : 9 < s.temps → 4 * (s.temps + 1) ≤ bytes
  temps_end lt = let fits = h.frame_fits in let top = max_above s.temps lt in omega (arith, fits, top)

  arrays_behind_saved : (a : ℕ) → 0 < s.array_size a → 40 ≤ s.array_at a
  arrays_behind_saved a some = let at = h.array_places a (array_listed a some) in let top = (max_least s.temps).0 in omega (arith, at, top)

  arrays_behind_temps : (a : ℕ) → 0 < s.array_size a → 4 * (s.temps + 1) ≤ s.array_at a
  arrays_behind_temps a some = let at = h.array_places a (array_listed a some) in let top = (max_least s.temps).1 in omega (arith, at, top)

  arrays_end : (a : ℕ) → 0 < s.array_size a → s.array_at a + 4 * s.array_size a ≤ bytes
  arrays_end a some =
      let there = array_listed a some in
      let at = h.array_places a there in let size = h.array_sizes a in let all = before_all arrays a there in let fits = h.frame_fits in omega (arith, at, size, all, fits)

  arrays_ascend : (a b : ℕ) → a < b → 0 < s.array_size a → 0 < s.array_size b → s.array_at a + 4 * s.array_size a ≤ s.array_at b
  arrays_ascend a b lt some more =
      let there = array_listed b more in
      let at = h.array_places a (array_listed a some) in let later = h.array_places b there in let size = h.array_sizes a in
      let before = before_later arrays a b lt (omega (arith, there)) in omega (arith, at, later, size, before)

  pub packed : IsLaidOut bytes s
  packed = record {
    data_begins = data_begins;
    data_ends = data_ends;
    globals_ascend = globals_ascend;
    stack_begins = h.stack_begins;
    stack_ends = h.stack_ends;
    temps_end = temps_end;
    arrays_behind_saved = arrays_behind_saved;
    arrays_behind_temps = arrays_behind_temps;
    arrays_end = arrays_end;
    arrays_ascend = arrays_ascend;
    kept = h.kept;
  }
