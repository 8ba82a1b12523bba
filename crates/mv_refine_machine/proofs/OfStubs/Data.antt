-- Globals that stand one behind the other in the data are loaded from their addresses.
use Rattle.std.proofs.Common.{◌≡◌, ℕ, zero, suc, ◌+◌, ◌-◌, ◌*◌, ◌/◌, ◌%◌, ◌^◌, ◌<◌, ◌≤◌, false, true, ltb, List, [], ◌∷◌, ◌++◌, length, map, take, sum, slice_get, Some, refl, sym, ap, ◌∙◌, subst, arith}
use Rattle.std.specs.List.{flat_map}
use Rattle.std.specs.Prelude.{slice_index, slice_index_or}
use Rattle.std.proofs.lemmas.List.Elements.{All-get_or}
use Rattle.std.proofs.lemmas.List.Sums.{sum_by-cons}
use Rattle.std.proofs.lemmas.Option.{slice_get_within, get_or_from_slice_get}
use Rattle.std.proofs.lemmas.Bool.{lt-ltb, le-ltb}
use Rattle.mv_fetch.specs.Held.{Held, region_of, index_of, present, part, load}
use Rattle.mv_image.specs.Spelling.{Fields}
use Rattle.mv_ir.specs.World.{World}
use Rattle.mv_rv32.specs.Stepping.{access as room_access}
use Rattle.mv_select.specs.Calls.Convention.{Layout, HoldsGlobals}
use Rattle.mv_select_code.specs.Control.Runs.{Machine}
use Rattle.mv_refine_machine.specs.Calm.{Rest}
use Rattle.mv_refine_machine.specs.MachineRuns.{access}
use Rattle.mv_refine_machine.specs.Stubs.Laws.{HoldsData}

-- ---- lists one behind the other

get_left : (xs ys : List ℕ) (i : ℕ) → i < length xs → slice_get (xs ++ ys) i ≡ Some (slice_index xs i)
get_left [] ys i h = absurd (omega (arith, h))
get_left (x ∷ xs) ys zero h = refl
get_left (x ∷ xs) ys (suc i) h = get_left xs ys i (omega (arith, h))

get_right : (xs ys : List ℕ) (i : ℕ) → slice_get (xs ++ ys) (length xs + i) ≡ slice_get ys i
get_right [] ys i = let e : 0 + i ≡ i = omega arith in ap (slice_get ys) e
get_right (x ∷ xs) ys i = let e : suc (length xs) + i ≡ suc (length xs + i) = omega arith in ap (slice_get (x ∷ xs ++ ys)) e ∙ get_right xs ys i

abbrev joined : List (List ℕ) → List ℕ
joined = flat_map (λ words. words)

abbrev before : List (List ℕ) → ℕ → ℕ
before lists g = sum (take g (map length lists))

there_in : (lists : List (List ℕ)) (g i : ℕ) → i < length (slice_index_or lists g []) → slice_get (joined lists) (before lists g + i) ≡ Some (slice_index (slice_index_or lists g []) i)
there_in [] g i h = absurd (omega (arith, h))
there_in (words ∷ lists) zero i h = let e : 0 + i ≡ i = omega arith in ap (slice_get (words ++ joined lists)) e ∙ get_left words (joined lists) i h
there_in (words ∷ lists) (suc g) i h =
    let first : before (words ∷ lists) (suc g) ≡ length words + before lists g = sum_by-cons (λ (x : ℕ). x) (length words) (take g (map length lists)) in
    let e : before (words ∷ lists) (suc g) + i ≡ length words + (before lists g + i) = omega (arith, first) in
    ap (slice_get (words ++ joined lists)) e ∙ get_right words (joined lists) (before lists g + i) ∙ there_in lists g i h

is_within : (lists : List (List ℕ)) (g i : ℕ) → i < length (slice_index_or lists g []) → g < length lists
is_within [] g i h = absurd (omega (arith, h))
is_within (words ∷ lists) zero i h = omega arith
is_within (words ∷ lists) (suc g) i h = let k = is_within lists g i h in omega (arith, k)

-- ---- loads of data

data_present : (h : Held) (a : ℕ) → 0x0010_0000 ≤ a → a < 0x0020_0000 → present h a ≡ slice_get h.globals ((a - 0x0010_0000) / 4)
unfolding present region_of index_of
data_present h a ge lt =
    let e : ltb a 0x1000 ≡ false = le-ltb a 0x1000 (omega (arith, ge)) in
    let f : ltb a 0x0010_0000 ≡ false = le-ltb a 0x0010_0000 ge in
    let g : ltb a 0x0020_0000 ≡ true = lt-ltb a 0x0020_0000 lt in rw (e, f, g) refl

load_is : (m : Rest) (a word : ℕ) → a % 4 ≡ 0 → present m.room.held a ≡ Some word → access.load m a 4 ≡ Some (part a 4 word)
unfolding access room_access load
load_is m a word aligned there = rw (aligned, there) refl

whole : (a word : ℕ) → a % 4 ≡ 0 → word < 2 ^ 32 → part a 4 word ≡ word
unfolding part
whole a word aligned lt = rw aligned (omega (arith, lt))

data_loads : (m : Rest) (k word : ℕ) → 4 * k < 0x0010_0000 → word < 2 ^ 32 → slice_get m.room.held.globals k ≡ Some word → access.load m (0x0010_0000 + 4 * k) 4 ≡ Some word
data_loads m k word lt small there =
    let a = 0x0010_0000 + 4 * k in
    let index : (a - 0x0010_0000) / 4 ≡ k = omega arith in
    let aligned : a % 4 ≡ 0 = omega arith in
    load_is m a word aligned (data_present m.room.held a (omega arith) (omega (arith, lt)) ∙ ap (slice_get m.room.held.globals) index ∙ there) ∙ ap Some (whole a word aligned small)

module _ (y : Layout) (image : Fields) (w : World) (data' : HoldsData y image w) (m : Rest) (same : m.room.held.globals ≡ image.globals) where
  abbrev words_of : ℕ → List ℕ
  words_of g = slice_index_or w.globals g []

  -- a word of a global, in memory
  record Word (g i : ℕ) : Type 0 where
    small : slice_index (words_of g) i < 2 ^ 32
    loads : access.load m (y.place g + 4 * i) 4 ≡ Some (slice_index (words_of g) i)

  word : (g i : ℕ) → i < y.size g → Word g i
  word g i lt =
      let lt' : i < length (words_of g) = let size = data'.sizes g in omega (arith, lt, size) in
      let k = before w.globals g + i in
      let there : slice_get image.globals k ≡ Some (slice_index (words_of g) i) = ap (λ l. slice_get l k) data'.are ∙ there_in w.globals g i lt' in
      let within : k < length image.globals = slice_get_within image.globals k (slice_index (words_of g) i) there in
      let small : slice_index (words_of g) i < 2 ^ 32 =
      subst (λ v. v < 2 ^ 32) (get_or_from_slice_get image.globals k (slice_index (words_of g) i) 0 there) (All-get_or (λ v. v < 2 ^ 32) image.globals k 0 within data'.words) in
      let room = data'.room in
      let place = data'.places g (is_within w.globals g i lt') in
      let at : y.place g + 4 * i ≡ 0x0010_0000 + 4 * k = omega (arith, place) in record {
        small = small;
        loads = ap (λ a. access.load m a 4) at ∙ data_loads m k (slice_index (words_of g) i) (omega (arith, within, room)) small (ap (λ l. slice_get l k) same ∙ there);
      }

  pub data_held : (machine : Machine Rest) (budget far : ℕ) → HoldsGlobals access y machine budget far w m
  data_held machine budget far = record {
    sizes = λ g. sym (data'.sizes g);
    words = λ g i lt. (word g i lt).small;
    loads = λ g i lt. (word g i lt).loads;
  }
