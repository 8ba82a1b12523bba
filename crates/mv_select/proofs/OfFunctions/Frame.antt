-- The frame of a function: where its cells stand, and that they stand apart.
use Rattle.std.proofs.Common.{◌≡◌, inl, inr, ⊎_elim, ℕ, zero, suc, ◌+◌, ◌*◌, ◌%◌, ◌^◌, ◌<◌, ◌≤◌, ◌⊎◌, Bool, true, false, not, ◌&&◌, ◌||◌, cond, eqb, ltb, max, List, [], ◌∷◌, length, slice_index, None, refl, sym, ap, ◌∙◌, subst, arith}
use Rattle.std.proofs.Math.Nat.{le-max_left, le-max_right}
use Rattle.std.proofs.lemmas.Bool.{cases_lt, eqb-true, ltb-true, ltb-false, lt-ltb, le-ltb, eq-eqb, ne_eqb, not-true}
use Rattle.mv_bindings.specs.Traps.{depth_limit}
use Rattle.mv_isa.specs.Code.{IsPlace}
use Rattle.mv_isa.specs.Execution.{Access}
use Rattle.mv_ir.specs.declared.body.Body.{Body}
use Rattle.mv_ir.specs.declared.stm.Array.{Array}
use Rattle.mv_ir.specs.declared.stm.Array.TheVariants as array
use Rattle.mv_ir.specs.World as ir
use Rattle.mv_ir.specs.Measures.{total}
use Rattle.mv_ir.specs.Trees.{found}
use Rattle.mv_select_code.specs.Trees.TreeCode.{temp_offset, register_of}
use Rattle.mv_select_code.specs.declared.trees.places.Keeping.{Keeping}
use Rattle.mv_select_code.specs.declared.trees.places.Keeping.TheVariants.{Saved, Arguments, Mixed}
use Rattle.mv_select_code.proofs.OfTrees.KeepingSeats.{keeping_seats}
use Rattle.mv_select_code.specs.Statements.Frames.{Site, Cell, TempCell, Element, Kept, IsThere, address, size_of, LeavesAlone, Stored, IsFit, Reach, IsLoaded}
use Rattle.mv_select_code.specs.Control.Runs.{Machine}
use Rattle.mv_select.specs.Calls.Convention.{Layout, IsAbove, frame_limit}
use Rattle.mv_select.specs.Calls.Laws.{IsOfFrame, IsCaller}
use Rattle.mv_select.specs.Functions.FunctionCode.{words_before, Shape, HasPins, seated_of, bytes_of, is_left_by}
use Rattle.mv_select.specs.Functions.Pins.{ArePins, first_pin, pins_of}
use Rattle.mv_select.specs.Functions.Functions as functions
use Rattle.mv_select.specs.Functions.Functions.{IsStack, IsWord, IsLaid, IsMemory, StandsInWords, asks_by, site_of, IsAmple}
use Rattle.mv_select.proofs.OfFunctions.Pins.{first_past, pins_off_temps, pins_off_result, pins_saved, pins_within}
use Rattle.mv_select.proofs.OfFunctions.Seats.{saves, SeatsSaved, LeftSaved, seats_saved, left_saved, unseated, stack_left, counters_left, left_real, left_result, left_scratch, left_temps}
use Rattle.mv_num.proofs.Booleans.{and_right, and_left, or_true, or_cases}

-- ---- arrays in a row

-- an element stands behind the arrays before its own, and within all of them
element_within : (sizes : List ℕ) (a i : ℕ) → i < slice_index sizes a → words_before sizes a + i < total sizes
element_within [] a i h = absurd (omega (arith, h))
element_within (n ∷ sizes) zero i h = omega (arith, h)
element_within (n ∷ sizes) (suc a) i h = omega (arith, element_within sizes a i h)

element_unique : (sizes : List ℕ) (a b i j : ℕ) → i < slice_index sizes a → j < slice_index sizes b → words_before sizes a + i ≡ words_before sizes b + j → (a ≡ b) × (i ≡ j)
element_unique [] a b i j h k e = absurd (omega (arith, h))
element_unique (n ∷ sizes) zero zero i j h k e = (refl, omega (arith, e))
element_unique (n ∷ sizes) zero (suc b) i j h k e = absurd (omega (arith, h, e))
element_unique (n ∷ sizes) (suc a) zero i j h k e = absurd (omega (arith, k, e))
element_unique (n ∷ sizes) (suc a) (suc b) i j h k e = let r = element_unique sizes a b i j h k (omega (arith, e)) in (ap suc r.0, r.1)

size_within : (sizes : List ℕ) (a : ℕ) → slice_index sizes a ≤ total sizes
size_within [] a = omega arith
size_within (n ∷ sizes) zero = omega arith
size_within (n ∷ sizes) (suc a) = omega (arith, size_within sizes a)

-- ---- what a frame is to leave alone

abbrev pub is_between : (from to b : ℕ) → Bool
is_between from to b = not (ltb b from) && ltb b to

-- the words of saved registers, as far as they go, and the stack from the caller's sp up
abbrev pub keeps : (sp stop caller top b : ℕ) → Bool
keeps sp stop caller top b = eqb (b % 4) 0 && (is_between sp stop b || is_between caller top b)

between : (from to b : ℕ) → is_between from to b ≡ true → (from ≤ b) × (b < to)
between from to b e = (ltb-false b from (not-true (ltb b from) (and_left (not (ltb b from)) (ltb b to) e)), ltb-true b to (and_right (not (ltb b from)) (ltb b to) e))

is_between_true : (from to b : ℕ) → from ≤ b → b < to → is_between from to b ≡ true
is_between_true from to b low high = ap (λ x. not x && ltb b to) (le-ltb b from low) ∙ lt-ltb b to high

kept_cases : (sp stop caller top b : ℕ) → keeps sp stop caller top b ≡ true → (b % 4 ≡ 0) × (((sp ≤ b) × (b < stop)) ⊎ ((caller ≤ b) × (b < top)))
kept_cases sp stop caller top b e = (
  eqb-true (b % 4) 0 (and_left (eqb (b % 4) 0) (is_between sp stop b || is_between caller top b) e),
  ⊎_elim (λ (h : is_between sp stop b ≡ true). inl (between sp stop b h)) (λ (h : is_between caller top b ≡ true). inr (between caller top b h))
      (or_cases (is_between sp stop b) (is_between caller top b) (and_right (eqb (b % 4) 0) (is_between sp stop b || is_between caller top b) e)),
)

pub kept_low : (sp stop caller top b : ℕ) → b % 4 ≡ 0 → sp ≤ b → b < stop → keeps sp stop caller top b ≡ true
kept_low sp stop caller top b even low high =
    ap (λ x. x && (is_between sp stop b || is_between caller top b)) (eq-eqb (b % 4) 0 even) ∙ ap (λ x. x || is_between caller top b) (is_between_true sp stop b low high)

pub kept_high : (sp stop caller top b : ℕ) → b % 4 ≡ 0 → caller ≤ b → b < top → keeps sp stop caller top b ≡ true
kept_high sp stop caller top b even low high =
    ap (λ x. x && (is_between sp stop b || is_between caller top b)) (eq-eqb (b % 4) 0 even) ∙ ap (λ x. is_between sp stop b || x) (is_between_true caller top b low high)
    ∙ or_true (is_between sp stop b)

-- ---- a frame

pub temp_is : (t : ℕ) → temp_offset t ≡ 4 * (t + 1)
unfolding temp_offset
temp_is t = refl

-- by how many bytes sp is moved
abbrev pub lowered_by : Keeping → List ℕ → ℕ → ℕ
lowered_by Saved sizes bytes = bytes
lowered_by Arguments sizes bytes = cond (eqb (total sizes) 0) 0 bytes
lowered_by Mixed sizes bytes = bytes

pub lowered_saves : (k : Keeping) (sizes : List ℕ) (bytes : ℕ) → saves k ≡ true → lowered_by k sizes bytes ≡ bytes
lowered_saves Saved sizes bytes h = refl
lowered_saves Arguments sizes bytes h = cc
lowered_saves Mixed sizes bytes h = refl

abbrev pub frame_of : Shape → ℕ
frame_of shape = lowered_by shape.keeping shape.arrays (bytes_of shape)

-- where the words of saved registers end
abbrev pub saved_end : Keeping → ℕ → ℕ
saved_end Saved sp = sp + 40
saved_end Arguments sp = sp
saved_end Mixed sp = sp + 40

pub end_saves : (k : Keeping) (sp : ℕ) → saves k ≡ true → saved_end k sp ≡ sp + 40
end_saves Saved sp h = refl
end_saves Arguments sp h = cc
end_saves Mixed sp h = refl

pub lowered_small : (k : Keeping) (sizes : List ℕ) (bytes : ℕ) → lowered_by k sizes bytes ≤ bytes
lowered_small Saved sizes bytes = omega arith
lowered_small Mixed sizes bytes = omega arith
lowered_small Arguments sizes bytes = by (eqb (total sizes) 0)
  where
    by : (none : Bool) → cond none 0 bytes ≤ bytes
    by true = omega arith
    by false = omega arith

lowered_even : (k : Keeping) (sizes : List ℕ) (bytes : ℕ) → bytes % 4 ≡ 0 → lowered_by k sizes bytes % 4 ≡ 0
lowered_even Saved sizes bytes e = e
lowered_even Mixed sizes bytes e = e
lowered_even Arguments sizes bytes e = by (eqb (total sizes) 0)
  where
    by : (none : Bool) → cond none 0 bytes % 4 ≡ 0
    by true = refl
    by false = e

-- where an array has an element, sp is moved
lowered_whole : (k : Keeping) (sizes : List ℕ) (bytes a i : ℕ) → i < slice_index sizes a → lowered_by k sizes bytes ≡ bytes
lowered_whole Saved sizes bytes a i lt = refl
lowered_whole Mixed sizes bytes a i lt = refl
lowered_whole Arguments sizes bytes a i lt = ap (λ none. cond none 0 bytes) (ne_eqb (total sizes) 0 (λ e. omega (arith, e, lt, size_within sizes a)))

saved_end_low : (k : Keeping) (sp : ℕ) → saved_end k sp ≤ sp + 40
saved_end_low Saved sp = omega arith
saved_end_low Arguments sp = omega arith
saved_end_low Mixed sp = omega arith

saved_end_within : (k : Keeping) (sizes : List ℕ) (sp bytes : ℕ) → 40 ≤ bytes → saved_end k sp ≤ sp + lowered_by k sizes bytes
saved_end_within Saved sizes sp bytes h = omega (arith, h)
saved_end_within Arguments sizes sp bytes h = omega arith
saved_end_within Mixed sizes sp bytes h = omega (arith, h)

-- A frame of a function, below the sp of its caller. One that saves no registers has few temporaries. Pins have their registers.
pub record IsFrame (y : Layout) (shape : Shape) (sp caller : ℕ) : Type 0 where
  pub below : sp + frame_of shape ≡ caller
  pub even : caller % 4 ≡ 0
  pub low : y.bottom ≤ sp
  pub high : caller ≤ y.top
  pub few : shape.keeping ≡ Arguments → shape.temps < 9
  pub pins : HasPins shape

-- the numbers of a body that keeps its temporaries in a way
abbrev pub shape_at : Bool → Keeping → Body → Shape
shape_at attributed k body = record { attributed = attributed; keeping = k; params = body.params; temps = body.temps; arrays = body.arrays; pins = pins_of k body }

-- a frame has room for its saved registers
pub room_for_saved : (shape : Shape) → 40 ≤ bytes_of shape
room_for_saved shape = omega (arith, le-max_right shape.temps 9)

module _ (y : Layout) (laid : IsLaid y) (reach : Reach) (shape : Shape) (register : ℕ → ℕ) (caller : ℕ) (kept : ℕ → ℕ) (is : IsFrame y shape (register 2) caller) where
  abbrev stop : ℕ
  stop = saved_end shape.keeping (register 2)

  abbrev pub S : Site
  S = site_of y reach shape register (keeps (register 2) (saved_end shape.keeping (register 2)) caller y.top) kept

  abbrev start : ℕ
  start = max shape.temps 9

  -- where a temporary and an element of an array stand, in bytes above sp
  record TempPlace (t : ℕ) : Type 0 where
    at : address S (TempCell t) ≡ register 2 + 4 * (t + 1)
    low : 9 ≤ t
    high : 4 * (t + 1) + 4 ≤ 4 * start + 4
    whole : register 2 + bytes_of shape ≡ caller

  temp_place : (t : ℕ) → register_of shape.keeping t ≡ None → t < shape.temps → TempPlace t
  temp_place t none lt =
      let un = unseated shape.keeping t shape.temps none lt is.few in record {
        at = ap (λ n. register 2 + n) (temp_is t);
        low = un.0;
        high = omega (arith, lt, le-max_left shape.temps 9);
        whole = ap (λ n. register 2 + n) (sym (lowered_saves shape.keeping shape.arrays (bytes_of shape) un.1)) ∙ is.below;
      }

  element_place : (a i : ℕ) → i < slice_index shape.arrays a → (address S (Element (array.Local a) i) ≡ register 2 + 4 * (start + 1 + words_before shape.arrays a + i))
      × (register 2 + 4 * (start + 1 + words_before shape.arrays a + i) + 4 ≤ caller)
  element_place a i h =
      (omega arith, omega (arith, element_within shape.arrays a i h, is.below, lowered_whole shape.keeping shape.arrays (bytes_of shape) a i h))

  stop_low : stop ≤ register 2 + 40
  stop_low = saved_end_low shape.keeping (register 2)

  enough : stop ≤ caller
  enough = omega (arith, is.below, saved_end_within shape.keeping shape.arrays (register 2) (bytes_of shape) (room_for_saved shape))

  even_sp : register 2 % 4 ≡ 0
  even_sp = omega (arith, is.below, is.even, lowered_even shape.keeping shape.arrays (bytes_of shape) (omega arith))

  -- each cell but those of globals stands in the stack, from sp up
  pub frame_word : (x : Cell) → IsThere S x → IsOfFrame x → IsAbove y (register 2) (address S x)
  frame_word (TempCell t) h own =
      let p = temp_place t h.0 h.1 in
      subst (IsAbove y (register 2)) (sym p.at) (omega arith, omega (arith, p.high, p.whole, is.high), omega (arith, even_sp))
  frame_word (Element (array.Global g) i) h own = absurd own
  frame_word (Element (array.Local a) i) h own =
      let p = element_place a i h in
      subst (IsAbove y (register 2)) (sym p.0) (omega arith, omega (arith, p.1, is.high), omega (arith, even_sp))
  frame_word (Element (array.SureGlobal g n) i) h own = absurd h
  frame_word (Element (array.SureLocal a n) i) h own = absurd h
  frame_word (Kept b) h own =
      let k = kept_cases (register 2) stop caller y.top b h in
      ⊎_elim (λ (r : (register 2 ≤ b) × (b < stop)). (r.0, omega (arith, r.1, enough, is.high), k.0))
      (λ (r : (caller ≤ b) × (b < y.top)). (omega (arith, r.0, is.below), r.1, k.0)) k.1

  in_stack : (b : ℕ) → IsAbove y (register 2) b → IsStack y b
  in_stack b h = let low = h.0 in (omega (arith, low, is.low), h.1, h.2)

  pub cell_word : (x : Cell) → IsThere S x → IsWord y (address S x)
  cell_word (TempCell t) h = inl (in_stack (address S (TempCell t)) (frame_word (TempCell t) h tt))
  cell_word (Element (array.Global g) i) h = inr (g, i, h, refl)
  cell_word (Element (array.Local a) i) h = inl (in_stack (address S (Element (array.Local a) i)) (frame_word (Element (array.Local a) i) h tt))
  cell_word (Element (array.SureGlobal g n) i) h = absurd h
  cell_word (Element (array.SureLocal a n) i) h = absurd h
  cell_word (Kept b) h = inl (in_stack b (frame_word (Kept b) h tt))

  off_global : (g i : ℕ) → i < y.size g → (x : Cell) → IsThere S x → IsOfFrame x → address S x ≡ y.place g + 4 * i → ⊥
  off_global g i lt x h own e = laid.off_stack g i lt (subst (IsStack y) e (in_stack (address S x) (frame_word x h own)))

  temp_or_kept : (t b : ℕ) → register_of shape.keeping t ≡ None → t < shape.temps → IsThere S (Kept b) → address S (TempCell t) ≡ b → ⊥
  temp_or_kept t b none lt h e =
      let p = temp_place t none lt in
      ⊎_elim (λ (r : (register 2 ≤ b) × (b < stop)). omega (arith, p.low, p.at, e, r.1, stop_low))
      (λ (r : (caller ≤ b) × (b < y.top)). omega (arith, p.at, p.high, e, r.0, p.whole)) (kept_cases (register 2) stop caller y.top b h).1

  element_or_kept : (a i b : ℕ) → i < slice_index shape.arrays a → IsThere S (Kept b) → address S (Element (array.Local a) i) ≡ b → ⊥
  element_or_kept a i b lt h e =
      let p = element_place a i lt in
      ⊎_elim (λ (r : (register 2 ≤ b) × (b < stop)). omega (arith, p.0, e, r.1, stop_low, le-max_right shape.temps 9))
      (λ (r : (caller ≤ b) × (b < y.top)). omega (arith, p.0, p.1, e, r.0)) (kept_cases (register 2) stop caller y.top b h).1

  temp_or_element : (t a i : ℕ) → register_of shape.keeping t ≡ None → t < shape.temps → i < slice_index shape.arrays a → address S (TempCell t) ≡ address S (Element (array.Local a) i) → ⊥
  temp_or_element t a i none few lt e =
      let p = temp_place t none few in let q = element_place a i lt in omega (arith, p.at, p.high, q.0, e)

  pub cells_apart : (u v : Cell) → IsThere S u → IsThere S v → address S u ≡ address S v → u ≡ v
  cells_apart (TempCell t) (TempCell n) h k e = ap TempCell (omega (arith, e, temp_is t, temp_is n))
  cells_apart (TempCell t) (Element (array.Global g) i) h k e = absurd (off_global g i k (TempCell t) h tt e)
  cells_apart (TempCell t) (Element (array.Local a) i) h k e = absurd (temp_or_element t a i h.0 h.1 k e)
  cells_apart (TempCell t) (Element (array.SureGlobal g n) i) h k e = absurd k
  cells_apart (TempCell t) (Element (array.SureLocal a n) i) h k e = absurd k
  cells_apart (TempCell t) (Kept b) h k e = absurd (temp_or_kept t b h.0 h.1 k e)
  cells_apart (Element (array.Global g) i) (TempCell t) h k e = absurd (off_global g i h (TempCell t) k tt (sym e))
  cells_apart (Element (array.Global g) i) (Element (array.Global n) j) h k e =
      let r = laid.apart g i n j h k e in ap (λ m. Element (array.Global m) i) r.0 ∙ ap (Element (array.Global n)) r.1
  cells_apart (Element (array.Global g) i) (Element (array.Local a) j) h k e = absurd (off_global g i h (Element (array.Local a) j) k tt (sym e))
  cells_apart (Element (array.Global g) i) (Element (array.SureGlobal d n) j) h k e = absurd k
  cells_apart (Element (array.Global g) i) (Element (array.SureLocal a n) j) h k e = absurd k
  cells_apart (Element (array.Global g) i) (Kept b) h k e = absurd (off_global g i h (Kept b) k tt (sym e))
  cells_apart (Element (array.Local a) i) (TempCell t) h k e = absurd (temp_or_element t a i k.0 k.1 h (sym e))
  cells_apart (Element (array.Local a) i) (Element (array.Global g) j) h k e = absurd (off_global g j k (Element (array.Local a) i) h tt e)
  cells_apart (Element (array.Local a) i) (Element (array.Local b) j) h k e =
      let p = element_place a i h in let q = element_place b j k in
      let r = element_unique shape.arrays a b i j h k (omega (arith, p.0, q.0, e)) in
      ap (λ m. Element (array.Local m) i) r.0 ∙ ap (Element (array.Local b)) r.1
  cells_apart (Element (array.Local a) i) (Element (array.SureGlobal g n) j) h k e = absurd k
  cells_apart (Element (array.Local a) i) (Element (array.SureLocal b n) j) h k e = absurd k
  cells_apart (Element (array.Local a) i) (Kept b) h k e = absurd (element_or_kept a i b h k e)
  cells_apart (Element (array.SureGlobal g n) i) v h k e = absurd h
  cells_apart (Element (array.SureLocal a n) i) v h k e = absurd h
  cells_apart (Kept b) (TempCell t) h k e = absurd (temp_or_kept t b k.0 k.1 h (sym e))
  cells_apart (Kept b) (Element (array.Global g) i) h k e = absurd (off_global g i k (Kept b) h tt e)
  cells_apart (Kept b) (Element (array.Local a) i) h k e = absurd (element_or_kept a i b k h (sym e))
  cells_apart (Kept b) (Element (array.SureGlobal g n) i) h k e = absurd k
  cells_apart (Kept b) (Element (array.SureLocal a n) i) h k e = absurd k
  cells_apart (Kept b) (Kept c) h k e = ap Kept e

  pub cells_below : (x : Cell) → IsThere S x → address S x < 2 ^ 32
  cells_below (Element (array.Global g) i) h = laid.addresses g i h
  cells_below (TempCell t) h = let w = frame_word (TempCell t) h tt in omega (arith, w.1, laid.top)
  cells_below (Element (array.Local a) i) h = let w = frame_word (Element (array.Local a) i) h tt in omega (arith, w.1, laid.top)
  cells_below (Element (array.SureGlobal g n) i) h = absurd h
  cells_below (Element (array.SureLocal a n) i) h = absurd h
  cells_below (Kept b) h = let w = frame_word (Kept b) h tt in omega (arith, w.1, laid.top)

  pub own_words : StandsInWords y S
  own_words x own h = cell_word x h

  local_below : (a : ℕ) → slice_index shape.arrays a < 2 ^ 32
  local_below a = ⊎_elim few some (cases_lt 0 (slice_index shape.arrays a))
    where
      few : 0 < slice_index shape.arrays a → slice_index shape.arrays a < 2 ^ 32
      few lt = omega (arith, size_within shape.arrays a, is.below, lowered_whole shape.keeping shape.arrays (bytes_of shape) a 0 lt, is.high, laid.top)

      some : slice_index shape.arrays a ≤ 0 → slice_index shape.arrays a < 2 ^ 32
      some le = omega (arith, le)

  sizes_below : (a : Array) → size_of S a < 2 ^ 32
  sizes_below (array.Global g) = laid.sizes g
  sizes_below (array.Local a) = local_below a
  sizes_below (array.SureGlobal g n) = laid.sizes g
  sizes_below (array.SureLocal a n) = local_below a

  leaves_alone : LeavesAlone S
  leaves_alone = record {
    stack = stack_left shape.keeping (seated_of shape);
    real = left_real shape.keeping (seated_of shape);
    result = left_result shape.keeping (seated_of shape);
    scratch = left_scratch shape.keeping (seated_of shape);
    temps = λ t q lt. left_temps shape.keeping (seated_of shape) t q (omega (arith, lt, first_past shape.keeping shape.temps));
    pinned = pins_off_temps shape.keeping shape.params shape.temps shape.pins is.pins;
    pinned_result = pins_off_result shape.keeping shape.params shape.temps shape.pins is.pins;
  }

  module _ {M : Type 0} (access : Access M) (machine : Machine M) (memory : IsMemory access y machine) (setting : ir.Setting) (frame : ir.Frame)
      (entries : (f : ℕ) → f < length setting.numbers → (slice_index setting.numbers f ≡ y.entry f) × IsPlace (y.entry f)) where
    stored_in : (m : M) (x : Cell) (v : ℕ) → functions.Kept access y m (address S x) v → Stored S access m x v
    stored_in m x v k = record { after = k.after; stored = k.stored; same = k.same; others = λ c there ne. k.others (address S c) (cell_word c there) ne }

    loaded : IsAmple y reach → (x : Cell) → IsThere S x → IsLoaded S x → reach.may_load (address S x) ≡ true
    loaded ample (TempCell t) h may = ample.stack (address S (TempCell t)) (in_stack (address S (TempCell t)) (frame_word (TempCell t) h tt))
    loaded ample (Element (array.Global g) i) h may = ample.globals g i may h
    loaded ample (Element (array.Local a) i) h may = ample.stack (address S (Element (array.Local a) i)) (in_stack (address S (Element (array.Local a) i)) (frame_word (Element (array.Local a) i) h tt))
    loaded ample (Element (array.SureGlobal g n) i) h may = absurd h
    loaded ample (Element (array.SureLocal a n) i) h may = absurd h
    loaded ample (Kept b) h may = ample.stack b (in_stack b (frame_word (Kept b) h tt))

    pub frame_fits : IsAmple y reach → ((g : ℕ) → reach.is_read g ≡ true → 0 < y.size g) → ((g : ℕ) → reach.is_read g ≡ true → found frame.bound g ≡ None) → IsFit S access setting frame
    frame_fits ample read free = record {
      seats = keeping_seats y.place shape.keeping shape.pins (pins_within shape.keeping (first_pin shape.keeping shape.temps) shape.pins is.pins.stand);
      left = leaves_alone;
      stores = λ m x v w there lt load. stored_in m x v (memory.stores m (address S x) v w (cell_word x there) lt load);
      apart = cells_apart;
      addresses = cells_below;
      sizes = sizes_below;
      loads = loaded ample;
      has_word = read;
      free = free;
      entries = λ f lt. (entries f lt).0;
      entry_words = λ f lt. let there = (entries f lt).1 in omega (arith, there.1);
    }

    pub frame_calls : shape.keeping ≡ Saved → register 26 ≡ frame.live → frame.live ≤ frame.depth → register 27 + frame.depth ≡ depth_limit → y.bottom + register 27 * frame_limit ≤ register 2 → IsCaller y S setting frame
    frame_calls saved live counts left room = record {
      places = λ g. refl;
      sizes = λ g. refl;
      saved = subst SeatsSaved (sym saved) seats_saved;
      pins = pins_saved shape.params shape.temps shape.pins (subst (λ k. ArePins k shape.params shape.temps shape.pins) saved is.pins);
      left = λ q. subst (λ k. LeftSaved k (seated_of shape) q) (sym saved) (left_saved (seated_of shape) q);
      counters = subst (λ k. (is_left_by k (seated_of shape) 26 ≡ true) × (is_left_by k (seated_of shape) 27 ≡ true)) (sym saved)
          (counters_left (seated_of shape) 26 (omega arith) (omega arith), counters_left (seated_of shape) 27 (omega arith) (omega arith));
      entries = λ f. refl;
      may_ask = λ k. subst (λ by. asks_by by y.may_ask k ≡ true → y.may_ask k ≡ true) (sym saved) (λ e. e);
      entry_places = λ f lt. (entries f lt).1;
      live = live;
      counts = counts;
      calls_left = left;
      even = even_sp;
      room = room;
      within = omega (arith, is.below, is.high);
      above = frame_word;
    }
