-- What each kind of change leaves of a frame: scratch registers, a temporary in its register, a cell of memory.
use Rattle.std.proofs.Common.{◌≡◌, ◌≢◌, ◌⊎◌, inl, inr, ⊎_elim, ℕ, zero, suc, ◌+◌, ◌<◌, ◌≤◌, ◌^◌, true, List, [], ◌∷◌, length, get_or, length-set, slice_index, slice_set, Option, Some, None, refl, sym, ap, ◌∙◌, subst, arith}
use Rattle.std.proofs.lemmas.List.{get_or-set_same, get_or-set_other}
use Rattle.std.proofs.lemmas.Bool.{cases_eq, cases_lt}
use Rattle.std.proofs.lemmas.Option.{none-some}
use Rattle.mv_isa.specs.Execution.{Access, reg, put}
use Rattle.mv_ir.specs.declared.stm.Array.{Array}
use Rattle.mv_ir.specs.declared.stm.Array.TheVariants as array
use Rattle.mv_ir.specs.World as ir
use Rattle.mv_ir.specs.Outcome.{State}
use Rattle.mv_ir.specs.Meaning.{elements, with_temp, with_elements}
use Rattle.mv_select_code.specs.Trees.TreeCode.{Seats, temp_offset}
use Rattle.mv_select_code.specs.Trees.View.{AreRegisters, AreScratch, AreSeats, Changes}
use Rattle.mv_select_code.proofs.OfTrees.Registers.{put_same, put_other, put_registers, scratch_part, pin_outside, seat_free, seat_apart}
use Rattle.mv_select_code.specs.Statements.Frames.{Site, Cell, TempCell, Element, Kept, LeavesAlone, IsThere, address, content, Stored, IsFit, Shows}
use Rattle.mv_select_code.proofs.OfStatements.PlainArrays.{plain, plain_elements, same_plain, plain_address}

-- ---- arrays

elements_temp : (a : Array) (l : State) (t v : ℕ) → elements a (with_temp l t v) ≡ elements a l
elements_temp (array.Global g) l t v = refl
elements_temp (array.Local a) l t v = refl
elements_temp (array.SureGlobal g n) l t v = refl
elements_temp (array.SureLocal a n) l t v = refl

-- only an index below the length has an element
in_range : (xs : List (List ℕ)) (g i : ℕ) → i < length (get_or xs g []) → g < length xs
in_range [] g i h = absurd (omega arith)
in_range (x ∷ xs) zero i h = omega arith
in_range (x ∷ xs) (suc g) i h = omega (arith, in_range xs g i h)

pub elements_same : (a : Array) (l : State) (xs : List ℕ) (i : ℕ) → i < length (elements a l) → elements a (with_elements a l xs) ≡ xs
elements_same (array.Global g) l xs i h = get_or-set_same l.world.globals g xs [] (in_range l.world.globals g i h)
elements_same (array.Local a) l xs i h = get_or-set_same l.arrays a xs [] (in_range l.arrays a i h)
elements_same (array.SureGlobal g n) l xs i h = get_or-set_same l.world.globals g xs [] (in_range l.world.globals g i h)
elements_same (array.SureLocal a n) l xs i h = get_or-set_same l.arrays a xs [] (in_range l.arrays a i h)

-- an array has the elements of another one, or these are left alone
abbrev ArrayCases : (a b : Array) → Type 0
ArrayCases a b = (plain b ≡ plain a) ⊎ ((l : State) (xs : List ℕ) → elements b (with_elements a l xs) ≡ elements b l)

globals_apart : (g h : ℕ) → ArrayCases (array.Global g) (array.Global h)
globals_apart g h = ⊎_elim (λ (e : h ≡ g). inl (ap array.Global e)) (λ (ne : h ≡ g → ⊥). inr (λ l xs. get_or-set_other l.world.globals g h xs [] ne)) (cases_eq h g)

locals_apart : (a b : ℕ) → ArrayCases (array.Local a) (array.Local b)
locals_apart a b = ⊎_elim (λ (e : b ≡ a). inl (ap array.Local e)) (λ (ne : b ≡ a → ⊥). inr (λ l xs. get_or-set_other l.arrays a b xs [] ne)) (cases_eq b a)

global_cases : (g : ℕ) (b : Array) → ArrayCases (array.Global g) b
global_cases g (array.Global h) = globals_apart g h
global_cases g (array.Local b) = inr (λ l xs. refl)
global_cases g (array.SureGlobal h n) = globals_apart g h
global_cases g (array.SureLocal b n) = inr (λ l xs. refl)

local_cases : (a : ℕ) (b : Array) → ArrayCases (array.Local a) b
local_cases a (array.Global h) = inr (λ l xs. refl)
local_cases a (array.Local b) = locals_apart a b
local_cases a (array.SureGlobal h n) = inr (λ l xs. refl)
local_cases a (array.SureLocal b n) = locals_apart a b

array_cases : (a b : Array) → ArrayCases a b
array_cases (array.Global g) b = global_cases g b
array_cases (array.Local a) b = local_cases a b
array_cases (array.SureGlobal g n) b = global_cases g b
array_cases (array.SureLocal a n) b = local_cases a b

temps_elements : (a : Array) (l : State) (xs : List ℕ) → (with_elements a l xs).temps ≡ l.temps
temps_elements (array.Global g) l xs = refl
temps_elements (array.Local a) l xs = refl
temps_elements (array.SureGlobal g n) l xs = refl
temps_elements (array.SureLocal a n) l xs = refl

-- ---- registers

-- no scratch register
abbrev pub IsAside : ℕ → Type 0
IsAside q = AreScratch q (q + 1) → ⊥

pub aside_outside : (lo hi q : ℕ) → AreScratch lo hi → IsAside q → (q < lo) ⊎ (hi ≤ q)
aside_outside lo hi q scratch h = ⊎_elim (λ (l : q < lo). inl l) above (cases_lt q lo)
  where
    above : lo ≤ q → (q < lo) ⊎ (hi ≤ q)
    above low = ⊎_elim (λ (u : q < hi). absurd (h (scratch_part lo hi q (q + 1) low (omega arith) scratch))) (λ (u : hi ≤ q). inr u) (cases_lt q hi)

pub seat_aside : (s : Seats) → AreSeats s → (t q : ℕ) → s.register t ≡ Some q → IsAside q
seat_aside s seats t q h scratch = seat_apart s seats t q h q (q + 1) q scratch (omega arith) (omega arith) refl

pub pin_aside : (s : Seats) → AreSeats s → (n q : ℕ) → s.pinned n ≡ Some q → IsAside q
pin_aside s seats n q h scratch = ⊎_elim (λ (l : q < q). omega arith) (λ (u : q + 1 ≤ q). omega arith) (pin_outside s seats n q h q (q + 1) scratch)

-- a temporary that has a register is another than one that has none
two_places : (register : ℕ → Option ℕ) (t u q : ℕ) → register t ≡ None → register u ≡ Some q → u ≢ t
two_places register t u q h k e = none-some q (sym h ∙ ap register (sym e) ∙ k)

one_register : (register : ℕ → Option ℕ) (t u q r : ℕ) → register t ≡ Some r → register u ≡ Some q → u ≡ t → q ≡ r
one_register register t u q r h k e = let same : Some q ≡ Some r = sym k ∙ ap register e ∙ h in cc

module _ (s : Site) where
  -- a state that differs from another in one cell
  pub record Updates (l l' : State) (x : Cell) (v : ℕ) : Type 0 where
    pub count : length l'.temps ≡ length l.temps
    pub sizes : (a : Array) → length (elements a l') ≡ length (elements a l)
    pub seated : (t q : ℕ) → s.seats.register t ≡ Some q → slice_index l'.temps t ≡ slice_index l.temps t
    pub same : content s l' x ≡ v
    pub others : (y : Cell) → IsThere s y → address s y ≢ address s x → content s l' y ≡ content s l y

  pub updates_temp : (l : State) (t v : ℕ) → t < length l.temps → s.seats.register t ≡ None → Updates l (with_temp l t v) (TempCell t) v
  updates_temp l t v lt none = record {
    count = length-set l.temps t v;
    sizes = λ a. ap length (elements_temp a l t v);
    seated = λ u q h. get_or-set_other l.temps t u v 0 (two_places s.seats.register t u q none h);
    same = get_or-set_same l.temps t v 0 lt;
    others = others;
  }
    where
      others : (y : Cell) → IsThere s y → address s y ≢ address s (TempCell t) → content s (with_temp l t v) y ≡ content s l y
      others (TempCell u) h ne = get_or-set_other l.temps t u v 0 (λ (e : u ≡ t). ne (ap (λ n. s.register 2 + temp_offset n) e))
      others (Element a i) h ne = ap (λ xs. slice_index xs i) (elements_temp a l t v)
      others (Kept b) h ne = refl

  pub updates_element : (l : State) (a : Array) (i v : ℕ) → i < length (elements a l) → Updates l (with_elements a l (slice_set (elements a l) i v)) (Element (plain a) i) v
  updates_element l a i v lt = record {
    count = ap length (temps_elements a l xs);
    sizes = sizes;
    seated = λ t q h. ap (λ ts. slice_index ts t) (temps_elements a l xs);
    same = ap (λ ys. slice_index ys i) (plain_elements a changed ∙ elements_same a l xs i lt) ∙ get_or-set_same (elements a l) i v 0 lt;
    others = others;
  }
    where
      xs : List ℕ
      xs = slice_set (elements a l) i v

      changed : State
      changed = with_elements a l xs

      sizes : (b : Array) → length (elements b (with_elements a l (slice_set (elements a l) i v))) ≡ length (elements b l)
      sizes b = ⊎_elim same other (array_cases a b)
        where
          same : plain b ≡ plain a → length (elements b (with_elements a l (slice_set (elements a l) i v))) ≡ length (elements b l)
          same e = ap length (same_plain a b changed e ∙ elements_same a l xs i lt) ∙ length-set (elements a l) i v ∙ ap length (sym (same_plain a b l e))

          other : ((l : State) (xs : List ℕ) → elements b (with_elements a l xs) ≡ elements b l) → length (elements b (with_elements a l (slice_set (elements a l) i v))) ≡ length (elements b l)
          other h = ap length (h l (slice_set (elements a l) i v))

      others : (y : Cell) → IsThere s y → address s y ≢ address s (Element (plain a) i) → content s (with_elements a l (slice_set (elements a l) i v)) y ≡ content s l y
      others (TempCell u) h ne = ap (λ ts. slice_index ts u) (temps_elements a l (slice_set (elements a l) i v))
      others (Kept b) h ne = refl
      others (Element b j) h ne = ⊎_elim same other (array_cases a b)
        where
          same : plain b ≡ plain a → slice_index (elements b (with_elements a l (slice_set (elements a l) i v))) j ≡ slice_index (elements b l) j
          same e =
              let away : j ≢ i = λ q. ne (sym (plain_address s b j) ∙ ap (λ c. address s (Element c j)) e ∙ ap (λ n. address s (Element (plain a) n)) q) in
              ap (λ ys. slice_index ys j) (same_plain a b changed e ∙ elements_same a l xs i lt) ∙ get_or-set_other (elements a l) i j v 0 away ∙ ap (λ ys. slice_index ys j) (sym (same_plain a b l e))

          other : ((l : State) (xs : List ℕ) → elements b (with_elements a l xs) ≡ elements b l) → slice_index (elements b (with_elements a l (slice_set (elements a l) i v))) j ≡ slice_index (elements b l) j
          other k = ap (λ ys. slice_index ys j) (k l (slice_set (elements a l) i v))

  module _ {M : Type 0} (access : Access M) where
    -- registers that a frame doesn't count on may change
    pub frame_same : (l : State) (a b : List ℕ) (m : M) → AreRegisters b → ((q : ℕ) → s.is_left q ≡ true → reg b q ≡ reg a q)
        → ((t q : ℕ) → t < s.temps → s.seats.register t ≡ Some q → reg b q ≡ reg a q) → ((n q : ℕ) → s.seats.pinned n ≡ Some q → reg b q ≡ reg a q)
        → Shows s access l a m → Shows s access l b m
    frame_same l a b m are left seated pinned f = record {
      are = are;
      left = λ q k. left q k ∙ f.left q k;
      count = f.count;
      sizes = f.sizes;
      temp_words = f.temp_words;
      in_register = λ t q p k. seated t q p k ∙ f.in_register t q p k;
      pinned = λ n q k. pinned n q k ∙ f.pinned n q k;
      words = f.words;
      in_memory = f.in_memory;
    }

    pub frame_aside : LeavesAlone s → AreSeats s.seats → (l : State) (a b : List ℕ) (m : M) → AreRegisters b → ((q : ℕ) → IsAside q → reg b q ≡ reg a q) → Shows s access l a m → Shows s access l b m
    frame_aside alone seats l a b m are same =
        frame_same l a b m are (λ q k. same q (alone.scratch q k)) (λ t q p k. same q (seat_aside s.seats seats t q k)) (λ n q k. same q (pin_aside s.seats seats n q k))

    pub frame_scratch : LeavesAlone s → AreSeats s.seats → (lo hi : ℕ) (l : State) (a b : List ℕ) (m : M) → AreScratch lo hi → Changes lo hi a b → Shows s access l a m → Shows s access l b m
    frame_scratch alone seats lo hi l a b m scratch h = frame_aside alone seats l a b m h.are (λ q k. h.others q (aside_outside lo hi q scratch k))

    -- a temporary in its register
    pub frame_register : LeavesAlone s → AreSeats s.seats → (l : State) (regs : List ℕ) (m : M) (t r v : ℕ) → t < s.temps → s.seats.register t ≡ Some r → v < 2 ^ 32
        → Shows s access l regs m → Shows s access (with_temp l t v) (put regs r v) m
    frame_register alone seats l regs m t r v lt is b f = record {
      are = put_registers regs r v f.are (seat_free s.seats seats t r is) b;
      left = λ q k. put_other regs r q v above (λ (e : q ≡ r). alone.temps t r lt is (subst (λ n. s.is_left n ≡ true) e k)) ∙ f.left q k;
      count = length-set l.temps t v ∙ f.count;
      sizes = λ a. ap length (elements_temp a l t v) ∙ f.sizes a;
      temp_words = λ u q p h. ⊎_elim (λ (e : u ≡ t). rw e (rw (now) b)) (λ (ne : u ≡ t → ⊥). rw (get_or-set_other l.temps t u v 0 ne) (f.temp_words u q p h)) (cases_eq u t);
      in_register = λ u q p h. ⊎_elim (same u q h) (other u q p h) (cases_eq u t);
      pinned = λ n q h. put_other regs r q v above (λ (e : q ≡ r). alone.pinned t n r lt is (h ∙ ap Some e)) ∙ f.pinned n q h;
      words = λ x h. rw (unchanged x h) (f.words x h);
      in_memory = λ x h. f.in_memory x h ∙ ap Some (sym (unchanged x h));
    }
      where
        above : 0 < r
        above = (seat_free s.seats seats t r is).above

        below : r < length regs
        below = omega (arith, f.are.count, (seat_free s.seats seats t r is).below)

        now : slice_index (slice_set l.temps t v) t ≡ v
        now = get_or-set_same l.temps t v 0 (omega (arith, lt, f.count))

        same : (u q : ℕ) → s.seats.register u ≡ Some q → u ≡ t → reg (put regs r v) q ≡ slice_index (slice_set l.temps t v) u
        same u q h e = ap (reg (put regs r v)) (one_register s.seats.register t u q r is h e) ∙ put_same regs r v above below ∙ sym now ∙ ap (slice_index (slice_set l.temps t v)) (sym e)

        other : (u q : ℕ) → u < s.temps → s.seats.register u ≡ Some q → (u ≡ t → ⊥) → reg (put regs r v) q ≡ slice_index (slice_set l.temps t v) u
        other u q p h ne =
            let apart : q ≢ r = λ e. ne (seats.apart u t q h (is ∙ ap Some (sym e))) in
            put_other regs r q v above apart ∙ f.in_register u q p h ∙ sym (get_or-set_other l.temps t u v 0 ne)

        unchanged : (x : Cell) → IsThere s x → content s (with_temp l t v) x ≡ content s l x
        unchanged (TempCell u) h = get_or-set_other l.temps t u v 0 (λ (e : u ≡ t). two_places s.seats.register u t r h.0 is (sym e))
        unchanged (Element a i) h = ap (λ xs. slice_index xs i) (elements_temp a l t v)
        unchanged (Kept b) h = refl

    -- a cell of memory
    pub frame_stored : (setting : ir.Setting) (frame : ir.Frame) → IsFit s access setting frame → (l l' : State) (regs : List ℕ) (m : M) (x : Cell) (v : ℕ)
        → IsThere s x → v < 2 ^ 32 → Updates l l' x v → (st : Stored s access m x v) → Shows s access l regs m → Shows s access l' regs st.after
    frame_stored setting frame fit l l' regs m x v there b u st f = record {
      are = f.are;
      left = f.left;
      count = u.count ∙ f.count;
      sizes = λ a. u.sizes a ∙ f.sizes a;
      temp_words = λ t q p h. rw (u.seated t q h) (f.temp_words t q p h);
      in_register = λ t q p h. f.in_register t q p h ∙ sym (u.seated t q h);
      pinned = f.pinned;
      words = words;
      in_memory = in_memory;
    }
      where
        content_of : (y : Cell) → IsThere s y → address s y ≡ address s x → content s l' y ≡ v
        content_of y h e = ap (content s l') (fit.apart y x h there e) ∙ u.same

        words : (y : Cell) → IsThere s y → content s l' y < 2 ^ 32
        words y h = ⊎_elim
            (λ (e : address s y ≡ address s x). rw (content_of y h e) b)
            (λ (ne : address s y ≡ address s x → ⊥). rw (u.others y h ne) (f.words y h))
            (cases_eq (address s y) (address s x))

        in_memory : (y : Cell) → IsThere s y → access.load st.after (address s y) 4 ≡ Some (content s l' y)
        in_memory y h = ⊎_elim
            (λ (e : address s y ≡ address s x). ap (λ a. access.load st.after a 4) e ∙ st.same ∙ ap Some (sym (content_of y h e)))
            (λ (ne : address s y ≡ address s x → ⊥). st.others y h ne ∙ f.in_memory y h ∙ ap Some (sym (u.others y h ne)))
            (cases_eq (address s y) (address s x))
