-- At the end of the prologue the frame shows the state in which a body begins.
use Rattle.std.proofs.Common.{◌≡◌, inl, ⊎_elim, ℕ, zero, suc, ◌+◌, ◌-◌, ◌^◌, ◌<◌, ◌≤◌, Bool, true, List, [], ◌∷◌, length, slice_index, slice_index_or, unwrap_or, Some, None, refl, sym, ap, ◌∙◌, subst, arith}
use Rattle.std.proofs.lemmas.Bool.{cases_lt}
use Rattle.std.proofs.lemmas.List.{get_or_append_left, get_or-append_right, length-append}
use Rattle.mv_isa.specs.Execution.{Access, reg}
use Rattle.mv_ir.specs.declared.body.Body.{Body}
use Rattle.mv_ir.specs.declared.stm.Array.{Array}
use Rattle.mv_ir.specs.declared.stm.Array.TheVariants as array
use Rattle.mv_ir.specs.World.{World}
use Rattle.mv_ir.specs.Outcome.{State}
use Rattle.mv_ir.specs.Meaning.{Contents, first_items, first_temps, first_arrays, entry_state, elements}
use Rattle.mv_select_code.specs.Trees.TreeCode.{register_of, pinned_in}
use Rattle.mv_select_code.specs.declared.trees.places.Keeping.{Keeping}
use Rattle.mv_select_code.specs.Trees.View.{AreRegisters}
use Rattle.mv_select_code.specs.Statements.Frames.{Site, Cell, TempCell, Element, Kept, IsThere, address, content, size_of, Shows, Reach}
use Rattle.mv_select_code.specs.Control.Runs.{Machine}
use Rattle.mv_select.specs.Calls.Convention.{Layout, IsAbove, HoldsGlobals}
use Rattle.mv_select.specs.Functions.Pins.{pins_of}
use Rattle.mv_select.specs.Functions.Functions.{IsStack, IsWord, IsLaid, IsMemory}
use Rattle.mv_select.proofs.OfFunctions.Frame.{shape_at, IsFrame, S, frame_word}
use Rattle.mv_select.proofs.OfFunctions.Seats.{unseated}
use Rattle.mv_ir.proofs.Joining.{items_count}

-- ---- what a frame holds when it begins

items_at : (n : ℕ) (f : ℕ → ℕ) (i : ℕ) → i < n → slice_index (first_items n f) i ≡ f i
items_at zero f i lt = absurd (omega (arith, lt))
items_at (suc n) f zero lt = refl
items_at (suc n) f (suc i) lt = items_at n (λ i. f (suc i)) i (omega (arith, lt))

arrays_at : (f : ℕ → ℕ → ℕ) (sizes : List ℕ) (a : ℕ) → slice_index_or (first_arrays f sizes) a [] ≡ first_items (slice_index sizes a) (f a)
arrays_at f [] a = refl
arrays_at f (n ∷ sizes) zero = refl
arrays_at f (n ∷ sizes) (suc a) = arrays_at (λ l. f (suc l)) sizes a

temps_count : (f : ℕ → ℕ) (n : ℕ) (args : List ℕ) → length args ≤ n → length (first_temps f n args) ≡ n
temps_count f n args le = length-append args (first_items (n - length args) f) ∙ ap (λ k. length args + k) (items_count (n - length args) f) ∙ total n (length args) le
  where
    total : (n k : ℕ) → k ≤ n → k + (n - k) ≡ n
    total n k le = omega (arith, le)

argument_at : (f : ℕ → ℕ) (n : ℕ) (args : List ℕ) (t : ℕ) → t < length args → slice_index (first_temps f n args) t ≡ slice_index args t
argument_at f n args t lt = get_or_append_left args (first_items (n - length args) f) 0 t lt

rest_at : (f : ℕ → ℕ) (n : ℕ) (args : List ℕ) (t : ℕ) → length args ≤ t → t < n → slice_index (first_temps f n args) t ≡ f (t - length args)
rest_at f n args t le lt =
    get_or-append_right args (first_items (n - length args) f) (length args) t 0 refl le ∙ items_at (n - length args) f (t - length args) (omega (arith, le, lt))

-- the word of memory at an address
abbrev pub word_at : {M : Type 0} → Access M → M → ℕ → ℕ
word_at access m b = unwrap_or (access.load m b 4) 0

module _ {M : Type 0} (access : Access M) (y : Layout) (laid : IsLaid y) (machine : Machine M) (memory : IsMemory access y machine) (budget far : ℕ)
    (reach : Reach) (attributed : Bool) (k : Keeping) (body : Body) (w : World) (regs : List ℕ) (m : M) (caller : ℕ) (is : IsFrame y (shape_at attributed k body) (reg regs 2) caller)
    (calm : machine.is_calm w m ≡ true) where
  abbrev pub Here : Site
  Here = S y laid reach (shape_at attributed k body) (reg regs) caller (word_at access m) is

  pub loaded : (b : ℕ) → IsStack y b → access.load m b 4 ≡ Some (word_at access m b)
  loaded b h = let v = memory.stack w m b calm h in v.1 ∙ ap Some (sym (ap (λ o. unwrap_or o 0) v.1))

  -- the contents of the frame, behind so many arguments, are what registers and memory have
  pub record Holds (count : ℕ) (contents : Contents) : Type 0 where
    pub low : (t q : ℕ) → count ≤ t → t < body.temps → register_of k t ≡ Some q → contents.temps (t - count) ≡ reg regs q
    pub high : (t : ℕ) → count ≤ t → register_of k t ≡ None → t < body.temps → contents.temps (t - count) ≡ word_at access m (address Here (TempCell t))
    pub arrays : (a i : ℕ) → i < slice_index body.arrays a → contents.arrays a i ≡ word_at access m (address Here (Element (array.Local a) i))

  module _ (args : List ℕ) (contents : Contents) (now : World) (few : length args ≤ 8) (count : length args ≤ body.temps) (are : AreRegisters regs)
      (globals : HoldsGlobals access y machine budget far now m) (held : (j q : ℕ) → j < length args → register_of k j ≡ Some q → reg regs q ≡ slice_index args j) (holds : Holds (length args) contents)
      (pinned : (n q : ℕ) → pinned_in (pins_of k body) n ≡ Some q → reg regs q ≡ n) where
    abbrev pub begin : State
    begin = entry_state contents body args now

    behind : (t : ℕ) → length args ≤ t → t < body.temps → slice_index begin.temps t ≡ contents.temps (t - length args)
    behind t le lt = rest_at contents.temps body.temps args t le lt

    low_temp : (t q : ℕ) → t < body.temps → register_of k t ≡ Some q → reg regs q ≡ slice_index begin.temps t
    low_temp t q lt seat = ⊎_elim
        (λ (h : t < length args). held t q h seat ∙ sym (argument_at contents.temps body.temps args t h))
        (λ (h : length args ≤ t). sym (behind t h lt ∙ holds.low t q h lt seat))
        (cases_lt t (length args))

    high_temp : (t : ℕ) → t < body.temps → register_of k t ≡ None → slice_index begin.temps t ≡ word_at access m (address Here (TempCell t))
    high_temp t lt none =
        let le : length args ≤ t = omega (arith, few, (unseated k t body.temps none lt is.few).0) in behind t le lt ∙ holds.high t le none lt

    local_is : (a i : ℕ) → i < slice_index body.arrays a → slice_index (elements (array.Local a) begin) i ≡ word_at access m (address Here (Element (array.Local a) i))
    local_is a i lt =
        ap (λ xs. slice_index xs i) (arrays_at contents.arrays body.arrays a) ∙ items_at (slice_index body.arrays a) (contents.arrays a) i lt ∙ holds.arrays a i lt

    stack_cell : (x : Cell) → IsAbove y (reg regs 2) (address Here x) → IsStack y (address Here x)
    stack_cell x h = let low = h.0 in (omega (arith, low, is.low), h.1, h.2)

    local_count : (a : ℕ) → length (elements (array.Local a) begin) ≡ slice_index body.arrays a
    local_count a = ap length (arrays_at contents.arrays body.arrays a) ∙ items_count (slice_index body.arrays a) (contents.arrays a)

    sizes : (a : Array) → length (elements a begin) ≡ size_of Here a
    sizes (array.Global g) = globals.sizes g
    sizes (array.Local a) = local_count a
    sizes (array.SureGlobal g n) = globals.sizes g
    sizes (array.SureLocal a n) = local_count a

    in_memory : (x : Cell) → IsThere Here x → access.load m (address Here x) 4 ≡ Some (content Here begin x)
    in_memory (TempCell t) h =
        loaded (address Here (TempCell t)) (stack_cell (TempCell t) (frame_word y laid reach (shape_at attributed k body) (reg regs) caller (word_at access m) is (TempCell t) h tt))
        ∙ ap Some (sym (high_temp t h.1 h.0))
    in_memory (Element (array.Global g) i) h = globals.loads g i h
    in_memory (Element (array.Local a) i) h =
        loaded (address Here (Element (array.Local a) i)) (stack_cell (Element (array.Local a) i) (frame_word y laid reach (shape_at attributed k body) (reg regs) caller (word_at access m) is (Element (array.Local a) i) h tt))
        ∙ ap Some (sym (local_is a i h))
    in_memory (Element (array.SureGlobal g n) i) h = absurd h
    in_memory (Element (array.SureLocal a n) i) h = absurd h
    in_memory (Kept b) h = loaded b (stack_cell (Kept b) (frame_word y laid reach (shape_at attributed k body) (reg regs) caller (word_at access m) is (Kept b) h tt))

    word_below : (x : Cell) → IsWord y (address Here x) → IsThere Here x → content Here begin x < 2 ^ 32
    word_below x word h = memory.words m (address Here x) (content Here begin x) word (in_memory x h)

    words : (x : Cell) → IsThere Here x → content Here begin x < 2 ^ 32
    words (TempCell t) h = word_below (TempCell t) (inl (stack_cell (TempCell t) (frame_word y laid reach (shape_at attributed k body) (reg regs) caller (word_at access m) is (TempCell t) h tt))) h
    words (Element (array.Global g) i) h = globals.words g i h
    words (Element (array.Local a) i) h =
        word_below (Element (array.Local a) i) (inl (stack_cell (Element (array.Local a) i) (frame_word y laid reach (shape_at attributed k body) (reg regs) caller (word_at access m) is (Element (array.Local a) i) h tt))) h
    words (Element (array.SureGlobal g n) i) h = absurd h
    words (Element (array.SureLocal a n) i) h = absurd h
    words (Kept b) h = word_below (Kept b) (inl (stack_cell (Kept b) (frame_word y laid reach (shape_at attributed k body) (reg regs) caller (word_at access m) is (Kept b) h tt))) h

    pub begins_shown : Shows Here access begin regs m
    begins_shown = record {
      are = are;
      left = λ q h. refl;
      count = temps_count contents.temps body.temps args count;
      sizes = sizes;
      temp_words = λ t q lt seat. subst (λ z. z < 2 ^ 32) (low_temp t q lt seat) (are.words q);
      in_register = low_temp;
      pinned = pinned;
      words = words;
      in_memory = in_memory;
    }

  -- and a state that is shown has the globals of its world
  pub globals_shown : (l : State) (after : List ℕ) (m' : M) → Shows Here access l after m' → HoldsGlobals access y machine budget far l.world m'
  globals_shown l after m' f = record {
    sizes = λ g. f.sizes (array.Global g);
    words = λ g i h. f.words (Element (array.Global g) i) h;
    loads = λ g i h. f.in_memory (Element (array.Global g) i) h;
  }
