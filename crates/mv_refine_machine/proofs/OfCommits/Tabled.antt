-- Orders do by the tables what they do in the source.
use Rattle.std.specs.Option.{option_map_or}
use Rattle.std.proofs.Common.{◌≡◌, ◌≢◌, inr, ℕ, suc, ◌+◌, ◌*◌, ◌%◌, ◌^◌, ◌<◌, ◌≤◌, Bool, true, false, ◌&&◌, ◌||◌, cond, eqb, ltb, List, [], ◌∷◌, length, map, take, drop, not, slice_get, slice_index, slice_index_or, is_some, unwrap_or, option_map, ◌++◌, Option, Some, None, Err, refl, sym, ap, ap₂, ◌∙◌, subst, arith}
use Rattle.std.specs.List.{All}
use Rattle.std.specs.Result.{result_ok}
use Rattle.std.specs.List.{position, position_from}
use Rattle.std.proofs.lemmas.Iterator.Adapters.{position_from-zero}
use Rattle.std.proofs.lemmas.Option.{unwrap_or-slice_get, slice_get_within}
use Rattle.std.proofs.lemmas.List.Elements.{All-nil, All-cons, All-head, All-tail}
use Rattle.mv_ast.specs.declared.program.Program.{Program}
use Rattle.mv_ast.specs.declared.program.Function.{Function}
use Rattle.mv_ast.specs.declared.program.Switch.{Switch}
use Rattle.mv_bindings.specs.declared.binding.Binding.{Binding}
use Rattle.mv_ast.specs.Switches as source
use Rattle.mv_ast.specs.Orders as source_orders
use Rattle.mv_ast.specs.Switches.{attributed_functions, switch_words, switch_global, word_at, words_or_none, committed, all_in_domain, global_or_none, pointed, bound_to_function}
use Rattle.mv_ast.specs.Numbering.{place_from, function_of_number}
use Rattle.mv_ast.specs.Orders.{is_addressed, is_pointer_addressed, ordered_function, ordered_pointer, ordered_from, bound_from}
use Rattle.mv_num.specs.Lists.{is_among}
use Rattle.mv_bindings.specs.OrderNumbers.{is_commit}
use Rattle.mv_bindings.specs.Bindings.{bound_to, free}
use Rattle.mv_descriptors.specs.declared.rows.SwitchRow.{SwitchRow}
use Rattle.mv_descriptors.specs.declared.rows.FunctionRow.{FunctionRow}
use Rattle.mv_descriptors.specs.declared.rows.PointerRow.{PointerRow}
use Rattle.mv_descriptors.specs.declared.rows.TargetRow.{TargetRow}
use Rattle.mv_fetch.specs.declared.memory.AccessError.TheVariants.{Misaligned}
use Rattle.mv_fetch.specs.Held.{Held, Room, region_of, index_of, present, joined, with_word, found, load, store}
use Rattle.mv_fetch.specs.Stores.{spared}
use Rattle.mv_rv32.specs.Stepping as memory
use Rattle.mv_rv32.specs.Stepping.{with_held}
use Rattle.mv_image.specs.Spelling.{Fields}
use Rattle.mv_image.specs.Faults.{Rules}
use Rattle.mv_image.specs.Patched.{fitting_variant}
use Rattle.mv_image.proofs.Limits.{is_within}
use Rattle.mv_patch.specs.Orders.{word_in, words_of_switches, bound_now, is_ordered, is_pointer_ordered, next_binding, next_pointer, pointed_now, bound_to_target, ordered_rows, bound_rows, bindings_ordered, answer_after, is_known_order}
use Rattle.mv_ir.specs.World.{World}
use Rattle.mv_machine.specs.Acts.{polls_of}
use Rattle.mv_machine.specs.Runs.{stored_word, with_value}
use Rattle.mv_ir_worlds.proofs.Combining.{combination_in, in_combination}
use Rattle.mv_select_code.specs.Control.Runs.{Machine}
use Rattle.mv_select.specs.Calls.Convention.{Layout, HoldsGlobals}
use Rattle.mv_select.specs.Functions.Functions.{IsWord, Kept}
use Rattle.mv_refine_machine.specs.Calm.{Rest}
use Rattle.mv_refine_machine.specs.Layout.{IsSetOut}
use Rattle.mv_refine_machine.specs.MachineRuns as runs
use Rattle.mv_refine_machine.specs.MachineRuns.{with_room}
use Rattle.mv_refine_machine.proofs.Whole as whole
use Rattle.mv_refine_machine.specs.Commits.Watched.{Watched, access, put_room}
use Rattle.mv_refine_machine.specs.Commits.Tabled.{IsTabled}
use Rattle.mv_refine_machine.proofs.OfCommits.Flips.{with_switch, flips_hold}
use Rattle.mv_refine_machine.proofs.OfCommits.Planned.{KeepsAll}
use Rattle.mv_refine_machine.proofs.OfCommits.Planning.{OrderAgrees, FlipAgrees}
use Rattle.mv_refine_machine.proofs.OfCommits.Served.{in_globals}
use Rattle.mv_ast.proofs.Common.{objects_at}
use Rattle.mv_num.proofs.Lists.{there_at}

-- ---- rows, and what they are of

-- An order addresses rows and what they are of alike, and binds them to the same.
module _ {A B : Type 0} (ordered : ℕ → A → Bool) (by_rows : ℕ → A → Binding) (addressed : ℕ → B → Bool) (by_source : B → Binding) where
  record Same (n : ℕ) (row : A) (g : B) : Type 0 where
    test : ordered n row ≡ addressed n g
    next : by_rows n row ≡ by_source g

  abbrev Matching : ℕ → List A → List B → Type 0
  Matching n rows gs = (k : ℕ) (row : A) (g : B) → slice_get rows k ≡ Some row → slice_get gs k ≡ Some g → Same (k + n) row g

  later : (n : ℕ) (row : A) (rows : List A) (g : B) (gs : List B) → Matching n (row ∷ rows) (g ∷ gs) → Matching (suc n) rows gs
  later n row rows g gs h k r f e i = let z : suc k + n ≡ k + suc n = omega arith in subst (λ j. Same j r f) z (h (suc k) r f e i)

  first : (n : ℕ) (row : A) (rows : List A) (g : B) (gs : List B) → Matching n (row ∷ rows) (g ∷ gs) → Same n row g
  first n row rows g gs h = let z : 0 + n ≡ n = omega arith in subst (λ j. Same j row g) z (h 0 row g refl refl)

  orders_same : (rows : List A) (gs : List B) (n : ℕ) (bs : List Binding) → length rows ≡ length gs → Matching n rows gs → ordered_rows ordered by_rows n rows bs ≡ ordered_from addressed by_source n gs bs
  orders_same [] [] n bs e h = refl
  orders_same [] (g ∷ gs) n bs e h = absurd (omega (arith, e))
  orders_same (row ∷ rows) [] n bs e h = absurd (omega (arith, e))
  orders_same (row ∷ rows) (g ∷ gs) n [] e h = refl
  orders_same (row ∷ rows) (g ∷ gs) n (b ∷ bs) e h =
      let now = first n row rows g gs h in
      ap₂ (λ (t : Bool) (x : Binding). cond t x b ∷ ordered_rows ordered by_rows (suc n) rows bs) now.test now.next
      ∙ ap (λ (xs : List Binding). cond (addressed n g) (by_source g) b ∷ xs) (orders_same rows gs (suc n) bs (omega (arith, e)) (later n row rows g gs h))

  answers_same : (rows : List A) (gs : List B) (n : ℕ) (bs : List Binding) → length rows ≡ length gs → Matching n rows gs → bound_rows ordered n rows bs ≡ bound_from addressed n gs bs
  answers_same [] [] n bs e h = refl
  answers_same [] (g ∷ gs) n bs e h = absurd (omega (arith, e))
  answers_same (row ∷ rows) [] n bs e h = absurd (omega (arith, e))
  answers_same (row ∷ rows) (g ∷ gs) n [] e h = refl
  answers_same (row ∷ rows) (g ∷ gs) n (b ∷ bs) e h =
      let now = first n row rows g gs h in
      ap₂ (λ (t : Bool) (k : ℕ). cond (t && b.bound) 1 0 + k) now.test (answers_same rows gs (suc n) bs (omega (arith, e)) (later n row rows g gs h))

module _ {A : Type 0} (ordered : ℕ → A → Bool) where
  few_bound : (rows : List A) (n : ℕ) (bs : List Binding) → bound_rows ordered n rows bs ≤ length rows
  few_bound [] n bs = omega arith
  few_bound (row ∷ rows) n [] = omega arith
  few_bound (row ∷ rows) n (b ∷ bs) = one (ordered n row && b.bound) (few_bound rows (suc n) bs)
    where
      one : (t : Bool) → bound_rows ordered (suc n) rows bs ≤ length rows → cond t 1 0 + bound_rows ordered (suc n) rows bs ≤ length (row ∷ rows)
      one true le = omega (arith, le)
      one false le = omega (arith, le)

-- ---- targets

abbrev has_entry : ℕ → TargetRow → Bool
has_entry v target = eqb target.entry v

target_from : (targets : List TargetRow) (i v : ℕ) → position_from (has_entry v) i targets ≡ place_from i (map (λ (target : TargetRow). target.entry) targets) v
target_from [] i v = refl
target_from (target ∷ targets) i v =
    let next : i + 1 ≡ suc i = omega arith in
    ap (λ k. cond (eqb target.entry v) (Some i) (position_from (has_entry v) k targets)) next ∙ ap (λ (o : Option ℕ). cond (eqb target.entry v) (Some i) o) (target_from targets (suc i) v)

-- the first target with an entry is the function that has this number
target_is : (targets : List TargetRow) (numbers : List ℕ) (v : ℕ) → map (λ (target : TargetRow). target.entry) targets ≡ numbers → position (has_entry v) targets ≡ function_of_number numbers v
target_is targets numbers v e = position_from-zero (has_entry v) targets ∙ target_from targets 0 v ∙ ap (λ (ns : List ℕ). place_from 0 ns v) e

same_bound : (o : Option ℕ) → bound_to_target o ≡ bound_to_function o
same_bound None = refl
same_bound (Some t) = refl

-- ---- the words of switches

module _ (p : Program) (numbers : List ℕ) (y : Layout) (image : Fields) (tabled : IsTabled p numbers y image) (w : World) (m : Watched) (machine : Machine Watched) (budget far : ℕ)
    (holds : HoldsGlobals access y machine budget far w m) where
  abbrev held : Held
  held = m.rest.room.held

  loaded : (a v : ℕ) → access.load m a 4 ≡ Some v → result_ok (load held a 4) ≡ Some v
  unfolding access memory.access
  loaded a v e = e

  -- the first word of a global, in memory at its place
  first_word : (g a : ℕ) → 0 < y.size g → a ≡ y.place g → (unwrap_or (result_ok (load held a 4)) 0 ≡ word_at w.globals g 0) × (word_at w.globals g 0 < 2 ^ 32)
  first_word g a size at =
      let there : a ≡ y.place g + 4 * 0 = at ∙ (let z : y.place g ≡ y.place g + 4 * 0 = omega arith in z) in
      let word : word_at w.globals g 0 ≡ slice_index (slice_index_or w.globals g []) 0 =
      unwrap_or-slice_get (words_or_none (slice_get w.globals g)) 0 0 ∙ ap (λ (xs : List ℕ). slice_index xs 0) (objects_at w.globals g) in
      let found : result_ok (load held a 4) ≡ Some (slice_index (slice_index_or w.globals g []) 0) =
      ap (λ b. result_ok (load held b 4)) there ∙ loaded (y.place g + 4 * 0) (slice_index (slice_index_or w.globals g []) 0) (holds.loads g 0 size) in (
        ap (λ (o : Option ℕ). unwrap_or o 0) found ∙ sym word,
        subst (λ (v : ℕ). v < 2 ^ 32) (sym word) (holds.words g 0 size),
      )

  word_is : (s : ℕ) → s < length p.switches → (word_in held (slice_get image.switches s) ≡ word_at w.globals (switch_global p s) 0) × (word_at w.globals (switch_global p s) 0 < 2 ^ 32)
  word_is s lt =
      let own = there_at p.switches s lt in
      let row = there_at image.switches s (omega (arith, lt, tabled.switches)) in
      let global : switch_global p s ≡ own.0.global = ap global_or_none own.1 in
      let word = first_word own.0.global row.0.address (tabled.sizes s own.0 own.1) (tabled.switch s own.0 row.0 own.1 row.1) in (
        ap (word_in held) row.1 ∙ word.0 ∙ ap (λ k. word_at w.globals k 0) (sym global),
        subst (λ (k : ℕ). word_at w.globals k 0 < 2 ^ 32) (sym global) word.1,
      )

  words_are : (ss : List ℕ) → All (λ (s : ℕ). s < length p.switches) ss → map (λ (s : ℕ). word_in held (slice_get image.switches s)) ss ≡ switch_words p w.globals ss
  words_are [] h = refl
  words_are (s ∷ ss) h =
      ap₂ (λ (x : ℕ) (xs : List ℕ). x ∷ xs) (word_is s (All-head (λ (s : ℕ). s < length p.switches) s ss h)).0 (words_are ss (All-tail (λ (s : ℕ). s < length p.switches) s ss h))

  words_count : (ss : List ℕ) → length (switch_words p w.globals ss) ≡ length ss
  words_count [] = refl
  words_count (s ∷ ss) = ap suc (words_count ss)

  words_small : (ss : List ℕ) → All (λ (s : ℕ). s < length p.switches) ss → All (λ v. v < 2 ^ 32) (switch_words p w.globals ss)
  words_small [] h = All-nil (λ v. v < 2 ^ 32)
  words_small (s ∷ ss) h =
      All-cons (λ v. v < 2 ^ 32) (word_at w.globals (switch_global p s) 0) (switch_words p w.globals ss) (word_is s (All-head (λ (s : ℕ). s < length p.switches) s ss h)).1
      (words_small ss (All-tail (λ (s : ℕ). s < length p.switches) s ss h))

  -- a variant of a function fits the words of its switches where each is in its domain
  fits_them : (n : ℕ) (g : Function) → slice_get (attributed_functions p) n ≡ Some g
      → is_some (fitting_variant image n (switch_words p w.globals g.switches)) ≡ all_in_domain p g.switches (switch_words p w.globals g.switches)
  fits_them n g f = by_test (all_in_domain p g.switches (switch_words p w.globals g.switches)) refl
    where
      value : ℕ → ℕ
      value s = word_at w.globals (switch_global p s) 0

      by_test : (b : Bool) → all_in_domain p g.switches (switch_words p w.globals g.switches) ≡ b → is_some (fitting_variant image n (switch_words p w.globals g.switches)) ≡ b
      by_test true e = tabled.combinations n g (switch_words p w.globals g.switches) f (combination_in p value g.switches e)
      by_test false e =
          ap is_some (tabled.others n g (switch_words p w.globals g.switches) f (words_count g.switches) (words_small g.switches (tabled.there n g f))
          (λ c. let wrong : true ≡ false = sym (in_combination p value g.switches c) ∙ e in cc))

  -- ---- functions

  -- a row and its function
  record Match (n : ℕ) (row : FunctionRow) (g : Function) : Type 0 where
    switches : take row.count row.switches ≡ g.switches
    bound : bound_now image held n row ≡ committed p w.globals g

  matches : (n : ℕ) (row : FunctionRow) (g : Function) → slice_get image.functions n ≡ Some row → slice_get (attributed_functions p) n ≡ Some g → Match n row g
  matches n row g e f =
      let same = tabled.function n g row f e in
      let vs = switch_words p w.globals g.switches in
      let there = tabled.there n g f in
      let words : words_of_switches image held row ≡ vs = ap (map (λ (s : ℕ). word_in held (slice_get image.switches s))) same ∙ words_are g.switches there in
      let fits = fits_them n g f in
      record {
        switches = same;
        bound = ap (λ (us : List ℕ). cond (is_some (fitting_variant image n us)) (bound_to us) free) words ∙ ap (λ b. cond b (bound_to vs) free) fits;
      }

  -- ---- pointer switches

  -- the target that a pointer switch is bound to is the function to which it points
  points : (q : ℕ) (row : PointerRow) (g : ℕ) → slice_get image.pointers q ≡ Some row → slice_get p.pointers q ≡ Some g → pointed_now image held row ≡ pointed numbers w.globals g
  points q row g e f =
      let within = slice_get_within p.pointers q g f in
      let word = (first_word g row.address (tabled.pointer_sizes q g f) (tabled.pointer q g row f e)).0 in
      ap (λ v. bound_to_target (position (has_entry v) image.targets)) word
      ∙ ap bound_to_target (target_is image.targets numbers (word_at w.globals g 0) (tabled.targets (omega (arith, within)))) ∙ same_bound (function_of_number numbers (word_at w.globals g 0))

  module _ (code index : ℕ) where
    functions_match : Matching (is_ordered code index) (next_binding image held code) (is_addressed code index) (ordered_function p code w.globals) 0 image.functions (attributed_functions p)
    functions_match k row g e f =
        let h = matches k row g e f in
        let z : k ≡ k + 0 = omega arith in
        subst (λ n. Same (is_ordered code index) (next_binding image held code) (is_addressed code index) (ordered_function p code w.globals) n row g) z
        (record {
          test = ap (λ (ss : List ℕ). ltb code 2 || cond (ltb code 4) (eqb k index) (is_among index ss)) h.switches;
          next = ap (λ (x : Binding). cond (is_commit code) x free) h.bound;
        })

    pointers_match : Matching (is_pointer_ordered image code index) (next_pointer image held code) (is_pointer_addressed p code index) (ordered_pointer numbers code w.globals) 0 image.pointers p.pointers
    pointers_match k row g e f =
        let z : k ≡ k + 0 = omega arith in
        subst (λ n. Same (is_pointer_ordered image code index) (next_pointer image held code) (is_pointer_addressed p code index) (ordered_pointer numbers code w.globals) n row g) z
        (record {
          test = ap (λ n. ltb code 2 || (not (ltb code 4) && eqb (n + k) index)) tabled.switches;
          next = ap (λ (x : Binding). cond (is_commit code) x free) (points k row g e f);
        })

    -- the bindings of the pointer switches stand behind those of as many functions
    behind : (bs : List Binding) → drop (length image.functions) bs ≡ drop (length (attributed_functions p)) bs
    behind bs = ap (λ n. drop n bs) tabled.functions

    bindings_same : bindings_ordered image held code index w.bindings ≡ source_orders.bindings_after p numbers code index w.globals w.bindings
    unfolding bindings_ordered
    bindings_same =
        ap₂ (λ (xs ys : List Binding). xs ++ ys)
        (orders_same (is_ordered code index) (next_binding image held code) (is_addressed code index) (ordered_function p code w.globals) image.functions (attributed_functions p) 0 w.bindings tabled.functions functions_match)
        (ap (ordered_rows (is_pointer_ordered image code index) (next_pointer image held code) 0 image.pointers) (behind w.bindings)
        ∙ orders_same (is_pointer_ordered image code index) (next_pointer image held code) (is_pointer_addressed p code index) (ordered_pointer numbers code w.globals) image.pointers p.pointers 0
        (drop (length (attributed_functions p)) w.bindings) tabled.pointers pointers_match)

    answer_same : (bs : List Binding) → answer_after image code index bs ≡ cond (is_commit code) (source_orders.bound_after p code index bs) 0
    unfolding answer_after
    answer_same bs = ap (λ (k : ℕ). cond (is_commit code) k 0)
        (ap₂ (λ (m n : ℕ). m + n)
        (answers_same (is_ordered code index) (next_binding image held code) (is_addressed code index) (ordered_function p code w.globals) image.functions (attributed_functions p) 0 bs tabled.functions functions_match)
        (ap (bound_rows (is_pointer_ordered image code index) 0 image.pointers) (behind bs)
        ∙ answers_same (is_pointer_ordered image code index) (next_pointer image held code) (is_pointer_addressed p code index) (ordered_pointer numbers code w.globals) image.pointers p.pointers 0
        (drop (length (attributed_functions p)) bs) tabled.pointers pointers_match))

    answer_small : Rules image → (bs : List Binding) → answer_after image code index bs < 2 ^ 32
    unfolding answer_after
    answer_small rules bs =
        let limits = is_within image rules in
        below (is_commit code) (few_bound (is_ordered code index) image.functions 0 bs) (few_bound (is_pointer_ordered image code index) image.pointers 0 (drop (length image.functions) bs)) limits.functions limits.pointers
      where
        below : (t : Bool) {j k m n : ℕ} → j ≤ m → k ≤ n → m ≤ 1000 → n ≤ 64 → cond t (j + k) 0 < 2 ^ 32
        below true le le' few few' = omega (arith, le, le', few, few')
        below false le le' few few' = omega arith

    pub agrees : Rules image → is_known_order image code index ≡ true → OrderAgrees p numbers image w held code index
    agrees rules known =
        let bs = bindings_ordered image held code index w.bindings in
        record { known = known; bindings = bindings_same; answers = answer_same bs; small = answer_small rules bs }

-- ---- flips

-- what a store into data leaves
data_keeps : (r : Room) (k old new : ℕ) → KeepsAll r (with_held 0x0010_0000 r (with_word r.held (region_of 0x0010_0000) k old new))
unfolding region_of
data_keeps r k old new = record { text = refl; older = refl; stack = refl; plan = refl; spare = refl; reserve = refl }

put_keeps : (r : Room) (a k old new : ℕ) → 0x0010_0000 ≤ a → a < 0x0020_0000 → KeepsAll r (with_held a r (with_word r.held (region_of a) k old new))
put_keeps r a k old new ge lt =
    subst (λ g. KeepsAll r (record { held = with_word r.held g k old new; spare = spared g r.spare; reserve = r.reserve })) (sym (in_globals a ge lt)) (data_keeps r k old new)

store_parts : (r r' : Room) (a v : ℕ) (b : Bool) (o : Option ℕ) → 0x0010_0000 ≤ a → a < 0x0020_0000
    → option_map (with_held a r) (result_ok (cond b (found a o (λ w. with_word r.held (region_of a) (index_of a) w (joined a 4 w v))) (Err (Misaligned a)))) ≡ Some r' → KeepsAll r r'
store_parts r r' a v true (Some w) ge lt e =
    let same : with_held a r (with_word r.held (region_of a) (index_of a) w (joined a 4 w v)) ≡ r' = cc in
    subst (KeepsAll r) same (put_keeps r a (index_of a) w (joined a 4 w v) ge lt)
store_parts r r' a v true None ge lt e = absurd (cc)
store_parts r r' a v false o ge lt e = absurd (cc)

data_store : (r r' : Room) (a v : ℕ) → 0x0010_0000 ≤ a → a < 0x0020_0000 → memory.access.store r a 4 v ≡ Some r' → KeepsAll r r'
unfolding memory.access store
data_store r r' a v ge lt e = store_parts r r' a v (eqb (a % 4) 0) (present r.held a) ge lt e

-- the store of all but registers and pc is one of the room
pub room_stored : (m after : Rest) (o : Option Room) → option_map (with_room m) o ≡ Some after → (r : Room) × (o ≡ Some r) × (after ≡ with_room m r)
room_stored m after None e = absurd (cc)
room_stored m after (Some r) e = (r, refl, cc)

module _ (p : Program) (numbers : List ℕ) (y : Layout) (laid : IsSetOut y) (image : Fields) (rules : Rules image) (tabled : IsTabled p numbers y image) (w : World) (m : Watched) (machine : Machine Watched) (budget far : ℕ)
    (holds : HoldsGlobals access y machine budget far w m) (switch value : ℕ) (lt : switch < length p.switches) (small : value < 2 ^ 32) where
  own : (x : Switch) × (slice_get p.switches switch ≡ Some x)
  own = there_at p.switches switch lt

  row : (x : SwitchRow) × (slice_get image.switches switch ≡ Some x)
  row = there_at image.switches switch (omega (arith, lt, tabled.switches))

  abbrev g : ℕ
  g = own.0.global

  global : source.switch_global p switch ≡ g
  global = ap global_or_none own.1

  size : 0 < y.size g
  size = tabled.sizes switch own.0 own.1

  abbrev at : ℕ
  at = y.place g + 4 * 0

  at_row : row.0.address ≡ at
  at_row = tabled.switch switch own.0 row.0 own.1 row.1 ∙ (let z : y.place g ≡ y.place g + 4 * 0 = omega arith in z)

  -- the machine's store, as the one of the rest
  record Stores : Type 0 where
    room : Room
    stored : memory.access.store m.rest.room at 4 value ≡ Some room
    same : memory.access.load room at 4 ≡ Some value
    others : (c : ℕ) → IsWord y c → c ≢ at → memory.access.load room c 4 ≡ memory.access.load m.rest.room c 4

  stores : Stores
  unfolding access runs.access
  stores =
      let kept = (whole.memory y laid [] (λ pc a. false) image [] (polls_of []) []).stores m.rest at value (slice_index (slice_index_or w.globals g []) 0) (inr (g, 0, size, refl)) small (holds.loads g 0 size) in
      let r = room_stored m.rest kept.after (memory.access.store m.rest.room at 4 value) kept.stored in
      record {
        room = r.0;
        stored = r.1;
        same = ap (λ (x : Rest). memory.access.load x.room at 4) (sym r.2) ∙ kept.same;
        others = λ c word ne. ap (λ (x : Rest). memory.access.load x.room c 4) (sym r.2) ∙ kept.others c word ne;
      }

  kept : Kept access y m at value
  unfolding access
  kept = record { after = put_room m stores.room; stored = ap (option_map (put_room m)) stores.stored; same = stores.same; others = stores.others }

  value_is : with_value image m.rest.room switch value ≡ stores.room
  value_is =
      ap (λ (o : Option SwitchRow). option_map_or (λ (r : SwitchRow). stored_word m.rest.room r.address value) o m.rest.room) row.1
      ∙ ap (λ a. unwrap_or (memory.access.store m.rest.room a 4 value) m.rest.room) at_row
      ∙ ap (λ (o : Option Room). unwrap_or o m.rest.room) stores.stored

  holds_then : HoldsGlobals access y machine budget far (with_switch w g value) (put_room m stores.room)
  unfolding kept
  holds_then = flips_hold access y (whole.laid y laid) machine budget far w m holds g value size small kept

  no_order : is_known_order image 0 0 ≡ true
  unfolding is_known_order
  no_order = refl

  keeps : KeepsAll m.rest.room stores.room
  keeps =
      let begins = laid.data_begins g size in let ends = laid.data_ends g size in
      data_store m.rest.room stores.room at value (omega (arith, begins)) (omega (arith, ends, size)) stores.stored

  pub flip_agrees : FlipAgrees y machine budget far p numbers image w m switch value
  flip_agrees =
      subst (λ (k : ℕ). FlipAgrees y machine budget far p numbers image w m switch value) global
      (record {
        keeps = subst (λ (r : Room). KeepsAll m.rest.room r) (sym value_is) keeps;
        holds = subst (λ (k : ℕ). HoldsGlobals access y machine budget far (with_switch w k value) (put_room m (with_value image m.rest.room switch value))) (sym global)
            (subst (λ (r : Room). HoldsGlobals access y machine budget far (with_switch w g value) (put_room m r)) (sym value_is) holds_then);
        agrees = subst (λ (k : ℕ). OrderAgrees p numbers image (with_switch w k value) (with_value image m.rest.room switch value).held 0 0) (sym global)
            (subst (λ (r : Room). OrderAgrees p numbers image (with_switch w g value) r.held 0 0) (sym value_is)
            (agrees p numbers y image tabled (with_switch w g value) (put_room m stores.room) machine budget far holds_then 0 0 rules no_order));
      })
