-- Each function that is bound in a state of a run has a variant, and each pointer switch that is bound a target.
use Rattle.std.proofs.Common.{arith, ◌≡◌, ℕ, zero, suc, ◌+◌, ◌-◌, ◌^◌, ◌<◌, ◌≤◌, Bool, true, false, ◌&&◌, cond, eqb, if◌then◌else◌, nat_eq, min, List, [], ◌∷◌, ◌++◌, length, map, take, drop, replicate, is_some, Option, Some, None, refl, sym, ap, ◌∙◌, subst}
use Rattle.std.specs.Prelude.{option_and_then, slice_get}
use Rattle.std.specs.List.{list_any, position}
use Rattle.std.proofs.lemmas.List.{length-append, length-map, length-take, length-drop, length-replicate}
use Rattle.std.proofs.lemmas.List.Quantifiers.{position-Some}
use Rattle.std.proofs.Math.Seq.{drop-append_seam}
use Rattle.std.proofs.lemmas.Option.{slice_get-get_or, slice_get_within, get_or_from_slice_get}
use Rattle.mv_bindings.specs.declared.action.Action.{Action}
use Rattle.mv_bindings.specs.declared.action.Action.TheVariants as action
use Rattle.mv_bindings.specs.declared.binding.Binding.{Binding}
use Rattle.mv_bindings.specs.Bindings.{free, bound_to}
use Rattle.mv_bindings.specs.OrderNumbers.{is_commit}
use Rattle.mv_bindings.specs.Acts.{Act, Skip, Flip, Adopt, act_of}
use Rattle.mv_descriptors.specs.declared.rows.FunctionRow.{FunctionRow}
use Rattle.mv_descriptors.specs.declared.rows.GuardRow.{GuardRow}
use Rattle.mv_descriptors.specs.declared.rows.VariantRow.{VariantRow}
use Rattle.mv_descriptors.specs.declared.rows.PointerRow.{PointerRow}
use Rattle.mv_descriptors.specs.declared.rows.TargetRow.{TargetRow}
use Rattle.mv_descriptors.specs.Guards.{fitting, holds}
use Rattle.mv_isa.specs.declared.instr.Cause.TheVariants as cause
use Rattle.mv_fetch.specs.Held.{Held}
use Rattle.mv_image.specs.Patched.{variants_before, guards_before, kinds_of, fitting_in, fitting_variant, variant_under, target_under}
use Rattle.mv_image.specs.Spelling.{Fields}
use Rattle.mv_image.proofs.RowsFit.{functions_fit}
use Rattle.mv_patch.specs.Orders.{binding_count, pointer_bindings, bound_values, bound_now, next_binding, pointer_word, bound_to_target, next_pointer, words_of_switches, word_in, ordered_rows, is_ordered, is_pointer_ordered, is_known_order, bindings_ordered}
use Rattle.mv_patch.specs.Plans.{plan_of}
use Rattle.mv_patch.proofs.Rebinding.{ordered_count, behind_others}
use Rattle.mv_machine.specs.Acts.{polls_of}
use Rattle.mv_machine.specs.Runs.{State, Fault, answered, stopped, live_frames, refused, ordered, planned, acted, polled, with_value, runs_from, first}
use Rattle.mv_refine_machine.proofs.Keeping.{runs_keep, plans_keep}
use Rattle.mv_count_words.specs.Bound.{RunsAreBound}
use Rattle.mv_machine.proofs.Leaving.{either}

-- ---- what polls take

-- no bindings of another hart
abbrev IsOwn : Act → Type 0
IsOwn Skip = Unit {0}
IsOwn (Flip switch value) = Unit {0}
IsOwn (Adopt bs) = ⊥

abbrev AreOwn : List Act → Type 0
AreOwn [] = Unit {0}
AreOwn (a ∷ acts) = IsOwn a × AreOwn acts

own_actions : (actions : List Action) → AreOwn (map act_of actions)
own_actions [] = tt
own_actions (action.Skip ∷ actions) = (tt, own_actions actions)
own_actions (action.Flip switch value ∷ actions) = (tt, own_actions actions)

-- ---- values that a variant fits have a row of it

record IsNumbered (n k count : ℕ) : Type 0 where
  from : n ≤ k
  below : k < n + count

numbered : (test : GuardRow → Bool) (n k : ℕ) (variants : List VariantRow) (rows : List GuardRow) → fitting test n variants rows ≡ Some k → IsNumbered n k (length variants)
unfolding fitting
numbered test n k [] rows e = absurd (let bad : ⊥ = cc in bad)
numbered test n k (v ∷ variants) rows e = by (numbered test (suc n) k variants (drop v.guards rows)) (list_any test (take v.guards rows)) refl
  where
    by : (fitting test (suc n) variants (drop v.guards rows) ≡ Some k → IsNumbered (suc n) k (length variants)) → (b : Bool) → list_any test (take v.guards rows) ≡ b → IsNumbered n k (length (v ∷ variants))
    by later true t =
        let here : Some n ≡ Some k = ap (λ b. cond b (Some n) (fitting test (suc n) variants (drop v.guards rows))) (sym t) ∙ e in
        let same : n ≡ k = cc in record { from = omega (arith, same); below = omega (arith, same) }
    by later false t =
        let rest = later (ap (λ b. cond b (Some n) (fitting test (suc n) variants (drop v.guards rows))) (sym t) ∙ e) in
        let from = rest.from in
        let below = rest.below in record { from = omega (arith, from); below = omega (arith, below) }

-- a row of a table is there
row_there : {R : Type 0} (rows : List R) (k : ℕ) → k < length rows → is_some (slice_get rows k) ≡ true
row_there [] k lt = absurd (omega (arith, lt))
row_there (row ∷ rows) k lt = ap is_some (slice_get-get_or (row ∷ rows) k row lt)

-- ---- bindings one after the other

-- what holds of each binding from a number on
abbrev AreFrom : (ℕ → Binding → Type 0) → ℕ → List Binding → Type 0
AreFrom P i [] = Unit {0}
AreFrom P i (b ∷ bs) = P i b × AreFrom P (suc i) bs

module _ (P : ℕ → Binding → Type 0) where
  from_append : (i : ℕ) (xs ys : List Binding) → AreFrom P i xs → AreFrom P (i + length xs) ys → AreFrom P i (xs ++ ys)
  from_append i [] ys h k = let none : i + 0 ≡ i = omega arith in subst (λ n. AreFrom P n ys) none k
  from_append i (x ∷ xs) ys h k =
      let next : i + suc (length xs) ≡ suc i + length xs = omega arith in
      (h.0, from_append (suc i) xs ys h.1 (subst (λ n. AreFrom P n ys) next k))

  from_free : ((i : ℕ) → P i free) → (i k n : ℕ) → AreFrom P i (drop k (replicate n free))
  from_free each i zero zero = tt
  from_free each i zero (suc n) = (each i, from_free each (suc i) zero n)
  from_free each i (suc k) zero = tt
  from_free each i (suc k) (suc n) = from_free each i k n

  from_at : (i : ℕ) (bs : List Binding) (n : ℕ) (b : Binding) → AreFrom P i bs → slice_get bs n ≡ Some b → P (i + n) b
  from_at i [] n b are e = absurd (let bad : ⊥ = cc in bad)
  from_at i (x ∷ bs) zero b are e =
      let same : x ≡ b = cc in
      let here : i ≡ i + 0 = omega arith in subst (λ m. P m b) here (subst (P i) same are.0)
  from_at i (x ∷ bs) (suc n) b are e = let next : suc i + n ≡ i + suc n = omega arith in subst (λ m. P m b) next (from_at (suc i) bs n b are.1 e)

  -- an order keeps it, where what it binds has it
  ordered_from : {A : Type 0} (addressed : ℕ → A → Bool) (next : ℕ → A → Binding) (i : ℕ) (rows : List A) (old : List Binding) →
      ((k : ℕ) (row : A) → slice_get rows k ≡ Some row → P (i + k) (next (i + k) row)) → AreFrom P i old → AreFrom P i (ordered_rows addressed next i rows old)
  ordered_from addressed next i [] old each are = tt
  ordered_from addressed next i (row ∷ rows) [] each are = tt
  ordered_from addressed next i (row ∷ rows) (b ∷ old) each are = (
    by (addressed i row),
    ordered_from addressed next (suc i) rows old (λ k x e. (let on : i + suc k ≡ suc i + k = omega arith in subst (λ n. P n (next n x)) on (each (suc k) x e))) are.1,
  )
    where
      by : (t : Bool) → P i (if t then next i row else b)
      by true = let none : i + 0 ≡ i = omega arith in subst (λ n. P n (next n row)) none (each 0 row refl)
      by false = are.0

module _ (image : Fields) where
  in_table : (f : ℕ) (vs : List ℕ) (o : Option FunctionRow) (k : ℕ) → option_and_then (fitting_in image f vs) o ≡ Some k → k < length image.variants
  in_table f vs None k e = absurd (let bad : ⊥ = cc in bad)
  in_table f vs (Some row) k e =
      let before = variants_before image f in
      let is = numbered (holds (kinds_of image row) vs) before k (take row.variants (drop before image.variants)) (drop (guards_before image before) image.guards) e in
      let from = is.from in
      let below = is.below in
      let some = length-take row.variants (drop before image.variants) in
      let later = length-drop before image.variants in omega (arith, from, below, some, later)

  shown : (f : ℕ) (vs : List ℕ) (o : Option ℕ) → fitting_variant image f vs ≡ o → is_some o ≡ true → is_some (option_and_then (slice_get image.variants) o) ≡ true
  unfolding fitting_variant
  shown f vs None e some = absurd (let bad : false ≡ true = some in cc)
  shown f vs (Some k) e some = row_there image.variants k (in_table f vs (slice_get image.functions f) k e)

  under_some : (f : ℕ) (vs : List ℕ) → is_some (fitting_variant image f vs) ≡ true → is_some (variant_under image f (Some vs)) ≡ true
  unfolding variant_under
  under_some f vs some = shown f vs (fitting_variant image f vs) refl some

  -- ---- what is bound

  -- a binding that binds a function has a variant of it
  abbrev IsOne : ℕ → Binding → Type 0
  IsOne f b = b.bound ≡ true → is_some (variant_under image f (bound_values b)) ≡ true

  -- and one that binds a pointer switch a target
  abbrev IsLed : Binding → Type 0
  IsLed b = b.bound ≡ true → is_some (target_under image (bound_values b)) ≡ true

  free_one : (f : ℕ) → IsOne f free
  free_one f is = absurd (let bad : false ≡ true = is in cc)

  bound_is : (vs : List ℕ) → length vs ≤ 6 → bound_values (bound_to vs) ≡ Some vs
  bound_is vs few =
      let count : min 6 (length vs) ≡ length vs = omega (arith, few) in
      ap (λ k. Some (take k (take 6 (vs ++ replicate 6 0)))) count ∙ ap Some (take_both 6 vs (replicate 6 0) few)
    where
      take_both : (n : ℕ) (xs rest : List ℕ) → length xs ≤ n → take (length xs) (take n (xs ++ rest)) ≡ xs
      take_both n [] rest h = refl
      take_both zero (x ∷ xs) rest h = absurd (omega (arith, h))
      take_both (suc n) (x ∷ xs) rest h = ap (λ l. x ∷ l) (take_both n xs rest (omega (arith, h)))

  now_one : (held : Held) (f : ℕ) (row : FunctionRow) → row.count ≤ 6 → IsOne f (bound_now image held f row)
  now_one held f row few = by (is_some (fitting_variant image f (words_of_switches image held row))) refl
    where
      by : (b : Bool) → is_some (fitting_variant image f (words_of_switches image held row)) ≡ b → IsOne f (if b then bound_to (words_of_switches image held row) else free)
      by false e = free_one f
      by true e = λ is. (
          let all = length-map (take row.count row.switches) (λ (s : ℕ). word_in held (slice_get image.switches s)) in
          let some = length-take row.count row.switches in
          subst (λ (o : Option (List ℕ)). is_some (variant_under image f o) ≡ true) (sym (bound_is (words_of_switches image held row) (omega (arith, all, some, few))))
          (under_some f (words_of_switches image held row) e))

  next_one : (held : Held) (code f : ℕ) (row : FunctionRow) → row.count ≤ 6 → IsOne f (next_binding image held code f row)
  next_one held code f row few = by (is_commit code)
    where
      by : (b : Bool) → IsOne f (if b then bound_now image held f row else free)
      by true = now_one held f row few
      by false = free_one f

  free_led : IsLed free
  free_led is = absurd (let bad : false ≡ true = is in cc)

  target_some : (t : ℕ) → t < length image.targets → is_some (target_under image (Some (suc t ∷ []))) ≡ true
  unfolding target_under
  target_some t lt =
      let index : suc t - 1 ≡ t = omega arith in
      subst (λ n. is_some (slice_get image.targets n) ≡ true) (sym index) (row_there image.targets t lt)

  to_led : (o : Option ℕ) → ((t : ℕ) → o ≡ Some t → t < length image.targets) → IsLed (bound_to_target o)
  to_led None within = free_led
  to_led (Some t) within = λ is. subst (λ (o : Option (List ℕ)). is_some (target_under image o) ≡ true) (sym (bound_is (suc t ∷ []) (omega arith))) (target_some t (within t refl))

  next_led : (held : Held) (code q : ℕ) (row : PointerRow) → IsLed (next_pointer image held code q row)
  next_led held code q row = by (is_commit code)
    where
      first : Option ℕ
      first = position (λ (target : TargetRow). eqb target.entry (pointer_word held row)) image.targets

      by : (b : Bool) → IsLed (if b then bound_to_target first else free)
      by true = to_led first (λ t e. (position-Some (λ (target : TargetRow). eqb target.entry (pointer_word held row)) image.targets t (record { length = 0; entry = 0 }) e).0)
      by false = free_led

  -- ---- states

  abbrev functions : ℕ
  functions = length image.functions

  -- of a number below the functions'
  abbrev OfFunction : ℕ → Binding → Type 0
  OfFunction f b = f < functions → IsOne f b

  abbrev OfPointer : ℕ → Binding → Type 0
  OfPointer q b = IsLed b

  record AreAll (bs : List Binding) : Type 0 where
    count : length bs ≡ binding_count image
    of_functions : AreFrom OfFunction 0 bs
    of_pointers : AreFrom OfPointer 0 (pointer_bindings image bs)

  -- behind the functions nothing is said of them
  behind : (i : ℕ) (bs : List Binding) → functions ≤ i → AreFrom OfFunction i bs
  behind i [] le = tt
  behind i (b ∷ bs) le = (λ lt. absurd (omega (arith, le, lt)), behind (suc i) bs (omega (arith, le)))

  module _ (few : (i : ℕ) (row : FunctionRow) → slice_get image.functions i ≡ Some row → row.count ≤ 6) where
    order_all : (held : Held) (old : List Binding) (code index : ℕ) → AreAll old → AreAll (plan_of image held old code index).bound
    unfolding plan_of bindings_ordered
    order_all held old code index all =
        let first : List Binding = ordered_rows (is_ordered code index) (next_binding image held code) 0 image.functions old in
        let last : List Binding = ordered_rows (is_pointer_ordered image code index) (next_pointer image held code) 0 image.pointers (pointer_bindings image old) in
        let many = all.count in
        let size : length first ≡ functions = ordered_count (is_ordered code index) (next_binding image held code) 0 image.functions old (omega (arith, many)) in
        let rest : length last ≡ length image.pointers =
        ordered_count (is_pointer_ordered image code index) (next_pointer image held code) 0 image.pointers (pointer_bindings image old) (omega (arith, many, length-drop functions old)) in
        let pointers : drop functions (first ++ last) ≡ last = ap (λ n. drop n (first ++ last)) (sym size) ∙ drop-append_seam first last in
        record {
          count = omega (arith, length-append first last, size, rest);
          of_functions =
              from_append OfFunction 0 first last
              (ordered_from OfFunction (is_ordered code index) (next_binding image held code) 0 image.functions old (λ k row e lt. next_one held code (0 + k) row (few k row e)) all.of_functions)
              (behind (0 + length first) last (omega (arith, size)));
          of_pointers =
              subst (AreFrom OfPointer 0) (sym pointers)
              (ordered_from OfPointer (is_pointer_ordered image code index) (next_pointer image held code) 0 image.pointers (pointer_bindings image old) (λ k row e. next_led held code (0 + k) row) all.of_pointers);
        }

    abbrev Has : State → Type 0
    Has s = (s.image ≡ image) × AreAll s.bindings × AreOwn s.actions

    plan_all : (s : State) (held : Held) (code index : ℕ) → Has s → AreAll (plan_of s.image held s.bindings code index).bound
    plan_all s held code index h = subst (λ (i : Fields). AreAll (plan_of i held s.bindings code index).bound) (sym h.0) (order_all held s.bindings code index h.1)

    planned_has : (s : State) (code index : ℕ) → Has s → Has (planned s code index)
    unfolding planned answered
    planned_has s code index h =
        either Has (is_known_order s.image code index) (if nat_eq s.hart 0 && nat_eq (live_frames s) 0 then ordered s code index else refused s (2 ^ 32 - 1)) (stopped s (Fault cause.Call))
        (either Has (nat_eq s.hart 0 && nat_eq (live_frames s) 0) (ordered s code index) (refused s (2 ^ 32 - 1)) (h.0, plan_all s s.room.held code index h, h.2) h) h

    acted_has : (s : State) (left : List Act) → AreOwn left → Has s → Has (acted s left)
    unfolding answered
    acted_has s [] own h = h
    acted_has s (Skip ∷ later) own h = (h.0, h.1, own.1)
    acted_has s (Flip switch value ∷ later) own h = (h.0, plan_all s (with_value s.image s.room switch value).held 0 0 h, own.1)
    acted_has s (Adopt bs ∷ later) own h = absurd own.0

    polled_has : (s : State) → Has s → Has (polled s)
    unfolding polled answered
    polled_has s h = either Has (nat_eq (live_frames s) 0) (acted s s.actions) (refused s 0) (acted_has s s.actions h.2 h) h

    run_has : (input : List (Option ℕ)) (actions : List Action) (picks : List ℕ) (n : ℕ) → Has (runs_from (first image input (polls_of actions)) picks n)
    unfolding first
    run_has input actions picks n =
        runs_keep Has (plans_keep Has (record { others = λ regs pc room input output stop s h. h; plans = planned_has; polls = polled_has })) (first image input (polls_of actions)) picks n (
          refl,
          record {
            count = length-replicate (binding_count image) free;
            of_functions = from_free OfFunction (λ f lt. free_one f) 0 0 (binding_count image);
            of_pointers = from_free OfPointer (λ q. free_led) 0 functions (binding_count image);
          },
          own_actions actions,
        )

pub runs_are_bound : RunsAreBound
runs_are_bound image r input actions picks n =
    let bs : List Binding = (runs_from (first image input (polls_of actions)) picks n).bindings in
    let all = (run_has image few_switches input actions picks n).1 in record {
      count = all.count;
      fit = λ f b lt e. (let same : 0 + f ≡ f = omega arith in subst (λ m. OfFunction image m b) same (from_at (OfFunction image) 0 bs f b all.of_functions e) lt);
      led = λ q b e.
          let within = slice_get_within bs (length image.functions + q) b e in
          let there : slice_get (pointer_bindings image bs) q ≡ Some b =
          behind_others (length image.functions) q bs b within ∙ ap Some (get_or_from_slice_get bs (length image.functions + q) b b e) in
          from_at (OfPointer image) 0 (pointer_bindings image bs) q b all.of_pointers there;
    }
  where
    few_switches : (i : ℕ) (row : FunctionRow) → slice_get image.functions i ≡ Some row → row.count ≤ 6
    few_switches i row e =
        subst (λ (x : FunctionRow). x.count ≤ 6) (get_or_from_slice_get image.functions i row row e) (functions_fit image r i row (slice_get_within image.functions i row e)).count
