-- What hart 0 is bound to at any time may be bound: each function is free, or bound to values of its switches' domains, and each pointer switch is free, or
-- bound to a function, which is of its type where all that is logged is.
use Rattle.std.proofs.Common.{◌≡◌, ◌⊎◌, inl, inr, ℕ, zero, suc, ◌+◌, ◌-◌, ◌*◌, ◌%◌, ◌/◌, ◌^◌, ◌<◌, Bool, true, false, ◌&&◌, cond, eqb, nat_eq, if◌then◌else◌, List, [], ◌∷◌, ◌++◌, length, map, is_some, slice_get, slice_index, unwrap_or, Option, Some, None, Err, refl, sym, ap, ◌∙◌, subst, arith, length-append, length-drop}
use Rattle.std.specs.Prelude.{◌==◌}
use Rattle.std.specs.List.{All, position}
use Rattle.std.specs.Result.{result_ok}
use Rattle.std.proofs.Math.Nat.{mod-lt}
use Rattle.std.proofs.lemmas.Bool.{and_from}
use Rattle.std.proofs.lemmas.List.{length-replicate}
use Rattle.std.proofs.lemmas.List.Elements.{All-nil, All-cons, All-head, All-tail}
use Rattle.std.proofs.lemmas.Option.{slice_get_within}
use Rattle.mv_num.proofs.Lists.{there_at}
use Rattle.mv_ast.proofs.Common.{get_drop}
use Rattle.mv_ast.specs.declared.program.Program.{Program}
use Rattle.mv_ast.specs.declared.program.Function.{Function}
use Rattle.mv_ast.specs.Bindings.{are_bindings, are_typed_bindings, is_typed_binding}
use Rattle.mv_ast.specs.Switches.{attributed_functions, all_in_domain, pointer_bindings as pointers_of}
use Rattle.mv_bindings.specs.declared.binding.Binding.{Binding}
use Rattle.mv_bindings.specs.declared.binding.Event.{Event}
use Rattle.mv_bindings.specs.Acts.{Act, Skip, Flip, Adopt}
use Rattle.mv_bindings.specs.Bindings.{bound_to, events_from, free}
use Rattle.mv_bindings.specs.OrderNumbers.{is_commit}
use Rattle.mv_descriptors.specs.declared.rows.SwitchRow.{SwitchRow}
use Rattle.mv_descriptors.specs.declared.rows.FunctionRow.{FunctionRow}
use Rattle.mv_descriptors.specs.declared.rows.PointerRow.{PointerRow}
use Rattle.mv_descriptors.specs.declared.rows.TargetRow.{TargetRow}
use Rattle.mv_isa.specs.declared.instr.Cause.TheVariants as cause
use Rattle.mv_isa.specs.Execution.{Outcome, Goes, Calls, Faults, reg}
use Rattle.mv_isa.specs.Registers.{a1, a7}
use Rattle.mv_fetch.specs.declared.memory.AccessError.TheVariants.{Misaligned}
use Rattle.mv_fetch.specs.Held.{Held, Room, found, load, part, present}
use Rattle.mv_image.specs.Patched.{fitting_variant}
use Rattle.mv_image.specs.Spelling.{Fields}
use Rattle.mv_ir_worlds.specs.Fit.{AreBindings, IsFunctionBound, IsPointerBound, MayBind}
use Rattle.mv_ir_worlds.specs.Laws.{BindingsAreTold}
use Rattle.mv_ir_worlds.proofs.Combining.{combination_in, in_combination}
use Rattle.mv_meaning_numbering.specs.Laws.{IsTypedEvent}
use Rattle.mv_patch.specs.Orders.{binding_count, bindings_ordered, bound_now, bound_to_target, first_bindings, is_known_order, is_ordered, is_pointer_ordered, next_binding, next_pointer, ordered_rows, pointed_now, pointer_bindings, pointer_word, word_in}
use Rattle.mv_patch.specs.Plans.{plan_of}
use Rattle.mv_machine.specs.Runs.{State, Stop, Going, Exit, Trap, Fault, Request, Exits, Reads, Writes, Traps, Plans, Polls, Unknown, request_of, argument, answered, stopped, live_frames, refused, carried_out, ordered, planned, with_value, act, acted, polled, environment_call, fetched_step, after, is_going, turn, runs_from, first}
use Rattle.mv_harts_runs.specs.Harts.{first_of}
use Rattle.mv_harts_meant.specs.Runnable.{HasFunctions}
use Rattle.mv_harts_meant.proofs.Rows.{all_before, all_behind, all_pass, all_the_same, events_tell, in_either, position_within, rows_bound, rows_count}

-- ---- what is loaded of a switch is a word

part_small : (a w : ℕ) → part a 4 w < 2 ^ 32
unfolding part
part_small a w = mod-lt (w / 2 ^ (8 * (a % 4))) (omega arith)

loaded_small : (a : ℕ) (aligned : Bool) (w : Option ℕ) → unwrap_or (result_ok (cond aligned (found a w (part a 4)) (Err (Misaligned a)))) 0 < 2 ^ 32
loaded_small a true None = omega arith
loaded_small a true (Some w) = part_small a w
loaded_small a false w = omega arith

word_small : (held : Held) (row : Option SwitchRow) → word_in held row < 2 ^ 32
unfolding load
word_small held None = omega arith
word_small held (Some row) = loaded_small row.address (eqb (row.address % 4) 0) (present held row.address)

-- ---- of an image with a program's functions

module _ (p : Program) (image : Fields) (tables : HasFunctions p image) where
  module _ (held : Held) where
    -- the word of a switch
    abbrev value : ℕ → ℕ
    value s = word_in held (slice_get image.switches s)

    values_count : (ss : List ℕ) → length (map value ss) ≡ length ss
    values_count [] = refl
    values_count (s ∷ ss) = ap suc (values_count ss)

    values_small : (ss : List ℕ) → All (λ v. v < 2 ^ 32) (map value ss)
    values_small [] = All-nil (λ v. v < 2 ^ 32)
    values_small (s ∷ ss) = All-cons (λ v. v < 2 ^ 32) (value s) (map value ss) (word_small held (slice_get image.switches s)) (values_small ss)

    -- words of a function's switches that some variant fits are values of their domains
    fits_domains : (n : ℕ) (g : Function) → slice_get (attributed_functions p) n ≡ Some g → is_some (fitting_variant image n (map value g.switches)) ≡ true → IsFunctionBound p g (map value g.switches)
    fits_domains n g there fits = by_test (all_in_domain p g.switches (map value g.switches)) refl
      where
        by_test : (b : Bool) → all_in_domain p g.switches (map value g.switches) ≡ b → IsFunctionBound p g (map value g.switches)
        by_test true e = combination_in p value g.switches e
        by_test false e =
            let none = tables.others n g (map value g.switches) there (values_count g.switches) (values_small g.switches) (λ c. let wrong = in_combination p value g.switches c in cc) in
            absurd (let wrong = ap is_some none in cc)

    bound_fits : (n : ℕ) (g : Function) (row : FunctionRow) → slice_get (attributed_functions p) n ≡ Some g → slice_get image.functions n ≡ Some row → (b : Binding) → b ≡ bound_now image held n row → b.bound ≡ true →
        (vs : List ℕ) × (b ≡ bound_to vs) × IsFunctionBound p g vs
    bound_fits n g row there here b e is = by_test (is_some (fitting_variant image n (map value g.switches))) refl
      where
        same : bound_now image held n row ≡ (if is_some (fitting_variant image n (map value g.switches)) then bound_to (map value g.switches) else free)
        same = ap (λ (ss : List ℕ). if is_some (fitting_variant image n (map value ss)) then bound_to (map value ss) else free) (tables.switches n g row there here)

        by_test : (z : Bool) → is_some (fitting_variant image n (map value g.switches)) ≡ z → (vs : List ℕ) × (b ≡ bound_to vs) × IsFunctionBound p g vs
        by_test true z = (map value g.switches, e ∙ same ∙ ap (λ t. if t then bound_to (map value g.switches) else free) z, fits_domains n g there z)
        by_test false z =
            let to_free : b ≡ free = e ∙ same ∙ ap (λ t. if t then bound_to (map value g.switches) else free) z in
            absurd (let wrong : b.bound ≡ false = ap (λ (x : Binding). x.bound) to_free in cc)

    next_fits : (code n : ℕ) (g : Function) (row : FunctionRow) → slice_get (attributed_functions p) n ≡ Some g → slice_get image.functions n ≡ Some row → (b : Binding) → b ≡ next_binding image held code n row → b.bound ≡ true →
        (vs : List ℕ) × (b ≡ bound_to vs) × IsFunctionBound p g vs
    next_fits code n g row there here b e is = by_code (is_commit code) e
      where
        by_code : (z : Bool) → b ≡ (if z then bound_now image held n row else free) → (vs : List ℕ) × (b ≡ bound_to vs) × IsFunctionBound p g vs
        by_code true h = bound_fits n g row there here b h is
        by_code false h = absurd (let wrong : b.bound ≡ false = ap (λ (x : Binding). x.bound) h in cc)

    function_at : (n : ℕ) (row : FunctionRow) → slice_get image.functions n ≡ Some row → (g : Function) × (slice_get (attributed_functions p) n ≡ Some g)
    function_at n row here = let within = slice_get_within image.functions n row here in there_at (attributed_functions p) n (omega (arith, within, tables.count))

    -- a pointer switch is bound to a target, which is a function
    target_fits : (q g : ℕ) → slice_get p.pointers q ≡ Some g → (o : Option ℕ) → ((t : ℕ) → o ≡ Some t → t < length image.targets) → (b : Binding) → b ≡ bound_to_target o → b.bound ≡ true →
        (vs : List ℕ) × (b ≡ bound_to vs) × IsPointerBound p g vs
    target_fits q g there None within b e is = absurd (let wrong : b.bound ≡ false = ap (λ (x : Binding). x.bound) e in cc)
    target_fits q g there (Some t) within b e is =
        let some = slice_get_within p.pointers q g there in
        let all = tables.targets (omega (arith, some)) in
        let below = within t refl in
        (suc t ∷ [], e, (t, omega (arith, below, all), refl))

    abbrev is_pointed : PointerRow → TargetRow → Bool
    is_pointed row target = target.entry == pointer_word held row

    pointer_fits : (code q g : ℕ) (row : PointerRow) → slice_get p.pointers q ≡ Some g → (b : Binding) → b ≡ next_pointer image held code q row → b.bound ≡ true →
        (vs : List ℕ) × (b ≡ bound_to vs) × IsPointerBound p g vs
    pointer_fits code q g row there b e is = by_code (is_commit code) e
      where
        by_code : (z : Bool) → b ≡ (if z then pointed_now image held row else free) → (vs : List ℕ) × (b ≡ bound_to vs) × IsPointerBound p g vs
        by_code true h = target_fits q g there (position (is_pointed row) image.targets) (position_within (is_pointed row) image.targets) b h is
        by_code false h = absurd (let wrong : b.bound ≡ false = ap (λ (x : Binding). x.bound) h in cc)

    pointer_at : (q : ℕ) (row : PointerRow) → slice_get image.pointers q ≡ Some row → (g : ℕ) × (slice_get p.pointers q ≡ Some g)
    pointer_at q row here = let within = slice_get_within image.pointers q row here in there_at p.pointers q (omega (arith, within, tables.pointers))

    -- an order leaves bindings that may be
    module _ (code index : ℕ) (bs : List Binding) (are : AreBindings p bs) where
      functions : List Binding
      functions = ordered_rows (is_ordered code index) (next_binding image held code) 0 image.functions bs

      pointers : List Binding
      pointers = ordered_rows (is_pointer_ordered image code index) (next_pointer image held code) 0 image.pointers (pointer_bindings image bs)

      functions_count : length functions ≡ length image.functions
      unfolding functions
      functions_count = rows_count (is_ordered code index) (next_binding image held code) 0 image.functions bs (let n = are.count in omega (arith, n, tables.count))

      pointers_count : length pointers ≡ length image.pointers
      unfolding pointers
      pointers_count =
          rows_count (is_pointer_ordered image code index) (next_pointer image held code) 0 image.pointers (pointer_bindings image bs)
          (let n = are.count in omega (arith, n, tables.count, tables.pointers, length-drop (length image.functions) bs))

      function_left : (n : ℕ) (b : Binding) → b.bound ≡ true → slice_get functions n ≡ Some b → (vs : List ℕ) × (b ≡ bound_to vs) × MayBind p n vs
      unfolding functions
      function_left n b is e = by_case (rows_bound (is_ordered code index) (next_binding image held code) 0 image.functions bs n b e)
        where
          by_case : ((row : FunctionRow) × (slice_get image.functions n ≡ Some row) × (b ≡ next_binding image held code (n + 0) row)) ⊎ (slice_get bs n ≡ Some b) →
              (vs : List ℕ) × (b ≡ bound_to vs) × MayBind p n vs
          by_case (inl x) =
              let g = function_at n x.0 x.1 in
              let made = next_fits code n g.0 x.0 g.1 x.1 b (x.2 ∙ ap (λ (k : ℕ). next_binding image held code k x.0) (let z : n + 0 ≡ n = omega arith in z)) is in
              (made.0, made.1, inl (g.0, g.1, made.2))
          by_case (inr h) = are.bound n b h is

      pointer_left : (n q : ℕ) (b : Binding) → b.bound ≡ true → n ≡ length functions + q → slice_get pointers q ≡ Some b → (vs : List ℕ) × (b ≡ bound_to vs) × MayBind p n vs
      unfolding pointers
      pointer_left n q b is at e = by_case (rows_bound (is_pointer_ordered image code index) (next_pointer image held code) 0 image.pointers (pointer_bindings image bs) q b e)
        where
          place : n ≡ length image.functions + q
          place = at ∙ ap (λ k. k + q) functions_count

          by_case : ((row : PointerRow) × (slice_get image.pointers q ≡ Some row) × (b ≡ next_pointer image held code (q + 0) row)) ⊎ (slice_get (pointer_bindings image bs) q ≡ Some b) →
              (vs : List ℕ) × (b ≡ bound_to vs) × MayBind p n vs
          by_case (inl x) =
              let g = pointer_at q x.0 x.1 in
              let made = pointer_fits code q g.0 x.0 g.1 b x.2 is in
              (made.0, made.1, inr (q, g.0, omega (arith, place, tables.count), g.1, made.2))
          by_case (inr h) = are.bound n b (ap (slice_get bs) place ∙ sym (get_drop (length image.functions) q bs) ∙ h) is

      ordered_fits : AreBindings p (bindings_ordered image held code index bs)
      unfolding bindings_ordered functions pointers
      ordered_fits = record {
        count = omega (arith, length-append functions pointers, functions_count, pointers_count, tables.count, tables.pointers);
        bound = λ n b e is. by_case n b is (in_either functions pointers n b e);
      }
        where
          by_case : (n : ℕ) (b : Binding) → b.bound ≡ true → (slice_get functions n ≡ Some b) ⊎ ((q : ℕ) × (n ≡ length functions + q) × (slice_get pointers q ≡ Some b)) →
              (vs : List ℕ) × (b ≡ bound_to vs) × MayBind p n vs
          by_case n b is (inl h) = function_left n b is h
          by_case n b is (inr h) = pointer_left n h.0 b is h.1 h.2

  first_fits : AreBindings p (first_bindings image)
  first_fits = record {
    count = let same = length-replicate (binding_count image) free in omega (arith, same, tables.count, tables.pointers);
    bound = λ n b e is. absurd (let wrong : b.bound ≡ false = ap (λ (x : Binding). x.bound) (all_the_same (binding_count image) n free b e) in cc);
  }

  -- ---- a run in which no poll adopts

  abbrev IsOwn : Act → Type 0
  IsOwn a = (bs : List Binding) → a ≡ Adopt bs → ⊥

  -- where all that is logged is of a pointer switch's type, so is what it is bound to now
  abbrev AreTyped : List Event → List Binding → Type 0
  AreTyped log bs = All (IsTypedEvent p) log → (n : ℕ) (b : Binding) → slice_get bs n ≡ Some b → IsTypedEvent p (record { function = n; binding = b })

  record IsBound (s : State) : Type 0 where
    same : s.image ≡ image
    acts : All IsOwn s.actions
    bindings : AreBindings p s.bindings
    typed : AreTyped s.log s.bindings

  free_typed : (n : ℕ) (b : Binding) → b ≡ free → IsTypedEvent p (record { function = n; binding = b })
  free_typed n b e q g at there = ap (is_typed_binding p g) e

  bound_typed : (log : List Event) (old new : List Binding) → AreBindings p old → AreBindings p new → AreTyped log old → AreTyped (log ++ events_from 0 old new) new
  bound_typed log old new was are typed all n b there = by_case (events_tell (IsTypedEvent p) 0 old new (omega (arith, was.count, are.count)) (all_behind (IsTypedEvent p) log (events_from 0 old new) all) n b there)
    where
      by_case : (slice_get old n ≡ Some b) ⊎ IsTypedEvent p (record { function = 0 + n; binding = b }) → IsTypedEvent p (record { function = n; binding = b })
      by_case (inl h) = typed (all_before (IsTypedEvent p) log (events_from 0 old new) all) n b h
      by_case (inr h) = subst (λ (k : ℕ). IsTypedEvent p (record { function = k; binding = b })) (let z : 0 + n ≡ n = omega arith in z) h

  either : (b : Bool) (x y : State) → IsBound x → IsBound y → IsBound (if b then x else y)
  either true x y h k = h
  either false x y h k = k

  module _ (s : State) (is : IsBound s) where
    -- what changes neither bindings nor the log nor acts
    as_before : (t : State) → t.image ≡ s.image → t.actions ≡ s.actions → t.bindings ≡ s.bindings → t.log ≡ s.log → IsBound t
    as_before t i a b l = record {
      same = i ∙ is.same;
      acts = subst (All IsOwn) (sym a) is.acts;
      bindings = subst (AreBindings p) (sym b) is.bindings;
      typed = subst (AreTyped t.log) (sym b) (subst (λ log. AreTyped log s.bindings) (sym l) is.typed);
    }

    refused_bound : (acts : List Act) (answer : ℕ) → All IsOwn acts → IsBound (refused (record s { actions = acts }) answer)
    unfolding answered
    refused_bound acts answer all = record { same = is.same; acts = all; bindings = is.bindings; typed = is.typed }

    carried_bound : (room held : Room) (acts : List Act) (code index answer : ℕ) → All IsOwn acts → IsBound (carried_out (record s { room = room; actions = acts }) (plan_of s.image held.held s.bindings code index) answer)
    unfolding answered plan_of
    carried_bound room held acts code index answer all = record {
      same = is.same;
      acts = all;
      bindings = are;
      typed = bound_typed s.log s.bindings (bindings_ordered s.image held.held code index s.bindings) is.bindings are is.typed;
    }
      where
        are : AreBindings p (bindings_ordered s.image held.held code index s.bindings)
        are = subst (λ (f : Fields). AreBindings p (bindings_ordered f held.held code index s.bindings)) (sym is.same) (ordered_fits held.held code index s.bindings is.bindings)

    act_bound : (a : Act) (later : List Act) → IsOwn a → All IsOwn later → IsBound (act a (record s { actions = later }))
    act_bound Skip later own all = refused_bound later 0 all
    act_bound (Flip switch value) later own all = let room = with_value s.image s.room switch value in carried_bound room room later 0 0 1 all
    act_bound (Adopt bs) later own all = absurd (own bs refl)

    acted_bound : (acts : List Act) → acts ≡ s.actions → IsBound (acted s acts)
    acted_bound [] e = refused_bound s.actions 0 is.acts
    acted_bound (a ∷ later) e =
        let all = subst (All IsOwn) (sym e) is.acts in act_bound a later (All-head IsOwn a later all) (All-tail IsOwn a later all)

    call_bound : (request : Request) → IsBound (environment_call request s)
    unfolding answered planned polled
    call_bound Exits = as_before (environment_call Exits s) refl refl refl refl
    call_bound Reads = as_before (environment_call Reads s) refl refl refl refl
    call_bound Writes = as_before (environment_call Writes s) refl refl refl refl
    call_bound Traps = as_before (environment_call Traps s) refl refl refl refl
    call_bound Plans =
        let code = argument s in
        let index = reg s.regs a1 in
        let refusal = refused_bound s.actions (2 ^ 32 - 1) is.acts in
        either (is_known_order s.image code index) (if nat_eq s.hart 0 && nat_eq (live_frames s) 0 then ordered s code index else refused s (2 ^ 32 - 1)) (stopped s (Fault cause.Call))
        (either (nat_eq s.hart 0 && nat_eq (live_frames s) 0) (ordered s code index) (refused s (2 ^ 32 - 1)) (carried_bound s.room s.room s.actions code index (plan_of s.image s.room.held s.bindings code index).answer is.acts) refusal)
        (as_before (stopped s (Fault cause.Call)) refl refl refl refl)
    call_bound Polls = either (nat_eq (live_frames s) 0) (acted s s.actions) (refused s 0) (acted_bound s.actions refl) (refused_bound s.actions 0 is.acts)
    call_bound Unknown = as_before (environment_call Unknown s) refl refl refl refl

    after_bound : (o : Outcome Room) → IsBound (after o s)
    after_bound (Goes regs pc room) = as_before (after (Goes regs pc room) s) refl refl refl refl
    after_bound Calls = call_bound (request_of (reg s.regs a7))
    after_bound (Faults why) = as_before (after (Faults why) s) refl refl refl refl

    by_stop : (stop : Stop) (t : State) → IsBound t → IsBound (if is_going stop then t else s)
    by_stop Going t h = h
    by_stop (Exit status) t h = is
    by_stop (Trap code) t h = is
    by_stop (Fault why) t h = is

    turn_bound : (pick : ℕ) → IsBound (turn s pick)
    unfolding turn
    turn_bound pick = by_stop s.stop (after (fetched_step s pick) s) (after_bound (fetched_step s pick))

  runs_bound : (s : State) → IsBound s → (picks : List ℕ) (n : ℕ) → IsBound (runs_from s picks n)
  unfolding runs_from
  runs_bound s is picks zero = is
  runs_bound s is picks (suc n) = turn_bound (runs_from s picks n) (runs_bound s is picks n) (slice_index picks n)

  first_bound : (h : ℕ) (input : List (Option ℕ)) (acts : List Act) → All IsOwn acts → IsBound (first_of h image input acts)
  unfolding first
  first_bound h input acts all =
      record { same = refl; acts = all; bindings = first_fits; typed = λ logged n b e. free_typed n b (all_the_same (binding_count image) n free b e) }

  -- ---- as tests

  typed_now : (bs : List Binding) → AreBindings p bs → ((n : ℕ) (b : Binding) → slice_get bs n ≡ Some b → IsTypedEvent p (record { function = n; binding = b })) → are_typed_bindings p bs ≡ true
  typed_now bs are typed =
      all_pass (is_typed_binding p) p.pointers (pointers_of p bs) (omega (arith, are.count, length-drop (length (attributed_functions p)) bs))
      (λ q g b there is. typed (length (attributed_functions p) + q) b (sym (get_drop (length (attributed_functions p)) q bs) ∙ is) q g refl there)

  -- what a run without adopts is bound to at any time passes both tests, where all that it logs has the types of pointer switches
  pub run_passes : BindingsAreTold → (h : ℕ) (input : List (Option ℕ)) (acts : List Act) → All IsOwn acts → (picks : List ℕ) (n : ℕ) →
      All (IsTypedEvent p) (runs_from (first_of h image input acts) picks n).log →
      (are_bindings p (runs_from (first_of h image input acts) picks n).bindings && are_typed_bindings p (runs_from (first_of h image input acts) picks n).bindings) ≡ true
  run_passes told h input acts all picks n logged =
      let bound = runs_bound (first_of h image input acts) (first_bound h input acts all) picks n in
      let bs = (runs_from (first_of h image input acts) picks n).bindings in
      and_from (are_bindings p bs) (are_typed_bindings p bs) ((told p bs).1 bound.bindings) (typed_now bs bound.bindings (bound.typed logged))
