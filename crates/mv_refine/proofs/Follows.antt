-- A run on what another one takes and one more answer goes as that one does, up to where it takes the one more.
use Rattle.std.proofs.Common.{◌≡◌, ℕ, zero, suc, ◌-◌, ◌%◌, ◌^◌, ◌⊎◌, inl, inr, ⊎_elim, Bool, true, false, ◌&&◌, if◌then◌else◌, nat_eq, List, [], ◌∷◌, ◌++◌, length, slice_index, Option, refl, sym, ap, ◌∙◌, subst, arith}
use Rattle.std.proofs.lemmas.List.{length-append, nil_from_length}
use Rattle.mv_bindings.specs.Acts.{Act, Skip, Flip, Adopt}
use Rattle.mv_fetch.specs.Held.{Room}
use Rattle.mv_isa.specs.Execution.{Outcome, Goes, Calls, Faults, reg}
use Rattle.mv_isa.specs.declared.instr.Cause.TheVariants as cause
use Rattle.mv_patch.specs.Orders.{is_known_order}
use Rattle.mv_machine.proofs.Leaving.{Leaves as EachLeaves, planned_leaves, polled_leaves}
use Rattle.mv_machine.proofs.Turns.{turn_by, runs_more}
use Rattle.mv_machine.specs.Runs.{State, Stop, Going, Exit, Trap, Fault, Request, Exits, Reads, Writes, Traps, Plans, Polls, Unknown, request_of, argument, live_frames, word_read, next_read, later_reads, answered, stopped, refused, ordered, planned, acted, polled, environment_call, choices_at, fetched_step, after, is_going, turn, runs_from}
use Rattle.mv_machine.specs.Snapshots.{CallsFor}
use Rattle.mv_refine.specs.CutRuns.{with_input, TakenIsEnough, ReadTakesMore, WriteWritesMore}
use Rattle.mv_refine.proofs.Leaves.{Leaves, turn_leaves}

-- ---- what looks at no input

module _ (s : State) (input : List (Option ℕ)) where
  one_of_three : (known idle : Bool) (a b c : State) →
      (if known then (if idle then with_input a input else with_input b input) else with_input c input) ≡ with_input (if known then (if idle then a else b) else c) input
  one_of_three true true a b c = refl
  one_of_three true false a b c = refl
  one_of_three false idle a b c = refl

  one_of_two : (idle : Bool) (a b : State) → (if idle then with_input a input else with_input b input) ≡ with_input (if idle then a else b) input
  one_of_two true a b = refl
  one_of_two false a b = refl

  planned_same : (code index : ℕ) → planned (with_input s input) code index ≡ with_input (planned s code index) input
  unfolding planned answered
  planned_same code index =
      one_of_three (is_known_order s.image code index) (nat_eq s.hart 0 && nat_eq (live_frames s) 0) (ordered s code index) (refused s (2 ^ 32 - 1)) (stopped s (Fault cause.Call))

  acted_same : (actions : List Act) → acted (with_input s input) actions ≡ with_input (acted s actions) input
  unfolding answered
  acted_same [] = refl
  acted_same (Skip ∷ later) = refl
  acted_same (Flip switch value ∷ later) = refl
  acted_same (Adopt bs ∷ later) = refl

  polled_same : polled (with_input s input) ≡ with_input (polled s) input
  unfolding polled answered
  polled_same =
      ap (λ (a : State). if nat_eq (live_frames s) 0 then a else refused (with_input s input) 0) (acted_same s.actions)
      ∙ one_of_two (nat_eq (live_frames s) 0) (acted s s.actions) (refused s 0)

plan_keeps : (s : State) → EachLeaves (λ (t : State). t.input ≡ s.input) s
unfolding answered
plan_keeps s = record { refuses = λ actions answer. refl; carries = λ room actions plan answer. refl; adopts = λ actions bs. refl; faults = refl }

-- ---- two runs

nothing_left : (now : List (Option ℕ)) → Leaves [] now → now ≡ []
nothing_left now (front, e) =
    let all : 0 ≡ length (front ++ now) = ap length e in
    let parts = length-append front now in
    nil_from_length now (omega (arith, all, parts))

module _ (rest : List (Option ℕ)) (more : Option ℕ) where
  -- The second state is the first with one answer to come in place of the rest; or it has nothing left to read.
  record Ahead (s t : State) : Type 0 where
    mid : List (Option ℕ)
    left : s.input ≡ mid ++ rest
    same : t ≡ with_input s (mid ++ more ∷ [])

  abbrev Follows : (s t : State) → Type 0
  Follows s t = Ahead s t ⊎ (t.input ≡ [])

  abbrev other : State → (mid : List (Option ℕ)) → State
  other s mid = with_input s (mid ++ more ∷ [])

  read_follows : (s : State) (mid : List (Option ℕ)) → s.input ≡ mid ++ rest → Follows (environment_call Reads s) (environment_call Reads (other s mid))
  unfolding answered
  read_follows s [] e = inr refl
  read_follows s (x ∷ mid) e = inl (record {
    mid = mid;
    left = ap later_reads e;
    same = ap (λ (v : Option ℕ). with_input (answered s (word_read v)) (mid ++ more ∷ [])) (sym (ap next_read e));
  })

  call_follows : (request : Request) (s : State) (mid : List (Option ℕ)) → s.input ≡ mid ++ rest → Follows (environment_call request s) (environment_call request (other s mid))
  unfolding answered
  call_follows Exits s mid e = inl (record { mid = mid; left = e; same = refl })
  call_follows Reads s mid e = read_follows s mid e
  call_follows Writes s mid e = inl (record { mid = mid; left = e; same = refl })
  call_follows Traps s mid e = inl (record { mid = mid; left = e; same = refl })
  call_follows Plans s mid e = inl (record {
    mid = mid;
    left = planned_leaves (λ (t : State). t.input ≡ s.input) s (argument s) (reg s.regs 11) (plan_keeps s) ∙ e;
    same = planned_same s (mid ++ more ∷ []) (argument s) (reg s.regs 11);
  })
  call_follows Polls s mid e = inl (record {
    mid = mid;
    left = polled_leaves (λ (t : State). t.input ≡ s.input) s (plan_keeps s) ∙ e;
    same = polled_same s (mid ++ more ∷ []);
  })
  call_follows Unknown s mid e = inl (record { mid = mid; left = e; same = refl })

  after_follows : (outcome : Outcome Room) (s : State) (mid : List (Option ℕ)) → s.input ≡ mid ++ rest → Follows (after outcome s) (after outcome (other s mid))
  after_follows (Goes regs pc room) s mid e = inl (record { mid = mid; left = e; same = refl })
  after_follows Calls s mid e = call_follows (request_of (reg s.regs 17)) s mid e
  after_follows (Faults why) s mid e = inl (record { mid = mid; left = e; same = refl })

  going_follows : (stop : Stop) (a b s t : State) → Follows a b → Follows s t → Follows (if is_going stop then a else s) (if is_going stop then b else t)
  going_follows Going a b s t h k = h
  going_follows (Exit status) a b s t h k = k
  going_follows (Trap code) a b s t h k = k
  going_follows (Fault why) a b s t h k = k

  other_follows : (s : State) (pick : ℕ) (mid : List (Option ℕ)) → s.input ≡ mid ++ rest → Follows (turn s pick) (turn (other s mid) pick)
  unfolding turn fetched_step choices_at
  other_follows s pick mid e =
      going_follows s.stop (after (fetched_step s pick) s) (after (fetched_step s pick) (other s mid)) s (other s mid)
      (after_follows (fetched_step s pick) s mid e) (inl (record { mid = mid; left = e; same = refl }))

  empty_stays : (t : State) (pick : ℕ) → t.input ≡ [] → (turn t pick).input ≡ []
  empty_stays t pick e = nothing_left (turn t pick).input (subst (λ (i : List (Option ℕ)). Leaves i (turn t pick).input) e (turn_leaves t pick))

  turn_follows : (s t : State) (pick : ℕ) → Follows s t → Follows (turn s pick) (turn t pick)
  turn_follows s t pick f = ⊎_elim
      (λ (a : Ahead s t). subst (λ (u : State). Follows (turn s pick) (turn u pick)) (sym a.same) (other_follows s pick a.mid a.left))
      (λ (e : t.input ≡ []). inr (empty_stays t pick e))
      f

  run_follows : (s t : State) (picks : List ℕ) (n : ℕ) → Follows s t → Follows (runs_from s picks n) (runs_from t picks n)
  unfolding runs_from
  run_follows s t picks zero f = f
  run_follows s t picks (suc n) f = turn_follows (runs_from s picks n) (runs_from t picks n) (slice_index picks n) (run_follows s t picks n f)

  -- where all is taken but the rest, the one more answer is to come
  taken_all : (s t : State) → s.input ≡ rest → Follows s t → (t ≡ with_input s (more ∷ [])) ⊎ (t.input ≡ [])
  taken_all s t e f = ⊎_elim
      (λ (a : Ahead s t).
      let twice : length rest ≡ length (a.mid ++ rest) = ap length (sym e ∙ a.left) in
      let parts = length-append a.mid rest in
      let none : a.mid ≡ [] = nil_from_length a.mid (omega (arith, twice, parts)) in
      inl (a.same ∙ ap (λ (m : List (Option ℕ)). with_input s (m ++ more ∷ [])) none))
      (λ (e : t.input ≡ []). inr e)
      f

pub taken_is_enough : TakenIsEnough
taken_is_enough s picks n taken rest more e left =
    taken_all rest more (runs_from s picks n) (runs_from (with_input s (taken ++ more ∷ [])) picks n) left
    (run_follows rest more s (with_input s (taken ++ more ∷ [])) picks n (inl (record { mid = taken; left = e; same = refl })))

-- ---- what comes next

same_step : (s : State) (input : List (Option ℕ)) (pick : ℕ) → fetched_step (with_input s input) pick ≡ fetched_step s pick
unfolding fetched_step choices_at
same_step s input pick = refl

-- a read of the one answer that is to come leaves nothing
read_empties : (s : State) (more : Option ℕ) (pick : ℕ) → s.stop ≡ Going → CallsFor s pick Reads → (turn (with_input s (more ∷ [])) pick).input ≡ []
unfolding answered
read_empties s more pick going asks =
    ap (λ (t : State). t.input) (turn_by (with_input s (more ∷ [])) pick Calls going (same_step s (more ∷ []) pick ∙ asks.0))
    ∙ ap (λ (r : Request). (environment_call r (with_input s (more ∷ []))).input) asks.1

pub read_takes_more : ReadTakesMore
read_takes_more s picks n taken rest more e left going asks =
    let t = runs_from (with_input s (taken ++ more ∷ [])) picks n in
    let pick = slice_index picks n in
    let last : (turn t pick).input ≡ [] = ⊎_elim
    (λ (same : t ≡ with_input (runs_from s picks n) (more ∷ [])). ap (λ (u : State). (turn u pick).input) same ∙ read_empties (runs_from s picks n) more pick going asks)
    (λ (none : t.input ≡ []). empty_stays [] more t pick none)
    (taken_is_enough s picks n taken rest more e left) in
    ap (λ (u : State). u.input) (runs_more (with_input s (taken ++ more ∷ [])) picks n) ∙ last

pub write_writes_more : WriteWritesMore
unfolding answered
write_writes_more s picks n going asks =
    let before = runs_from s picks n in
    let next = turn_by before (slice_index picks n) Calls going asks.0 in
    let written = ap (λ (r : Request). (environment_call r before).output) asks.1 in
    (argument before % 2 ^ 8, ap (λ (u : State). u.output) (runs_more s picks n ∙ next) ∙ written)
