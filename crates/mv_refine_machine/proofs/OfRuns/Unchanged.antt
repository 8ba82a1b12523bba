-- With a live frame calls for plans and polls change nothing; and with all functions free settled text is the image's.
use Rattle.std.proofs.Common.{◌≡◌, ◌≢◌, ℕ, ◌^◌, ◌-◌, Bool, true, false, ◌&&◌, cond, nat_eq, if◌then◌else◌, List, [], option_map, unwrap_or, Option, Some, None, refl, sym, ap, ◌∙◌, subst}
use Rattle.std.proofs.lemmas.Bool.{ne_eqb}
use Rattle.std.proofs.Math.Path.{fun_ext}
use Rattle.std.specs.Result.{result_ok}
use Rattle.mv_bindings.specs.declared.binding.Binding.{Binding}
use Rattle.mv_isa.specs.declared.instr.Cause.TheVariants as cause
use Rattle.mv_isa.specs.Execution.{reg}
use Rattle.mv_fetch.specs.Held.{Room, present, region_of, index_of, found, joined, store, with_word}
use Rattle.mv_rv32.specs.Stepping.{access, with_held}
use Rattle.mv_image.specs.Patched.{all_free, text_of}
use Rattle.mv_image.proofs.PatchLaws.{free_text}
use Rattle.mv_patch.specs.Orders.{is_known_order, values_of}
use Rattle.mv_patch.specs.Plans.{plan_between}
use Rattle.mv_machine.specs.Runs.{State, Stop, Going, Exit, Trap, Fault, Request, Exits, Reads, Writes, Traps, Plans, Polls, Unknown, request_of, argument, answered, stopped, live_frames, plan_area, stored_words, spelled_pairs, with_plan, refused, ordered, planned, acted, polled, environment_call, after, fetched_step, is_going, turn}
use Rattle.mv_machine.specs.Commits.{opens, is_some_pair, fetched_instr, after_instr}
use Rattle.mv_refine_machine.proofs.OfCommits.Planned.{no_pairs}
use Rattle.mv_refine_machine.specs.Runs.Unchanged.{IsForPlan, IsUnchanged, LiveFramesRefuse, FreeTextIsItsOwn}
use Rattle.mv_refine_machine.proofs.OfRuns.Stopping.{calls_where}
use Rattle.mv_refine_machine.proofs.Starts.{free_values}
use Rattle.mv_machine.proofs.Leaving.{either}

-- ---- live frames

-- a store into the plan area, carried out or not, leaves text
abbrev plan_word : (r : Room) → Option ℕ → Room
plan_word r old = unwrap_or (option_map (with_held plan_area r) (result_ok (found plan_area old (λ w. with_word r.held (region_of plan_area) (index_of plan_area) w (joined plan_area 4 w 0))))) r

word_leaves : (r : Room) (old : Option ℕ) → ((plan_word r old).held.text ≡ r.held.text) × ((plan_word r old).held.older ≡ r.held.older)
unfolding region_of
word_leaves r None = (refl, refl)
word_leaves r (Some w) = (refl, refl)

no_plan : (r : Room) → with_plan r [] ≡ plan_word r (present r.held plan_area)
unfolding access store stored_words spelled_pairs
no_plan r = refl

unchanged : (s : State) → IsUnchanged s s
unchanged s = record { text = refl; older = refl; bindings = refl; actions = refl; log = refl }

refused_leaves : (s : State) (answer : ℕ) → IsUnchanged s (refused s answer)
unfolding answered
refused_leaves s answer =
    let w = word_leaves s.room (present s.room.held plan_area) in record {
      text = ap (λ (r : Room). r.held.text) (no_plan s.room) ∙ w.0;
      older = ap (λ (r : Room). r.held.older) (no_plan s.room) ∙ w.1;
      bindings = refl;
      actions = refl;
      log = refl;
    }

module _ (s : State) (live : live_frames s ≢ 0) where
  not_none : nat_eq (live_frames s) 0 ≡ false
  not_none = ne_eqb (live_frames s) 0 live

  -- what is done only without live frames isn't done
  refuses : (also : Bool) (idle busy : State) → IsUnchanged s busy → IsUnchanged s (if also && nat_eq (live_frames s) 0 then idle else busy)
  refuses also idle busy h = subst (λ (b : Bool). IsUnchanged s (if also && b then idle else busy)) (sym not_none) (never also)
    where
      never : (also : Bool) → IsUnchanged s (if also && false then idle else busy)
      never true = h
      never false = h

  planned_leaves : (code index : ℕ) → IsUnchanged s (planned s code index)
  unfolding planned
  planned_leaves code index =
      let busy = refused s (2 ^ 32 - 1) in
      either (IsUnchanged s) (is_known_order s.image code index) (if nat_eq s.hart 0 && nat_eq (live_frames s) 0 then ordered s code index else busy) (stopped s (Fault cause.Call))
      (refuses (nat_eq s.hart 0) (ordered s code index) busy (refused_leaves s (2 ^ 32 - 1)))
      (record { text = refl; older = refl; bindings = refl; actions = refl; log = refl })

  polled_leaves : IsUnchanged s (polled s)
  unfolding polled
  polled_leaves = refuses true (acted s s.actions) (refused s 0) (refused_leaves s 0)

  call_leaves : (request : Request) → IsForPlan request → IsUnchanged s (environment_call request s)
  call_leaves Exits h = absurd h
  call_leaves Reads h = absurd h
  call_leaves Writes h = absurd h
  call_leaves Traps h = absurd h
  call_leaves Plans h = planned_leaves (argument s) (reg s.regs 11)
  call_leaves Polls h = polled_leaves
  call_leaves Unknown h = absurd h

where_unchanged : (stop : Stop) (s going : State) → IsUnchanged s going → IsUnchanged s (if is_going stop then going else s)
where_unchanged Going s going h = h
where_unchanged (Exit status) s going h = unchanged s
where_unchanged (Trap code) s going h = unchanged s
where_unchanged (Fault why) s going h = unchanged s

where_same : (stop : Stop) (under : Option (List Binding)) (now : Option (List Binding)) → now ≡ under → (if is_going stop then now else under) ≡ under
where_same Going under now e = e
where_same (Exit status) under now e = refl
where_same (Trap code) under now e = refl
where_same (Fault why) under now e = refl

pub live_refuse : LiveFramesRefuse
unfolding turn
live_refuse s pick under ecall for_plan live =
    let call = environment_call (request_of (reg s.regs 17)) s in
    let leaves : IsUnchanged s call = call_leaves s live (request_of (reg s.regs 17)) for_plan in
    let opens_none : opens s ≡ false =
    ap (λ bs. is_some_pair (plan_between s.image s.bindings bs)) leaves.bindings ∙ ap is_some_pair (no_pairs s.image s.bindings) in
    let none : after_instr s (fetched_instr s pick) under ≡ under =
    ap (λ i. after_instr s i under) ecall ∙ ap (λ b. cond b (Some s.bindings) under) opens_none in (
      where_unchanged s.stop s (after (fetched_step s pick) s) (subst (λ o. IsUnchanged s (after o s)) (sym (calls_where s pick ecall)) leaves),
      where_same s.stop under (after_instr s (fetched_instr s pick) under) none,
    )

-- ---- free functions

pub free_is_own : FreeTextIsItsOwn
free_is_own image s settled all =
    let same : values_of s.bindings ≡ all_free = fun_ext (free_values s.bindings all) in settled.words ∙ ap (text_of image) same ∙ free_text image
