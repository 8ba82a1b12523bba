-- Each hart of a run can have its turn.
use Rattle.std.proofs.Common.{◌≡◌, ℕ, suc, ◌+◌, ◌-◌, ◌<◌, ◌≤◌, ◌^◌, true, false, List, [], ◌∷◌, ◌++◌, length, slice_get, Option, Some, None, option_map, refl, sym, ap, ◌∙◌, arith, subst, length-append}
use Rattle.std.proofs.lemmas.Option.{slice_get-map}
use Rattle.mv_num.proofs.Lists.{last_there, length_map}
use Rattle.mv_bindings.specs.declared.binding.Binding.{Binding}
use Rattle.mv_bindings.specs.declared.action.Action.{Action}
use Rattle.mv_bindings.specs.Acts.{Act}
use Rattle.mv_image.specs.Spelling.{Fields}
use Rattle.mv_patch.specs.Orders.{binding_count}
use Rattle.mv_machine.specs.Runs.{State}
use Rattle.mv_harts_runs.specs.Harts.{Hart, Harts, Store, is_in_text, is_on, told}
use Rattle.mv_harts_runs.specs.Alone.{IsRight, IsWell, IsBehind, Stands, StandsBy, adopts_of}
use Rattle.mv_harts_one.specs.declared.seat.Seat.{Seat}
use Rattle.mv_harts_one.specs.Seats.{mode_of}
use Rattle.mv_harts_one.specs.Executions.{is_into_text}
use Rattle.mv_harts_turns.specs.declared.group.Group.{Group}
use Rattle.mv_harts_turns.specs.declared.group.Committed.{Committed}
use Rattle.mv_harts_turns.specs.Runs.{Outside, bytes_of, harts_of, Ran}
use Rattle.mv_harts_turns.specs.Groups.{IsSeat, Shows, FetchesAre, IsReady, CanCount, CanAdopt, HaveExecuted, IsLast, asked, asked_by, bindings_of}
use Rattle.mv_harts_turns.proofs.Places.{both_right, sum_at}
use Rattle.mv_harts_turns.proofs.Seats.{on_none}

outside_text : (st : Option Store) → ((x : Store) → st ≡ Some x → is_in_text x.address ≡ false) → is_into_text st ≡ false
outside_text None h = refl
outside_text (Some x) h = h x refl

pub fetches_are : (image : Fields) (input : ℕ → List (Option ℕ)) (hs : Harts) → IsWell image input hs → FetchesAre hs
fetches_are image input hs w = record {
  leader = w.leader_fetches;
  others = w.fetches;
  leader_stores = λ on none. outside_text (told hs.leader.state 0) (w.leader_stores none on);
  stores = λ n o there on. outside_text (told o.state 0) (w.stores n o there on);
}

count_few : (seat : Seat) (o : Hart) (k : ℕ) → o.count ≡ seat.instructions → asked_by o ≤ k → k + 1 < 2 ^ 64 → CanCount seat
count_few seat o k e few lt = omega (arith, e, few, lt)

-- the last commit is that of hart 0's bindings
last_is : (commits : List Committed) (before : List (List Binding)) (bs : List Binding) (n : ℕ) → before ++ bs ∷ [] ≡ bindings_of commits → length bs ≡ n → IsLast commits n
last_is commits before bs n e len =
    let more : length before + 1 ≡ length commits = sym (length-append before (bs ∷ [])) ∙ ap length e ∙ length_map (λ (c : Committed). c.all) commits in
    record {
      some = omega arith;
      complete = λ c at.
          let index : length commits - 1 ≡ length before = omega arith in
          let there : slice_get (bindings_of commits) (length commits - 1) ≡ Some c.all = slice_get-map (λ (d : Committed). d.all) commits (length commits - 1) ∙ ap (option_map (λ (d : Committed). d.all)) at in
          let last : slice_get (bindings_of commits) (length commits - 1) ≡ Some bs = ap (slice_get (bindings_of commits)) index ∙ ap (λ l. slice_get l (length before)) (sym e) ∙ last_there before bs in
          let same : c.all ≡ bs = cc in
          ap length same ∙ len;
    }

module _ (image : Fields) (input : ℕ → List (Option ℕ)) (actions : List Action) (bytes : ℕ → List ℕ) (group : Group) (hs : Harts) (Fits : ℕ → Act → Type 0) where
  can_adopt : IsRight image input Fits hs → Shows image actions bytes group hs → (n : ℕ) (seat : Seat) (o : Hart) → slice_get hs.others n ≡ Some o → IsSeat image hs.commits (suc n) (bytes (suc n)) seat o → CanAdopt group.commits seat
  can_adopt right h n seat o there is on freed =
      let going : is_on o ≡ true = on_none (suc n) seat (bytes (suc n)) o is.sits on in
      let stands = (right.others n o there).stands in
      let by : StandsBy image input o.mode (suc n) o hs.leader.state hs.under hs.commits = subst (λ g. Stands image input g (suc n) o hs.leader.state hs.under hs.commits) going stands in
      let behind : IsBehind image input (suc n) o hs.leader.state hs.under hs.commits = subst (λ q. StandsBy image input q (suc n) o hs.leader.state hs.under hs.commits) (is.sits.mode ∙ ap mode_of freed) by in
      let bindings : hs.leader.state.bindings ≡ group.leader.engine.bindings = ap (λ (s : State). s.bindings) h.leader.sits.state in
      let all : binding_count group.leader.engine.image ≡ binding_count seat.engine.image = ap binding_count (h.leader.same_image ∙ sym is.same_image) in
      last_is group.commits (adopts_of o.taken) hs.leader.state.bindings (binding_count seat.engine.image) (behind.adopted ∙ h.commits) (ap length bindings ∙ group.leader.engine.ready.count ∙ all)

  pub is_ready : IsRight image input Fits hs → Shows image actions bytes group hs → (k : ℕ) → asked hs ≤ k → k + 1 < 2 ^ 64 → IsReady group
  is_ready right h k few lt = record {
    leader = count_few group.leader hs.leader k h.leader.sits.count (omega arith) lt;
    others = λ n seat at.
        let o = both_right (IsSeat image hs.commits (suc n) (bytes (suc n))) (slice_get group.others.items n) (slice_get hs.others n) seat at (h.others n) in
        (count_few seat o.0 k o.2.sits.count (let s = sum_at asked_by hs.others n o.0 o.1 in omega arith) lt, can_adopt right h n seat o.0 o.1 o.2);
  }

-- ---- how many instructions are executed

-- no hart has executed more than the oracle was asked for
executed : (image : Fields) (actions : List Action) (bytes : ℕ → List ℕ) (group : Group) (hs : Harts) → Shows image actions bytes group hs → (k : ℕ) → asked hs ≤ k → HaveExecuted group k
executed image actions bytes group hs h k few = record {
  leader = omega (arith, h.leader.sits.count, few);
  others = λ n seat at.
      let o = both_right (IsSeat image hs.commits (suc n) (bytes (suc n))) (slice_get group.others.items n) (slice_get hs.others n) seat at (h.others n) in
      let s = sum_at asked_by hs.others n o.0 o.1 in
      omega (arith, o.2.sits.count, s, few);
}

pub ran_executed : (image : Fields) (actions : List Action) (count : ℕ) (was is : Outside) (schedule : List ℕ) (group : Group) (k : ℕ) → length schedule ≤ k → Ran image actions count schedule was is group → HaveExecuted group k
ran_executed image actions count was is schedule group k le r =
    let few = r.few in executed image actions (bytes_of is) group (harts_of image actions count was schedule r.failing) r.shows k (omega (arith, few, le))
