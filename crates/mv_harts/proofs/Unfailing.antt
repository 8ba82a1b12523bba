-- A run in which no hart has failed is the one in which none may fail.
use Rattle.std.proofs.Common.{◌≡◌, ◌≢◌, ◌⊎◌, inl, inr, ℕ, zero, suc, Bool, true, false, ◌&&◌, if◌then◌else◌, ◌+◌, List, [], ◌∷◌, ◌++◌, map, set, slice_get, Option, Some, None, option_map, refl, sym, ap, ◌∙◌}
use Rattle.std.proofs.lemmas.Bool.{cases_eq, true≢false}
use Rattle.std.proofs.lemmas.Option.{none-some, slice_get-map}
use Rattle.mv_bindings.specs.declared.binding.Binding.{Binding}
use Rattle.mv_bindings.specs.Acts.{Act, Skip, Adopt}
use Rattle.mv_machine.specs.Runs.{adopts}
use Rattle.mv_harts_runs.specs.Harts.{Hart, Harts, Mode, Runs, Parked, Freed, Move, Place, AtOrder, AtPoll, Elsewhere, all_away, at_poll, executes, fails, freed, harts_after, is_commit, is_on, last_of, leader_by, leader_commits, leader_goes, leader_waits, move, next_act, other_at, other_by, other_fails, other_goes, other_turn, shared, turn_of}
use Rattle.mv_harts_turns.specs.Runs.{turns_by}
use Rattle.mv_harts_turns.proofs.Standing.{shared_failed}
use Rattle.mv_harts.specs.HartsRan.{all_of}

-- no hart of these has failed
abbrev pub AreGood : List Hart → Type 0
AreGood os = (n : ℕ) (o : Hart) → slice_get os n ≡ Some o → o.failed ≡ false

-- ---- lists

good_map : (f : Hart → Hart) → ((o : Hart) → (f o).failed ≡ o.failed) → (os : List Hart) → AreGood (map f os) → AreGood os
good_map f same os good n o there = sym (same o) ∙ good n (f o) (slice_get-map f os n ∙ ap (option_map f) there)

set_there : (os : List Hart) (k : ℕ) (o y : Hart) → slice_get os k ≡ Some o → slice_get (set os k y) k ≡ Some y
set_there [] k o y e = absurd (none-some o e)
set_there (x ∷ os) zero o y e = refl
set_there (x ∷ os) (suc k) o y e = set_there os k o y e

set_other : (os : List Hart) (k n : ℕ) (y : Hart) → n ≢ k → slice_get (set os k y) n ≡ slice_get os n
set_other [] k n y ne = refl
set_other (x ∷ os) zero zero y ne = absurd (ne refl)
set_other (x ∷ os) zero (suc n) y ne = refl
set_other (x ∷ os) (suc k) zero y ne = refl
set_other (x ∷ os) (suc k) (suc n) y ne = set_other os k n y (λ e. ne (ap suc e))

same_hart : (x y : Hart) → Some x ≡ Some y → x ≡ y
same_hart x y e = cc

good_set : (os : List Hart) (k : ℕ) (o y : Hart) → slice_get os k ≡ Some o → y.failed ≡ o.failed → AreGood (set os k y) → AreGood os
good_set os k o y at same good n x there = by_eq (cases_eq n k)
  where
    by_eq : (n ≡ k) ⊎ (n ≢ k) → x.failed ≡ false
    by_eq (inl e) =
        let one : x ≡ o = same_hart x o (sym there ∙ ap (slice_get os) e ∙ at) in
        ap (λ (h : Hart). h.failed) one ∙ sym same ∙ good k y (set_there os k o y at)
    by_eq (inr ne) = good n x (set_other os k n y ne ∙ there)

-- ---- what a turn keeps

failed_if : (b : Bool) (x y : Hart) (f : Bool) → x.failed ≡ f → y.failed ≡ f → (if b then x else y).failed ≡ f
failed_if true x y f e g = e
failed_if false x y f e g = g

-- hart 0 and the others apart
leader_of : (leader : Hart) (others : List Hart) → AreGood (leader ∷ others) → leader.failed ≡ false
leader_of leader others good = good 0 leader refl

others_of : (leader : Hart) (others : List Hart) → AreGood (leader ∷ others) → AreGood others
others_of leader others good n o there = good (suc n) o there

both_of : (leader : Hart) (others : List Hart) → leader.failed ≡ false → AreGood others → AreGood (leader ∷ others)
both_of leader others first rest zero o there = ap (λ (h : Hart). h.failed) (sym (same_hart leader o there)) ∙ first
both_of leader others first rest (suc n) o there = rest n o there

-- behind a turn no hart has failed: none had before, and the turn is the one in which none may fail
abbrev pub IsUnfailing : Harts → (turned plain : Harts) → Type 0
IsUnfailing hs turned plain = AreGood (all_of turned) → AreGood (all_of hs) × (turned ≡ plain)

-- ---- hart 0

module _ (hs : Harts) (act : Act) (m : Move) where
  goes_good : AreGood (all_of (leader_goes hs act m)) → AreGood (all_of hs)
  goes_good good =
      both_of hs.leader hs.others (leader_of (executes hs.leader act m) (map (shared m.store) hs.others) good)
      (good_map (shared m.store) (shared_failed m.store) hs.others (others_of (executes hs.leader act m) (map (shared m.store) hs.others) good))

  commits_good : AreGood (all_of (leader_commits hs act m)) → AreGood (all_of hs)
  commits_good good =
      both_of hs.leader hs.others (leader_of (executes hs.leader act m) (map freed (map (shared m.store) hs.others)) good)
      (good_map (shared m.store) (shared_failed m.store) hs.others
      (good_map freed (λ o. refl) (map (shared m.store) hs.others) (others_of (executes hs.leader act m) (map freed (map (shared m.store) hs.others)) good)))

  waits_good : AreGood (all_of (leader_waits hs)) → AreGood (all_of hs)
  waits_good good = both_of hs.leader hs.others (leader_of (record hs.leader { waited = true }) hs.others good) (others_of (record hs.leader { waited = true }) hs.others good)

  lead : (commit away device : Bool) → IsUnfailing hs (if commit then (if away then leader_commits hs act m else leader_waits hs) else (if device then record hs { leader = fails hs.leader } else leader_goes hs act m))
      (if commit then (if away then leader_commits hs act m else leader_waits hs) else leader_goes hs act m)
  lead true true device good = (commits_good good, refl)
  lead true false device good = (waits_good good, refl)
  lead false away true good = absurd (true≢false (leader_of (fails hs.leader) hs.others good))
  lead false away false good = (goes_good good, refl)

-- ---- another hart

module _ (hs : Harts) (k : ℕ) (o : Hart) (there : slice_get hs.others k ≡ Some o) (m : Move) where
  changed_good : (y : Hart) → y.failed ≡ o.failed → AreGood (hs.leader ∷ set hs.others k y) → AreGood (all_of hs)
  changed_good y same good =
      both_of hs.leader hs.others (leader_of hs.leader (set hs.others k y) good) (good_set hs.others k o y there same (others_of hs.leader (set hs.others k y) good))

  other_goes_good : AreGood (all_of (other_goes hs k o m)) → AreGood (all_of hs)
  other_goes_good good =
      let shares = shared_failed m.store in
      let others = set (map (shared m.store) hs.others) k (executes o Skip m) in
      both_of hs.leader hs.others (sym (shares hs.leader) ∙ leader_of (shared m.store hs.leader) others good)
      (good_map (shared m.store) shares hs.others
      (good_set (map (shared m.store) hs.others) k (shared m.store o) (executes o Skip m) (slice_get-map (shared m.store) hs.others k ∙ ap (option_map (shared m.store)) there) (sym (shares o))
      (others_of (shared m.store hs.leader) others good)))

  poll : (mode : Mode) (wanted : Bool) (under : Option (List Binding)) → AreGood (all_of (at_poll mode wanted under hs k o m)) → AreGood (all_of hs)
  poll Runs true under good = changed_good (record o { mode = Parked; waited = true }) refl good
  poll Runs false under good = other_goes_good good
  poll Parked wanted under good = changed_good (record o { mode = Parked; waited = true }) refl good
  poll Freed wanted (Some old) good = changed_good (record o { mode = Freed; waited = true }) refl good
  poll Freed wanted None good =
      let bs = last_of hs.commits in
      changed_good (record { state = adopts o.state bs; mode = Runs; waited = false; failed = o.failed; count = o.count + 1; taken = o.taken ++ Adopt bs ∷ [] }) refl good

  elsewhere : (device : Bool) → IsUnfailing hs (if device then other_fails hs k o else other_goes hs k o m) (other_goes hs k o m)
  elsewhere true good = absurd (true≢false (good (suc k) (fails o) (set_there hs.others k o (fails o) there)))
  elsewhere false good = (other_goes_good good, refl)

  follow : (place : Place) (failing : Bool) → IsUnfailing hs (other_by place hs k o m failing) (other_by place hs k o m false)
  follow AtPoll failing good = (poll o.mode hs.wanted hs.under good, refl)
  follow AtOrder failing good = (other_goes_good good, refl)
  follow Elsewhere failing good = elsewhere (failing && m.outside) good

-- ---- a turn

if_on : (hs turned plain : Harts) (on : Bool) → IsUnfailing hs turned plain → IsUnfailing hs (if on then turned else hs) (if on then plain else hs)
if_on hs turned plain true unfailing good = unfailing good
if_on hs turned plain false unfailing good = (good, refl)

other : (hs : Harts) (k : ℕ) (at : Option Hart) → slice_get hs.others k ≡ at → (pick : ℕ) (failing : Bool) → IsUnfailing hs (other_turn hs k at pick failing) (other_turn hs k at pick false)
other hs k None there pick failing = λ good. (good, refl)
other hs k (Some o) there pick failing =
    let m = move o.state Skip None pick in
    if_on hs (other_at hs k o pick failing) (other_at hs k o pick false) (is_on o) (follow hs k o there m m.place failing)

turn_unfailing : (hs : Harts) (hart pick : ℕ) (failing : Bool) → IsUnfailing hs (turn_of hs hart pick failing) (turn_of hs hart pick false)
unfolding turn_of
turn_unfailing hs zero pick failing =
    let act = next_act hs.actions in
    let m = move hs.leader.state act hs.under pick in
    if_on hs (leader_by hs act m failing) (leader_by hs act m false) (is_on hs.leader) (lead hs act m (is_commit m.place act) (all_away hs.others) (failing && m.outside))
turn_unfailing hs (suc k) pick failing = other hs k (slice_get hs.others k) refl pick failing

-- ---- a run

pub unfailing : (hs : Harts) (schedule : List ℕ) (failing : List Bool) → AreGood (all_of (harts_after hs (turns_by schedule failing))) →
    AreGood (all_of hs) × (harts_after hs (turns_by schedule failing) ≡ harts_after hs (turns_by schedule []))
unfolding harts_after
unfailing hs [] failing good = (good, refl)
unfailing hs (h ∷ schedule) [] good =
    let rest = unfailing (turn_of hs h 0 false) schedule [] good in
    let turn = turn_unfailing hs h 0 false rest.0 in
    (turn.0, rest.1)
unfailing hs (h ∷ schedule) (f ∷ failing) good =
    let rest = unfailing (turn_of hs h 0 f) schedule failing good in
    let turn = turn_unfailing hs h 0 f rest.0 in
    (turn.0, rest.1 ∙ ap (λ (x : Harts). harts_after x (turns_by schedule [])) turn.1)
