-- A run has as many harts as it began with.
use Rattle.std.proofs.Common.{◌≡◌, ℕ, zero, suc, ◌-◌, ◌≤◌, Bool, true, false, ◌&&◌, if◌then◌else◌, List, [], ◌∷◌, length, map, set, slice_get, Option, Some, None, ◌∙◌, arith, length-set}
use Rattle.std.proofs.lemmas.List.{length-map}
use Rattle.mv_bindings.specs.declared.binding.Binding.{Binding}
use Rattle.mv_bindings.specs.Acts.{Act, Skip}
use Rattle.mv_image.specs.Spelling.{Fields}
use Rattle.mv_harts_runs.specs.Harts.{Hart, Harts, Mode, Runs, Parked, Freed, Move, Place, AtOrder, AtPoll, Elsewhere, Store, Turn, all_away, at_poll, executes, fails, first_harts, freed, harts_after, is_commit, is_on, leader_by, leader_commits, leader_goes, leader_waits, move, next_act, other_at, other_by, other_fails, other_goes, other_turn, shared, turn_of}
use Rattle.mv_harts_runs.proofs.Lists.{others_length}

module _ (n : ℕ) where
  -- beside hart 0
  abbrev pub Has : Harts → Type 0
  Has hs = length hs.others ≡ n

  by_if : (b : Bool) (x y : Harts) → Has x → Has y → Has (if b then x else y)
  by_if true x y h k = h
  by_if false x y h k = k

  set_one : (st : Option Store) (xs : List Hart) (place : ℕ) (x : Hart) → length xs ≡ n → length (set (map (shared st) xs) place x) ≡ n
  set_one st xs place x h = length-set (map (shared st) xs) place x ∙ length-map xs (shared st) ∙ h

  leader_keeps : (hs : Harts) (act : Act) (m : Move) (failing : Bool) → Has hs → Has (leader_by hs act m failing)
  leader_keeps hs act m failing h =
      by_if (is_commit m.place act) (if all_away hs.others then leader_commits hs act m else leader_waits hs) (if failing && m.outside then record hs { leader = fails hs.leader } else leader_goes hs act m)
      (by_if (all_away hs.others) (leader_commits hs act m) (leader_waits hs) (length-map (map (shared m.store) hs.others) freed ∙ length-map hs.others (shared m.store) ∙ h) h)
      (by_if (failing && m.outside) (record hs { leader = fails hs.leader }) (leader_goes hs act m) h (length-map hs.others (shared m.store) ∙ h))

  goes_keeps : (hs : Harts) (k : ℕ) (o : Hart) (m : Move) → Has hs → Has (other_goes hs k o m)
  goes_keeps hs k o m h = set_one m.store hs.others k (executes o Skip m) h

  poll_keeps : (mode : Mode) (wanted : Bool) (under : Option (List Binding)) (hs : Harts) (k : ℕ) (o : Hart) (m : Move) → Has hs → Has (at_poll mode wanted under hs k o m)
  poll_keeps Runs true under hs k o m h = length-set hs.others k _ ∙ h
  poll_keeps Runs false under hs k o m h = goes_keeps hs k o m h
  poll_keeps Parked wanted under hs k o m h = length-set hs.others k _ ∙ h
  poll_keeps Freed wanted (Some old) hs k o m h = length-set hs.others k _ ∙ h
  poll_keeps Freed wanted None hs k o m h = length-set hs.others k _ ∙ h

  other_keeps : (place : Place) (hs : Harts) (k : ℕ) (o : Hart) (m : Move) (failing : Bool) → Has hs → Has (other_by place hs k o m failing)
  other_keeps AtPoll hs k o m failing h = poll_keeps o.mode hs.wanted hs.under hs k o m h
  other_keeps AtOrder hs k o m failing h = goes_keeps hs k o m h
  other_keeps Elsewhere hs k o m failing h =
      by_if (failing && m.outside) (other_fails hs k o) (other_goes hs k o m) (length-set hs.others k (fails o) ∙ h) (goes_keeps hs k o m h)

  other_turn_keeps : (hs : Harts) (k : ℕ) (there : Option Hart) (pick : ℕ) (failing : Bool) → Has hs → Has (other_turn hs k there pick failing)
  other_turn_keeps hs k None pick failing h = h
  other_turn_keeps hs k (Some o) pick failing h =
      by_if (is_on o) (other_at hs k o pick failing) hs (other_keeps (move o.state Skip None pick).place hs k o (move o.state Skip None pick) failing h) h

  turn_keeps : (hs : Harts) (hart pick : ℕ) (failing : Bool) → Has hs → Has (turn_of hs hart pick failing)
  unfolding turn_of
  turn_keeps hs zero pick failing h =
      by_if (is_on hs.leader) (leader_by hs (next_act hs.actions) (move hs.leader.state (next_act hs.actions) hs.under pick) failing) hs
      (leader_keeps hs (next_act hs.actions) (move hs.leader.state (next_act hs.actions) hs.under pick) failing h) h
  turn_keeps hs (suc k) pick failing h = other_turn_keeps hs k (slice_get hs.others k) pick failing h

  pub run_keeps : (hs : Harts) (turns : List Turn) → Has hs → Has (harts_after hs turns)
  unfolding harts_after
  run_keeps hs [] h = h
  run_keeps hs (t ∷ ts) h = run_keeps (turn_of hs t.hart t.pick t.failing) ts (turn_keeps hs t.hart t.pick t.failing h)

-- so many in all
pub many : (image : Fields) (input : ℕ → List (Option ℕ)) (count : ℕ) (actions : List Act) (turns : List Turn) → 1 ≤ count →
    let hs = harts_after (first_harts image input (count - 1) actions) turns in length (hs.leader ∷ hs.others) ≡ count
many image input count actions turns some =
    let others = run_keeps (count - 1) (first_harts image input (count - 1) actions) turns (others_length 1 image input (count - 1)) in omega (arith, others, some)
