-- What a turn has done, in parts that turns share.
use Rattle.std.proofs.Common.{◌≡◌, ◌≢◌, ◌⊎◌, inl, inr, ℕ, suc, ◌+◌, ◌≤◌, Bool, true, false, List, [], ◌∷◌, ◌++◌, map, slice_get, Option, Some, None, option_map, Result, Ok, Err, refl, sym, ap, ◌∙◌, subst}
use Rattle.mv_bindings.specs.declared.binding.Binding.{Binding}
use Rattle.mv_bindings.specs.declared.action.Action.{Action}
use Rattle.mv_bindings.specs.Acts.{Act, Skip}
use Rattle.mv_image.specs.Spelling.{Fields}
use Rattle.mv_probe.specs.Ways.{Way, way_after}
use Rattle.mv_isa.specs.declared.instr.Instr.{Instr}
use Rattle.mv_isa.specs.declared.instr.Instr.TheVariants.{Sb, Sh, Sw}
use Rattle.mv_machine.specs.Runs.{State}
use Rattle.mv_harts_runs.specs.Harts.{Hart, Harts, Move, Store, store_of, outside_of, move, place, is_outside, told, shared, left_behind, fails}
use Rattle.mv_harts_runs.proofs.Leader.{shared_none}
use Rattle.mv_harts_one.specs.declared.seat.Seat.{Seat}
use Rattle.mv_harts_one.specs.Seats.{Sits}
use Rattle.std.proofs.lemmas.Bool.{cases_eq}
use Rattle.std.specs.Prelude.{option_and_then, slice_set, IsErrAnd, MatchResult}
use Rattle.mv_harts_turns.specs.declared.group.Group.{Group}
use Rattle.mv_harts_turns.specs.Groups.{AreTaken, IsSeat, Shows, Beside, WasAsked, IsDevice, TookStore, SameStop, SameStops, SameCounts, Fares, Reaches, Refused, Turned, acted, under_behind, asked, seat_at, output_of, output, leader_acts, other_acts}
use Rattle.mv_harts_turns.proofs.Places.{both_weaker}
use Rattle.mv_harts_turns.proofs.Seats.{shared_taken, shared_output}

-- ---- lists and options

pub nothing : {A : Type 0} (xs : List A) → xs ++ [] ≡ xs
nothing [] = refl
nothing (y ∷ ys) = ap (λ l. y ∷ l) (nothing ys)

pub grew_nothing : (w v : Option (List ℕ)) → v ≡ w → v ≡ option_map (λ before. before ++ []) w
grew_nothing None v e = e
grew_nothing (Some w) v e = e ∙ ap Some (sym (nothing w))

pub way_none : (w : Option Way) (n : ℕ) → n ≡ 0 → w ≡ option_map (λ y. way_after y n) w
unfolding way_after
way_none None n e = refl
way_none (Some w) n e = ap Some (sym (ap (way_after w) e))

pub map_same : {A : Type 0} (f : A → A) → ((x : A) → f x ≡ x) → (xs : List A) → map f xs ≡ xs
map_same f h [] = refl
map_same f h (x ∷ xs) = ap (λ y. y ∷ map f xs) (h x) ∙ ap (λ l. x ∷ l) (map_same f h xs)

-- ---- a read or a write stores nothing

silent : (i : Option Instr) (regs : List ℕ) (called : Bool) → outside_of i called ≡ true → option_and_then (λ j. store_of j regs) i ≡ None
silent None regs called e = refl
silent (Some (Sb rs1 rs2 imm)) regs called e = cc
silent (Some (Sh rs1 rs2 imm)) regs called e = cc
silent (Some (Sw rs1 rs2 imm)) regs called e = cc
silent (Some i) regs called e = refl

pub outside_silent : (s : State) (a : Act) (under : Option (List Binding)) → (move s a under 0).outside ≡ true → (move s a under 0).store ≡ None
unfolding move told is_outside
outside_silent s a under e = silent _ _ _ e

-- a move, in parts
pub move_place : (s : State) (a : Act) (under : Option (List Binding)) → (move s a under 0).place ≡ place s 0
unfolding move
move_place s a under = refl

pub move_store : (s : State) (a : Act) (under : Option (List Binding)) → (move s a under 0).store ≡ told s 0
unfolding move
move_store s a under = refl

-- where a `?` returns
pub match_err : {T E : Type 0} (r : Result T E) (P : T → Type 0) (Q R : E → Type 0) → IsErrAnd r R → ((e : E) → Q e) → MatchResult r P Q
match_err (Ok done) P Q R h q = absurd h
match_err (Err e) P Q R h q = q e

-- ---- instructions, whether their read or write failed or not

abbrev pub leader_any : Bool → Harts → Act → Move → Harts
leader_any f hs a m = record hs { leader = acted f hs.leader a m; others = map (shared m.store) hs.others; actions = left_behind m.place hs.actions; under = under_behind f hs.under m }

abbrev pub other_any : Bool → Harts → (n : ℕ) → Hart → Move → Harts
other_any f hs n o m = record hs { leader = shared m.store hs.leader; others = slice_set (map (shared m.store) hs.others) n (acted f o Skip m) }

unshared : (st : Option Store) → st ≡ None → (os : List Hart) → map (shared st) os ≡ os
unshared st e os = ap (λ q. map (shared q) os) e ∙ map_same (shared None) shared_none os

pub leader_any_is : (f : Bool) (hs : Harts) (a : Act) (m : Move) → IsDevice m f → (m.outside ≡ true → m.store ≡ None) → leader_acts hs a m f ≡ leader_any f hs a m
leader_any_is false hs a m d silent = refl
leader_any_is true hs a m d silent =
    let e1 = unshared m.store (silent (d refl).0) hs.others in
    let e2 : left_behind m.place hs.actions ≡ hs.actions = ap (λ p. left_behind p hs.actions) (d refl).1 in
    sym (ap (λ (os : List Hart). record hs { leader = fails hs.leader; others = os; actions = left_behind m.place hs.actions }) e1
    ∙ ap (λ (acts : List Act). record hs { leader = fails hs.leader; actions = acts }) e2)

pub other_any_is : (f : Bool) (hs : Harts) (n : ℕ) (o : Hart) (m : Move) → IsDevice m f → (m.outside ≡ true → m.store ≡ None) → other_acts hs n o m f ≡ other_any f hs n o m
other_any_is false hs n o m d silent = refl
other_any_is true hs n o m d silent =
    let none = silent (d refl).0 in
    let e1 = unshared m.store none hs.others in
    let e2 : shared m.store hs.leader ≡ hs.leader = ap (λ q. shared q hs.leader) none ∙ shared_none hs.leader in
    sym (ap (λ (os : List Hart). record hs { leader = shared m.store hs.leader; others = slice_set os n (fails o) }) e1
    ∙ ap (λ (l : Hart). record hs { leader = l; others = slice_set hs.others n (fails o) }) e2)

-- ---- what a store leaves

pub output_shared : (st : Option Store) (p : Option Hart) → output_of (option_map (shared st) p) ≡ output_of p
output_shared st None = refl
output_shared st (Some o) = shared_output st o

-- a seat that took a store is the hart that did
pub seat_took : (image : Fields) (commits : List (List Binding)) (n : ℕ) (old new : List ℕ) (st : Option Store) (was is : Seat) (o : Hart) → new ≡ old
    → TookStore st was is → IsSeat image commits n old was o → IsSeat image commits n new is (shared st o)
seat_took image commits n old new st was is o e q r = record {
  same_image = q.image ∙ r.same_image;
  sits = subst (λ bytes. Sits n is bytes (shared st o)) (sym e) (q.sits n old o r.sits);
  took = subst (λ acts. AreTaken commits is.taken acts) (sym (shared_taken st o)) (subst (λ ts. AreTaken commits ts o.taken) (sym q.taken) r.took);
}

-- ---- what a group shows

pub seat_bytes : (image : Fields) (commits : List (List Binding)) (n : ℕ) (old new : List ℕ) (seat : Seat) (o : Hart) → new ≡ old → IsSeat image commits n old seat o → IsSeat image commits n new seat o
seat_bytes image commits n old new seat o e h = subst (λ bytes. IsSeat image commits n bytes seat o) (sym e) h

pub shows_bytes : (image : Fields) (actions : List Action) (bytes after : ℕ → List ℕ) (group : Group) (hs : Harts) → ((h : ℕ) → after h ≡ bytes h) → Shows image actions bytes group hs → Shows image actions after group hs
shows_bytes image actions bytes after group hs e h = record {
  leader = seat_bytes image hs.commits 0 (bytes 0) (after 0) group.leader hs.leader (e 0) h.leader;
  others = λ n. both_weaker (IsSeat image hs.commits (suc n) (bytes (suc n))) (IsSeat image hs.commits (suc n) (after (suc n)))
      (λ seat o r. seat_bytes image hs.commits (suc n) (bytes (suc n)) (after (suc n)) seat o (e (suc n)) r) (slice_get group.others.items n)
      (slice_get hs.others n) (h.others n);
  actions_are = h.actions_are;
  wanted = h.wanted;
  under = h.under;
  commits = h.commits;
}

-- a turn by another name
pub turned_map : {T E : Type 0} (image : Fields) (actions : List Action) (hart : ℕ) (bytes : ℕ → List ℕ) (x : Beside) (was is : Group) (hs : Harts)
    (F G : Bool → Type 0) (t u : Bool → Harts) → ((f : Bool) → F f → G f × (t f ≡ u f)) → (r : Result T E) →
    Turned image actions hart bytes x was is hs F t r → Turned image actions hart bytes x was is hs G u r
turned_map image actions hart bytes x was is hs F G t u h (Ok done) y = (y.0, (h y.0 y.1).0, subst (λ hs'. Reaches image actions hart bytes x was is hs hs') (h y.0 y.1).1 y.2)
turned_map image actions hart bytes x was is hs F G t u h (Err error) y = (y.0, (h y.0 y.1).0, subst (λ hs'. Refused hart x hs hs') (h y.0 y.1).1 y.2)

pub turned_err : {T E : Type 0} (image : Fields) (actions : List Action) (hart : ℕ) (bytes : ℕ → List ℕ) (x : Beside) (was is : Group) (hs : Harts)
    (F : Bool → Type 0) (t : Bool → Harts) (r : Result T E) (R : E → Type 0) → IsErrAnd r R → (f : Bool) → F f → Refused hart x hs (t f) →
    Turned image actions hart bytes x was is hs F t r
turned_err image actions hart bytes x was is hs F t (Ok done) R h f fits q = absurd h
turned_err image actions hart bytes x was is hs F t (Err e) R h f fits q = (f, fits, q)

-- a turn that neither reads nor writes
module _ (image : Fields) (actions : List Action) (hart : ℕ) (bytes : ℕ → List ℕ) (x : Beside) (was is : Group) (hs hs' : Harts) where
  pub record Quiet (steps : ℕ) : Type 0 where
    pub few : steps ≤ 1
    pub left_is : x.left ≡ Some (bytes hart)
    pub same_written : x.new_written ≡ x.old_written
    pub same_counts : SameCounts x
    pub way_is : WasAsked x steps
    pub counted : asked hs' ≡ asked hs + steps
    pub same_output : (h : ℕ) → output h hs' ≡ output h hs
    pub shows : Shows image actions bytes is hs'
    pub stops : SameStops was is

  pub reaches_quiet : (steps : ℕ) → Quiet steps → Reaches image actions hart bytes x was is hs hs'
  reaches_quiet steps q = record {
    rest = bytes hart;
    left_is = q.left_is;
    shows = λ after own others. shows_bytes image actions bytes after is hs' (same after own others) q.shows;
    more = [];
    wrote = record { own = q.same_output hart ∙ sym (nothing (output hart hs)); rest = λ h ne. q.same_output h };
    written = grew_nothing x.old_written x.new_written q.same_written;
    steps = steps;
    few = q.few;
    counted = q.counted;
    way_is = q.way_is;
    own = both_weaker SameStop (Fares x) (λ s s' e. inl (e, q.same_counts)) (seat_at hart was) (seat_at hart is) (q.stops hart);
    others = λ h ne. q.stops h;
  }
    where
      same : (after : ℕ → List ℕ) → after hart ≡ bytes hart → ((h : ℕ) → h ≢ hart → after h ≡ bytes h) → (h : ℕ) → after h ≡ bytes h
      same after own others h = by_eq (cases_eq h hart)
        where
          by_eq : (h ≡ hart) ⊎ (h ≢ hart) → after h ≡ bytes h
          by_eq (inl e) = ap after e ∙ own ∙ ap bytes (sym e)
          by_eq (inr ne) = others h ne
