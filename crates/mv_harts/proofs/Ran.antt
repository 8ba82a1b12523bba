-- What a group is in which a schedule was run is told of, and all that is promised holds of it.
use Rattle.std.proofs.Common.{◌≡◌, ℕ, zero, suc, ◌-◌, ◌<◌, ◌≤◌, ◌^◌, Bool, List, [], ◌∷◌, length, map, slice_get, Option, Some, None, option_and_then, unwrap_or, refl, sym, ap, ◌∙◌, subst, arith}
use Rattle.std.specs.Prelude.{All, Err, IfOk, IsTrue, MatchResult, Ok, Result}
use Rattle.std.specs.declared.alloc.AllocError.{AllocError}
use Rattle.std.proofs.lemmas.List.{take_all}
use Rattle.std.proofs.lemmas.Option.{get_or_from_slice_get, same_Some, slice_get_within}
use Rattle.mv_ast.specs.declared.program.Program.{Program}
use Rattle.mv_bindings.specs.declared.action.Action.{Action}
use Rattle.mv_bindings.specs.Acts.{IsOfWord, act_of}
use Rattle.mv_image.specs.Spelling.{Fields}
use Rattle.mv_machine.specs.Actions.{fits_rows}
use Rattle.mv_machine.specs.Runs.{State, bytes_to_come}
use Rattle.mv_harts_runs.specs.Harts.{Hart, Harts}
use Rattle.mv_harts_runs.specs.Alone.{IsWell}
use Rattle.mv_harts_runs.proofs.Lists.{map_there}
use Rattle.mv_harts_meant.specs.Laws.{ActionsPass, AreBytes, FittingLaw, Means, MeansLaw}
use Rattle.mv_harts_meant.specs.Runnable.{IsRunnable, fits_in}
use Rattle.mv_harts_one.specs.declared.seat.Seat.{Seat}
use Rattle.mv_harts_turns.specs.declared.group.Group.{Group}
use Rattle.mv_harts_turns.specs.Pairs.{Both, Pairs}
use Rattle.mv_harts_turns.specs.Groups.{IsSeat, bindings_of, seat_at}
use Rattle.mv_harts_turns.specs.Runs.{Broken, Outside, FaultsOfAll, GotAll, Ran, IsReadyFor, bytes_of, harts_of, inputs_of, turns_by}
use Rattle.mv_harts_turns.proofs.Standing.{faults_told, ran_counts}
use Rattle.mv_harts.specs.declared.ends.HartEnd.{HartEnd}
use Rattle.mv_harts.specs.declared.ends.HartsEnd.{HartsEnd}
use Rattle.mv_harts.specs.Ends.{IsEnd, end_of}
use Rattle.mv_harts.specs.HartsRan.{Fails, HartsRan, IsKept, TellsBytes, all_of}
use Rattle.mv_harts.proofs.Counts.{many}
use Rattle.mv_harts.proofs.Pairing.{beside_right, both_in_map, same_length}
use Rattle.mv_harts.proofs.Stops.{NeverFaults, end_right, fails_of}

-- ---- the sources

bytes_at : (o : Option (List ℕ)) → TellsBytes o → All (λ b. b < 2 ^ 8) (unwrap_or o [])
bytes_at None tells = absurd tells
bytes_at (Some bytes) tells = tells

no_bytes : All (λ b. b < 2 ^ 8) []
no_bytes k d here = absurd (omega (arith, here))

module _ {S : Type 0} (left : S → Option (List ℕ)) where
  told_at : (sources : List S) (o : Option S) (h : ℕ) → slice_get sources h ≡ o → All (λ s. TellsBytes (left s)) sources → All (λ b. b < 2 ^ 8) (unwrap_or (option_and_then left o) [])
  told_at sources None h e tells = no_bytes
  told_at sources (Some s) h e tells =
      bytes_at (left s) (subst (λ x. TellsBytes (left x)) (get_or_from_slice_get sources h s s e) (tells h s (slice_get_within sources h s e)))

  pub are_bytes : (sources : List S) → All (λ s. TellsBytes (left s)) sources → (h : ℕ) → All (λ b. b < 2 ^ 8) (unwrap_or (option_and_then left (slice_get sources h)) [])
  are_bytes sources tells h = told_at sources (slice_get sources h) h refl tells

-- what they tell, each by its hart
abbrev pub bytes_told : {S : Type 0} → (S → Option (List ℕ)) → List S → ℕ → List ℕ
bytes_told left sources h = unwrap_or (option_and_then left (slice_get sources h)) []

-- what the run of a group asks for
pub is_ready : (p : Program) (image : Fields) (actions : List Action) (bytes : ℕ → List ℕ) → FittingLaw → ActionsPass → IsRunnable p image → AreBytes bytes → All IsOfWord actions →
    All (λ action. IsTrue (fits_rows image.switches action)) actions → IsReadyFor image (λ h. bytes_to_come (bytes h)) (map act_of actions)
is_ready p image actions bytes fitting pass sound are words fit = (fits_in p, fitting p image sound bytes are, pass p image sound actions words fit)

-- without memory for what is told, the whole schedule was run
pub broken_behind : (image : Fields) (actions : List Action) (count : ℕ) (schedule : List ℕ) (was is : Outside) (group : Group) → Ran image actions count schedule was is group →
    Broken image actions count schedule was is
broken_behind image actions count schedule was is group ran = record {
  turns = length schedule;
  within = omega arith;
  failing = ran.failing;
  paired = ran.paired;
  written = subst (λ (s : List ℕ). GotAll was is (harts_of image actions count was s ran.failing)) (sym (take_all (length schedule) schedule (omega arith))) ran.written;
  faults = subst (λ (s : List ℕ). FaultsOfAll was is (harts_of image actions count was s ran.failing)) (sym (take_all (length schedule) schedule (omega arith)))
      (faults_told was is (harts_of image actions count was schedule ran.failing) (ran_counts image actions count schedule was is group ran));
  later_inputs = ran.later_inputs;
  later_outputs = ran.later_outputs;
}

-- ---- the promise

never_of : (p : Program) (h : ℕ) (bytes : List ℕ) (o : Hart) → Means p h bytes o → NeverFaults o
never_of p h bytes o means why e = means.ends.faults why e

module _ (p : Program) (image : Fields) (actions : List Action) (count : ℕ) (schedule : List ℕ) (was : Outside) (law : MeansLaw) (pass : ActionsPass) (sound : IsRunnable p image)
    (bytes : AreBytes (bytes_of was)) (words : All IsOfWord actions) (fit : All (λ action. IsTrue (fits_rows image.switches action)) actions) where
  abbrev after : List Bool → Harts
  after failing = harts_of image actions count was schedule failing

  kept_of : (failing : List Bool) → IsKept p image (bytes_of was) (after failing)
  kept_of failing = record { well = holds.0; means = means }
    where
      holds : IsWell image (λ h. bytes_to_come (bytes_of was h)) (after failing) × Means p 0 (bytes_of was 0) (after failing).leader ×
          ((n : ℕ) (o : Hart) → slice_get (after failing).others n ≡ Some o → Means p (suc n) (bytes_of was (suc n)) o)
      holds = law p image sound (bytes_of was) bytes (count - 1) (map act_of actions) (pass p image sound actions words fit) (turns_by schedule failing)

      means : (h : ℕ) (o : Hart) → slice_get (all_of (after failing)) h ≡ Some o → Means p h (bytes_of was h) o
      means zero o there = subst (Means p 0 (bytes_of was 0)) (same_Some (after failing).leader o there) holds.1
      means (suc n) o there = holds.2 n o there

  module _ (is : Outside) (group : Group) (end : HartsEnd) (some : 1 ≤ count) (ran : Ran image actions count schedule was is group)
      (ends : end.harts ≡ map end_of (group.leader ∷ group.others.items)) (commits : end.commits ≡ group.commits) where
    abbrev hs_of : Harts
    hs_of = harts_of image actions count was schedule ran.failing

    kept : IsKept p image (bytes_of was) hs_of
    kept = kept_of ran.failing

    paired_at : (h : ℕ) → Both (IsEnd hs_of.commits) (slice_get (map end_of (group.leader ∷ group.others.items)) h) (slice_get (all_of hs_of) h)
    paired_at zero = end_right image hs_of.commits 0 (bytes_of is 0) group.leader hs_of.leader ran.shows.leader (never_of p 0 (bytes_of was 0) hs_of.leader (kept.means 0 hs_of.leader refl))
    paired_at (suc n) =
        both_in_map end_of (IsSeat image hs_of.commits (suc n) (bytes_of is (suc n))) (IsEnd hs_of.commits) group.others.items n (slice_get hs_of.others n) (ran.shows.others n)
        (λ seat o here there is_seat. end_right image hs_of.commits (suc n) (bytes_of is (suc n)) seat o is_seat (never_of p (suc n) (bytes_of was (suc n)) o (kept.means (suc n) o there)))

    same_commits : hs_of.commits ≡ bindings_of end.commits
    same_commits = ran.shows.commits ∙ ap bindings_of (sym commits)

    read_at : (h : ℕ) (o : Hart) → slice_get (all_of hs_of) h ≡ Some o → o.state.input ≡ bytes_to_come (bytes_of is h)
    read_at zero o there = ap (λ (x : Hart). x.state.input) (sym (same_Some hs_of.leader o there)) ∙ ap (λ (s : State). s.input) ran.shows.leader.sits.state
    read_at (suc n) o there =
        let beside = beside_right (IsSeat image hs_of.commits (suc n) (bytes_of is (suc n))) (slice_get group.others.items n) (slice_get hs_of.others n) o (ran.shows.others n) there in
        ap (λ (s : State). s.input) beside.2.sits.state

    seat_there : (h : ℕ) (seat : Seat) → slice_get (group.leader ∷ group.others.items) h ≡ Some seat → seat_at h group ≡ Some seat
    seat_there zero seat there = there
    seat_there (suc n) seat there = there

    failed_at : (h : ℕ) (hart : HartEnd) → slice_get end.harts h ≡ Some hart → Fails h was is hart
    failed_at h hart there =
        let from = map_there end_of (group.leader ∷ group.others.items) h hart (ap (λ (xs : List HartEnd). slice_get xs h) (sym ends) ∙ there) in
        fails_of h was is hart from.0 (sym from.2) (ran.counts h from.0 (seat_there h from.0 from.1))

    pub harts_ran : HartsRan p image actions count schedule was is end
    harts_ran = record {
      failing = ran.failing;
      paired = ran.paired;
      many = many_told;
      harts = harts;
      commits = same_commits;
      left = ran.told;
      read = read_at;
      written = ran.written;
      way_is = ran.way_is;
      failed = failed_at;
      later_inputs = ran.later_inputs;
      later_outputs = ran.later_outputs;
      kept = kept;
    }
      where
        harts : Pairs (λ h. IsEnd (bindings_of end.commits)) end.harts (all_of hs_of)
        harts h =
            subst (λ (xs : List HartEnd). Both (IsEnd (bindings_of end.commits)) (slice_get xs h) (slice_get (all_of hs_of) h)) (sym ends)
            (subst (λ c. Both (IsEnd c) (slice_get (map end_of (group.leader ∷ group.others.items)) h) (slice_get (all_of hs_of) h)) same_commits (paired_at h))

        many_told : length end.harts ≡ count
        many_told = same_length (λ h. IsEnd (bindings_of end.commits)) end.harts (all_of hs_of) harts ∙ many image (inputs_of was) count (map act_of actions) (turns_by schedule ran.failing) some

  -- what is told, or want of memory for it
  pub ended : (is : Outside) (group : Group) → 1 ≤ count → Ran image actions count schedule was is group → (result : Result HartsEnd AllocError) →
      IfOk result (λ end. end.harts ≡ map end_of (group.leader ∷ group.others.items)) → IfOk result (λ end. end.commits ≡ group.commits) →
      MatchResult result (HartsRan p image actions count schedule was is) (λ e. Broken image actions count schedule was is)
  ended is group some ran (Ok end) harts commits = harts_ran is group end some ran harts commits
  ended is group some ran (Err e) harts commits = broken_behind image actions count schedule was is group ran
