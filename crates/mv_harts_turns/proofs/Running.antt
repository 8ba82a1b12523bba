-- The run of a schedule.
use Rattle.std.proofs.Common.{◌≡◌, ◌≢◌, ◌⊎◌, inl, inr, ℕ, zero, suc, ◌+◌, ◌-◌, ◌<◌, ◌≤◌, Bool, true, false, List, [], ◌∷◌, ◌++◌, append_assoc, map, set, take, length, slice_get, Option, Some, None, option_map, unwrap_or, option_and_then, refl, sym, ap, ◌∙◌, arith, subst, length-append}
use Rattle.std.specs.Prelude.{IsSome}
use Rattle.std.specs.List.{All, sum_by}
use Rattle.std.proofs.lemmas.Bool.{cases_eq}
use Rattle.std.proofs.lemmas.List.{take_more, take_all, length-take-le}
use Rattle.std.proofs.lemmas.Option.{slice_get_within, get_or_from_slice_get}
use Rattle.mv_num.proofs.Lists.{set_there, there_at}
use Rattle.mv_bindings.specs.declared.action.Action.{Action}
use Rattle.mv_bindings.specs.Acts.{Act, act_of}
use Rattle.mv_image.specs.Spelling.{Fields}
use Rattle.mv_io.proofs.Common.{count_kept}
use Rattle.mv_probe.specs.Ways.{Way, way_after, next_way}
use Rattle.mv_machine.specs.declared.machine.Stopped.{Stopped}
use Rattle.mv_machine.specs.Moves.{input_failed, output_failed}
use Rattle.mv_machine.specs.Runs as runs
use Rattle.mv_harts_runs.specs.Harts.{Hart, Harts, Turn, first_harts, others_from, first_of, hart_from, harts_after, turn_of}
use Rattle.mv_harts_runs.specs.Alone.{Passes, HartsAreRight, IsRight, IsWell}
use Rattle.mv_harts_runs.proofs.Lists.{set_other, others_length}
use Rattle.mv_harts_one.specs.declared.seat.Seat.{Seat}
use Rattle.mv_harts_one.specs.Seats.{has_failed}
use Rattle.mv_harts_turns.specs.Pairs.{Both}
use Rattle.mv_harts_turns.specs.declared.group.Group.{Group}
use Rattle.mv_harts_turns.specs.Groups.{IsSeat, Shows, FetchesAre, SameStop, SameCounts, Counts, Fares, FaresBy, StandsAs, Stands, Beside, Advanced, Reaches, Refused, Wrote, WroteIn, MayFail, asked, asked_by, hart_at, seat_at, output, output_of, beside}
use Rattle.mv_harts_turns.specs.Runs.{turns_by, Outside, outside, bytes_of, inputs_of, harts_of, CountsOf, stands, FaultsOfAll, AlwaysFetch, GotAll, Ran, Broken, IsReadyFor}
use Rattle.mv_harts_turns.proofs.Places.{both_left, both_weaker}
use Rattle.mv_harts_turns.proofs.Reaching.{grew_nothing, way_none}
use Rattle.mv_harts_turns.proofs.Standing.{CountsOfHart, CountsOfAll, counts_unfailed, faults_told, ran_counts}

-- ---- turns

turns_more : (schedule : List ℕ) (failing : List Bool) (h : ℕ) (f : Bool) → length failing ≡ length schedule
    → turns_by (schedule ++ h ∷ []) (failing ++ f ∷ []) ≡ turns_by schedule failing ++ (record { hart = h; pick = 0; failing = f }) ∷ []
turns_more [] [] h f e = refl
turns_more [] (g ∷ failing) h f e = absurd (omega (arith, e))
turns_more (i ∷ schedule) [] h f e = absurd (omega (arith, e))
turns_more (i ∷ schedule) (g ∷ failing) h f e = ap (λ ts. (record { hart = i; pick = 0; failing = g }) ∷ ts) (turns_more schedule failing h f (omega (arith, e)))

after_more : (hs : Harts) (ts : List Turn) (t : Turn) → harts_after hs (ts ++ t ∷ []) ≡ turn_of (harts_after hs ts) t.hart t.pick t.failing
unfolding harts_after
after_more hs [] t = refl
after_more hs (u ∷ ts) t = after_more (turn_of hs u.hart u.pick u.failing) ts t

pub harts_more : (image : Fields) (actions : List Action) (count : ℕ) (was : Outside) (schedule : List ℕ) (failing : List Bool) (h : ℕ) (f : Bool) → length failing ≡ length schedule →
    harts_of image actions count was (schedule ++ h ∷ []) (failing ++ f ∷ []) ≡ turn_of (harts_of image actions count was schedule failing) h 0 f
harts_more image actions count was schedule failing h f e =
    let first = first_harts image (inputs_of was) (count - 1) (map act_of actions) in
    ap (harts_after first) (turns_more schedule failing h f e) ∙ after_more first (turns_by schedule failing) (record { hart = h; pick = 0; failing = f })

-- ---- ways

way_sum : (w : Way) (a n : ℕ) → way_after (way_after w a) n ≡ way_after w (a + n)
unfolding way_after
way_sum w a zero = let e : a ≡ a + 0 = omega arith in ap (way_after w) e
way_sum w a (suc n) = let e : suc (a + n) ≡ a + suc n = omega arith in ap next_way (way_sum w a n) ∙ ap (way_after w) e

way_joins : (w v v' : Option Way) (a n b : ℕ) → b ≡ a + n → v ≡ option_map (λ y. way_after y a) w → v' ≡ option_map (λ y. way_after y n) v → v' ≡ option_map (λ y. way_after y b) w
way_joins None v v' a n b s e d = d ∙ ap (option_map (λ y. way_after y n)) e
way_joins (Some w) v v' a n b s e d = d ∙ ap (option_map (λ y. way_after y n)) e ∙ ap Some (way_sum w a n ∙ ap (way_after w) (sym s))

-- ---- sinks

grew_joins : (w v v' : Option (List ℕ)) (a n b : List ℕ) → b ≡ a ++ n → v ≡ option_map (λ y. y ++ a) w → v' ≡ option_map (λ y. y ++ n) v → v' ≡ option_map (λ y. y ++ b) w
grew_joins None v v' a n b s e d = d ∙ ap (option_map (λ y. y ++ n)) e
grew_joins (Some w) v v' a n b s e d = d ∙ ap (option_map (λ y. y ++ n)) e ∙ ap Some (append_assoc w a n ∙ ap (λ l. w ++ l) (sym s))

-- ---- as many

same_length : {A B : Type 0} (R : ℕ → A → B → Type 0) (xs : List A) (ys : List B) → ((n : ℕ) → Both (R n) (slice_get xs n) (slice_get ys n)) → length xs ≡ length ys
same_length R [] [] h = refl
same_length R [] (y ∷ ys) h = absurd (h 0)
same_length R (x ∷ xs) [] h = absurd (h 0)
same_length R (x ∷ xs) (y ∷ ys) h = ap suc (same_length (λ n. R (suc n)) xs ys (λ n. h (suc n)))

reaches_seats : (image : Fields) (actions : List Action) (hart : ℕ) (bytes : ℕ → List ℕ) (x : Beside) (was is : Group) (hs hs' : Harts) → Reaches image actions hart bytes x was is hs hs' → length was.others.items ≡ length is.others.items
reaches_seats image actions hart bytes x was is hs hs' r = same_length (λ n (s s' : Seat). Unit {0}) was.others.items is.others.items (λ n. by_eq n (cases_eq (suc n) hart))
  where
    by_eq : (n : ℕ) → (suc n ≡ hart) ⊎ (suc n ≢ hart) → Both (λ (s s' : Seat). Unit {0}) (slice_get was.others.items n) (slice_get is.others.items n)
    by_eq n (inl e) = subst (λ h. Both (λ (s s' : Seat). Unit {0}) (seat_at h was) (seat_at h is)) (sym e) (both_weaker (Fares x) (λ s s'. Unit {0}) (λ s s' q. tt) (seat_at hart was) (seat_at hart is) r.own)
    by_eq n (inr ne) = both_weaker SameStop (λ s s'. Unit {0}) (λ s s' q. tt) (seat_at (suc n) was) (seat_at (suc n) is) (r.others (suc n) ne)

-- ---- what the outside tells behind a turn

-- of the hart with this number, and of the others as before
pub record Next (h : ℕ) (x : Beside) (is is' : Outside) : Type 0 where
  pub left : is'.left h ≡ x.left
  pub left_rest : (j : ℕ) → j ≢ h → is'.left j ≡ is.left j
  pub old_written : is.written h ≡ x.old_written
  pub new_written : is'.written h ≡ x.new_written
  pub written_rest : (j : ℕ) → j ≢ h → is'.written j ≡ is.written j
  pub old_inputs : is.inputs h ≡ x.old_inputs
  pub new_inputs : is'.inputs h ≡ x.new_inputs
  pub inputs_rest : (j : ℕ) → j ≢ h → is'.inputs j ≡ is.inputs j
  pub old_outputs : is.outputs h ≡ x.old_outputs
  pub new_outputs : is'.outputs h ≡ x.new_outputs
  pub outputs_rest : (j : ℕ) → j ≢ h → is'.outputs j ≡ is.outputs j
  pub old_way : is.way ≡ x.old_way
  pub new_way : is'.way ≡ x.new_way
  pub later_inputs : x.old_inputs ≤ x.new_inputs
  pub later_outputs : x.old_outputs ≤ x.new_outputs

pub next_of : {S K : Type 0} (left : S → Option (List ℕ)) (written : K → Option (List ℕ)) (inputs : S → ℕ) (outputs : K → ℕ) (sources : List S) (sinks : List K) (w w' : Option Way) (h : ℕ) (s s' : S) (k k' : K) →
    slice_get sources h ≡ Some s → slice_get sinks h ≡ Some k → inputs s ≤ inputs s' → outputs k ≤ outputs k' →
    Next h (beside (left s') (written k) (written k') w w' (inputs s) (inputs s') (outputs k) (outputs k')) (outside left written inputs outputs sources sinks w) (outside left written inputs outputs (set sources h s') (set sinks h k') w')
next_of left written inputs outputs sources sinks w w' h s s' k k' es ek in' out = record {
  left = ap (option_and_then left) (set_there sources h s s' es);
  left_rest = λ j ne. ap (option_and_then left) (set_other sources h j s' ne);
  old_written = ap (option_and_then written) ek;
  new_written = ap (option_and_then written) (set_there sinks h k k' ek);
  written_rest = λ j ne. ap (option_and_then written) (set_other sinks h j k' ne);
  old_inputs = ap (λ o. unwrap_or (option_map inputs o) 0) es;
  new_inputs = ap (λ o. unwrap_or (option_map inputs o) 0) (set_there sources h s s' es);
  inputs_rest = λ j ne. ap (λ o. unwrap_or (option_map inputs o) 0) (set_other sources h j s' ne);
  old_outputs = ap (λ o. unwrap_or (option_map outputs o) 0) ek;
  new_outputs = ap (λ o. unwrap_or (option_map outputs o) 0) (set_there sinks h k k' ek);
  outputs_rest = λ j ne. ap (λ o. unwrap_or (option_map outputs o) 0) (set_other sinks h j k' ne);
  old_way = refl;
  new_way = refl;
  later_inputs = in';
  later_outputs = out;
}

-- where nothing was read or written
abbrev pub quiet : Outside → (h : ℕ) → Option Way → Beside
quiet is h w = beside (is.left h) (is.written h) (is.written h) is.way w (is.inputs h) (is.inputs h) (is.outputs h) (is.outputs h)

next_quiet : (is : Outside) (h : ℕ) (w : Option Way) → Next h (quiet is h w) is (record is { way = w })
next_quiet is h w = record {
  left = refl;
  left_rest = λ j ne. refl;
  old_written = refl;
  new_written = refl;
  written_rest = λ j ne. refl;
  old_inputs = refl;
  new_inputs = refl;
  inputs_rest = λ j ne. refl;
  old_outputs = refl;
  new_outputs = refl;
  outputs_rest = λ j ne. refl;
  old_way = refl;
  new_way = refl;
  later_inputs = omega arith;
  later_outputs = omega arith;
}

told_some : (o : Option (List ℕ)) (v : List ℕ) → o ≡ Some v → o ≡ Some (unwrap_or o [])
told_some o v e = e ∙ sym (ap (λ p. Some (unwrap_or p [])) e)

told_is : (o : Option (List ℕ)) (v : List ℕ) → o ≡ Some v → unwrap_or o [] ≡ v
told_is o v e = ap (λ p. unwrap_or p []) e

-- ---- counts of faults

counts_since : (stop : Option Stopped) (a b c a' b' c' : ℕ) → b ≡ a → b' ≡ a' → Counts stop b c b' c' → Counts stop a c a' c'
counts_since stop a b c a' b' c' e f h = subst (λ k. Counts stop k c a' c') e (subst (λ k. Counts stop b c k c') f h)

counts_till : (stop : Option Stopped) (a b c a' b' c' : ℕ) → c ≡ b → c' ≡ b' → Counts stop a b a' b' → Counts stop a c a' c'
counts_till stop a b c a' b' c' e f h = subst (λ k. Counts stop a k a' c') (sym e) (subst (λ k. Counts stop a b a' k) (sym f) h)

-- while a hart goes on no device of it has failed
counts_on : (stop : Option Stopped) (a b a' b' : ℕ) → stop ≡ None → Counts stop a b a' b' → (b ≡ a) × (b' ≡ a')
counts_on stop a b a' b' on h = let none = subst (λ s. Counts s a b a' b') on h in (none.reading, none.writing)

-- ---- one turn more

module _ (image : Fields) (actions : List Action) (count : ℕ) (was is is' : Outside) (schedule : List ℕ) (h : ℕ) (group group' : Group) (x : Beside) (r : Ran image actions count schedule was is group) where
  abbrev now : Harts
  now = harts_of image actions count was schedule r.failing

  module _ (f : Bool) (n : Next h x is is') where
    abbrev then' : Harts
    then' = turn_of now h 0 f

    got_more : (more : List ℕ) → Wrote h now then' more → x.new_written ≡ option_map (λ before. before ++ more) x.old_written → GotAll was is' then'
    got_more more wrote grew j = by_eq (cases_eq j h)
      where
        by_eq : (j ≡ h) ⊎ (j ≢ h) → is'.written j ≡ option_map (λ before. before ++ output j then') (was.written j)
        by_eq (inl e) = subst (λ i. is'.written i ≡ option_map (λ before. before ++ output i then') (was.written i)) (sym e)
            (grew_joins (was.written h) (is.written h) (is'.written h) (output h now) more (output h then') wrote.own (r.written h) (n.new_written ∙ grew ∙ ap (option_map (λ before. before ++ more)) (sym n.old_written)))
        by_eq (inr ne) = n.written_rest j ne ∙ r.written j ∙ ap (λ l. option_map (λ before. before ++ l) (was.written j)) (sym (wrote.rest j ne))

    got_same : x.new_written ≡ x.old_written → GotAll was is' now
    got_same same j = by_eq (cases_eq j h)
      where
        by_eq : (j ≡ h) ⊎ (j ≢ h) → is'.written j ≡ option_map (λ before. before ++ output j now) (was.written j)
        by_eq (inl e) = subst (λ i. is'.written i ≡ option_map (λ before. before ++ output i now) (was.written i)) (sym e) (n.new_written ∙ same ∙ sym n.old_written ∙ r.written h)
        by_eq (inr ne) = n.written_rest j ne ∙ r.written j

    later_in : (j : ℕ) → is.inputs j ≤ is'.inputs j
    later_in j = by_eq (cases_eq j h)
      where
        by_eq : (j ≡ h) ⊎ (j ≢ h) → is.inputs j ≤ is'.inputs j
        by_eq (inl e) = subst (λ i. is.inputs i ≤ is'.inputs i) (sym e) (omega (arith, n.old_inputs, n.new_inputs, n.later_inputs))
        by_eq (inr ne) = omega (arith, n.inputs_rest j ne)

    later_out : (j : ℕ) → is.outputs j ≤ is'.outputs j
    later_out j = by_eq (cases_eq j h)
      where
        by_eq : (j ≡ h) ⊎ (j ≢ h) → is.outputs j ≤ is'.outputs j
        by_eq (inl e) = subst (λ i. is.outputs i ≤ is'.outputs i) (sym e) (omega (arith, n.old_outputs, n.new_outputs, n.later_outputs))
        by_eq (inr ne) = omega (arith, n.outputs_rest j ne)

    -- the counts behind a turn at which no device failed
    counts_same : SameCounts x → CountsOfAll was is' now
    counts_same same j o at =
        let c = ran_counts image actions count schedule was is group r j o at in
        record { stop = c.stop; has_stop = c.has_stop; counts = counts_till c.stop (was.inputs j) (is.inputs j) (is'.inputs j) (was.outputs j) (is.outputs j) (is'.outputs j) (by_input (cases_eq j h)) (by_output (cases_eq j h)) c.counts }
      where
        by_input : (j ≡ h) ⊎ (j ≢ h) → is'.inputs j ≡ is.inputs j
        by_input (inl e) = subst (λ i. is'.inputs i ≡ is.inputs i) (sym e) (n.new_inputs ∙ same.0 ∙ sym n.old_inputs)
        by_input (inr ne) = n.inputs_rest j ne

        by_output : (j ≡ h) ⊎ (j ≢ h) → is'.outputs j ≡ is.outputs j
        by_output (inl e) = subst (λ i. is'.outputs i ≡ is.outputs i) (sym e) (n.new_outputs ∙ same.1 ∙ sym n.old_outputs)
        by_output (inr ne) = n.outputs_rest j ne

    -- and behind one of which it is known how its hart fares
    counts_behind : (more : List ℕ) → WroteIn h x now then' more → CountsOfAll was is' then'
    counts_behind more w j o at = by_eq (cases_eq j h)
      where
        own : hart_at h then' ≡ Some o → CountsOfHart h was is' o
        own here =
            let old = both_left (FaresBy x) (hart_at h now) (hart_at h then') o here w.own in
            let c = ran_counts image actions count schedule was is group r h old.0 old.1 in
            let on = counts_unfailed c.stop (was.inputs h) (is.inputs h) (was.outputs h) (is.outputs h) (sym c.has_stop.0 ∙ old.2.0) c.counts in
            let d = old.2.1 in
            record {
              stop = d.stop;
              has_stop = d.has_stop;
              counts = counts_since d.stop (was.inputs h) x.old_inputs (is'.inputs h) (was.outputs h) x.old_outputs (is'.outputs h) (sym n.old_inputs ∙ on.0) (sym n.old_outputs ∙ on.1)
                  (counts_till d.stop x.old_inputs x.new_inputs (is'.inputs h) x.old_outputs x.new_outputs (is'.outputs h) n.new_inputs n.new_outputs d.counts);
            }

        by_eq : (j ≡ h) ⊎ (j ≢ h) → CountsOfHart j was is' o
        by_eq (inl e) = subst (λ i. CountsOfHart i was is' o) (sym e) (own (subst (λ i. hart_at i then' ≡ Some o) e at))
        by_eq (inr ne) =
            let old = both_left StandsAs (hart_at j now) (hart_at j then') o at (w.others j ne) in
            let c = ran_counts image actions count schedule was is group r j old.0 old.1 in
            record {
              stop = c.stop;
              has_stop = old.2 c.stop c.has_stop;
              counts = counts_till c.stop (was.inputs j) (is.inputs j) (is'.inputs j) (was.outputs j) (is.outputs j) (is'.outputs j) (n.inputs_rest j ne) (n.outputs_rest j ne) c.counts;
            }

    module _ (reach : Reaches image actions h (bytes_of is) x group group' now then') where
      told_more : (j : ℕ) → j < count → is'.left j ≡ Some (bytes_of is' j)
      told_more j lt = by_eq (cases_eq j h)
        where
          by_eq : (j ≡ h) ⊎ (j ≢ h) → is'.left j ≡ Some (bytes_of is' j)
          by_eq (inl e) = subst (λ i. is'.left i ≡ Some (bytes_of is' i)) (sym e) (told_some (is'.left h) reach.rest (n.left ∙ reach.left_is))
          by_eq (inr ne) = told_some (is'.left j) (bytes_of is j) (n.left_rest j ne ∙ r.told j lt)

      counts_own : (old seat : Seat) → Fares x old seat → CountsOf h was is old → CountsOf h was is' seat
      counts_own old seat (inl same) c =
          counts_till seat.stop (was.inputs h) (is.inputs h) (is'.inputs h) (was.outputs h) (is.outputs h) (is'.outputs h) (n.new_inputs ∙ same.1.0 ∙ sym n.old_inputs) (n.new_outputs ∙ same.1.1 ∙ sym n.old_outputs)
          (subst (λ s. Counts s (was.inputs h) (is.inputs h) (was.outputs h) (is.outputs h)) (sym same.0) c)
      counts_own old seat (inr went) c =
          let on = counts_on old.stop (was.inputs h) (is.inputs h) (was.outputs h) (is.outputs h) went.0 c in
          counts_since seat.stop (was.inputs h) x.old_inputs (is'.inputs h) (was.outputs h) x.old_outputs (is'.outputs h) (sym n.old_inputs ∙ on.0) (sym n.old_outputs ∙ on.1)
          (counts_till seat.stop x.old_inputs x.new_inputs (is'.inputs h) x.old_outputs x.new_outputs (is'.outputs h) n.new_inputs n.new_outputs went.1)

      counts_more : (j : ℕ) (seat : Seat) → seat_at j group' ≡ Some seat → CountsOf j was is' seat
      counts_more j seat at = by_eq (cases_eq j h)
        where
          at_own : seat_at h group' ≡ Some seat → CountsOf h was is' seat
          at_own here = let old = both_left (Fares x) (seat_at h group) (seat_at h group') seat here reach.own in counts_own old.0 seat old.2 (r.counts h old.0 old.1)

          by_eq : (j ≡ h) ⊎ (j ≢ h) → CountsOf j was is' seat
          by_eq (inl e) = subst (λ i. CountsOf i was is' seat) (sym e) (at_own (subst (λ i. seat_at i group' ≡ Some seat) e at))
          by_eq (inr ne) =
              let old = both_left SameStop (seat_at j group) (seat_at j group') seat at (reach.others j ne) in
              counts_till seat.stop (was.inputs j) (is.inputs j) (is'.inputs j) (was.outputs j) (is.outputs j) (is'.outputs j) (n.inputs_rest j ne) (n.outputs_rest j ne)
              (subst (λ s. Counts s (was.inputs j) (is.inputs j) (was.outputs j) (is.outputs j)) (sym old.2) (r.counts j old.0 old.1))

      -- the run with that turn
      pub ran_more : Ran image actions count (schedule ++ h ∷ []) was is' group'
      ran_more =
          let e = harts_more image actions count was schedule r.failing h f r.paired in
          record {
            failing = r.failing ++ f ∷ [];
            paired = omega (arith, length-append r.failing (f ∷ []), length-append schedule (h ∷ []), r.paired);
            seats = omega (arith, reaches_seats image actions h (bytes_of is) x group group' now then' reach, r.seats);
            told = told_more;
            shows = subst (λ hs. Shows image actions (bytes_of is') group' hs) (sym e) (reach.shows (bytes_of is') (told_is (is'.left h) reach.rest (n.left ∙ reach.left_is)) (λ j ne. ap (λ o. unwrap_or o []) (n.left_rest j ne)));
            written = subst (λ hs. GotAll was is' hs) (sym e) (got_more reach.more reach.wrote reach.written);
            way_is = subst (λ hs. is'.way ≡ option_map (λ w. way_after w (asked hs)) was.way) (sym e)
                (way_joins was.way is.way is'.way (asked now) reach.steps (asked then') reach.counted r.way_is
                (n.new_way ∙ reach.way_is ∙ ap (option_map (λ w. way_after w reach.steps)) (sym n.old_way)));
            few = subst (λ hs. asked hs ≤ length (schedule ++ h ∷ [])) (sym e) (omega (arith, reach.counted, reach.few, r.few, length-append schedule (h ∷ [])));
            counts = counts_more;
            later_inputs = λ j. omega (arith, r.later_inputs j, later_in j);
            later_outputs = λ j. omega (arith, r.later_outputs j, later_out j);
          }

    -- without memory for that turn
    pub broke : (whole : List ℕ) (i : ℕ) → schedule ≡ take i whole → schedule ++ h ∷ [] ≡ take (i + 1) whole → i + 1 ≤ length whole → length schedule ≡ i → Refused h x now then' → Broken image actions count whole was is'
    broke whole i part next lt len q = by_either q.either
      where
        by_either : ((q.more ≡ []) × SameCounts x) ⊎ WroteIn h x now then' q.more → Broken image actions count whole was is'
        by_either (inl e) = record {
          turns = i;
          within = omega arith;
          failing = r.failing;
          paired = r.paired ∙ len;
          written = subst (λ l. GotAll was is' (harts_of image actions count was l r.failing)) part
              (got_same (q.written ∙ ap (λ m. option_map (λ before. before ++ m) x.old_written) e.0 ∙ sym (grew_nothing x.old_written x.old_written refl)));
          faults = subst (λ l. FaultsOfAll was is' (harts_of image actions count was l r.failing)) part (faults_told was is' now (counts_same e.1));
          later_inputs = λ j. omega (arith, r.later_inputs j, later_in j);
          later_outputs = λ j. omega (arith, r.later_outputs j, later_out j);
        }
        by_either (inr wrote) = record {
          turns = i + 1;
          within = lt;
          failing = r.failing ++ f ∷ [];
          paired = omega (arith, length-append r.failing (f ∷ []), r.paired, len);
          written = subst (λ l. GotAll was is' (harts_of image actions count was l (r.failing ++ f ∷ []))) next
              (subst (λ hs. GotAll was is' hs) (sym (harts_more image actions count was schedule r.failing h f r.paired)) (got_more q.more wrote.wrote q.written));
          faults = subst (λ l. FaultsOfAll was is' (harts_of image actions count was l (r.failing ++ f ∷ []))) next
              (subst (λ hs. FaultsOfAll was is' hs) (sym (harts_more image actions count was schedule r.failing h f r.paired)) (faults_told was is' then' (counts_behind q.more wrote)));
          later_inputs = λ j. omega (arith, r.later_inputs j, later_in j);
          later_outputs = λ j. omega (arith, r.later_outputs j, later_out j);
        }

-- ---- at the next place of a schedule

module _ (image : Fields) (actions : List Action) (count : ℕ) (was is is' : Outside) (schedule : List ℕ) (i h : ℕ) (group group' : Group) (x : Beside)
    (r : Ran image actions count (take i schedule) was is group) (lt : i < length schedule) (at : slice_get schedule i ≡ Some h) (n : Next h x is is') where
  abbrev so_far : Harts
  so_far = harts_of image actions count was (take i schedule) r.failing

  longer : take i schedule ++ h ∷ [] ≡ take (i + 1) schedule
  longer = sym (take_more schedule i h lt ∙ ap (λ v. take i schedule ++ v ∷ []) (get_or_from_slice_get schedule i h h at))

  pub ran_next : ((f : Bool) × MayFail f × Reaches image actions h (bytes_of is) x group group' so_far (turn_of so_far h 0 f)) → Ran image actions count (take (i + 1) schedule) was is' group'
  ran_next t = subst (λ l. Ran image actions count l was is' group') longer (ran_more image actions count was is is' (take i schedule) h group group' x r t.0 n t.2)

  pub broke_next : ((f : Bool) × MayFail f × Refused h x so_far (turn_of so_far h 0 f)) → Broken image actions count schedule was is'
  broke_next t = broke image actions count was is is' (take i schedule) h group group' x r t.0 n schedule i refl longer (omega arith) (length-take-le i schedule (omega arith)) t.2

pub ran_whole : (image : Fields) (actions : List Action) (count : ℕ) (was is : Outside) (schedule : List ℕ) (i : ℕ) (group : Group)
    → length schedule ≤ i → Ran image actions count (take i schedule) was is group → Ran image actions count schedule was is group
ran_whole image actions count was is schedule i group le r = subst (λ l. Ran image actions count l was is group) (take_all i schedule le) r

-- ---- a group that is as it was

stands_seats : (group group' : Group) → Stands group group' → length group.others.items ≡ length group'.others.items
stands_seats group group' s = same_length (λ n (x y : Seat). Unit {0}) group.others.items group'.others.items
    (λ n. both_weaker (λ (x y : Seat). y.stop ≡ x.stop) (λ x y. Unit {0}) (λ x y e. tt) (slice_get group.others.items n) (slice_get group'.others.items n) (s.stops (suc n)))

pub ran_stands : (image : Fields) (actions : List Action) (count : ℕ) (was is is' : Outside) (schedule : List ℕ) (group group' : Group)
    → Stands group group' → is' ≡ is → Ran image actions count schedule was is group → Ran image actions count schedule was is' group'
ran_stands image actions count was is is' schedule group group' s e r = subst (λ y. Ran image actions count schedule was y group') (sym e) (record {
  failing = r.failing;
  paired = r.paired;
  seats = omega (arith, stands_seats group group' s, r.seats);
  told = r.told;
  shows = s.shows image actions (bytes_of is) (harts_of image actions count was schedule r.failing) r.shows;
  written = r.written;
  way_is = r.way_is;
  few = r.few;
  counts = λ j seat at.
      let old = both_left SameStop (seat_at j group) (seat_at j group') seat at (s.stops j) in
      subst (λ t. Counts t (was.inputs j) (is.inputs j) (was.outputs j) (is.outputs j)) (sym old.2) (r.counts j old.0 old.1);
  later_inputs = r.later_inputs;
  later_outputs = r.later_outputs;
})

-- ---- turns that just go on

-- one more
pub advanced_next : (image : Fields) (actions : List Action) (count : ℕ) (was is : Outside) (schedule : List ℕ) (i h : ℕ) (w w' : Option Way) (group group' : Group) → AlwaysFetch image actions count was schedule →
    (r : Ran image actions count (take i schedule) was (record is { way = w }) group) → i < length schedule → slice_get schedule i ≡ Some h → h ≤ length group.others.items →
    ((bytes : ℕ → List ℕ) (hs : Harts) → Shows image actions bytes group hs → FetchesAre hs → Advanced image actions h bytes w w' group group' hs) →
    Ran image actions count (take (i + 1) schedule) was (record is { way = w' }) group'
advanced_next image actions count was is schedule i h w w' group group' fetch r lt at le goes =
    let now : Outside = record is { way = w } in
    ran_next image actions count was now (record is { way = w' }) schedule i h group group' (quiet now h w') r lt at (next_quiet now h w')
    (false, tt, goes (bytes_of now) (harts_of image actions count was (take i schedule) r.failing) r.shows (fetch i r.failing) (quiet now h w') (r.told h (omega (arith, r.seats, le))) refl refl refl (refl, refl))

-- a turn that doesn't changes nothing
pub advanced_not : (image : Fields) (actions : List Action) (count : ℕ) (was is : Outside) (schedule : List ℕ) (w w' : Option Way) (group group' : Group) → Stands group group' → w' ≡ w →
    Ran image actions count schedule was (record is { way = w }) group → Ran image actions count schedule was (record is { way = w' }) group'
advanced_not image actions count was is schedule w w' group group' s e r = ran_stands image actions count was (record is { way = w }) (record is { way = w' }) schedule group group' s (ap (λ v. record is { way = v }) e) r

-- all of them
pub ran_all : (image : Fields) (actions : List Action) (count : ℕ) (was is : Outside) (schedule : List ℕ) (i j : ℕ) (group : Group) → length schedule ≤ i → length schedule ≤ j →
    Ran image actions count (take i schedule) was is group → Ran image actions count (take j schedule) was is group
ran_all image actions count was is schedule i j group le le' r = subst (λ l. Ran image actions count l was is group) (take_all i schedule le ∙ sym (take_all j schedule le')) r

-- ---- what the premises say

pub told_all : {S : Type 0} (left : S → Option (List ℕ)) (sources : List S) → All (λ s. IsSome (left s)) sources → (h : ℕ) → h < length sources
    → option_and_then left (slice_get sources h) ≡ Some (unwrap_or (option_and_then left (slice_get sources h)) [])
told_all left sources all h lt =
    let s = there_at sources h lt in
    let is : IsSome (left s.0) = subst (λ t. IsSome (left t)) (get_or_from_slice_get sources h s.0 s.0 s.1) (all h s.0 lt) in
    let some = by_some (left s.0) is in
    told_some (option_and_then left (slice_get sources h)) some.0 (ap (option_and_then left) s.1 ∙ some.1)
  where
    by_some : (o : Option (List ℕ)) → IsSome o → (v : List ℕ) × (o ≡ Some v)
    by_some None h = absurd (cc)
    by_some (Some v) h = (v, refl)

pub few_by : (asks k i : ℕ) → asks ≤ k → k ≤ i → asks ≤ i
few_by asks k i a b = omega arith

-- a hart of a schedule is one that there is
pub numbered_at : (schedule : List ℕ) (count i h : ℕ) → All (λ hart. hart < count) schedule → slice_get schedule i ≡ Some h → h < count
numbered_at schedule count i h all at = subst (λ v. v < count) (get_or_from_slice_get schedule i h h at) (all i h (slice_get_within schedule i h at))

pub at_most : (schedule : List ℕ) (most i h : ℕ) → All (λ hart. hart ≤ most) schedule → slice_get schedule i ≡ Some h → h ≤ most
at_most schedule most i h all at = subst (λ v. v ≤ most) (get_or_from_slice_get schedule i h h at) (all i h (slice_get_within schedule i h at))

pub numbered_below : (schedule : List ℕ) (count most : ℕ) → suc most ≡ count → All (λ hart. hart < count) schedule → All (λ hart. hart ≤ most) schedule
numbered_below schedule count most e all i h within = (let lt = all i h within in omega (arith, e, lt))

-- ---- each hart of it is right

pub right_now : HartsAreRight → (image : Fields) (actions : List Action) (count : ℕ) (was : Outside) (schedule : List ℕ) (failing : List Bool) → (ready : IsReadyFor image (inputs_of was) (map act_of actions)) →
    IsRight image (inputs_of was) (Passes ready.0) (harts_of image actions count was schedule failing) × IsWell image (inputs_of was) (harts_of image actions count was schedule failing)
right_now law image actions count was schedule failing ready = law image (inputs_of was) ready.0 ready.1 (count - 1) (map act_of actions) ready.2 (turns_by schedule failing)

-- ---- the start

-- a hart that has done nothing
record IsFresh (o : Hart) : Type 0 where
  failed : o.failed ≡ false
  output : o.state.output ≡ []
  asked : asked_by o ≡ 0

fresh_other : (n : ℕ) (image : Fields) (input : ℕ → List (Option ℕ)) (count k : ℕ) (o : Hart) → slice_get (others_from n image input count) k ≡ Some o → IsFresh o
unfolding runs.first
fresh_other n image input zero k o e = absurd (cc)
fresh_other n image input (suc count) zero o e = let s : hart_from (first_of n image (input n) []) ≡ o = cc in subst IsFresh s (record { failed = refl; output = refl; asked = refl })
fresh_other n image input (suc count) (suc k) o e = fresh_other (suc n) image input count k o e

fresh_sum : (n : ℕ) (image : Fields) (input : ℕ → List (Option ℕ)) (count : ℕ) → sum_by asked_by (others_from n image input count) ≡ 0
fresh_sum n image input zero = refl
fresh_sum n image input (suc count) = fresh_sum (suc n) image input count

module _ (image : Fields) (input : ℕ → List (Option ℕ)) (count : ℕ) (acts : List Act) where
  abbrev first : Harts
  first = first_harts image input count acts

  fresh_at : (j : ℕ) (o : Hart) → hart_at j first ≡ Some o → IsFresh o
  unfolding runs.first
  fresh_at zero o e = let s : hart_from (first_of 0 image (input 0) []) ≡ o = cc in subst IsFresh s (record { failed = refl; output = refl; asked = refl })
  fresh_at (suc k) o e = fresh_other 1 image input count k o e

  fresh_output : (j : ℕ) → output j first ≡ []
  fresh_output j = by_some (hart_at j first) (fresh_at j)
    where
      by_some : (p : Option Hart) → ((o : Hart) → p ≡ Some o → IsFresh o) → output_of p ≡ []
      by_some None h = refl
      by_some (Some o) h = (h o refl).output

  no_fault : (actions : List Action) (bytes : ℕ → List ℕ) (group : Group) (j : ℕ) (seat : Seat) → Shows image actions bytes group first → seat_at j group ≡ Some seat → has_failed seat.stop ≡ false
  no_fault actions bytes group zero seat h e = let s : group.leader ≡ seat = cc in ap (λ (t : Seat). has_failed t.stop) (sym s) ∙ sym h.leader.sits.failed
  no_fault actions bytes group (suc k) seat h e =
      let o = both_at_left (slice_get group.others.items k) (slice_get first.others k) (h.others k) e in
      sym o.2.sits.failed ∙ (fresh_at (suc k) o.0 o.1).failed
    where
      both_at_left : (p : Option Seat) (q : Option Hart) → Both (IsSeat image first.commits (suc k) (bytes (suc k))) p q → p ≡ Some seat → (o : Hart) × (q ≡ Some o) × IsSeat image first.commits (suc k) (bytes (suc k)) seat o
      both_at_left p None b e = absurd (subst (λ r. Both (IsSeat image first.commits (suc k) (bytes (suc k))) r None) e b)
      both_at_left p (Some o) b e = (o, refl, subst (λ r. Both (IsSeat image first.commits (suc k) (bytes (suc k))) r (Some o)) e b)

not_fault : (j : ℕ) (was : Outside) (seat : Seat) → has_failed seat.stop ≡ false → CountsOf j was was seat
not_fault j was seat e = record {
  input = λ s. absurd (let d : true ≡ false = ap has_failed (sym s) ∙ e in cc);
  output = λ s. absurd (let d : true ≡ false = ap has_failed (sym s) ∙ e in cc);
  reading = count_kept (input_failed seat.stop) (was.inputs j) (was.inputs j) refl;
  writing = count_kept (output_failed seat.stop) (was.outputs j) (was.outputs j) refl;
}

pub first_length : (image : Fields) (actions : List Action) (bytes : ℕ → List ℕ) (group : Group) (input : ℕ → List (Option ℕ)) (count : ℕ)
    (acts : List Act) → Shows image actions bytes group (first_harts image input count acts) → length group.others.items ≡ count
first_length image actions bytes group input count acts h = same_length (λ n. IsSeat image [] (suc n) (bytes (suc n))) group.others.items (others_from 1 image input count) h.others ∙ others_length 1 image input count

pub ran_none : (image : Fields) (actions : List Action) (count : ℕ) (was : Outside) (group : Group) → 1 ≤ count → ((h : ℕ) → h < count → was.left h ≡ Some (bytes_of was h)) →
    Shows image actions (bytes_of was) group (first_harts image (inputs_of was) (count - 1) (map act_of actions)) → Ran image actions count [] was was group
unfolding harts_after
ran_none image actions count was group some told shows =
    let acts = map act_of actions in
    record {
      failing = [];
      paired = refl;
      seats = omega (arith, first_length image actions (bytes_of was) group (inputs_of was) (count - 1) acts shows);
      told = told;
      shows = shows;
      written = λ h. grew_by (was.written h) (output h (first_harts image (inputs_of was) (count - 1) acts)) (fresh_output image (inputs_of was) (count - 1) acts h);
      way_is = way_none was.way (asked (first_harts image (inputs_of was) (count - 1) acts)) (omega (arith, fresh_sum 1 image (inputs_of was) (count - 1)));
      few = omega (arith, fresh_sum 1 image (inputs_of was) (count - 1));
      counts = λ h seat e. not_fault h was seat (no_fault image (inputs_of was) (count - 1) acts actions (bytes_of was) group h seat shows e);
      later_inputs = λ h. omega arith;
      later_outputs = λ h. omega arith;
    }
  where
    grew_by : (w : Option (List ℕ)) (out : List ℕ) → out ≡ [] → w ≡ option_map (λ before. before ++ out) w
    grew_by w out e = grew_nothing w w refl ∙ ap (λ l. option_map (λ before. before ++ l) w) (sym e)

pub broken_none : (image : Fields) (actions : List Action) (count : ℕ) (was : Outside) (whole : List ℕ) → Broken image actions count whole was was
unfolding harts_after
broken_none image actions count was whole =
    let acts = map act_of actions in
    record {
      turns = 0;
      within = omega arith;
      failing = [];
      paired = refl;
      written = λ h. grew_nothing (was.written h) (was.written h) refl ∙ ap (λ l. option_map (λ before. before ++ l) (was.written h)) (sym (fresh_output image (inputs_of was) (count - 1) acts h));
      faults = λ h o at. stands (fresh_at image (inputs_of was) (count - 1) acts h o at).failed refl refl;
      later_inputs = λ h. omega arith;
      later_outputs = λ h. omega arith;
    }
