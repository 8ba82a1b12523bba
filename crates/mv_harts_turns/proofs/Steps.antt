-- One instruction of a seat is one of its hart.
use Rattle.std.proofs.Common.{◌≡◌, ◌⊎◌, inl, inr, ℕ, ◌+◌, Bool, true, false, List, [], ◌∷◌, ◌++◌, Option, Some, None, refl, sym, ap, ◌∙◌, arith, subst}
use Rattle.mv_bindings.specs.declared.binding.Binding.{Binding}
use Rattle.mv_bindings.specs.Acts.{Act, Skip}
use Rattle.mv_image.specs.Spelling.{Fields}
use Rattle.mv_io.specs.Outside.{CountAfter}
use Rattle.mv_machine.specs.declared.machine.Stopped.{Stopped}
use Rattle.mv_machine.specs.declared.machine.Stopped.TheVariants as answer
use Rattle.mv_machine.specs.Moves.{input_failed, output_failed}
use Rattle.mv_harts_runs.specs.Harts.{Hart, Move, AtPoll, Elsewhere, executes, fails, took, move}
use Rattle.mv_harts_one.specs.declared.seat.Seat.{Seat}
use Rattle.mv_harts_one.specs.declared.seat.Taken.{Taken}
use Rattle.mv_harts_one.specs.declared.glance.Place.{Place}
use Rattle.mv_harts_one.specs.declared.glance.Place.TheVariants as place
use Rattle.mv_harts_one.specs.Seats.{Sits, has_failed, is_under, place_as}
use Rattle.mv_harts_one.specs.Executions.{HasExecuted, HasFailed, IsFaultOf}
use Rattle.mv_harts_turns.specs.Groups.{AreTaken, IsSeat, Beside, WasAsked, SameCounts, Stepped, StepRefused, asked_by, input_rose, output_rose}
use Rattle.mv_harts_turns.specs.Polls.{IsNoted}
use Rattle.mv_harts_turns.proofs.Reaching.{nothing, grew_nothing}
use Rattle.mv_harts_turns.proofs.Seats.{not_failed, taken_append, noted, seat_noted}
use Rattle.mv_harts_turns.proofs.Standing.{counts_unfailed}
use Rattle.mv_num.specs.Words.{as_word}

poll_only : (p : Place) → (p ≡ place.AtPoll → ⊥) → (a : Act) (acts : List Act) → took (place_as p) a acts ≡ acts
poll_only place.AtOrder ne a acts = refl
poll_only place.AtPoll ne a acts = absurd (ne refl)
poll_only place.Elsewhere ne a acts = refl

fault_or : (stop : Option Stopped) → has_failed stop ≡ false → (stop ≡ Some answer.InputFault → ⊥) × (stop ≡ Some answer.OutputFault → ⊥)
fault_or stop e = (λ s. absurd (let d : true ≡ false = ap has_failed (sym s) ∙ e in cc), λ s. absurd (let d : true ≡ false = ap has_failed (sym s) ∙ e in cc))

-- while a hart goes on no device of it has failed
pub going_counts : (stop : Option Stopped) (a b a' b' : ℕ) → stop ≡ None → CountAfter (input_failed stop) a b → CountAfter (output_failed stop) a' b' → (b ≡ a) × (b' ≡ a')
going_counts stop a b a' b' on reading writing = (subst (λ s. CountAfter (input_failed s) a b) on reading, subst (λ s. CountAfter (output_failed s) a' b') on writing)

-- nor of one that has ended otherwise
unfailed_counts : (stop : Option Stopped) (a b a' b' : ℕ) → has_failed stop ≡ false → CountAfter (input_failed stop) a b → CountAfter (output_failed stop) a' b' → (b ≡ a) × (b' ≡ a')
unfailed_counts stop a b a' b' e reading writing = counts_unfailed stop a b a' b' e (let none = fault_or stop e in record { input = λ s. absurd (none.0 s); output = λ s. absurd (none.1 s); reading = reading; writing = writing })

module _ (image : Fields) (commits : List (List Binding)) (n : ℕ) (o : Hart) (a : Act) (m : Move) (under : Option (List Binding)) (ub : Bool) (x : Beside) where
  -- what an instruction came to, up to what its poll took
  pub record Near (bytes : List ℕ) (was : Seat) (seat : Seat) (b : Bool) : Type 0 where
    pub was_is : IsSeat image commits n bytes was o
    pub on : was.stop ≡ None
    pub same_image : seat.engine.image ≡ was.engine.image
    pub same_taken : seat.taken ≡ was.taken
    pub same_under : is_under under ≡ ub
    pub asks : WasAsked x 1
    pub reading : CountAfter (input_failed seat.stop) x.old_inputs x.new_inputs
    pub writing : CountAfter (output_failed seat.stop) x.old_outputs x.new_outputs
    pub did : HasExecuted n o a m seat b x.left x.old_written x.new_written ⊎ HasFailed n o m seat ub b bytes x.left x.old_written x.new_written (input_rose x) (output_rose x)

  seat_by : (bytes rest : List ℕ) (was seat : Seat) (b : Bool) (o' : Hart) → Near bytes was seat b → Sits n seat rest o' → o'.taken ≡ o.taken → IsSeat image commits n rest seat o'
  seat_by bytes rest was seat b o' h sits same = record {
    same_image = h.same_image ∙ h.was_is.same_image;
    sits = sits;
    took = subst (λ acts. AreTaken commits seat.taken acts) (sym same) (subst (λ ts. AreTaken commits ts o.taken) (sym h.same_taken) h.was_is.took);
  }

  quiet_count : o.failed ≡ false → asked_by (fails o) ≡ asked_by o + 1
  quiet_count e = let f : as_word o.failed ≡ 0 = ap as_word e in omega (arith, f)

  broke_step : (bytes : List ℕ) (was seat : Seat) (b : Bool) → Near bytes was seat b → HasFailed n o m seat ub b bytes x.left x.old_written x.new_written (input_rose x) (output_rose x) → Stepped image commits n o a m under x seat b
  broke_step bytes was seat b h e = record {
    failing = true;
    outside = λ t. (e.outside, e.place);
    rest = bytes;
    left_is = e.has_left;
    is_seat = seat_by bytes bytes was seat b (fails o) h e.sits refl;
    under_is = e.under ∙ sym h.same_under;
    more = [];
    output_is = sym (nothing o.state.output);
    written = grew_nothing x.old_written x.new_written e.wrote;
    counted = quiet_count (not_failed n was bytes o h.was_is.sits h.on);
    way_is = h.asks;
    counts = record {
      input = λ s. subst (λ stop. IsFaultOf stop (input_rose x) (output_rose x)) s e.fault;
      output = λ s. subst (λ stop. IsFaultOf stop (input_rose x) (output_rose x)) s e.fault;
      reading = h.reading;
      writing = h.writing;
    };
  }

  -- with what the poll took
  ran_step : (bytes : List ℕ) (was seat : Seat) (b : Bool) (ts : List Taken) → Near bytes was seat b → (e : HasExecuted n o a m seat b x.left x.old_written x.new_written) → AreTaken commits ts (took m.place a o.taken) →
      Stepped image commits n o a m under x (record seat { taken = ts }) b
  ran_step bytes was seat b ts h e now = record {
    failing = false;
    outside = λ t. absurd (cc);
    rest = e.bytes;
    left_is = e.has_left;
    is_seat = seat_noted image commits n e.bytes seat (record (executes o a m) { taken = o.taken }) ts (took m.place a o.taken) (seat_by bytes e.bytes was seat b (record (executes o a m) { taken = o.taken }) h moved refl) now;
    under_is = e.under;
    more = e.more;
    output_is = e.output;
    written = e.wrote;
    counted = omega arith;
    way_is = h.asks;
    counts = record { input = λ s. absurd (none.0 s); output = λ s. absurd (none.1 s); reading = h.reading; writing = h.writing };
  }
    where
      moved : Sits n seat e.bytes (record (executes o a m) { taken = o.taken })
      moved = let s = e.sits in record { engine = s.engine; state = s.state; mode = s.mode; waited = s.waited; failed = s.failed; count = s.count; halts = s.halts; before = s.before }

      none : (seat.stop ≡ Some answer.InputFault → ⊥) × (seat.stop ≡ Some answer.OutputFault → ⊥)
      none = fault_or seat.stop (sym e.sits.failed ∙ not_failed n was bytes o h.was_is.sits h.on)

  -- at no poll
  pub stepped_plain : (p : Place) → place_as p ≡ m.place → (p ≡ place.AtPoll → ⊥) → (bytes : List ℕ) (was seat : Seat) (b : Bool) → Near bytes was seat b → Stepped image commits n o a m under x seat b
  stepped_plain p at ne bytes was seat b h = by_did h.did
    where
      untaken : took m.place a o.taken ≡ o.taken
      untaken = ap (λ q. took q a o.taken) (sym at) ∙ poll_only p ne a o.taken

      old : AreTaken commits seat.taken (took m.place a o.taken)
      old = subst (λ acts. AreTaken commits seat.taken acts) (sym untaken) (subst (λ ts. AreTaken commits ts o.taken) (sym h.same_taken) h.was_is.took)

      by_did : HasExecuted n o a m seat b x.left x.old_written x.new_written ⊎ HasFailed n o m seat ub b bytes x.left x.old_written x.new_written (input_rose x) (output_rose x) → Stepped image commits n o a m under x seat b
      by_did (inl e) = ran_step bytes was seat b seat.taken h e old
      by_did (inr e) = broke_step bytes was seat b h e

  no_break : m.place ≡ AtPoll → (bytes : List ℕ) (seat : Seat) (b : Bool) → HasFailed n o m seat ub b bytes x.left x.old_written x.new_written (input_rose x) (output_rose x) → ⊥
  no_break at bytes seat b e = let d : Elsewhere ≡ AtPoll = sym e.place ∙ at in absurd (cc)

  -- at a poll, which is noted
  pub stepped_poll : place_as place.AtPoll ≡ m.place → (t : Taken) → IsNoted t a → (bytes : List ℕ) (was seat : Seat) (b : Bool) (ts : List Taken)
      → ts ≡ seat.taken ++ t ∷ [] → Near bytes was seat b → Stepped image commits n o a m under x (record seat { taken = ts }) b
  stepped_poll at t note bytes was seat b ts more h = subst (λ l. Stepped image commits n o a m under x (record seat { taken = l }) b) (sym more) (by_did h.did)
    where
      taken : took m.place a o.taken ≡ o.taken ++ a ∷ []
      taken = ap (λ q. took q a o.taken) (sym at)

      now : AreTaken commits (seat.taken ++ t ∷ []) (took m.place a o.taken)
      now = subst (λ acts. AreTaken commits (seat.taken ++ t ∷ []) acts) (sym taken) (taken_append commits seat.taken o.taken t a (subst (λ ts. AreTaken commits ts o.taken) (sym h.same_taken) h.was_is.took) (noted commits t a note))

      by_did : HasExecuted n o a m seat b x.left x.old_written x.new_written
          ⊎ HasFailed n o m seat ub b bytes x.left x.old_written x.new_written (input_rose x) (output_rose x)
          → Stepped image commits n o a m under x (record seat { taken = seat.taken ++ t ∷ [] }) b
      by_did (inl e) = ran_step bytes was seat b (seat.taken ++ t ∷ []) h e now
      by_did (inr e) = absurd (no_break (sym at) bytes seat b e)

  -- the note finds no memory
  pub refused_note : place_as place.AtPoll ≡ m.place → (bytes : List ℕ) (was seat : Seat) (b : Bool) → Near bytes was seat b → StepRefused o a m x
  refused_note at bytes was seat b h = by_did h.did
    where
      on : o.failed ≡ false
      on = not_failed n was bytes o h.was_is.sits h.on

      by_did : HasExecuted n o a m seat b x.left x.old_written x.new_written ⊎ HasFailed n o m seat ub b bytes x.left x.old_written x.new_written (input_rose x) (output_rose x) → StepRefused o a m x
      by_did (inl e) = record {
        on = on;
        same_counts = unfailed_counts seat.stop x.old_inputs x.new_inputs x.old_outputs x.new_outputs (sym e.sits.failed ∙ on) h.reading h.writing;
        more = e.more;
        written = e.wrote;
        either = inr e.output;
      }
      by_did (inr e) = absurd (no_break (sym at) bytes seat b e)

  pub refused_step : (bytes : List ℕ) (was : Seat) → IsSeat image commits n bytes was o → was.stop ≡ None → SameCounts x → x.new_written ≡ x.old_written → StepRefused o a m x
  refused_step bytes was is on same e = record { on = not_failed n was bytes o is.sits on; same_counts = same; more = []; written = grew_nothing x.old_written x.new_written e; either = inl refl }

-- a poll that takes nothing
pub skipped : (image : Fields) (commits : List (List Binding)) (n : ℕ) (o : Hart) (a : Act) (under : Option (List Binding)) (ub : Bool) (x : Beside)
    (bytes : List ℕ) (was seat : Seat) → IsSeat image commits n bytes was o → was.stop ≡ None → seat.stop ≡ None
    → seat.engine.image ≡ was.engine.image → seat.taken ≡ was.taken → is_under under ≡ ub → WasAsked x 1 → x.new_inputs ≡ x.old_inputs → x.new_outputs ≡ x.old_outputs → x.new_written ≡ x.old_written → x.left ≡ Some bytes
    → a ≡ Skip → HasExecuted n o Skip (move o.state Skip under 0) seat (is_under under) (Some bytes) x.old_written x.old_written → Near image commits n o a (move o.state a under 0) under ub x bytes was seat ub
skipped image commits n o a under ub x bytes was seat is on still same taken flag asks inputs outputs silent left skip did =
    let m : Move = move o.state a under 0 in
    let own = subst (λ b. HasExecuted n o b (move o.state b under 0) seat (is_under under) (Some bytes) x.old_written x.old_written) (sym skip) did in
    let by_left = subst (λ l. HasExecuted n o a m seat (is_under under) l x.old_written x.old_written) (sym left) own in
    let by_written = subst (λ w. HasExecuted n o a m seat (is_under under) x.left x.old_written w) (sym silent) by_left in
    record {
      was_is = is;
      on = on;
      same_image = same;
      same_taken = taken;
      same_under = flag;
      asks = asks;
      reading = subst (λ stop. CountAfter (input_failed stop) x.old_inputs x.new_inputs) (sym still) inputs;
      writing = subst (λ stop. CountAfter (output_failed stop) x.old_outputs x.new_outputs) (sym still) outputs;
      did = inl (subst (λ b. HasExecuted n o a m seat b x.left x.old_written x.new_written) flag by_written);
    }
