-- Probes are told an event in turn.
use Rattle.std.proofs.Common.{◌≡◌, ℕ, ◌<◌, ◌≤◌, ◌+◌, List, [], ◌∷◌, length, length-set, get_or, set, drop, remove, All, Some, sym, subst, arith, drop-drop, drop-set-lt}
use Rattle.std.proofs.lemmas.List.Elements.{All-drop}
use Rattle.std.proofs.lemmas.List.Edits.{length-remove}
use Rattle.mv_bindings.specs.declared.binding.Event.{Event}
use Rattle.mv_probe.specs.declared.probe.Verdict.TheVariants.{Keep, Leave}
use Rattle.mv_probe.specs.Hearing.{Hearing, Hears, Answers, IsPatient, Becomes}
use Rattle.mv_probe.specs.Fates.{Fates}
use Rattle.mv_probe.proofs.InTurn.{InTurn, in_turn_kept, in_turn_left, in_turn_end, removed_after}

module _ {P K : Type 0} (object : P → K) (of : P → Hearing) (event : Event) (from : List P) where
  -- those before the place have been told the event, and those from it on have not
  abbrev pub Telling : List P → ℕ → Type 0
  Telling now place = record {
    within : place ≤ length now;
    patient : All (λ probe. IsPatient (of probe)) (drop place now);
    done : InTurn (Becomes object of (event ∷ [])) from now place;
  }

  later : (now : List P) (place : ℕ) → All (λ probe. IsPatient (of probe)) (drop place now) → All (λ probe. IsPatient (of probe)) (drop (place + 1) now)
  later now place all = subst (λ l. All (λ probe. IsPatient (of probe)) l) (drop-drop 1 place now) (All-drop (λ probe. IsPatient (of probe)) 1 (drop place now) all)

  pub telling_kept : (now : List P) (place : ℕ) (x y : P) → place < length now → x ≡ get_or now place x → Answers (of x) Keep
      → Hears (event ∷ []) (of x) (of y) → object y ≡ object x → Telling now place → Telling (set now place y) (place + 1)
  telling_kept now place x y lt is answer hears same t = record {
    within = omega (arith, lt, length-set now place y);
    patient = subst (λ l. All (λ probe. IsPatient (of probe)) l) (sym (drop-set-lt (place + 1) now place y (omega arith))) (later now place t.patient);
    done = in_turn_kept (Becomes object of (event ∷ [])) from now place x y lt t.done (subst (λ z. Becomes object of (event ∷ []) z (Some y)) is (answer, hears, same));
  }

  pub telling_left : (now new : List P) (place : ℕ) (x y : P) → place < length now → x ≡ get_or now place x → Answers (of x) Leave → new ≡ remove (set now place y) place → Telling now place → Telling new place
  telling_left now new place x y lt is answer left t =
      let lt' : place < length (set now place y) = omega (arith, lt, length-set now place y) in
      let in_turn : InTurn (Becomes object of (event ∷ [])) from (remove (set now place y) place) place =
      in_turn_left (Becomes object of (event ∷ [])) from now place x y lt t.done (omega arith, subst (λ z. Answers (of z) Leave) is answer) in
      let patient : All (λ probe. IsPatient (of probe)) (drop place (remove (set now place y) place)) = subst (λ l. All (λ probe. IsPatient (of probe)) l) (sym (removed_after now place y lt)) (later now place t.patient) in
      let at_removed : Telling (remove (set now place y) place) place = record {
        within = omega (arith, lt', length-remove (set now place y) place lt');
        patient = patient;
        done = in_turn;
      } in
      subst (λ l. Telling l place) (sym left) at_removed

  pub telling_end : (now : List P) (place : ℕ) → length now ≤ place → Telling now place → Fates (Becomes object of (event ∷ [])) from now
  telling_end now place le t = in_turn_end (Becomes object of (event ∷ [])) from now place le t.done
