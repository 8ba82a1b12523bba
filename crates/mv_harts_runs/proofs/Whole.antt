-- A run of harts from its start, and what follows of it.
use Rattle.std.proofs.Common.{◌≡◌, ℕ, zero, suc, ◌+◌, Bool, true, false, List, [], ◌∷◌, ◌++◌, append-nil, slice_get, Option, Some, None, refl, sym, ap, ◌∙◌, subst, arith}
use Rattle.std.specs.List.{All}
use Rattle.std.proofs.lemmas.List.Elements.{All-nil}
use Rattle.mv_bindings.specs.declared.binding.Binding.{Binding}
use Rattle.mv_fetch.specs.Held.{first as first_memory}
use Rattle.mv_image.specs.Spelling.{Fields}
use Rattle.mv_refine_machine.specs.Stores.Between.{IsWhole}
use Rattle.mv_refine_machine.specs.Commits.Watch.{texts_of}
use Rattle.mv_bindings.specs.Acts.{Act}
use Rattle.mv_machine.specs.Runs.{State, choices_at, first, runs_from}
use Rattle.mv_machine.specs.Commits.{commit_from}
use Rattle.mv_harts_runs.specs.Harts.{first_of, Mode, Runs, Parked, Freed, AtPoll, Elsewhere, Hart, Harts, Turn, is_on, is_in_text, told, place, hart_from, others_from, first_harts, harts_after, turn_of, next_act}
use Rattle.mv_harts_runs.specs.Alone.{alone, under_alone, Fitting, Known, adopts_of, IsAlone, StandsBy, Stands, IsOther, IsRight, IsOutside, IsWell}
use Rattle.mv_harts_runs.proofs.Facts.{facts, facts_settled, facts_between, between_text, outside}
use Rattle.mv_harts_runs.proofs.Leader.{on_going, other_room, store_no_commit, not_settled, called_told, elsewhere_none}
use Rattle.mv_harts_runs.proofs.Moves.{IsElsewhere}
use Rattle.mv_harts_runs.proofs.Turns.{turn_right, freed_one, quiet, at_poll_still}

module _ (known : Known) (image : Fields) (input : ℕ → List (Option ℕ)) (Fits : ℕ → Act → Type 0) (fitting : Fitting image input Fits) where
  -- ---- the start

  first_alone : (h : ℕ) → IsAlone image input h (first_of h image (input h) []) [] 0
  unfolding first runs_from
  first_alone h more = refl

  first_under : (more : List Act) → under_alone 0 image (input 0) ([] ++ more) 0 ≡ None
  unfolding commit_from
  first_under more = refl

  first_whole : (h : ℕ) → IsWhole (first_of h image (input h) []).room
  unfolding first first_memory
  first_whole h = known.rooms.settled image.text (first_of h image (input h) []).room (record { text = refl; older = refl; spare = refl })

  first_bindings_same : (h : ℕ) → (first_of h image (input h) []).bindings ≡ (first_of 0 image (input 0) []).bindings
  unfolding first
  first_bindings_same h = refl

  first_text_same : (h : ℕ) → (first_of h image (input h) []).room.held.text ≡ (first_of 0 image (input 0) []).room.held.text
  unfolding first first_memory
  first_text_same h = refl

  first_on : (h : ℕ) → is_on (hart_from (first_of h image (input h) [])) ≡ true
  unfolding first
  first_on h = refl

  first_other : (h : ℕ) → IsOther image input Fits h (hart_from (first_of h image (input h) [])) (first_of 0 image (input 0) []) None []
  first_other h = record {
    fits = All-nil (Fits h);
    stands = subst (λ g. Stands image input g h (hart_from (first_of h image (input h) [])) (first_of 0 image (input 0) []) None []) (sym (first_on h))
        (record { is_alone = first_alone h; calm = refl; bindings = first_bindings_same h; text = first_text_same h; whole = first_whole h; adopted = refl });
  }

  others_there : (count k n : ℕ) (o : Hart) → slice_get (others_from k image input count) n ≡ Some o → o ≡ hart_from (first_of (n + k) image (input (n + k)) [])
  others_there zero k n o e = absurd (cc)
  others_there (suc count) k zero o e = (let s : hart_from (first_of k image (input k) []) ≡ o = cc in sym s) ∙ ap (λ (i : ℕ). hart_from (first_of i image (input i) [])) (let q : k ≡ 0 + k = omega arith in q)
  others_there (suc count) k (suc n) o e = others_there count (suc k) n o e ∙ ap (λ (i : ℕ). hart_from (first_of i image (input i) [])) (let q : n + suc k ≡ suc n + k = omega arith in q)

  start_right : (count : ℕ) (actions : List Act) → All (Fits 0) actions → IsRight image input Fits (first_harts image input count actions)
  start_right count actions all = record {
    fits = All-nil (Fits 0);
    coming = all;
    leader = first_alone 0;
    under = first_under;
    others = λ n o e.
        let is = others_there count 1 n o e in
        let same : n + 1 ≡ suc n = omega arith in
        subst (λ (x : Hart). IsOther image input Fits (suc n) x (first_of 0 image (input 0) []) None []) (sym (is ∙ ap (λ (i : ℕ). hart_from (first_of i image (input i) [])) same)) (first_other (suc n));
  }

  pub run_right : (turns : List Turn) (hs : Harts) → IsRight image input Fits hs → IsRight image input Fits (harts_after hs turns)
  unfolding harts_after
  run_right [] hs right = right
  run_right (t ∷ turns) hs right = run_right turns (turn_of hs t.hart t.pick t.failing) (turn_right known image input Fits fitting hs t.hart t.pick t.failing right)

  -- ---- what follows

  outside_same : (s o : State) → o ≡ record s { room = o.room } → (a : State) → IsOutside a s → IsOutside a o
  outside_same s o e a is = record {
    regs = is.regs ∙ sym (ap (λ (x : State). x.regs) e);
    pc = is.pc ∙ sym (ap (λ (x : State). x.pc) e);
    bindings = is.bindings ∙ sym (ap (λ (x : State). x.bindings) e);
    input = is.input ∙ sym (ap (λ (x : State). x.input) e);
    output = is.output ∙ sym (ap (λ (x : State). x.output) e);
    log = is.log ∙ sym (ap (λ (x : State). x.log) e);
    stop = is.stop ∙ sym (ap (λ (x : State). x.stop) e);
  }

  module _ (hs : Harts) (right : IsRight image input Fits hs) where
    abbrev lead : State
    lead = hs.leader.state

    one : (n : ℕ) (o : Hart) → slice_get hs.others n ≡ Some o → is_on o ≡ true → choices_at o.state ≡ 1
    one n o there on = by_mode o.mode refl (subst (λ g. Stands image input g (suc n) o lead hs.under hs.commits) on (right.others n o there).stands)
      where
        by_mode : (m : Mode) → o.mode ≡ m → StandsBy image input m (suc n) o lead hs.under hs.commits → choices_at o.state ≡ 1
        by_mode Runs e y = (facts image input Fits fitting (suc n) o.state o.taken o.count (right.others n o there).fits y.is_alone).one (on_going o on)
        by_mode Parked e y = (facts image input Fits fitting (suc n) o.state o.taken o.count (right.others n o there).fits y.0.is_alone).one (on_going o on)
        by_mode Freed e y = freed_one known image input Fits fitting hs right n o there on e y

    texts : (n : ℕ) (o : Hart) → slice_get hs.others n ≡ Some o → is_on o ≡ true → o.state.room.held.text ≡ lead.room.held.text
    texts n o there on = by_mode o.mode (subst (λ g. Stands image input g (suc n) o lead hs.under hs.commits) on (right.others n o there).stands)
      where
        by_mode : (m : Mode) → StandsBy image input m (suc n) o lead hs.under hs.commits → o.state.room.held.text ≡ lead.room.held.text
        by_mode Runs y = y.text
        by_mode Parked y = y.0.text
        by_mode Freed y = y.text

    -- a hart that stands at a poll stores nothing
    polled : (o : Hart) → place o.state 0 ≡ AtPoll → IsElsewhere (told o.state 0)
    polled o at = elsewhere_none (told o.state 0) (called_told o.state (λ e. (let c : AtPoll ≡ Elsewhere = sym at ∙ e in cc)))

    unstored : (n : ℕ) (o : Hart) → slice_get hs.others n ≡ Some o → is_on o ≡ true → IsElsewhere (told o.state 0)
    unstored n o there on = by_mode o.mode refl (subst (λ g. Stands image input g (suc n) o lead hs.under hs.commits) on (right.others n o there).stands)
      where
        by_mode : (m : Mode) → o.mode ≡ m → StandsBy image input m (suc n) o lead hs.under hs.commits → IsElsewhere (told o.state 0)
        by_mode Runs e y = quiet known image input Fits fitting hs right n o there on y e
        by_mode Parked e y = polled o y.1
        by_mode Freed e y = polled o (at_poll_still known image input Fits fitting hs right n o there on e y)

    leader_unstored : hs.under ≡ None → is_on hs.leader ≡ true → IsElsewhere (told lead 0)
    leader_unstored none on st e = by_text (is_in_text st.address) refl
      where
        by_text : (b : Bool) → is_in_text st.address ≡ b → is_in_text st.address ≡ false
        by_text false out = out
        by_text true here = absurd (not_settled known image input Fits fitting hs right (on_going hs.leader on) (store_no_commit lead (next_act hs.actions) st e) st here e none)

    adopts : (n : ℕ) (o : Hart) → slice_get hs.others n ≡ Some o → (missed : List (List Binding)) × (adopts_of o.taken ++ missed ≡ hs.commits)
    adopts n o there = by_going (is_on o) (right.others n o there).stands
      where
        by_mode : (m : Mode) → StandsBy image input m (suc n) o lead hs.under hs.commits → (missed : List (List Binding)) × (adopts_of o.taken ++ missed ≡ hs.commits)
        by_mode Runs y = ([], append-nil (adopts_of o.taken) ∙ y.adopted)
        by_mode Parked y = ([], append-nil (adopts_of o.taken) ∙ y.0.adopted)
        by_mode Freed y = (lead.bindings ∷ [], y.adopted)

        by_going : (g : Bool) → Stands image input g (suc n) o lead hs.under hs.commits → (missed : List (List Binding)) × (adopts_of o.taken ++ missed ≡ hs.commits)
        by_going true y = by_mode o.mode y
        by_going false y = (y.missed, y.adopted)

    outsides : (n : ℕ) (o : Hart) → slice_get hs.others n ≡ Some o → IsOutside (alone (suc n) image (input (suc n)) o.taken o.count) o.state
    outsides n o there = by_going (is_on o) (right.others n o there).stands
      where
        fits : All (Fits (suc n)) o.taken
        fits = (right.others n o there).fits

        by_mode : (m : Mode) → StandsBy image input m (suc n) o lead hs.under hs.commits → IsOutside (alone (suc n) image (input (suc n)) o.taken o.count) o.state
        by_mode Runs y = outside image input Fits fitting (suc n) o.state o.taken o.count fits y.is_alone
        by_mode Parked y = outside image input Fits fitting (suc n) o.state o.taken o.count fits y.0.is_alone
        by_mode Freed y = outside_same y.before o.state y.same (alone (suc n) image (input (suc n)) o.taken o.count) (outside image input Fits fitting (suc n) y.before o.taken o.count fits y.is_alone)

        by_going : (g : Bool) → Stands image input g (suc n) o lead hs.under hs.commits → IsOutside (alone (suc n) image (input (suc n)) o.taken o.count) o.state
        by_going true y = by_mode o.mode y
        by_going false y = outside image input Fits fitting (suc n) o.state o.taken o.count fits y.is_alone

    pub well : IsWell image input hs
    well = record {
      leader_fetches = λ on. (facts image input Fits fitting 0 lead hs.leader.taken hs.leader.count right.fits right.leader).one (on_going hs.leader on);
      fetches = one;
      settled = λ e. between_text known.rooms (texts_of image lead.bindings) lead.room.held (facts_settled image input Fits fitting 0 lead hs.leader.taken hs.leader.count right.fits right.leader hs.under right.under e);
      between = facts_between image input Fits fitting 0 lead hs.leader.taken hs.leader.count right.fits right.leader hs.under right.under;
      shared = texts;
      leader_stores = leader_unstored;
      stores = unstored;
      roomy = λ on st e here n o there other_on.
          let s = hs.leader.state in
          other_room known image input Fits fitting hs right (on_going hs.leader on) (store_no_commit s (next_act hs.actions) st e) st (suc n) o here e (right.others n o there) other_on;
      adopts = adopts;
      leader_alone = outside image input Fits fitting 0 lead hs.leader.taken hs.leader.count right.fits right.leader;
      others_alone = outsides;
    }

  pub all_right : (count : ℕ) (actions : List Act) → All (Fits 0) actions → (turns : List Turn) →
      IsRight image input Fits (harts_after (first_harts image input count actions) turns) × IsWell image input (harts_after (first_harts image input count actions) turns)
  all_right count actions all turns =
      let right = run_right turns (first_harts image input count actions) (start_right count actions all) in
      (right, well (harts_after (first_harts image input count actions) turns) right)
