-- What holds of a run of harts holds behind each turn of hart 0.
use Rattle.std.proofs.Common.{◌≡◌, ◌⊎◌, inl, inr, ℕ, suc, ◌+◌, ◌≤◌, Bool, true, false, ◌&&◌, ◌||◌, not, nat_eq, if◌then◌else◌, List, [], ◌∷◌, ◌++◌, append_assoc, map, Option, Some, None, refl, sym, ap, ◌∙◌, subst}
use Rattle.std.specs.List.{All}
use Rattle.std.proofs.lemmas.List.Elements.{All-nil, All-head, All-tail}
use Rattle.std.proofs.lemmas.Bool.{and_parts}
use Rattle.mv_bindings.specs.declared.binding.Binding.{Binding}
use Rattle.mv_isa.specs.declared.instr.Instr.TheVariants.{Ecall}
use Rattle.mv_fetch.specs.Held.{Room}
use Rattle.mv_image.specs.Spelling.{Fields}
use Rattle.mv_patch.specs.Pairs.{pairs_between}
use Rattle.mv_patch.specs.Stores.{stored_all}
use Rattle.mv_patch.specs.Orders.{values_of}
use Rattle.mv_refine_machine.specs.Stores.Between.{IsBetween}
use Rattle.mv_refine_machine.proofs.Calming.{going_told}
use Rattle.mv_refine_machine.specs.Commits.Watch.{texts_of}
use Rattle.mv_bindings.specs.Acts.{Act, Skip, Flip, Adopt}
use Rattle.mv_machine.specs.Runs.{State, Stop, Going, turn, is_going}
use Rattle.mv_machine.specs.Commits.{fetched_instr, after_instr, commit_after}
use Rattle.mv_harts_runs.specs.Harts.{Mode, Runs, Parked, Freed, Hart, Harts, Place, AtOrder, AtPoll, Elsewhere, place, Store, told, is_in_text, shared_room, shared, is_on, fails, is_outside, next_act, left_behind, later_acts, took, handed, move, is_flip, is_commit, is_parked, is_away, all_away, freed_from, freed, leader_goes, leader_commits, leader_waits, leader_by, leader_turn}
use Rattle.mv_harts_runs.specs.Alone.{under_alone, Fitting, Known, adopts_of, IsAlone, IsUpToDate, IsBehind, StandsBy, Stands, IsOther, IsRight}
use Rattle.mv_harts_runs.proofs.Rooms.{Follows, in_text, older_same, shared_follows, shared_elsewhere, no_store}
use Rattle.mv_harts_runs.proofs.Acts.{IsNoCall, ecall_or, instr_acts, place_elsewhere, with_acts, move_pick}
use Rattle.mv_harts_runs.proofs.Calls.{IsOwn}
use Rattle.mv_harts_runs.proofs.Moves.{IsElsewhere, call_told, stays, stores, binds, under_stays, under_begins, alone_more, under_alone_more}
use Rattle.mv_harts_runs.proofs.Lists.{map_there, away_at}
use Rattle.mv_harts_runs.proofs.Facts.{Facts, facts, facts_settled, facts_between, facts_calm, settles, between_text, between_like, took_fits, none_or_some}

-- ---- stores that are shared

pub shared_none : (x : Hart) → shared None x ≡ x
unfolding shared_room
shared_none x = by_going (is_on x)
  where
    by_going : (g : Bool) → (if g then x else x) ≡ x
    by_going true = refl
    by_going false = refl

pub shared_out : (st : Store) (x : Hart) → is_in_text st.address ≡ false → shared (Some st) x ≡ x
shared_out st x out = by_going (is_on x)
  where
    by_going : (g : Bool) → (if g then record x { state = record x.state { room = shared_room (Some st) x.state.room } } else x) ≡ x
    by_going true = ap (λ (r : Room). record x { state = record x.state { room = r } }) (shared_elsewhere st x.state.room out)
    by_going false = refl

pub shared_going : (st : Option Store) (x : Hart) → is_on x ≡ true → shared st x ≡ record x { state = record x.state { room = shared_room st x.state.room } }
shared_going st x e = ap (λ g. if g then record x { state = record x.state { room = shared_room st x.state.room } } else x) e

pub shared_ended : (st : Option Store) (x : Hart) → is_on x ≡ false → shared st x ≡ x
shared_ended st x e = ap (λ g. if g then record x { state = record x.state { room = shared_room st x.state.room } } else x) e

-- ---- how runs stand

-- a hart that has not ended goes on
pub on_going : (x : Hart) → is_on x ≡ true → x.state.stop ≡ Going
on_going x e = going_told x.state.stop (and_parts (is_going x.state.stop) (not x.failed) e).0

pub none_from : (u u' : Option (List Binding)) → ((old : List Binding) → u' ≡ Some old → u ≡ Some old) → u ≡ None → u' ≡ None
none_from u None from e = refl
none_from u (Some old) from e = absurd (let f = from old refl in cc)

-- a store that isn't told away
pub elsewhere_none : (o : Option Store) → o ≡ None → IsElsewhere o
elsewhere_none o e x q = absurd (cc)

pub elsewhere_some : (o : Option Store) (st : Store) → o ≡ Some st → is_in_text st.address ≡ false → IsElsewhere o
elsewhere_some o st e out x q = let s : st ≡ x = cc in subst (λ (z : Store). is_in_text z.address ≡ false) s out

-- where an environment call is made, there is no store
pub called_told : (s : State) → (place s 0 ≡ Elsewhere → ⊥) → told s 0 ≡ None
called_told s called = by_call (ecall_or (fetched_instr s 0))
  where
    by_call : (fetched_instr s 0 ≡ Some Ecall) ⊎ IsNoCall (fetched_instr s 0) → told s 0 ≡ None
    by_call (inl e) = call_told s 0 e
    by_call (inr q) = absurd (called (place_elsewhere s 0 q))

after_going : (s : State) (a : Act) (u : Option (List Binding)) → s.stop ≡ Going → fetched_instr (handed s a) 0 ≡ fetched_instr s 0 → after_instr (handed s a) (fetched_instr s 0) u ≡ u → commit_after (handed s a) 0 u ≡ u
after_going s a u going e q =
    ap (λ (stop : Stop). if is_going stop then after_instr (handed s a) (fetched_instr (handed s a) 0) u else u) going ∙ ap (λ i. after_instr (handed s a) i u) e ∙ q

-- a store is no commit
pub store_no_commit : (s : State) (a : Act) (st : Store) → told s 0 ≡ Some st → is_commit (place s 0) a ≡ false
store_no_commit s a st e = by_call (ecall_or (fetched_instr s 0))
  where
    by_call : (fetched_instr s 0 ≡ Some Ecall) ⊎ IsNoCall (fetched_instr s 0) → is_commit (place s 0) a ≡ false
    by_call (inl q) = absurd (let none = call_told s 0 q in cc)
    by_call (inr q) = ap (λ p. is_commit p a) (place_elsewhere s 0 q)

-- behind a store nothing else is under way than before
pub store_under : (s : State) (a : Act) (st : Store) (u : Option (List Binding)) → s.stop ≡ Going → told s 0 ≡ Some st → commit_after (handed s a) 0 u ≡ u
unfolding told
store_under s a st u going e = by_call (ecall_or (fetched_instr s 0))
  where
    by_call : (fetched_instr s 0 ≡ Some Ecall) ⊎ IsNoCall (fetched_instr s 0) → commit_after (handed s a) 0 u ≡ u
    by_call (inl q) = absurd (let none = call_told s 0 q in cc)
    by_call (inr q) = after_going s a u going (instr_acts s (a ∷ []) 0) (q.keeps s.regs st e (handed s a) u)

module _ (known : Known) (image : Fields) (input : ℕ → List (Option ℕ)) (Fits : ℕ → Act → Type 0) (fitting : Fitting image input Fits) where
  abbrev pub Right : Harts → Type 0
  Right = IsRight image input Fits

  abbrev pub Other : ℕ → Hart → State → Option (List Binding) → List (List Binding) → Type 0
  Other = IsOther image input Fits

  -- where the leader's bindings and text stay, and no commit begins
  other_same : (h : ℕ) (o : Hart) (l l' : State) (u u' : Option (List Binding)) (cs : List (List Binding)) → Other h o l u cs → l'.bindings ≡ l.bindings → l'.room.held.text ≡ l.room.held.text
      → ((old : List Binding) → u' ≡ Some old → u ≡ Some old) → Other h o l' u' cs
  other_same h o l l' u u' cs x bs text from = record { fits = x.fits; stands = by_going (is_on o) x.stands }
    where
      up : IsUpToDate image input h o l u cs → IsUpToDate image input h o l' u' cs
      up y = record { is_alone = y.is_alone; calm = none_from u u' from y.calm; bindings = y.bindings ∙ sym bs; text = y.text ∙ sym text; whole = y.whole; adopted = y.adopted }

      by_mode : (m : Mode) → StandsBy image input m h o l u cs → StandsBy image input m h o l' u' cs
      by_mode Runs y = up y
      by_mode Parked y = (up y.0, y.1)
      by_mode Freed y = record {
        before = y.before;
        is_alone = y.is_alone;
        polls = y.polls;
        same = y.same;
        text = y.text ∙ sym text;
        between = subst (λ (b : List Binding). IsBetween (texts_of image y.before.bindings) (texts_of image b) o.state.room.held) (sym bs) y.between;
        began = λ old e. y.began old (from old e);
        whole = y.whole;
        globals = y.globals;
        stack = y.stack;
        plan = y.plan;
        reserve = y.reserve;
        settled = y.settled;
        adopted = ap (λ (b : List Binding). adopts_of o.taken ++ b ∷ []) bs ∙ y.adopted;
      }

      by_going : (g : Bool) → Stands image input g h o l u cs → Stands image input g h o l' u' cs
      by_going true y = by_mode o.mode y
      by_going false y = y

  own_fits : (a : Act) → Fits 0 a → IsOwn a
  own_fits Skip f = tt
  own_fits (Flip switch value) f = tt
  own_fits (Adopt bs) f = fitting.leads bs f

  skip_of : (a : Act) → Fits 0 a → is_flip a ≡ false → a ≡ Skip
  skip_of Skip f e = refl
  skip_of (Flip switch value) f e = absurd (cc)
  skip_of (Adopt bs) f e = absurd (fitting.leads bs f)

  next_fits : (acts : List Act) → All (Fits 0) acts → Fits 0 (next_act acts)
  next_fits [] all = fitting.skips 0
  next_fits (a ∷ acts) all = All-head (Fits 0) a acts all

  later_fits : (acts : List Act) → All (Fits 0) acts → All (Fits 0) (later_acts acts)
  later_fits [] all = All-nil (Fits 0)
  later_fits (a ∷ acts) all = All-tail (Fits 0) a acts all

  left_fits : (p : Place) (acts : List Act) → All (Fits 0) acts → All (Fits 0) (left_behind p acts)
  left_fits AtPoll acts all = later_fits acts all
  left_fits AtOrder acts all = all
  left_fits Elsewhere acts all = all

  -- ---- hart 0

  module _ (hs : Harts) (right : Right hs) (going : hs.leader.state.stop ≡ Going) where
    abbrev s : State
    s = hs.leader.state

    abbrev a : Act
    a = next_act hs.actions

    abbrev t : State
    t = turn (handed s a) 0

    abbrev u' : Option (List Binding)
    u' = commit_after (handed s a) 0 hs.under

    fits_a : Fits 0 a
    fits_a = next_fits hs.actions right.coming

    f : Facts 0 image s
    f = facts image input Fits fitting 0 s hs.leader.taken hs.leader.count right.fits right.leader

    fits' : All (Fits 0) (took (place s 0) a hs.leader.taken)
    fits' = took_fits (Fits 0) (place s 0) a hs.leader.taken right.fits fits_a

    alone' : IsAlone image input 0 (with_acts t []) (took (place s 0) a hs.leader.taken) (hs.leader.count + 1)
    unfolding move
    alone' = alone_more image input 0 s a hs.leader.taken hs.leader.count right.leader going hs.under

    under' : (more : List Act) → under_alone 0 image (input 0) (took (place s 0) a hs.leader.taken ++ more) (hs.leader.count + 1) ≡ u'
    unfolding move
    under' more = under_alone_more image input 0 s a hs.leader.taken hs.leader.count right.leader going hs.under right.under more

    f' : Facts 0 image (with_acts t [])
    f' = facts image input Fits fitting 0 (with_acts t []) (took (place s 0) a hs.leader.taken) (hs.leader.count + 1) fits' alone'

    settled_text : hs.under ≡ None → s.room.held.text ≡ texts_of image s.bindings
    settled_text e = between_text known.rooms (texts_of image s.bindings) s.room.held (facts_settled image input Fits fitting 0 s hs.leader.taken hs.leader.count right.fits right.leader hs.under right.under e)

    module _ (no : is_commit (place s 0) a ≡ false) where
      by_order : (p : Place) → is_commit p a ≡ false → p ≡ AtOrder → nat_eq s.hart 0 ≡ false
      by_order AtOrder e q = absurd (cc)
      by_order AtPoll e q = absurd (cc)
      by_order Elsewhere e q = absurd (cc)

      by_skip : (p : Place) → is_commit p a ≡ false → p ≡ AtPoll → a ≡ Skip
      by_skip AtOrder e q = absurd (cc)
      by_skip AtPoll e q = skip_of a fits_a e
      by_skip Elsewhere e q = absurd (cc)

      same_b : t.bindings ≡ s.bindings
      same_b = binds known.rooms image fitting.in_data s a 0 f.image_is going (by_order (place s 0) no) (by_skip (place s 0) no)

      from : (old : List Binding) → u' ≡ Some old → hs.under ≡ Some old
      from old e = under_stays known.rooms image fitting.in_data s a 0 f.image_is going hs.under old same_b e

      -- where no commit is under way, nothing is stored into text
      pub not_settled : (st : Store) → is_in_text st.address ≡ true → told s 0 ≡ Some st → hs.under ≡ None → ⊥
      not_settled st here e none =
          no_store st.address st.width st.value (texts_of image f'.old) (texts_of image t.bindings) s.room t.room here
          (stores known.rooms image fitting.in_data s a 0 f.image_is going st e f'.sane)
          (settled_text none ∙ ap (texts_of image) (sym same_b)) f'.between

      -- under way, the store is made in a freed hart's memory too
      record Followed (st : Store) (x : Hart) (before : State) : Type 0 where
        kept : u' ≡ hs.under
        follows : Follows st x.state.room (shared_room (Some st) x.state.room) t.room
        between : IsBetween (texts_of image before.bindings) (texts_of image t.bindings) (shared_room (Some st) x.state.room).held

      followed : (st : Store) (h : ℕ) (x : Hart) → is_in_text st.address ≡ true → told s 0 ≡ Some st → (y : IsBehind image input h x s hs.under hs.commits) → Followed st x y.before
      followed st h x here e y = by_under (none_or_some hs.under)
        where
          by_under : (hs.under ≡ None) ⊎ ((old : List Binding) × (hs.under ≡ Some old)) → Followed st x y.before
          by_under (inl none) = absurd (not_settled st here e none)
          by_under (inr some) =
              let old = texts_of image y.before.bindings in
              let kept : u' ≡ hs.under = store_under s a st hs.under going e in
              let now : IsBetween old (texts_of image s.bindings) s.room.held =
              subst (λ (b : List Binding). IsBetween (texts_of image b) (texts_of image s.bindings) s.room.held) (y.began some.0 some.1)
              (facts_between image input Fits fitting 0 s hs.leader.taken hs.leader.count right.fits right.leader hs.under right.under some.0 some.1) in
              let later : IsBetween old (texts_of image t.bindings) t.room.held =
              subst (λ (b : List Binding). IsBetween (texts_of image b) (texts_of image t.bindings) t.room.held) (y.began some.0 some.1)
              (facts_between image input Fits fitting 0 (with_acts t []) (took (place s 0) a hs.leader.taken) (hs.leader.count + 1) fits' alone' u' under' some.0 (kept ∙ some.1)) in
              let older = older_same known.tested old (texts_of image s.bindings) x.state.room.held s.room.held y.between now y.text in
              let fo = shared_follows st s.room t.room x.state.room here (stores known.rooms image fitting.in_data s a 0 f.image_is going st e f'.sane) y.text older in
              record { kept = kept; follows = fo; between = between_like old (texts_of image t.bindings) t.room.held (shared_room (Some st) x.state.room).held later fo.text fo.older }

      behind_stored : (st : Store) (h : ℕ) (x : Hart) → is_in_text st.address ≡ true → told s 0 ≡ Some st → IsBehind image input h x s hs.under hs.commits
          → IsBehind image input h (record x { state = record x.state { room = shared_room (Some st) x.state.room } }) (with_acts t []) u' hs.commits
      behind_stored st h x here e y =
          let w = followed st h x here e y in
          let fo = w.follows in
          record {
            before = y.before;
            is_alone = y.is_alone;
            polls = y.polls;
            same = ap (λ (z : State). record z { room = shared_room (Some st) x.state.room }) y.same;
            text = fo.text;
            between = w.between;
            began = λ old q. y.began old (sym w.kept ∙ q);
            whole = known.rooms.store x.state.room (shared_room (Some st) x.state.room) st.address st.width st.value fo.stored y.whole;
            globals = fo.globals ∙ y.globals;
            stack = fo.stack ∙ y.stack;
            plan = fo.plan ∙ y.plan;
            reserve = fo.reserve ∙ y.reserve;
            settled = y.settled;
            adopted = ap (λ (b : List Binding). adopts_of x.taken ++ b ∷ []) same_b ∙ y.adopted;
          }

      -- which finds room
      finds_room : (st : Store) (h : ℕ) (x : Hart) → is_in_text st.address ≡ true → told s 0 ≡ Some st → IsBehind image input h x s hs.under hs.commits → All (Fits h) x.taken → 1 ≤ x.state.room.spare
      finds_room st h x here e y fits =
          let w = followed st h x here e y in
          let fb = facts image input Fits fitting h y.before x.taken x.count fits y.is_alone in
          known.finds image fitting.rules (values_of y.before.bindings) (values_of t.bindings) x.state.room (shared_room (Some st) x.state.room) st.address st.width st.value (in_text st.address here)
          w.follows.stored y.whole (y.reserve ∙ fb.reserved) w.between

      pub other_room : (st : Store) (h : ℕ) (x : Hart) → is_in_text st.address ≡ true → told s 0 ≡ Some st → Other h x s hs.under hs.commits → is_on x ≡ true → 1 ≤ x.state.room.spare
      other_room st h x here e o on = by_mode x.mode (subst (λ g. Stands image input g h x s hs.under hs.commits) on o.stands)
        where
          by_mode : (m : Mode) → StandsBy image input m h x s hs.under hs.commits → 1 ≤ x.state.room.spare
          by_mode Runs y = absurd (not_settled st here e y.calm)
          by_mode Parked y = absurd (not_settled st here e y.0.calm)
          by_mode Freed y = finds_room st h x here e y o.fits

      goes_other : (h : ℕ) (x : Hart) → Other h x s hs.under hs.commits → Other h (shared (told s 0) x) (with_acts t []) u' hs.commits
      goes_other h x o = by_store (told s 0) refl
        where
          quiet : IsElsewhere (told s 0) → Other h x (with_acts t []) u' hs.commits
          quiet out =
              let k = stays known.rooms image fitting.in_data s a 0 f.image_is going (λ p. own_fits a fits_a) out in
              other_same h x s (with_acts t []) hs.under u' hs.commits o same_b k.text from

          by_mode : (st : Store) → is_in_text st.address ≡ true → told s 0 ≡ Some st → (m : Mode) → StandsBy image input m h x s hs.under hs.commits
              → StandsBy image input m h (record x { state = record x.state { room = shared_room (Some st) x.state.room } }) (with_acts t []) u' hs.commits
          by_mode st here e Runs y = absurd (not_settled st here e y.calm)
          by_mode st here e Parked y = absurd (not_settled st here e y.0.calm)
          by_mode st here e Freed y = behind_stored st h x here e y

          by_going : (st : Store) → is_in_text st.address ≡ true → told s 0 ≡ Some st → (g : Bool) → is_on x ≡ g → Stands image input g h x s hs.under hs.commits → Other h (shared (Some st) x) (with_acts t []) u' hs.commits
          by_going st here e true q y =
              subst (λ (z : Hart). Other h z (with_acts t []) u' hs.commits) (sym (shared_going (Some st) x q))
              (record { fits = o.fits; stands = subst (λ g. Stands image input g h (record x { state = record x.state { room = shared_room (Some st) x.state.room } }) (with_acts t []) u' hs.commits) (sym q) (by_mode st here e x.mode y) })
          by_going st here e false q y =
              subst (λ (z : Hart). Other h z (with_acts t []) u' hs.commits) (sym (shared_ended (Some st) x q))
              (record { fits = o.fits; stands = subst (λ g. Stands image input g h x (with_acts t []) u' hs.commits) (sym q) y })

          by_text : (st : Store) → told s 0 ≡ Some st → (b : Bool) → is_in_text st.address ≡ b → Other h (shared (Some st) x) (with_acts t []) u' hs.commits
          by_text st e true here = by_going st here e (is_on x) refl o.stands
          by_text st e false out = subst (λ (z : Hart). Other h z (with_acts t []) u' hs.commits) (sym (shared_out st x out)) (quiet (elsewhere_some (told s 0) st e out))

          by_store : (st : Option Store) → told s 0 ≡ st → Other h (shared st x) (with_acts t []) u' hs.commits
          by_store None e = subst (λ (z : Hart). Other h z (with_acts t []) u' hs.commits) (sym (shared_none x)) (quiet (elsewhere_none (told s 0) e))
          by_store (Some st) e = by_text st e (is_in_text st.address) refl

      goes_right : Right (leader_goes hs a (move s a hs.under 0))
      unfolding move
      goes_right = record {
        fits = fits';
        coming = left_fits (place s 0) hs.actions right.coming;
        leader = alone';
        under = under';
        others = λ n o e.
            let x = map_there (shared (told s 0)) hs.others n o e in
            subst (λ (z : Hart). Other (suc n) z (with_acts t []) u' hs.commits) (sym x.2) (goes_other (suc n) x.0 (right.others n x.0 x.1));
      }

    -- ---- a commit

    module _ (yes : is_commit (place s 0) a ≡ true) (away : all_away hs.others ≡ true) where
      by_place : (p : Place) → is_commit p a ≡ true → p ≡ Elsewhere → ⊥
      by_place AtOrder e q = cc
      by_place AtPoll e q = cc
      by_place Elsewhere e q = cc

      called : place s 0 ≡ Elsewhere → ⊥
      called = by_place (place s 0) yes

      calm : hs.under ≡ None
      calm = facts_calm image input Fits fitting 0 s hs.leader.taken hs.leader.count right.fits right.leader hs.under right.under called

      same_text : t.room.held.text ≡ s.room.held.text
      same_text =
          let k = stays known.rooms image fitting.in_data s a 0 f.image_is going (λ p. own_fits a fits_a) (elsewhere_none (told s 0) (called_told s called)) in
          k.text

      begun : (old : List Binding) → u' ≡ Some old → old ≡ s.bindings
      begun old e = under_begins known.rooms image fitting.in_data s a 0 f.image_is going old (sym (ap (λ u. commit_after (handed s a) 0 u) calm) ∙ e)

      freed_behind : (h : ℕ) (x : Hart) → All (Fits h) x.taken → IsUpToDate image input h x s hs.under hs.commits × (place x.state 0 ≡ AtPoll)
          → IsBehind image input h (freed x) (with_acts t []) u' (hs.commits ++ t.bindings ∷ [])
      unfolding stored_all
      freed_behind h x fits y =
          let up = y.0 in
          let fx = facts image input Fits fitting h x.state x.taken x.count fits up.is_alone in
          let still = fx.calm (λ e. (let no = sym y.1 ∙ e in cc)) in
          let old = texts_of image x.state.bindings in
          let new = texts_of image t.bindings in
          let settled = settles known.rooms old x.state.room up.whole still.0 in
          let begins = known.between old new (fitting.texts x.state.bindings t.bindings) x.state.room settled [] (pairs_between old new) refl in
          record {
            before = x.state;
            is_alone = up.is_alone;
            polls = y.1;
            same = refl;
            text = up.text ∙ sym same_text;
            between = begins.between;
            began = λ b e. begun b e ∙ sym up.bindings;
            whole = up.whole;
            globals = refl;
            stack = refl;
            plan = refl;
            reserve = refl;
            settled = settled;
            adopted = ap (λ (l : List (List Binding)). l ++ t.bindings ∷ []) up.adopted;
          }

      commits_other : (h : ℕ) (x : Hart) → Other h x s hs.under hs.commits → is_away x ≡ true → Other h (freed x) (with_acts t []) u' (hs.commits ++ t.bindings ∷ [])
      commits_other h x o gone = record { fits = o.fits; stands = by_going (is_on x) gone o.stands }
        where
          by_mode : (m : Mode) → is_parked m ≡ true → StandsBy image input m h x s hs.under hs.commits → StandsBy image input (freed_from m) h (freed x) (with_acts t []) u' (hs.commits ++ t.bindings ∷ [])
          by_mode Runs e y = absurd (cc)
          by_mode Parked e y = freed_behind h x o.fits y
          by_mode Freed e y = absurd (cc)

          by_going : (g : Bool) → (not g || is_parked x.mode) ≡ true → Stands image input g h x s hs.under hs.commits → Stands image input g h (freed x) (with_acts t []) u' (hs.commits ++ t.bindings ∷ [])
          by_going true e y = by_mode x.mode e y
          by_going false e y = record {
            is_alone = y.is_alone;
            missed = y.missed ++ t.bindings ∷ [];
            adopted = sym (append_assoc (adopts_of x.taken) y.missed (t.bindings ∷ [])) ∙ ap (λ (l : List (List Binding)). l ++ t.bindings ∷ []) y.adopted;
          }

      commits_right : Right (leader_commits hs a (move s a hs.under 0))
      unfolding move
      commits_right = record {
        fits = fits';
        coming = left_fits (place s 0) hs.actions right.coming;
        leader = alone';
        under = under';
        others = λ n o e.
            let y = map_there freed (map (shared (told s 0)) hs.others) n o e in
            let x = map_there (shared (told s 0)) hs.others n y.0 y.1 in
            let quiet : shared (told s 0) x.0 ≡ x.0 = ap (λ st. shared st x.0) (called_told s called) ∙ shared_none x.0 in
            subst (λ (z : Hart). Other (suc n) z (with_acts t []) u' (hs.commits ++ t.bindings ∷ [])) (sym (y.2 ∙ ap freed (x.2 ∙ quiet)))
            (commits_other (suc n) x.0 (right.others n x.0 x.1) (away_at hs.others n x.0 away x.1));
      }

    waits_right : Right (leader_waits hs)
    waits_right = record { fits = right.fits; coming = right.coming; leader = right.leader; under = right.under; others = right.others }

    fails_right : Right (record hs { leader = fails hs.leader })
    fails_right = record { fits = right.fits; coming = right.coming; leader = right.leader; under = right.under; others = right.others }

    pub leader_right : (pick : ℕ) (failing : Bool) → Right (leader_turn hs pick failing)
    unfolding move
    leader_right pick failing = subst Right (sym (ap (λ m. leader_by hs a m failing) (move_pick s a hs.under pick (f.one going)))) (by_commit (is_commit (place s 0) a) refl)
      where
        by_away : is_commit (place s 0) a ≡ true → (b : Bool) → all_away hs.others ≡ b → Right (if b then leader_commits hs a (move s a hs.under 0) else leader_waits hs)
        by_away ordered true e = commits_right ordered e
        by_away ordered false e = waits_right

        by_fail : is_commit (place s 0) a ≡ false → (b : Bool) → Right (if b then record hs { leader = fails hs.leader } else leader_goes hs a (move s a hs.under 0))
        by_fail e true = fails_right
        by_fail e false = goes_right e

        by_commit : (b : Bool) → is_commit (place s 0) a ≡ b → Right (if b then (if all_away hs.others then leader_commits hs a (move s a hs.under 0) else leader_waits hs)
            else (if failing && is_outside s 0 then record hs { leader = fails hs.leader } else leader_goes hs a (move s a hs.under 0)))
        by_commit true e = by_away e (all_away hs.others) refl
        by_commit false e = by_fail e (failing && is_outside s 0)
