-- A body that is made ready, bound, with numbers carried, folded and renamed.
use Rattle.std.proofs.Common.{arith, ◌≡◌, ℕ, true, not, ◌≤◌, List, Option, None, Some, is_some, refl, sym, ◌∙◌, ap, subst, ◌⊎◌, inl, inr, All, Contains}
use Rattle.std.specs.List.{filter, zip}
use Rattle.std.proofs.lemmas.List.Elements.{All-filter, All-contains, All-contains_itself, filter_passes, All-weaker}
use Rattle.mv_ir.specs.declared.body.Body.{Body}
use Rattle.mv_ir.specs.Shorts.{Shorts, KeepsBodyWith, KeepsUnderWith}
use Rattle.mv_ir.specs.Live.{IsWhole, HasTemps}
use Rattle.mv_ir.specs.WellFormed.{IsWellFormed}
use Rattle.mv_ir.specs.Trees.{found}
use Rattle.mv_ir.specs.Measures.{scalars_read, arrays_read, calls, deepest}
use Rattle.mv_clone.specs.Bind.{is_free}
use Rattle.mv_lower_spec.specs.Functions.{lower_function}
use Rattle.mv_fold.specs.Form.{IsFoldedForm}
use Rattle.mv_expand.specs.Expanded.{IsExpanded}
use Rattle.mv_fold.specs.Folded.{IsNoGreater}
use Rattle.mv_arms.specs.Armed.{IsArmed}
use Rattle.mv_tidy.specs.Tidied.{IsTidied}
use Rattle.mv_propagate.specs.Propagated.{IsPropagated}
use Rattle.mv_ranges.specs.Marked.{IsMarkedBody}
use Rattle.mv_ranges.proofs.Same.{marked_no_greater, marked_whole, marked_has_temps, marked_well_formed}
use Rattle.mv_variants.specs.Bound.Shorts as way
use Rattle.mv_variants.specs.Bound.Shorts.{IsCleaned, IsFinished, IsReady}
use Rattle.mv_variants.specs.Bound.Meant.{IsWorked, IsMadeUnder, IsVariantOf, MadeAreVariants, LoweredAreVariants}
use Rattle.mv_variants.proofs.OfBound.RenamedForm.{renaming_keeps_form}

is_none : (o : Option ℕ) → not (is_some o) ≡ true → o ≡ None
is_none None h = refl
is_none (Some v) h = absurd cc

-- ---- a body before its switches are bound

-- what is kept there, whatever was done
pub record IsKeptReady (shorts : Shorts) (body ready : Body) : Type 0 where
  pub means : KeepsBodyWith shorts body ready
  pub scalars : (g : ℕ) → Contains (scalars_read ready.code) g → Contains (scalars_read body.code) g
  pub arrays : (g : ℕ) → Contains (arrays_read ready.code) g → Contains (arrays_read body.code) g
  pub deepest : deepest body.code ≤ 4 → deepest ready.code ≤ 4
  pub calls : calls ready.code ≤ calls body.code
  pub whole : IsWhole body → IsWhole ready
  pub has_temps : HasTemps body → HasTemps ready
  pub well_formed : IsWellFormed body → IsWellFormed ready
  pub params : ready.params ≡ body.params
  pub sizes : ready.arrays ≡ body.arrays
  pub rooms : ready.rooms ≡ body.rooms
  pub marked : ready.marked ≡ body.marked
  pub switches : ready.switches ≡ body.switches

module _ (shorts : Shorts) where
  untouched : (body : Body) → IsKeptReady shorts body body
  untouched body = record {
    means = λ setting frame contents args bound w known. record { same = refl; cheaper = omega arith };
    scalars = λ g c. c;
    arrays = λ g c. c;
    deepest = λ h. h;
    calls = omega arith;
    whole = λ h. h;
    has_temps = λ h. h;
    well_formed = λ h. h;
    params = refl;
    sizes = refl;
    rooms = refl;
    marked = refl;
    switches = refl;
  }

  -- one after the other
  after : (a b c : Body) → IsKeptReady shorts a b → IsKeptReady shorts b c → IsKeptReady shorts a c
  after a b c h k = record {
    means = λ setting frame contents args bound w known.
        let first = h.means setting frame contents args bound w known in
        let second = k.means setting frame contents args bound w known in
        record { same = first.same ∙ second.same; cheaper = omega (arith, first.cheaper, second.cheaper) };
    scalars = λ g e. h.scalars g (k.scalars g e);
    arrays = λ g e. h.arrays g (k.arrays g e);
    deepest = λ e. k.deepest (h.deepest e);
    calls = omega (arith, h.calls, k.calls);
    whole = λ e. k.whole (h.whole e);
    has_temps = λ e. k.has_temps (h.has_temps e);
    well_formed = λ e. k.well_formed (h.well_formed e);
    params = k.params ∙ h.params;
    sizes = k.sizes ∙ h.sizes;
    rooms = k.rooms ∙ h.rooms;
    marked = k.marked ∙ h.marked;
    switches = k.switches ∙ h.switches;
  }

  expanded_kept : (body e : Body) → IsExpanded shorts body e → IsKeptReady shorts body e
  expanded_kept body e x = record {
    means = x.means;
    scalars = x.scalars;
    arrays = x.arrays;
    deepest = x.deepest;
    calls = x.calls;
    whole = x.whole;
    has_temps = x.has_temps;
    well_formed = x.well_formed;
    params = x.params;
    sizes = x.sizes;
    rooms = x.rooms;
    marked = x.marked;
    switches = x.switches;
  }

  armed_kept : (body arms : Body) → IsArmed body arms ⊎ (arms ≡ body) → IsKeptReady shorts body arms
  armed_kept body arms (inl a) = record {
    means = λ setting frame contents args bound w known. a.means setting frame contents args bound w;
    scalars = a.smaller.scalars;
    arrays = a.smaller.arrays;
    deepest = λ h. omega (arith, h, a.smaller.deepest);
    calls = a.smaller.calls;
    whole = a.whole;
    has_temps = a.has_temps;
    well_formed = a.well_formed;
    params = a.params;
    sizes = a.sizes;
    rooms = a.rooms;
    marked = a.marked;
    switches = a.switches;
  }
  armed_kept body arms (inr is) = subst (IsKeptReady shorts body) (sym is) (untouched body)

  tidied_kept : (body tidied : Body) → IsTidied body tidied → IsKeptReady shorts body tidied
  tidied_kept body tidied t = record {
    means = λ setting frame contents args bound w known. t.means setting frame contents args bound w;
    scalars = t.smaller.scalars;
    arrays = t.smaller.arrays;
    deepest = λ h. omega (arith, h, t.smaller.deepest);
    calls = t.smaller.calls;
    whole = t.whole;
    has_temps = t.has_temps;
    well_formed = t.well_formed;
    params = t.params;
    sizes = t.sizes;
    rooms = t.rooms;
    marked = t.marked;
    switches = t.switches;
  }

  propagated_kept : (body propagated : Body) → IsPropagated body propagated → IsKeptReady shorts body propagated
  propagated_kept body propagated p = record {
    means = λ setting frame contents args bound w known. p.means setting frame contents args bound w;
    scalars = p.smaller.scalars;
    arrays = p.smaller.arrays;
    deepest = λ h. omega (arith, h, p.smaller.deepest);
    calls = p.smaller.calls;
    whole = p.whole;
    has_temps = p.has_temps;
    well_formed = p.well_formed;
    params = p.params;
    sizes = p.sizes;
    rooms = p.rooms;
    marked = p.marked;
    switches = p.switches;
  }

  marked_kept : (body marked : Body) → IsMarkedBody body marked → IsKeptReady shorts body marked
  marked_kept body marked m = record {
    means = λ setting frame contents args bound w known. m.means setting frame contents args bound w;
    scalars = smaller.scalars;
    arrays = smaller.arrays;
    deepest = λ h. omega (arith, h, smaller.deepest);
    calls = smaller.calls;
    whole = marked_whole body marked m;
    has_temps = marked_has_temps body marked m;
    well_formed = marked_well_formed body marked m;
    params = m.params;
    sizes = m.sizes;
    rooms = m.rooms;
    marked = m.marked;
    switches = m.switches;
  }
    where
      smaller : IsNoGreater body.code marked.code
      smaller = marked_no_greater body.code marked.code m.code

  cleaned_kept : (body result : Body) → IsCleaned body result → IsKeptReady shorts body result
  cleaned_kept body result h =
      after body h.propagated result (after body h.tidied h.propagated (tidied_kept body h.tidied h.is_tidied) (propagated_kept h.tidied h.propagated h.is_propagated))
      (tidied_kept h.propagated result h.again)

  finished_kept : (body result : Body) → IsFinished body result → IsKeptReady shorts body result
  finished_kept body result h =
      after body h.cleaned result (after body h.arms h.cleaned (armed_kept body h.arms h.are_arms) (cleaned_kept h.arms h.cleaned h.is_cleaned))
      (marked_kept h.cleaned result h.is_marked)

  pub ready_kept : (body ready : Body) → IsReady shorts body ready → IsKeptReady shorts body ready
  ready_kept body ready (way.expanded e x h words) = after body e ready (expanded_kept body e x) (finished_kept e ready h)
  ready_kept body ready (way.finished h) = finished_kept body ready h
  ready_kept body ready (way.same is) = subst (IsKeptReady shorts body) (sym is) (untouched body)

module _ (shorts : Shorts) (ps : List (ℕ × ℕ)) (body result : Body) (m : IsMadeUnder shorts ps body result) where
  pub before : IsKeptReady shorts body m.ready
  before = ready_kept shorts body m.ready m.is_ready

  abbrev w : IsWorked ps m.ready result
  w = m.worked

  keeps : KeepsUnderWith shorts ps body result
  keeps setting depth live contents args bound world known =
      let first = before.means setting (record { depth = depth; live = live; bound = ps }) contents args bound world known in
      let second = w.is_bound.means ps (λ g h. h) setting depth live contents args bound world in
      let third = w.is_carried.means setting (record { depth = depth; live = live; bound = ps }) contents args bound world in
      let fourth = w.is_folded.means setting (record { depth = depth; live = live; bound = ps }) contents args bound world in
      let fifth = w.is_renamed.keeps setting (record { depth = depth; live = live; bound = ps }) contents args bound world in
      record { same = first.same ∙ second.same ∙ third.same ∙ fourth.same ∙ fifth.same; cheaper = omega (arith, first.cheaper, second.cheaper, third.cheaper, fourth.cheaper, fifth.cheaper) }

  -- ---- what it reads

  -- a scalar that it reads is one that the body before reads, and no switch
  in_bound : (g : ℕ) → Contains (scalars_read result.code) g → Contains (filter (is_free ps) (scalars_read m.ready.code)) g
  in_bound g c =
      let in_folded = subst (λ l. Contains l g) w.is_renamed.scalars c in
      subst (λ l. Contains l g) w.is_bound.scalars (w.is_carried.smaller.scalars g (w.is_folded.smaller.scalars g in_folded))

  reads_free : (g : ℕ) → Contains (scalars_read result.code) g → found ps g ≡ None
  reads_free g c =
      is_none (found ps g)
      (All-contains (λ k. is_free ps k ≡ true) (filter (is_free ps) (scalars_read m.ready.code)) g (filter_passes (is_free ps) (scalars_read m.ready.code)) (in_bound g c))

  pub reads_scalar : (g : ℕ) → Contains (scalars_read result.code) g → Contains (scalars_read body.code) g
  reads_scalar g c =
      let unbound : All (Contains (scalars_read m.ready.code)) (filter (is_free ps) (scalars_read m.ready.code)) =
      All-filter (is_free ps) (Contains (scalars_read m.ready.code)) (scalars_read m.ready.code) (All-contains_itself (scalars_read m.ready.code)) in
      before.scalars g (All-contains (Contains (scalars_read m.ready.code)) (filter (is_free ps) (scalars_read m.ready.code)) g unbound (in_bound g c))

  pub reads_array : (g : ℕ) → Contains (arrays_read result.code) g → Contains (arrays_read body.code) g
  reads_array g c =
      let in_folded = subst (λ l. Contains l g) w.is_renamed.arrays c in
      before.arrays g (subst (λ l. Contains l g) w.is_bound.arrays (w.is_carried.smaller.arrays g (w.is_folded.smaller.arrays g in_folded)))

  is_variant : IsVariantOf shorts ps body result
  is_variant = record {
    keeps = keeps;
    free = All-weaker (Contains (scalars_read result.code)) (λ g. found ps g ≡ None) reads_free (scalars_read result.code) (All-contains_itself (scalars_read result.code));
    form = subst (λ (b : Body). IsFoldedForm b.code) (sym w.is_renamed.changes) (renaming_keeps_form w.is_renamed.numbers w.folded.code w.is_folded.form);
    deepest = λ h. (let shallow = before.deepest h in omega (arith, shallow, w.is_bound.deepest, w.is_carried.smaller.deepest, w.is_folded.smaller.deepest, w.is_renamed.deepest));
    calls = omega (arith, before.calls, w.is_bound.calls, w.is_carried.smaller.calls, w.is_folded.smaller.calls, w.is_renamed.calls);
    room = m.room;
    whole = w.is_renamed.whole;
    has_temps = w.is_renamed.has_temps;
    well_formed = λ h. w.is_renamed.well_formed (w.is_folded.well_formed (w.is_carried.well_formed (w.is_bound.well_formed (before.well_formed h))));
    params = ap (λ (b : Body). b.params) w.is_renamed.changes ∙ w.is_folded.params ∙ w.is_carried.params ∙ w.is_bound.params ∙ before.params;
    sizes = ap (λ (b : Body). b.arrays) w.is_renamed.changes ∙ w.is_folded.sizes ∙ w.is_carried.sizes ∙ w.is_bound.sizes ∙ before.sizes;
    rooms = ap (λ (b : Body). b.rooms) w.is_renamed.changes ∙ w.is_folded.rooms ∙ w.is_carried.rooms ∙ w.is_bound.rooms ∙ before.rooms;
    marked = ap (λ (b : Body). b.marked) w.is_renamed.changes ∙ w.is_folded.marked ∙ w.is_carried.marked ∙ w.is_bound.marked ∙ before.marked;
    switches = ap (λ (b : Body). b.switches) w.is_renamed.changes ∙ w.is_folded.switches ∙ w.is_carried.switches ∙ w.is_bound.switches ∙ before.switches;
  }

pub made : MadeAreVariants
made shorts ps body result m = is_variant shorts ps body result m

pub made_of_lowered : LoweredAreVariants
made_of_lowered shorts p g vs result m = keeps shorts (zip (lower_function p g).switches vs) (lower_function p g) result m
