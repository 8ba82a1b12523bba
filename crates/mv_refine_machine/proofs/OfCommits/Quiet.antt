-- The test of calm.
use Rattle.std.proofs.Common.{◌≡◌, true, eqb, List, [], ◌∷◌, Option, Some, None, refl, ap, ap₂, eq-eqb, ◌∙◌}
use Rattle.std.proofs.lemmas.Bool.{and_parts, and_from, eqb-true}
use Rattle.mv_bindings.specs.declared.binding.Binding.{Binding}
use Rattle.mv_bindings.specs.Acts.{Act, Skip, Flip, Adopt}
use Rattle.mv_image.specs.Spelling.{Fields}
use Rattle.mv_ir.specs.World.{World}
use Rattle.mv_select.proofs.OfSlots.Bindings.{bindings_are_told}
use Rattle.mv_refine_machine.specs.Commits.Watch.{texts_of}
use Rattle.mv_refine_machine.specs.Commits.Watched.{Watched, IsQuiet, is_quiet, same_act, same_acts, is_nothing}
use Rattle.mv_refine_machine.specs.Commits.Laws.{QuietIsTested}
use Rattle.mv_refine_machine.specs.Commits.Known.{Known}

act_told : (a b : Act) → same_act a b ≡ true → a ≡ b
act_told Skip Skip h = refl
act_told Skip (Flip t u) h = absurd (cc)
act_told Skip (Adopt cs) h = absurd (cc)
act_told (Flip s v) Skip h = absurd (cc)
act_told (Flip s v) (Flip t u) h = let p = and_parts (eqb s t) (eqb v u) h in ap₂ Flip (eqb-true s t p.0) (eqb-true v u p.1)
act_told (Flip s v) (Adopt cs) h = absurd (cc)
act_told (Adopt bs) Skip h = absurd (cc)
act_told (Adopt bs) (Flip t u) h = absurd (cc)
act_told (Adopt bs) (Adopt cs) h = ap Adopt ((bindings_are_told bs cs).0 h)

act_same : (a : Act) → same_act a a ≡ true
act_same Skip = refl
act_same (Flip s v) = and_from (eqb s s) (eqb v v) (eq-eqb s s refl) (eq-eqb v v refl)
act_same (Adopt bs) = (bindings_are_told bs bs).1 refl

acts_told : (xs ys : List Act) → same_acts xs ys ≡ true → xs ≡ ys
acts_told [] [] h = refl
acts_told [] (y ∷ ys) h = absurd (cc)
acts_told (x ∷ xs) [] h = absurd (cc)
acts_told (x ∷ xs) (y ∷ ys) h =
    let p = and_parts (same_act x y) (same_acts xs ys) h in ap₂ (λ (a : Act) (as' : List Act). a ∷ as') (act_told x y p.0) (acts_told xs ys p.1)

acts_same : (xs : List Act) → same_acts xs xs ≡ true
acts_same [] = refl
acts_same (x ∷ xs) = and_from (same_act x x) (same_acts xs xs) (act_same x) (acts_same xs)

nothing_told : (u : Option (List Binding)) → is_nothing u ≡ true → u ≡ None
nothing_told None h = refl
nothing_told (Some bs) h = absurd (cc)

module _ (known : Known) where
  pub quiet_told : (image : Fields) (w : World) (m : Watched) → is_quiet image w m ≡ true → IsQuiet image w m
  unfolding is_quiet
  quiet_told image w m h =
      let t = texts_of image w.bindings in
      let p = and_parts _ _ h in
      let q = and_parts _ _ p.1 in
      let r = and_parts _ _ q.1 in
      let v = and_parts _ _ r.1 in
      let o = and_parts _ _ v.1 in
      let x = and_parts _ _ o.1 in
      let z = and_parts _ _ x.1 in
      let same = (known.rooms.same t m.rest.room.held).0 ((known.tested t t m.rest.room.held).0 q.0) in record {
        calm = (known.calms image w m.rest).0 p.0;
        settled = record { text = same.0; older = same.1; spare = eqb-true _ _ r.0 };
        reserve = eqb-true _ _ v.0;
        plan = eqb-true _ _ o.0;
        under = nothing_told m.under x.0;
        hart = eqb-true _ _ z.0;
        actions = acts_told m.actions w.actions z.1;
      }

  pub quiet_tested : (image : Fields) (w : World) (m : Watched) → IsQuiet image w m → is_quiet image w m ≡ true
  unfolding is_quiet
  quiet_tested image w m h =
      let t = texts_of image w.bindings in
      and_from _ _ ((known.calms image w m.rest).1 h.calm)
      (and_from _ _ ((known.tested t t m.rest.room.held).1 ((known.rooms.same t m.rest.room.held).1 (h.settled.text, h.settled.older)))
      (and_from _ _ (eq-eqb _ _ h.settled.spare)
      (and_from _ _ (eq-eqb _ _ h.reserve)
      (and_from _ _ (eq-eqb _ _ h.plan)
      (and_from _ _ (ap is_nothing h.under) (and_from _ _ (eq-eqb _ _ h.hart) (ap (λ as'. same_acts as' w.actions) h.actions ∙ acts_same w.actions)))))))

pub quiet_is_tested : Known → QuietIsTested
quiet_is_tested known image w m = (quiet_told known image w m, quiet_tested known image w m)
