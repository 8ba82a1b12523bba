-- The slots of a function's own code, by their functions.
use Rattle.std.proofs.Common.{arith, ◌≡◌, ℕ, ◌+◌, Bool, true, false, cond, eqb, if◌then◌else◌, refl, sym, ap, ◌∙◌, subst}
use Rattle.std.specs.Prelude.{slice_get}
use Rattle.std.proofs.lemmas.Bool.{eqb-true}
use Rattle.std.proofs.Math.Path.{fun_ext}
use Rattle.mv_ast.specs.declared.program.Program.{Program}
use Rattle.mv_ast.specs.declared.program.Function.{Function}
use Rattle.mv_ast.specs.Counts.{is_attributed}
use Rattle.mv_ir.specs.declared.body.Body.{Body}
use Rattle.mv_ir.specs.Shorts.{Shorts}
use Rattle.mv_select_code.specs.Trees.Rooms.{place_in}
use Rattle.mv_select_code.specs.Control.Layouts.{size_in}
use Rattle.mv_select.specs.Calls.CallCode.{is_marked}
use Rattle.mv_select.specs.Functions.Functions.{shape_of}
use Rattle.mv_lower_spec.specs.Functions.{functions_called, lower_function}
use Rattle.mv_lower_spec.specs.Shape.Calls.{layer_weight, code_weight, function_weight}
use Rattle.mv_lower_spec.specs.Shape.Law.{LoweredCallAsOften}
use Rattle.mv_variants.specs.Bound.Shorts.{AreShortsOf}
use Rattle.mv_variants.specs.Bound.Programs.{IsGeneralOf}
use Rattle.mv_variants.specs.Bound.Slots.{slot_weight, weight_where, SlotsWeighAsCalls}
use Rattle.mv_variants.proofs.OfBound.FewSlots.{marked_attributed}
use Rattle.mv_variants.proofs.OfBound.Generals.{kept, general_same}
use Rattle.mv_variants.proofs.OfBound.ExpandedMeasures.{ShortsCountNothing}
use Rattle.mv_variants.proofs.OfBound.Weights.{weights, weights_of_calls}
use Rattle.mv_select.specs.Selected.{selected_lines}
use Rattle.mv_count_slots.specs.Calls.{once_for, CalleesHaveSlots}
use Rattle.mv_count_slots.proofs.Calls.{each_among, other, no_other, short_plain}
use Rattle.mv_count_slots.proofs.Weights.{AddUp, weights_add}

module _ (p : Program) (g : Function) (weight : ℕ → ℕ) where
  abbrev has_entry : ℕ → Bool
  has_entry f = is_attributed (slice_get p.functions f)

  abbrev marked : ℕ → Bool
  marked = is_marked (lower_function p g).marked

  adds : (f : ℕ) → AddUp (weight_where has_entry weight) (weight_where marked weight) (other p g weight) f
  adds f = by (marked f) (has_entry f) (marked_attributed p g f)
    where
      by : (m a : Bool) → (m ≡ true → a ≡ true) → cond a (weight f) 0 ≡ cond m (weight f) 0 + cond m 0 (cond a (weight f) 0)
      by true true h = omega arith
      by true false h = absurd (let bad : false ≡ true = h refl in cc)
      by false a h = omega arith

  -- the calls of marked functions are those of attributed ones
  same_weight : code_weight (weight_where has_entry weight) 0 (lower_function p g).code ≡ code_weight (weight_where marked weight) 0 (lower_function p g).code
  same_weight =
      let all = weights_add (weight_where has_entry weight) (weight_where marked weight) (other p g weight) (lower_function p g).code
      (each_among (AddUp (weight_where has_entry weight) (weight_where marked weight) (other p g weight)) (functions_called (lower_function p g).code) (λ f c. adds f)) in
      omega (arith, all, no_other p g weight)

  -- no marked function has a short body
  marked_free : (shorts : Shorts) → AreShortsOf p shorts → ShortsCountNothing (layer_weight (weight_where marked weight) 0) shorts
  marked_free shorts known f short there to args = by (marked f) (marked_attributed p g f)
    where
      by : (m : Bool) → (m ≡ true → has_entry f ≡ true) → cond m (weight f) 0 ≡ 0
      by true h = absurd (let bad : false ≡ true = sym (short_plain p shorts known f short there) ∙ h refl in cc)
      by false h = refl

  slots_weigh_calls : SlotsWeighAsCalls → (b : Body) → IsGeneralOf p g b → (attributed : Bool)
      → slot_weight weight (selected_lines attributed b) ≡ code_weight (weight_where has_entry weight) 0 (lower_function p g).code
  slots_weigh_calls weigh b r attributed =
      weigh (place_in b.rooms) (size_in b.rooms) (is_marked b.marked) (shape_of attributed b) b.code weight
      ∙ ap (λ fs. code_weight (weight_where (is_marked fs) weight) 0 b.code) (kept r.shorts (lower_function p g) b r.general).marked
      ∙ general_same r.shorts (lower_function p g) b r.general (weights (weight_where marked weight) 0) (weights_of_calls (weight_where marked weight) 0) (marked_free r.shorts r.known)
      ∙ sym same_weight

-- the weight of one attributed function
once_is : (p : Program) (k f : ℕ) → is_attributed (slice_get p.functions k) ≡ true → weight_where (λ j. is_attributed (slice_get p.functions j)) (once_for k) f ≡ once_for k f
once_is p k f a = by (eqb f k) (is_attributed (slice_get p.functions f)) (λ e. subst (λ j. is_attributed (slice_get p.functions j) ≡ true) (sym (eqb-true f k e)) a)
  where
    by : (b c : Bool) → (b ≡ true → c ≡ true) → ◌≡◌ {A = ℕ} (cond c (if b then 1 else 0) 0) (if b then 1 else 0)
    by true true h = refl
    by true false h = absurd (let bad : false ≡ true = h refl in cc)
    by false true h = refl
    by false false h = refl

pub callees_have_slots : SlotsWeighAsCalls → LoweredCallAsOften → CalleesHaveSlots
callees_have_slots weigh often p f g h b r attributed k a =
    slots_weigh_calls p g (once_for k) weigh b r attributed
    ∙ (often p f g h).counted (weight_where (λ j. is_attributed (slice_get p.functions j)) (once_for k)) 0
    ∙ ap (λ w. function_weight w 0 g) (fun_ext (λ j. once_is p k j a))
