-- What stands at entries and sites while a function is free or bound.
use Rattle.std.proofs.Common.{◌≡◌, ℕ, zero, suc, ◌+◌, ◌-◌, ◌*◌, ◌/◌, ◌<◌, ◌≤◌, false, List, [], ◌∷◌, ◌++◌, length, take, min, replicate, Option, Some, None, option_map, refl, ap, ◌∙◌, subst, arith}
use Rattle.std.specs.Prelude.{slice_get, slice_index, option_and_then, if◌then◌else◌}
use Rattle.mv_bindings.specs.declared.binding.Binding.{Binding}
use Rattle.mv_descriptors.specs.declared.rows.TargetRow.{TargetRow}
use Rattle.mv_isa.specs.Code.{IsPlace}
use Rattle.mv_image.specs.Spelling.{Fields}
use Rattle.mv_image.specs.Faults.{Rules}
use Rattle.mv_image.specs.Jumps.{bound_words}
use Rattle.mv_image.proofs.Limits.{is_within}
use Rattle.mv_fetch.specs.Held.{index_of}
use Rattle.std.proofs.lemmas.Option.{slice_get_within}
use Rattle.mv_image.specs.Patched.{variant_under, target_under, at_point, pointer_number, word_through, word_under}
use Rattle.mv_ir_worlds.specs.Functions.{IsBoundIn}
use Rattle.mv_select.specs.Slots.Points.{CallsBound}
use Rattle.mv_refine_machine.specs.Bound.{AtSite, bound_variant}
use Rattle.mv_patch.specs.Orders.{bound_values, values_of}
use Rattle.mv_refine_machine.specs.Shown.{BindingsHaveValues, FreeFunctionsShow, BoundFunctionsShow, BoundPointsShow, IsSiteOf, IsPointOf}
use Rattle.mv_refine_machine.specs.Under.{bound_world, words_under}
use Rattle.mv_refine_machine.specs.MachineRuns.{bound_word}
use Rattle.mv_refine_machine.proofs.Fetches.{Standing, standing}
use Rattle.mv_refine_machine.proofs.Jumps.{jump_stands, nop_stands}
use Rattle.mv_refine_machine.proofs.Bound.{bindings_show}
use Rattle.mv_refine_machine.proofs.Placing.{line_stands_free}

free_values : (o : Option Binding) → ((b : Binding) → o ≡ Some b → b.bound ≡ false) → option_and_then bound_values o ≡ None
free_values None h = refl
free_values (Some b) h = ap (λ z. if z then Some (take b.count b.values) else None) (h b refl)

take_both : (n : ℕ) (xs rest : List ℕ) → length xs ≤ n → take (length xs) (take n (xs ++ rest)) ≡ xs
take_both n [] rest h = refl
take_both zero (x ∷ xs) rest h = absurd (omega (arith, h))
take_both (suc n) (x ∷ xs) rest h = ap (λ l. x ∷ l) (take_both n xs rest (omega (arith, h)))

pub bindings_have_values : BindingsHaveValues
bindings_have_values bs n = (free_values (slice_get bs n), bound)
  where
    bound : (vs : List ℕ) → IsBoundIn bs n vs → length vs ≤ 6 → values_of bs n ≡ Some vs
    bound vs e few =
        let count : min 6 (length vs) ≡ length vs = omega (arith, few) in
        ap (λ o. option_and_then bound_values o) e ∙ ap (λ k. Some (take k (take 6 (vs ++ replicate 6 0)))) count ∙ ap Some (take_both 6 vs (replicate 6 0) few)

pub free_functions_show : FreeFunctionsShow
free_functions_show image base lines sizing words are has bs n k lt only free =
    line_stands_free image base lines sizing words are has (bound_world bs) k lt
    (λ a low high even f shows. ap (values_of bs) (only a f low high even shows) ∙ (bindings_have_values bs n).0 free)

pub bound_functions_show : BoundFunctionsShow
bound_functions_show image bs n vs v bound few is = (
  λ a word entry no_point in_text here there. (bindings_show image (bound_world bs)).enters a v
      (record { function = n; is_entry = entry; no_point = no_point; bound = variant; word = word; in_text = in_text }) here there,
  λ a s none here there. (bindings_show image (bound_world bs)).calls a v (at_site a s) none here there,
  λ a s one. (bindings_show image (bound_world bs)).inlines a v (at_site a s) one,
)
  where
    variant : bound_variant image (bound_world bs) n ≡ Some v
    variant = ap (variant_under image n) ((bindings_have_values bs n).1 vs bound few) ∙ is

    at_site : (a : ℕ) → IsSiteOf image n a → AtSite image (bound_world bs) a v
    at_site a s = record {
      site = s.site;
      is_site = s.is_site;
      bound = ap (bound_variant image (bound_world bs)) s.of ∙ variant;
      no_entry = s.no_entry;
      no_entry_behind = s.no_entry_behind;
      no_site_behind = s.no_site_behind;
      no_point = s.no_point;
      no_point_behind = s.no_point_behind;
      first = s.first;
      first_in_text = s.first_in_text;
      second = s.second;
      second_in_text = s.second_in_text;
    }

-- ---- pointer sites

module _ (image : Fields) (rules : Rules image) (bs : List Binding) (n a t : ℕ) (target : TargetRow) (is : IsPointOf image n a) (bound : IsBoundIn bs n (suc t ∷ [])) (there : slice_get image.targets t ≡ Some target) where
  target_is : target_under image (values_of bs (pointer_number image is.point.pointer)) ≡ Some target
  unfolding target_under
  target_is =
      let index : slice_index (suc t ∷ []) 0 - 1 ≡ t = omega arith in
      ap (λ k. option_and_then (λ (vs : List ℕ). slice_get image.targets (slice_index vs 0 - 1)) (values_of bs k)) is.of
      ∙ ap (λ o. option_and_then (λ (vs : List ℕ). slice_get image.targets (slice_index vs 0 - 1)) o) ((bindings_have_values bs n).1 (suc t ∷ []) bound (omega arith))
      ∙ ap (slice_get image.targets) index ∙ there

  -- the words of the slot while it is bound
  word_is : (j : ℕ) → j < 4 → words_under image bs (a + 4 * j) ≡ Some (slice_index (bound_words image.check a target.entry) j)
  unfolding bound_word word_under
  word_is j lt =
      let index : (a + 4 * j - a) / 4 ≡ j = omega arith in
      ap (option_map (word_under image (values_of bs) (a + 4 * j))) (is.in_text j lt)
      ∙ ap Some
      (ap (word_through image (values_of bs) (a + 4 * j) (is.word j)) (is.only j lt)
      ∙ ap (at_point image is.point (a + 4 * j) (is.word j)) target_is
      ∙ ap (λ x. slice_index (bound_words image.check x target.entry) ((a + 4 * j - x) / 4)) is.begins
      ∙ ap (slice_index (bound_words image.check a target.entry)) index)

  word_at_is : (j b word : ℕ) → j < 4 → a + 4 * j ≡ b → slice_index (bound_words image.check a target.entry) j ≡ word → words_under image bs b ≡ Some word
  word_at_is j b word lt e f = subst (λ x. words_under image bs x ≡ Some word) e (word_is j lt ∙ ap Some f)

  -- its last word is one of text
  last_place : IsPlace (a + 12)
  last_place =
      let h : Standing image (a + 4 * 3) (is.word 3) = standing image (a + 4 * 3) (is.word 3) (is.in_text 3 (omega arith)) in
      let aligned = h.aligned in
      let from = h.text.after in
      let index = h.text.index in
      let within = slice_get_within image.text (index_of (a + 4 * 3)) (is.word 3) h.there in
      let few = (is_within image rules).text in
      (omega (arith, from), omega (arith, from, aligned, index, within, few), omega (arith, aligned))

  calls_bound : IsPlace (image.check + 8) → IsPlace a → IsPlace target.entry → CallsBound (words_under image bs) a image.check target.entry
  unfolding bound_words
  calls_bound behind here entry = record {
    test = jump_stands (words_under image bs) 6 a (image.check + 8) (omega arith) here behind (word_at_is 0 a _ (omega arith) (omega arith) refl);
    first_pad = nop_stands (words_under image bs) (a + 4) (word_at_is 1 (a + 4) _ (omega arith) (omega arith) refl);
    second_pad = nop_stands (words_under image bs) (a + 8) (word_at_is 2 (a + 8) _ (omega arith) (omega arith) refl);
    call = jump_stands (words_under image bs) 1 (a + 12) target.entry (omega arith) last_place entry (word_at_is 3 (a + 12) _ (omega arith) (omega arith) refl);
  }

pub bound_points_show : BoundPointsShow
bound_points_show image rules bs n a t target is bound there = calls_bound image rules bs n a t target is bound there
