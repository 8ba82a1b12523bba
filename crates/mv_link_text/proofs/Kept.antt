-- Of a line that is no slot, and not the first of an attributed function's code, no word may be patched.
use Rattle.std.proofs.Common.{◌≡◌, ℕ, ◌+◌, ◌<◌, ◌||◌, true, false, is_some, List, Option, Some, None, length, slice_get, option_and_then, sym, ap, ◌∙◌}
use Rattle.mv_descriptors.specs.declared.rows.SiteRow.{SiteRow}
use Rattle.mv_descriptors.specs.declared.rows.PointRow.{PointRow}
use Rattle.mv_isa.specs.declared.labelled.Line.{Line}
use Rattle.mv_isa.specs.declared.labelled.Line.TheVariants.{Word, Label, Jump, Branch, Entry, Slot, Point}
use Rattle.mv_isa.specs.Code.{line_at, text_start}
use Rattle.mv_image.specs.Patched.{entry_at, site_at, site_before, point_at}
use Rattle.mv_refine_machine.specs.Assembled.{IsKept}
use Rattle.mv_refine_machine.specs.MachineRuns.{may_be_patched, called_at}
use Rattle.mv_linker.specs.declared.parts.Parts.{Parts}
use Rattle.mv_linker.specs.Tables.{is_slot, is_point}
use Rattle.mv_link_text.proofs.Found.{none_of}
use Rattle.mv_linker.proofs.LinkedText.{linked_text}
use Rattle.mv_linker.proofs.Lines.{one_line}
use Rattle.mv_link_text.proofs.Codes.{IsAssembled}
use Rattle.mv_link_text.proofs.Rows.{entry_told, site_told, before_told, site_found, called_among, IsRowOfSlot}
use Rattle.mv_link_text.proofs.Points.{point_told, through_found}

module _ (parts : Parts) (sizing words : List ℕ) (s : IsAssembled parts sizing words) where
  open linked_text parts sizing words use {lines, at, numbers, image, index, Of}

  -- a line isn't the first of an attributed function's code
  abbrev pub NotFirst : ℕ → Type 0
  NotFirst k = (n f : ℕ) → slice_get numbers n ≡ Some f → k ≡ index f + 1 → ⊥

  pub no_entry : (k a : ℕ) → Of k a → NotFirst k → entry_at image a ≡ None
  no_entry k a of not_first = none_of (entry_at image a) (λ n e.
      let t = entry_told parts sizing words s a n e in
      not_first n t.function t.attributed (one_line text_start lines sizing k (index t.function + 1) a of t.of))

  slot_there : (k : ℕ) (row : SiteRow) → is_slot (line_at lines k) ≡ false → (slot : IsRowOfSlot parts sizing words s row) → slot.index ≡ k → ⊥
  slot_there k row plain slot same = let bad : false ≡ true = sym plain ∙ ap (λ i. is_slot (line_at lines i)) (sym same) ∙ ap is_slot slot.line in cc

  pub no_site : (k a : ℕ) → Of k a → is_slot (line_at lines k) ≡ false → site_at image a ≡ None
  no_site k a of plain = none_of (site_at image a) (λ row e.
      let t = site_told parts sizing words s a row e in
      slot_there k row plain t.slot (one_line text_start lines sizing t.slot.index k a t.of of))

  pub no_site_before : (k a : ℕ) → Of k a → is_slot (line_at lines k) ≡ false → site_before image a ≡ None
  no_site_before k a of plain = none_of (site_before image a) (λ row e.
      let t = before_told parts sizing words s a row e in
      slot_there k row plain t.slot (one_line text_start lines sizing t.slot.index k a t.of of))

  pub no_point : (k a : ℕ) → Of k a → is_point (line_at lines k) ≡ false → point_at image a ≡ None
  no_point k a of plain = none_of (point_at image a) (λ row e.
      let t = point_told parts sizing words s a row e in
      let same = one_line text_start lines sizing t.slot.index k a t.of of in
      let bad : false ≡ true = sym plain ∙ ap (λ i. is_point (line_at lines i)) (sym same) ∙ ap is_point t.slot.line in cc)

  unpatched : (k a : ℕ) → Of k a → NotFirst k → is_slot (line_at lines k) ≡ false → is_point (line_at lines k) ≡ false → may_be_patched image a ≡ false
  unpatched k a of not_first plain no_four =
      ap (λ (o : Option ℕ). is_some o || (is_some (site_at image a) || (is_some (site_before image a) || is_some (point_at image a)))) (no_entry k a of not_first)
      ∙ ap (λ (o : Option SiteRow). is_some o || (is_some (site_before image a) || is_some (point_at image a))) (no_site k a of plain)
      ∙ ap (λ (o : Option SiteRow). is_some o || is_some (point_at image a)) (no_site_before k a of plain)
      ∙ ap (λ (o : Option PointRow). is_some o) (no_point k a of no_four)

  pub called_here : (k f : ℕ) → k < length lines → line_at lines k ≡ Slot f → called_at numbers image (at k) ≡ Some f
  unfolding called_at
  called_here k f below e =
      ap (option_and_then (λ (site : SiteRow). slice_get numbers site.function)) (site_found parts sizing words s k f below e) ∙ called_among parts sizing words s k f below e

  pub kept_as : (k : ℕ) (line : Line) → k < length lines → line_at lines k ≡ line → NotFirst k → IsKept numbers image (at k) (at (k + 1)) line
  kept_as k (Word i) below e not_first = λ a low high even. unpatched k a (record { from = low; below = high }) not_first (ap is_slot e) (ap is_point e)
  kept_as k (Label l) below e not_first = λ a low high even. unpatched k a (record { from = low; below = high }) not_first (ap is_slot e) (ap is_point e)
  kept_as k (Jump rd l) below e not_first = λ a low high even. unpatched k a (record { from = low; below = high }) not_first (ap is_slot e) (ap is_point e)
  kept_as k (Branch funct3 rs1 rs2 l) below e not_first = λ a low high even. unpatched k a (record { from = low; below = high }) not_first (ap is_slot e) (ap is_point e)
  kept_as k (Entry rd l) below e not_first = λ a low high even. unpatched k a (record { from = low; below = high }) not_first (ap is_slot e) (ap is_point e)
  kept_as k (Slot f) below e not_first = called_here k f below e
  kept_as k (Point a) below e not_first = through_found parts sizing words s k a below e
