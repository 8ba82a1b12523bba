-- What stands at entries, sites and pointer sites while some bindings hold, of what a function or a pointer switch is in them.
use Rattle.std.specs.Prelude.{ℕ, suc, ◌≡◌, ◌+◌, ◌*◌, ◌%◌, ◌<◌, ◌≤◌, List, [], ◌∷◌, length, slice_get, slice_index, Some, None}
use Rattle.mv_num.specs.Limits.{own_switch_limit}
use Rattle.mv_bindings.specs.declared.binding.Binding.{Binding}
use Rattle.mv_descriptors.specs.declared.rows.SiteRow.{SiteRow}
use Rattle.mv_descriptors.specs.declared.rows.VariantRow.{VariantRow}
use Rattle.mv_descriptors.specs.declared.rows.PointerRow.{PointerRow}
use Rattle.mv_descriptors.specs.declared.rows.PointRow.{PointRow}
use Rattle.mv_descriptors.specs.declared.rows.TargetRow.{TargetRow}
use Rattle.mv_isa.specs.declared.instr.Instr.TheVariants.{Jal}
use Rattle.mv_isa.specs.declared.labelled.Line.{Line}
use Rattle.mv_isa.specs.Code.{IsPlace, distance, line_at, address, label_address}
use Rattle.mv_isa.specs.Standing.{InstrStands, SlotStands, LineStands}
use Rattle.mv_isa.specs.Registers.{x0}
use Rattle.mv_asm.specs.Outcome.{AreWordsUnder}
use Rattle.mv_image.specs.Spelling.{Fields}
use Rattle.mv_image.specs.Faults.{Rules}
use Rattle.mv_image.specs.Patched.{ShowsAt, variant_under, entry_at, site_at, point_at, pointer_number}
use Rattle.mv_ir_worlds.specs.Functions.{IsFreeIn, IsBoundIn}
use Rattle.mv_patch.specs.Orders.{values_of}
use Rattle.mv_select.specs.Slots.Points.{CallsBound}
use Rattle.mv_refine_machine.specs.MachineRuns.{image_word}
use Rattle.mv_refine_machine.specs.Assembled.{HasWords}
use Rattle.mv_refine_machine.specs.Under.{words_under}

-- An image reads a function or a pointer switch that is free as one without values, and one that is bound as these.
abbrev pub BindingsHaveValues : Type 0
BindingsHaveValues =
    (bs : List Binding) (n : ℕ) → (IsFreeIn bs n → values_of bs n ≡ None) × ((vs : List ℕ) → IsBoundIn bs n vs → length vs ≤ own_switch_limit → values_of bs n ≡ Some vs)

-- A line stands while the one function or pointer switch that shows in it is free.
abbrev pub FreeFunctionsShow : Type 0
FreeFunctionsShow =
    (image : Fields) (base : ℕ) (lines : List Line) (sizing words : List ℕ) → AreWordsUnder base lines sizing words → HasWords image base words →
    (bs : List Binding) (n k : ℕ) → k < length lines →
    ((a f : ℕ) → address base sizing k ≤ a → a < address base sizing (k + 1) → a % 4 ≡ 0 → ShowsAt image f a → f ≡ n) → IsFreeIn bs n →
    let place = label_address base lines sizing in
    LineStands (words_under image bs) place place (address base sizing k) (address base sizing (k + 1)) (line_at lines k)

-- two words of text that are a site of a function, and neither an entry nor the start of another site nor of a pointer site
pub record IsSiteOf (image : Fields) (n a : ℕ) : Type 0 where
  pub site : SiteRow
  pub is_site : site_at image a ≡ Some site
  pub of : site.function ≡ n
  pub no_entry : entry_at image a ≡ None
  pub no_entry_behind : entry_at image (a + 4) ≡ None
  pub no_site_behind : site_at image (a + 4) ≡ None
  pub no_point : point_at image a ≡ None
  pub no_point_behind : point_at image (a + 4) ≡ None
  pub first : ℕ
  pub first_in_text : image_word image a ≡ Some first
  pub second : ℕ
  pub second_in_text : image_word image (a + 4) ≡ Some second

-- While a function is bound to values for which it has a variant, its entry jumps there, and its sites call it or have its inline words.
abbrev pub BoundFunctionsShow : Type 0
BoundFunctionsShow =
    (image : Fields) (bs : List Binding) (n : ℕ) (vs : List ℕ) (v : VariantRow) → IsBoundIn bs n vs → length vs ≤ own_switch_limit → variant_under image n (Some vs) ≡ Some v →
    ((a word : ℕ) → entry_at image a ≡ Some n → point_at image a ≡ None → image_word image a ≡ Some word → IsPlace a → IsPlace v.address → InstrStands (words_under image bs) a (Jal x0 (distance a v.address)))
    × ((a : ℕ) → IsSiteOf image n a → v.inlined ≡ 0 → IsPlace a → IsPlace v.address → SlotStands (words_under image bs) a (a + 8) v.address)
    × ((a : ℕ) → IsSiteOf image n a → v.inlined ≡ 1 →
    (words_under image bs a ≡ Some (slice_index v.words 0)) × (words_under image bs (a + 4) ≡ Some (slice_index v.words 1)))

-- four words of text that are a pointer site of a pointer switch, by the number of that among the bindings
pub record IsPointOf (image : Fields) (n a : ℕ) : Type 0 where
  pub point : PointRow
  pub pointer : PointerRow
  pub begins : point.address ≡ a
  pub there : slice_get image.pointers point.pointer ≡ Some pointer
  pub of : pointer_number image point.pointer ≡ n
  pub only : (j : ℕ) → j < 4 → point_at image (a + 4 * j) ≡ Some point
  pub word : ℕ → ℕ
  pub in_text : (j : ℕ) → j < 4 → image_word image (a + 4 * j) ≡ Some (word j)

-- While a pointer switch is bound to a target, its pointer sites go to the check stub behind its test of the pointer, and call the target. While it is free,
-- their lines stand as any do.
abbrev pub BoundPointsShow : Type 0
BoundPointsShow =
    (image : Fields) → Rules image → (bs : List Binding) (n a t : ℕ) (target : TargetRow) → IsPointOf image n a → IsBoundIn bs n (suc t ∷ []) → slice_get image.targets t ≡ Some target →
    IsPlace (image.check + 8) → IsPlace a → IsPlace target.entry → CallsBound (words_under image bs) a image.check target.entry
