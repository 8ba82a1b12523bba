-- What stands in text where the binding of a function shows.
use Rattle.std.specs.Prelude.{ℕ, ◌≡◌, ◌+◌, slice_index, Option, Some, None}
use Rattle.mv_descriptors.specs.declared.rows.SiteRow.{SiteRow}
use Rattle.mv_descriptors.specs.declared.rows.VariantRow.{VariantRow}
use Rattle.mv_isa.specs.declared.instr.Instr.TheVariants.{Jal}
use Rattle.mv_isa.specs.Code.{IsPlace, distance}
use Rattle.mv_isa.specs.Standing.{InstrStands, SlotStands}
use Rattle.mv_isa.specs.Registers.{x0}
use Rattle.mv_image.specs.Spelling.{Fields}
use Rattle.mv_image.specs.Patched.{variant_under, entry_at, site_at, point_at}
use Rattle.mv_ir.specs.World.{World}
use Rattle.mv_patch.specs.Orders.{values_of}
use Rattle.mv_refine_machine.specs.MachineRuns.{image_word, bound_word}

module _ (image : Fields) (w : World) where
  -- the variant that a function is bound to
  abbrev pub bound_variant : ℕ → Option VariantRow
  bound_variant function = variant_under image function (values_of w.bindings function)

  -- a word of text that is the entry of a function, which is bound to a variant, and of no pointer site
  pub record AtEntry (a : ℕ) (v : VariantRow) : Type 0 where
    pub function : ℕ
    pub is_entry : entry_at image a ≡ Some function
    pub no_point : point_at image a ≡ None
    pub bound : bound_variant function ≡ Some v
    pub word : ℕ
    pub in_text : image_word image a ≡ Some word

  -- two words of text that are a site of a function, which is bound to a variant, and neither an entry nor the start of another site nor of a pointer site
  pub record AtSite (a : ℕ) (v : VariantRow) : Type 0 where
    pub site : SiteRow
    pub is_site : site_at image a ≡ Some site
    pub bound : bound_variant site.function ≡ Some v
    pub no_entry : entry_at image a ≡ None
    pub no_entry_behind : entry_at image (a + 4) ≡ None
    pub no_site_behind : site_at image (a + 4) ≡ None
    pub no_point : point_at image a ≡ None
    pub no_point_behind : point_at image (a + 4) ≡ None
    pub first : ℕ
    pub first_in_text : image_word image a ≡ Some first
    pub second : ℕ
    pub second_in_text : image_word image (a + 4) ≡ Some second

  -- A jump to the variant stands at the entry, and at a site a call of the variant, or its inline body where it has one.
  pub record BindingsShow : Type 0 where
    pub enters : (a : ℕ) (v : VariantRow) → AtEntry a v → IsPlace a → IsPlace v.address →
        InstrStands (bound_word image w) a (Jal x0 (distance a v.address))
    pub calls : (a : ℕ) (v : VariantRow) → AtSite a v → v.inlined ≡ 0 → IsPlace a → IsPlace v.address →
        SlotStands (bound_word image w) a (a + 8) v.address
    pub inlines : (a : ℕ) (v : VariantRow) → AtSite a v → v.inlined ≡ 1 →
        (bound_word image w a ≡ Some (slice_index v.words 0)) × (bound_word image w (a + 4) ≡ Some (slice_index v.words 1))
