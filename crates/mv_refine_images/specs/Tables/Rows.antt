-- The rows of the variants of a program in the image that is linked of its parts.
use Rattle.std.specs.Prelude.{ℕ, ◌≡◌, ◌+◌, List, length, take, sum_by, Some, None, Option, slice_get, slice_index}
use Rattle.mv_ast.specs.declared.program.Program.{Program}
use Rattle.mv_ast.specs.declared.program.Function.{Function}
use Rattle.mv_descriptors.specs.declared.rows.VariantRow.{VariantRow}
use Rattle.mv_isa.specs.declared.instr.Instr.{Instr}
use Rattle.mv_isa.specs.Code.{label_address, text_start}
use Rattle.mv_isa.specs.Encoding.{encode, Fits}
use Rattle.mv_image.specs.Spelling.{Fields}
use Rattle.mv_image.specs.Patched.{variants_before, variant_under}
use Rattle.mv_select.specs.Calls.Convention.{Layout}
use Rattle.mv_select.specs.Bodies.SelectedBodies.{AreRooms}
use Rattle.mv_select.specs.Inline.InlineOf.{inline_of}
use Rattle.mv_linker.specs.declared.parts.Parts.{Parts}
use Rattle.mv_linker.specs.declared.parts.PartFunction.{PartFunction}
use Rattle.mv_linker.specs.declared.parts.PartVariant.{PartVariant}
use Rattle.mv_linker.specs.Linked.{function_variants, linked_lines}
use Rattle.mv_variants.specs.declared.variant.Variant.{Variant}
use Rattle.mv_parts.specs.Numbers.{attributed_numbers}
use Rattle.mv_parts.specs.Parts.{IsPartVariant}
use Rattle.mv_refine_images.specs.Tables.Leads.{IsLedTo}

-- An attributed function is the n-th of these, and has these variants.
pub record IsNth (p : Program) (tables : List (List Variant)) (n f : ℕ) (g : Function) (variants : List Variant) : Type 0 where
  pub number : slice_get (attributed_numbers p) n ≡ Some f
  pub there : slice_get p.functions f ≡ Some g
  pub table : slice_get tables n ≡ Some variants

-- what a variant's row has of its inline body
abbrev pub RowShows : Option (Instr × Instr) → VariantRow → Type 0
RowShows None row = row.inlined ≡ 0
RowShows (Some both) row = (row.inlined ≡ 1) × Fits both.0 × Fits both.1 × (slice_index row.words 0 ≡ encode both.0) × (slice_index row.words 1 ≡ encode both.1)

-- Of the n-th attributed function with its variants, in the image of parts whose code stands under a sizing.
module _ (p : Program) (g : Function) (parts : Parts) (sizing : List ℕ) (image : Fields) (variants : List Variant) (n : ℕ) where
  -- The variant that values lead to is linked, and its row has the address of its code, which is numbered behind those of all functions and of the variants
  -- before it, and its inline body, wherever its body's globals stand where a layout has them.
  pub record HasRowOf (vs : List ℕ) (led : IsLedTo p g image variants n vs) : Type 0 where
    pub part : PartVariant
    pub linked : slice_get (function_variants parts.attributed) (variants_before image n + led.place) ≡ Some part
    pub before : variants_before image n ≡ sum_by (λ (a : PartFunction). length a.variants) (take n parts.attributed)
    pub is_part : IsPartVariant led.variant part
    pub row : VariantRow
    pub there : variant_under image n (Some vs) ≡ Some row
    pub address : row.address ≡ label_address text_start (linked_lines parts) sizing (length parts.functions + (variants_before image n + led.place))
    pub shows : (y : Layout) → AreRooms y led.variant.body.rooms → RowShows (inline_of y.place led.variant.body) row
