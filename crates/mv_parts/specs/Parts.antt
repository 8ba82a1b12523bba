-- What is linked of a program.
use Rattle.std.specs.Prelude.{ℕ, ◌≡◌, ◌≤◌, true, List, map, length, Some, slice_get}
use Rattle.mv_ast.specs.declared.program.Program.{Program}
use Rattle.mv_ast.specs.declared.program.Function.{Function}
use Rattle.mv_isa.specs.declared.labelled.Labelled.{Labelled}
use Rattle.mv_ir.specs.declared.body.Body.{Body}
use Rattle.mv_ir.specs.Measures.{deepest}
use Rattle.mv_ir.specs.WellFormed.{IsWellFormed}
use Rattle.mv_select_code.specs.Trees.Rooms.{place_in}
use Rattle.mv_select.specs.Inline.InlineOf.{inline_words}
use Rattle.mv_select.specs.Selected.{FitsFrame}
use Rattle.mv_linker.specs.declared.parts.Parts.{Parts}
use Rattle.mv_linker.specs.declared.parts.PartFunction.{PartFunction}
use Rattle.mv_linker.specs.declared.parts.PartVariant.{PartVariant}
use Rattle.mv_linker.specs.Linked.{AreParts}
use Rattle.mv_linker.specs.Tables.{FitTables}
use Rattle.mv_link_data.specs.FirstData.{first_data}
use Rattle.mv_variants.specs.declared.variant.Variant.{Variant}
use Rattle.mv_variants.specs.Variants.{AreVariantsOf}
use Rattle.mv_parts.specs.Codes.{AreGenerics, IsCodeOf, HaveCode}
use Rattle.mv_parts.specs.Numbers.{attributed_numbers}
use Rattle.mv_parts.specs.Switches.{part_switches, part_pointers, part_targets}

-- ---- variants

-- the variants of each attributed function, in order
pub record AreTables (p : Program) (tables : List (List Variant)) : Type 0 where
  pub one_each : length tables ≡ length (attributed_numbers p)
  pub each : (n f : ℕ) (variants : List Variant) → slice_get (attributed_numbers p) n ≡ Some f → slice_get tables n ≡ Some variants → AreVariantsOf p f variants

-- ---- parts

-- a variant that code can be selected for
pub record FitsVariant (v : Variant) : Type 0 where
  pub formed : IsWellFormed v.body
  pub shallow : deepest v.body.code ≤ 4
  pub frame : FitsFrame v.body

-- A variant that is linked has the code of its body, the inline words that this has, and the rows that lead to it.
pub record IsPartVariant (v : Variant) (part : PartVariant) : Type 0 where
  pub code : IsCodeOf true v.body part.code
  pub inline : part.inline ≡ inline_words (place_in v.body.rooms) v.body
  pub guards : part.guards ≡ v.guards

pub record ArePartVariants (variants : List Variant) (parts : List PartVariant) : Type 0 where
  pub one_each : length parts ≡ length variants
  pub each : (j : ℕ) (v : Variant) (part : PartVariant) → slice_get variants j ≡ Some v → slice_get parts j ≡ Some part → IsPartVariant v part

-- an attributed function that is linked has the name, the number and the switches of the function, and these variants
pub record IsPartFunction (g : Function) (f : ℕ) (variants : List Variant) (part : PartFunction) : Type 0 where
  pub name : part.name ≡ g.name
  pub function : part.function ≡ f
  pub switches : part.switches ≡ g.switches
  pub variants_are : ArePartVariants variants part.variants

pub record ArePartFunctions (p : Program) (tables : List (List Variant)) (parts : List PartFunction) : Type 0 where
  pub numbers : map (λ (a : PartFunction). a.function) parts ≡ attributed_numbers p
  pub each : (n f : ℕ) (g : Function) (variants : List Variant) (part : PartFunction) → slice_get (attributed_numbers p) n ≡ Some f → slice_get p.functions f ≡ Some g →
      slice_get tables n ≡ Some variants → slice_get parts n ≡ Some part → IsPartFunction g f variants part

-- The code of a program whose functions have these bodies, and these variants.
pub record AreCodesOf (p : Program) (bodies : List Body) (tables : List (List Variant)) (functions : List Labelled) (attributed : List PartFunction) : Type 0 where
  pub generics : AreGenerics p bodies
  pub are_tables : AreTables p tables
  pub code : HaveCode p bodies functions
  pub variants : ArePartFunctions p tables attributed

-- What is linked of it: also its switches and pointer switches, what these may be bound to, and the first words of the globals.
pub record ArePartsOf (p : Program) (bodies : List Body) (tables : List (List Variant)) (parts : Parts) : Type 0 where
  pub codes : AreCodesOf p bodies tables parts.functions parts.attributed
  pub switches : parts.switches ≡ part_switches p
  pub pointers : parts.pointers ≡ part_pointers p
  pub targets : parts.targets ≡ part_targets p
  pub main : parts.main ≡ p.main
  pub globals : parts.globals ≡ first_data p
  pub are : AreParts parts
  pub fit : FitTables parts
