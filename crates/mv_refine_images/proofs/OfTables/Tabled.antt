-- The tables of a program's image have the guard rows of its variants, and the rows of its switches.
use Rattle.std.proofs.Common.{◌≡◌, ℕ, suc, ◌-◌, ◌<◌, ◌++◌, List, [], ◌∷◌, Some, length, map, replicate, slice_get, All, refl, sym, ap, ◌∙◌, subst}
use Rattle.std.proofs.lemmas.List.{length-map, map-append}
use Rattle.std.proofs.lemmas.List.Elements.{All-head, All-tail}
use Rattle.std.proofs.Math.Seq.{take-append_seam}
use Rattle.mv_ast.specs.declared.program.Program.{Program}
use Rattle.mv_ast.specs.declared.program.Function.{Function}
use Rattle.mv_ast.specs.declared.program.Switch.{Switch}
use Rattle.mv_ast.specs.Switches.{global_or_none}
use Rattle.mv_ir.specs.declared.body.Body.{Body}
use Rattle.mv_ir.specs.Measures.{joined}
use Rattle.mv_descriptors.specs.declared.rows.GuardRow.{GuardRow}
use Rattle.mv_descriptors.specs.declared.rows.SwitchRow.{SwitchRow}
use Rattle.mv_descriptors.specs.declared.rows.FunctionRow.{FunctionRow}
use Rattle.mv_image.specs.Spelling.{Fields}
use Rattle.mv_variants.specs.Bound.Rows.{AreCounted}
use Rattle.mv_variants.specs.Bound.Switches.{HasSwitches, HaveKinds}
use Rattle.mv_variants.specs.Bound.Tables.{HaveVariants, HasTables}
use Rattle.mv_linker.specs.declared.parts.Parts.{Parts}
use Rattle.mv_linker.specs.declared.parts.PartFunction.{PartFunction}
use Rattle.mv_linker.specs.declared.parts.PartVariant.{PartVariant}
use Rattle.mv_linker.specs.Linked.{function_variants}
use Rattle.mv_linker.specs.Tables.{switch_row, function_row, variant_rows, FitsPartFunction}
use Rattle.mv_linker.specs.Tables as linker
use Rattle.mv_linker.specs.Outcome.{image_with, IsLinked}
use Rattle.mv_linker.proofs.LinkedText.{linked_text}
use Rattle.mv_linker.proofs.Rowed.{variant_guards, groups_of}
use Rattle.mv_variants.specs.declared.variant.Variant.{Variant}
use Rattle.mv_variants.specs.Domains.{kind_or_int, switch_kind}
use Rattle.mv_variants.specs.Variants.{guards_of}
use Rattle.mv_parts.specs.Numbers.{attributed_numbers}
use Rattle.mv_parts.specs.Parts.{ArePartsOf, ArePartVariants, IsPartFunction}
use Rattle.mv_parts.specs.Switches.{part_switch, part_switches}
use Rattle.mv_parts.proofs.LinkedParts.{part_count, part_there}
use Rattle.mv_parts.proofs.Lists.{map_at, one_of_all}
use Rattle.mv_parts.proofs.Numbers.{attributed_at}
use Rattle.mv_refine_images.specs.Tables.Rows.{IsNth}
use Rattle.mv_refine_images.proofs.OfTables.Lists.{map_same}
use Rattle.mv_num.proofs.Lists.{there_at}

-- ---- the guard rows of variants that are linked

groups_joined : (attributed : List PartFunction) → joined (groups_of attributed) ≡ variant_guards (function_variants attributed)
groups_joined [] = refl
groups_joined (a ∷ rest) =
    ap (λ more. variant_guards a.variants ++ more) (groups_joined rest) ∙ sym (map-append (λ (v : PartVariant). v.guards) a.variants (function_variants rest))

guards_joined : (vs : List PartVariant) → linker.guards_of vs ≡ joined (variant_guards vs)
guards_joined [] = refl
guards_joined (v ∷ vs) = ap (λ more. v.guards ++ more) (guards_joined vs)

have_variants : (entry : ℕ → ℕ) (attributed : List PartFunction) → HaveVariants (groups_of attributed) (map (function_row entry) attributed)
have_variants entry [] = tt
have_variants entry (a ∷ rest) = (sym (length-map a.variants (λ (v : PartVariant). v.guards)), have_variants entry rest)

counted : (entry : ℕ → ℕ) (n : ℕ) (vs : List PartVariant) → AreCounted (variant_guards vs) (variant_rows entry n vs)
counted entry n [] = tt
counted entry n (v ∷ vs) = (refl, counted entry (suc n) vs)

tables_with : (entry at : ℕ → ℕ) (text : List ℕ) (parts : Parts) → HasTables (image_with entry at text parts) (groups_of parts.attributed)
tables_with entry at text parts = record {
  functions = have_variants entry parts.attributed;
  variants = subst (λ (gs : List (List GuardRow)). AreCounted gs (variant_rows entry (length parts.functions) (function_variants parts.attributed)))
      (sym (groups_joined parts.attributed)) (counted entry (length parts.functions) (function_variants parts.attributed));
  guards = guards_joined (function_variants parts.attributed) ∙ ap joined (sym (groups_joined parts.attributed));
}

-- ---- the rows of switches

-- the row of each of some switches of a program has its kind
kinds_there : (p : Program) (image : Fields) → image.switches ≡ map switch_row (part_switches p) → (switches : List ℕ) → All (λ s. s < length p.switches) switches →
    HaveKinds image (switch_kind p) switches
kinds_there p image rows [] below = tt
kinds_there p image rows (s ∷ switches) below = (one, kinds_there p image rows switches (All-tail (λ k. k < length p.switches) s switches below))
  where
    found : (x : Switch) × (slice_get p.switches s ≡ Some x)
    found = there_at p.switches s (All-head (λ k. k < length p.switches) s switches below)

    one : (row : SwitchRow) × (slice_get image.switches s ≡ Some row) × (row.kind ≡ switch_kind p s)
    one = (
      switch_row (part_switch p found.0),
      subst (λ (all : List SwitchRow). slice_get all s ≡ Some (switch_row (part_switch p found.0))) (sym rows)
          (map_at switch_row (part_switches p) s (part_switch p found.0) (map_at (part_switch p) p.switches s found.0 found.1)),
      ap (λ o. kind_or_int (slice_get p.globals (global_or_none o))) (sym found.1),
    )

-- ---- of a program

module _ (p : Program) (bodies : List Body) (tables : List (List Variant)) (parts : Parts) (are : ArePartsOf p bodies tables parts) where
  pub part_at : (n f : ℕ) (g : Function) (variants : List Variant) → IsNth p tables n f g variants → (a : PartFunction) → slice_get parts.attributed n ≡ Some a → IsPartFunction g f variants a
  part_at n f g variants nth a is = are.codes.variants.each n f g variants a nth.number nth.there nth.table is

  same_guards : (variants : List Variant) (vs : List PartVariant) → ArePartVariants variants vs → variant_guards vs ≡ guards_of variants
  same_guards variants vs h =
      map_same (λ (v : PartVariant). v.guards) (λ (v : Variant). v.guards) vs variants h.one_each (λ j part v is there. (h.each j v part there is).guards)

  -- its switches are there
  pub switches_there : (n f : ℕ) (g : Function) (variants : List Variant) → IsNth p tables n f g variants → (a : PartFunction) → slice_get parts.attributed n ≡ Some a →
      All (λ s. s < length p.switches) g.switches
  switches_there n f g variants nth a is =
      let fit = one_of_all (FitsPartFunction parts) parts.attributed are.fit.functions n a is in
      let count : length parts.switches ≡ length p.switches = ap length are.switches ∙ length-map p.switches (part_switch p) in
      subst (λ (ss : List ℕ). All (λ s. s < length p.switches) ss) (part_at n f g variants nth a is).switches
      (subst (λ m. All (λ s. s < m) a.switches) count fit.switches)

  number_at : (n : ℕ) (a : PartFunction) → slice_get parts.attributed n ≡ Some a → slice_get (attributed_numbers p) n ≡ Some a.function
  number_at n a is =
      subst (λ (ns : List ℕ). slice_get ns n ≡ Some a.function) are.codes.variants.numbers (map_at (λ (b : PartFunction). b.function) parts.attributed n a is)

  one_group : (n : ℕ) (a : PartFunction) (variants : List Variant) → slice_get parts.attributed n ≡ Some a → slice_get tables n ≡ Some variants →
      variant_guards a.variants ≡ guards_of variants
  one_group n a variants is table =
      let number = number_at n a is in
      let g = attributed_at p n a.function number in
      same_guards variants a.variants (part_at n a.function g.function variants (record { number = number; there = g.there; table = table }) a is).variants_are

  abbrev pub groups : List (List (List GuardRow))
  groups = map guards_of tables

  groups_are : groups_of parts.attributed ≡ groups
  groups_are = map_same (λ (a : PartFunction). variant_guards a.variants) guards_of parts.attributed tables (part_count p bodies tables parts.functions parts.attributed are.codes ∙ sym are.codes.are_tables.one_each) one_group

  module _ (image : Fields) (linked : IsLinked parts image) where
    open linked_text parts linked.sizing linked.text use {entry, at}

    pub has_tables : HasTables image groups
    has_tables =
        let own = tables_with entry at linked.text parts in
        let of_image = subst (λ (i : Fields). HasTables i (groups_of parts.attributed)) (sym linked.image_is) own in
        subst (λ (gs : List (List (List GuardRow))). HasTables image gs) groups_are of_image

    pub switch_rows : image.switches ≡ map switch_row (part_switches p)
    switch_rows = ap (λ (i : Fields). i.switches) linked.image_is ∙ ap (map switch_row) are.switches

    -- the row of an attributed function, which names its switches
    pub record HasOwnRow (n : ℕ) (g : Function) : Type 0 where
      pub row : FunctionRow
      pub there : slice_get image.functions n ≡ Some row
      pub switches : HasSwitches image (switch_kind p) g row

    pub own_row : (n f : ℕ) (g : Function) (variants : List Variant) → IsNth p tables n f g variants → HasOwnRow n g
    own_row n f g variants nth =
        let found = part_there p bodies tables parts.functions parts.attributed are.codes n f nth.number in
        let a = found.0 in
        let part = part_at n f g variants nth a found.1 in
        let functions = ap (λ (i : Fields). i.functions) linked.image_is in
        let below = switches_there n f g variants nth a found.1 in record {
          row = function_row entry a;
          there = subst (λ (rows : List FunctionRow). slice_get rows n ≡ Some (function_row entry a)) (sym functions) (map_at (function_row entry) parts.attributed n a found.1);
          switches = record {
            named = take-append_seam a.switches (replicate (6 - length a.switches) 0) ∙ part.switches;
            kinds = kinds_there p image switch_rows g.switches below;
          };
        }
