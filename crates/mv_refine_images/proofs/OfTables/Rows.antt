-- The rows of the variants that values lead to.
use Rattle.std.proofs.Common.{◌≡◌, ℕ, zero, suc, ◌+◌, ◌≤◌, List, [], ◌∷◌, Option, Some, None, is_some, unwrap_or, length, map, take, cond, slice_get, slice_index, refl, sym, ap, ◌∙◌, subst, arith}
use Rattle.std.specs.Prelude.{sum_by}
use Rattle.std.proofs.lemmas.List.Sums.{sum_by-cons}
use Rattle.std.proofs.lemmas.Option.{slice_get_within, same_Some}
use Rattle.std.proofs.Math.Seq.{take-nil}
use Rattle.mv_ast.specs.declared.program.Program.{Program}
use Rattle.mv_ast.specs.declared.program.Function.{Function}
use Rattle.mv_descriptors.specs.declared.rows.FunctionRow.{FunctionRow}
use Rattle.mv_descriptors.specs.declared.rows.VariantRow.{VariantRow}
use Rattle.mv_isa.specs.declared.instr.Instr.{Instr}
use Rattle.mv_isa.specs.Encoding.{Fits}
use Rattle.mv_image.specs.Spelling.{Fields}
use Rattle.mv_image.specs.Patched.{variants_before}
use Rattle.mv_ir.specs.declared.body.Body.{Body}
use Rattle.mv_source_forms.specs.WellFormed.{IsWellFormed}
use Rattle.mv_select.specs.Inline.InlineOf.{inline_of, encoded}
use Rattle.mv_select.specs.Inline.Laws.{InlineFits, InlineIsTheSame}
use Rattle.mv_linker.specs.declared.parts.Parts.{Parts}
use Rattle.mv_linker.specs.declared.parts.PartFunction.{PartFunction}
use Rattle.mv_linker.specs.declared.parts.PartVariant.{PartVariant}
use Rattle.mv_linker.specs.Linked.{function_variants}
use Rattle.mv_linker.specs.Tables.{function_row, variant_row, variant_rows}
use Rattle.mv_linker.specs.Outcome.{IsLinked}
use Rattle.mv_linker.proofs.LinkedText.{linked_text}
use Rattle.mv_variants.specs.declared.variant.Variant.{Variant}
use Rattle.mv_parts.specs.Parts.{ArePartsOf, ArePartVariants, IsPartVariant}
use Rattle.mv_parts.proofs.LinkedLists.{variant_count, variant_at}
use Rattle.mv_parts.proofs.LinkedParts.{part_there}
use Rattle.mv_parts.proofs.Lists.{one_of_all}
use Rattle.mv_refine_images.specs.Tables.Leads.{IsLedTo}
use Rattle.mv_refine_images.specs.Tables.Rows.{IsNth, RowShows, HasRowOf}
use Rattle.mv_refine_images.proofs.OfTables.Tabled.{part_at}
use Rattle.mv_variants.proofs.OfBound.Led.{under_is}
use Rattle.mv_num.proofs.Lists.{there_at}

abbrev counted : FunctionRow → ℕ
counted row = row.variants

-- the rows of the first functions count their variants
same_count : (entry : ℕ → ℕ) (attributed : List PartFunction) (n : ℕ) → sum_by counted (take n (map (function_row entry) attributed)) ≡ sum_by variant_count (take n attributed)
same_count entry [] n = ap (sum_by counted) (take-nil n) ∙ sym (ap (sum_by variant_count) (take-nil n))
same_count entry (a ∷ rest) zero = refl
same_count entry (a ∷ rest) (suc n) =
    let rows = sum_by-cons counted (function_row entry a) (take n (map (function_row entry) rest)) in
    let own = sum_by-cons variant_count a (take n rest) in omega (arith, rows, own, same_count entry rest n)

-- a function's variant stands behind those of the functions before it, which their rows count
found_at : (entry : ℕ → ℕ) (attributed : List PartFunction) (n j : ℕ) (a : PartFunction) (v : PartVariant) → slice_get attributed n ≡ Some a → slice_get a.variants j ≡ Some v →
    slice_get (function_variants attributed) (sum_by counted (take n (map (function_row entry) attributed)) + j) ≡ Some v
found_at entry attributed n j a v at there =
    subst (λ k. slice_get (function_variants attributed) (k + j) ≡ Some v) (sym (same_count entry attributed n)) (variant_at attributed n j a v at there)

-- the row of a variant, by its place among the rows
row_at : (entry : ℕ → ℕ) (number : ℕ) (vs : List PartVariant) (j : ℕ) (v : PartVariant) → slice_get vs j ≡ Some v →
    slice_get (variant_rows entry number vs) j ≡ Some (variant_row (entry (number + j)) v)
row_at entry number [] j v e = absurd (let bad : ⊥ = cc in bad)
row_at entry number (x ∷ vs) zero v e =
    let here : number ≡ number + 0 = omega arith in
    ap (λ (w : PartVariant). Some (variant_row (entry number) w)) (same_Some x v e) ∙ ap (λ k. Some (variant_row (entry k) v)) here
row_at entry number (x ∷ vs) (suc j) v e =
    let next : suc number + j ≡ number + suc j = omega arith in row_at entry (suc number) vs j v e ∙ ap (λ k. Some (variant_row (entry k) v)) next

-- a row has the words of two instructions that have encodings, or none
shows_encoded : (o : Option (Instr × Instr)) (address : ℕ) (part : PartVariant) → part.inline ≡ encoded o → ((one two : Instr) → o ≡ Some (one, two) → Fits one × Fits two) →
    RowShows o (variant_row address part)
shows_encoded None address part e fits = ap (λ (i : Option (List ℕ)). cond (is_some i) 1 0) e
shows_encoded (Some both) address part e fits =
    let f = fits both.0 both.1 refl in
    let words = ap (λ (i : Option (List ℕ)). unwrap_or i (0 ∷ 0 ∷ [])) e in (
      ap (λ (i : Option (List ℕ)). cond (is_some i) 1 0) e,
      f.0,
      f.1,
      ap (λ (ws : List ℕ). slice_index ws 0) words,
      ap (λ (ws : List ℕ). slice_index ws 1) words,
    )

-- each variant of a function is linked
variant_linked : (variants : List Variant) (vs : List PartVariant) → ArePartVariants variants vs → (j : ℕ) (v : Variant) → slice_get variants j ≡ Some v →
    (part : PartVariant) × (slice_get vs j ≡ Some part) × IsPartVariant v part
variant_linked variants vs are j v at =
    let within = slice_get_within variants j v at in
    let count = are.one_each in
    let found = there_at vs j (omega (arith, within, count)) in (found.0, found.1, are.each j v found.0 at found.1)

module _ (fit : InlineFits) (same : InlineIsTheSame) (p : Program) (formed : IsWellFormed p) (bodies : List Body) (tables : List (List Variant)) (parts : Parts)
    (are : ArePartsOf p bodies tables parts) (image : Fields) (linked : IsLinked parts image) (n f : ℕ) (g : Function) (variants : List Variant) (nth : IsNth p tables n f g variants)
    (vs : List ℕ) (led : IsLedTo p g image variants n vs) where
  open linked_text parts linked.sizing linked.text use {entry}

  abbrev number : ℕ
  number = variants_before image n + led.place

  abbrev body : Body
  body = led.variant.body

  record IsThere : Type 0 where
    part : PartVariant
    there : slice_get (function_variants parts.attributed) number ≡ Some part
    is_part : IsPartVariant led.variant part

  functions : image.functions ≡ map (function_row entry) parts.attributed
  functions = ap (λ (i : Fields). i.functions) linked.image_is

  is_there : IsThere
  is_there =
      let a = part_there p bodies tables parts.functions parts.attributed are.codes n f nth.number in
      let v = variant_linked variants a.0.variants (part_at p bodies tables parts are n f g variants nth a.0 a.1).variants_are led.place led.variant led.there in
      record {
        part = v.0;
        there = subst (λ (rows : List FunctionRow). slice_get (function_variants parts.attributed) (sum_by counted (take n rows) + led.place) ≡ Some v.0) (sym functions)
            (found_at entry parts.attributed n led.place a.0 v.0 a.1 v.1);
        is_part = v.2;
      }

  few : body.params ≤ 8
  few =
      let params : body.params ≡ g.params = led.is_variant.params in
      let most = one_of_all (λ (x : Function). x.params ≤ 8) p.functions formed.limits.parameters f g nth.there in omega (arith, params, most)

  pub has_row : HasRowOf p g parts linked.sizing image variants n vs led
  has_row =
      let v = is_there in
      let rows : image.variants ≡ variant_rows entry (length parts.functions) (function_variants parts.attributed) = ap (λ (i : Fields). i.variants) linked.image_is in
      let row = variant_row (entry (length parts.functions + number)) v.part in record {
        part = v.part;
        linked = v.there;
        before = ap (λ (rows : List FunctionRow). sum_by counted (take n rows)) functions ∙ same_count entry parts.attributed n;
        is_part = v.is_part;
        row = row;
        there = under_is image n number vs led.fits ∙
            subst (λ (all : List VariantRow). slice_get all number ≡ Some row) (sym rows) (row_at entry (length parts.functions) (function_variants parts.attributed) number v.part v.there);
        address = refl;
        shows = λ y rooms. shows_encoded (inline_of y.place body) (entry (length parts.functions + number)) v.part
            (v.is_part.inline ∙ ap encoded (same y body v.is_part.code.suitable.formed rooms)) (λ one two e. fit y.place body few one two e);
      }
