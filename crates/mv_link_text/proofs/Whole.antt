-- The laws on the text of linked images.
use Rattle.std.proofs.Common.{◌≡◌, ℕ, suc, ◌+◌, true, cond, nat_lt, List, [], ◌∷◌, Some, length, map, get_or, slice_get, refl, sym, ap, ◌∙◌, subst, arith}
use Rattle.std.specs.Prelude.{option_map}
use Rattle.std.specs.List.{range_with_len}
use Rattle.std.proofs.lemmas.Bool.{lt-ltb}
use Rattle.std.proofs.lemmas.List.{length-append, get_or-append-add}
use Rattle.std.proofs.lemmas.Option.{slice_get-map, slice_get-get_or, slice_get_within, get_or_from_slice_get}
use Rattle.mv_descriptors.specs.declared.rows.TargetRow.{TargetRow}
use Rattle.mv_image.specs.Spelling.{Fields}
use Rattle.mv_refine_machine.specs.MachineRuns.{called_at, through_at}
use Rattle.mv_isa.specs.Code.{label_index}
use Rattle.mv_linker.specs.declared.parts.Parts.{Parts}
use Rattle.mv_linker.specs.declared.parts.PartVariant.{PartVariant}
use Rattle.mv_linker.specs.Linked.{AreParts, codes, linked_lines, function_variants, variant_codes, check_label}
use Rattle.mv_linker.specs.Tables.{FitTables, attributed_numbers, pointer_addresses, place_among, point_count, target_rows}
use Rattle.mv_linker.specs.Outcome.{IsLinked, image_with}
use Rattle.mv_linker.proofs.Entered.{entry_before}
use Rattle.mv_linker.proofs.Tabled.{function_code, no_code}
use Rattle.mv_linker.proofs.Sited.{point_length}
use Rattle.mv_link_text.specs.Text.{StubsArePlaced, IsPlacedCode, HasEntry, HasSlot, HasPoint, IsInCode, label_place, line_place}
use Rattle.mv_link_text.specs.Laws.{WordsAreThere, StubsStandInText, CodesAscend, PlainCodeStands, PatchedCodeStands, SlotsAreSites, PointsAreSites, PointsStandInCodes, CheckIsTold, TargetsAreFunctions}
use Rattle.mv_link_text.proofs.Facts.{Laws}
use Rattle.mv_link_text.proofs.Codes.{IsAssembled, attributed_within}
use Rattle.mv_link_text.proofs.Standing.{has_words, stubs_are_placed, plain_placed, later_placed}
use Rattle.mv_link_text.proofs.Shown.{entry_shows, called_told, called_shows, point_shows}
use Rattle.mv_link_text.proofs.Points.{through_told, through_among}
use Rattle.mv_link_text.proofs.InCodes.{in_code}

assembled : (parts : Parts) (image : Fields) → AreParts parts → FitTables parts → (linked : IsLinked parts image) → IsAssembled parts linked.sizing linked.text
assembled parts image are tables linked = record { are = are; tables = tables; fits = linked.least.fits.sizes; under = linked.text_is }

pub words_are_there : WordsAreThere
words_are_there parts image linked = has_words image linked.text (ap (λ (i : Fields). i.text) linked.image_is)

variant_there : (parts : Parts) (j : ℕ) (v : PartVariant) → slice_get (function_variants parts.attributed) j ≡ Some v → slice_get (codes parts) (length parts.functions + j) ≡ Some v.code
variant_there parts j v found =
    let of_variants = variant_codes (function_variants parts.attributed) in
    let there : slice_get of_variants j ≡ Some v.code = slice_get-map (λ (x : PartVariant). x.code) (function_variants parts.attributed) j ∙ ap (option_map (λ (x : PartVariant). x.code)) found in
    let within = slice_get_within of_variants j v.code there in
    slice_get-get_or (codes parts) (length parts.functions + j) v.code (omega (arith, within, length-append parts.functions of_variants))
    ∙ ap Some (get_or-append-add parts.functions of_variants j v.code ∙ get_or_from_slice_get of_variants j v.code v.code there)

pub codes_ascend : CodesAscend
codes_ascend parts image are tables linked = record {
  function = function_code parts;
  variant = variant_there parts;
  attributed = attributed_within parts tables;
  places = λ f. linked.text_is.places (label_index (linked_lines parts) f);
  ascend = λ f g code found begins lt below. entry_before parts are linked.sizing linked.text linked.least.fits.sizes linked.text_is f code found begins g
      (get_or (codes parts) g no_code) (slice_get-get_or (codes parts) g no_code below) lt;
}

pub points_in_codes : PointsStandInCodes
points_in_codes parts image are tables linked q a at h =
    subst (IsInCode parts image linked.sizing a) h.at_line
    (in_code parts linked.sizing linked.text (assembled parts image are tables linked) image h.index a h.within h.line)

pub check_is_told : CheckIsTold
check_is_told parts image are tables linked some =
    let place = label_place parts linked.sizing in
    let count = point_length (line_place linked.sizing) (pointer_addresses parts.pointers) (linked_lines parts) 0 in
    let points = ap (λ (i : Fields). length i.points) linked.image_is in
    let test : nat_lt 0 (point_count (linked_lines parts)) ≡ true = lt-ltb 0 (point_count (linked_lines parts)) (omega (arith, some, count, points)) in
    ap (λ (i : Fields). i.check) linked.image_is ∙ ap (λ b. cond b (place check_label) 0) test

-- the entries of targets are the addresses of the functions with their numbers
pub target_entries : (entry : ℕ → ℕ) (n : ℕ) (names : List (List ℕ)) → map (λ (target : TargetRow). target.entry) (target_rows entry n names) ≡ map entry (range_with_len n (length names))
target_entries entry n [] = refl
target_entries entry n (name ∷ names) =
    let next : suc n ≡ n + 1 = omega arith in
    ap (λ rest. entry n ∷ rest) (target_entries entry (suc n) names ∙ ap (λ m. map entry (range_with_len m (length names))) next)

pub targets_are_functions : TargetsAreFunctions
targets_are_functions parts image linked same =
    let place = label_place parts linked.sizing in
    ap (λ (i : Fields). map (λ (target : TargetRow). target.entry) i.targets) linked.image_is
    ∙ target_entries place 0 parts.targets
    ∙ ap (λ n. map place (range_with_len 0 n)) same

-- the image of linked parts
abbrev image_of : (parts : Parts) {image : Fields} → IsLinked parts image → Fields
image_of parts linked = image_with (label_place parts linked.sizing) (line_place linked.sizing) linked.text parts

module _ (laws : Laws) where
  pub stubs_stand : StubsStandInText
  stubs_stand parts image are tables linked =
      subst (λ (i : Fields). StubsArePlaced parts i linked.sizing) (sym linked.image_is)
      (stubs_are_placed laws parts linked.sizing linked.text (assembled parts image are tables linked))

  pub plain_stands : PlainCodeStands
  plain_stands parts image are tables linked f code found labels plain =
      subst (λ (i : Fields). IsPlacedCode parts i linked.sizing f code.items (label_place parts linked.sizing f)) (sym linked.image_is)
      (plain_placed laws parts linked.sizing linked.text (assembled parts image are tables linked) f code found labels plain)

  pub patched_stands : PatchedCodeStands
  patched_stands parts image are tables linked n f code instr rest is found labels items =
      let s = assembled parts image are tables linked in (
        subst (λ (i : Fields). IsPlacedCode parts i linked.sizing f rest (label_place parts linked.sizing f + 4)) (sym linked.image_is)
            (later_placed laws parts linked.sizing linked.text s f code found labels instr rest items),
        subst (λ (i : Fields). HasEntry parts i linked.sizing n f instr) (sym linked.image_is)
            (entry_shows laws parts linked.sizing linked.text s n f is code found instr rest items),
      )

  pub slots_are_sites : SlotsAreSites
  slots_are_sites parts image are tables linked at f called =
      let s = assembled parts image are tables linked in
      let there = subst (λ (i : Fields). called_at (attributed_numbers parts.attributed) i at ≡ Some f) linked.image_is called in
      let told = called_told laws parts linked.sizing linked.text s at f there in (
        (told.number, told.attributed),
        λ n is. subst (λ (i : Fields). HasSlot parts i linked.sizing n f at) (sym linked.image_is) (called_shows laws parts linked.sizing linked.text s at f there n is),
      )

  pub points_are_sites : PointsAreSites
  points_are_sites parts image are tables linked at a through =
      let s = assembled parts image are tables linked in
      let t = through_told parts linked.sizing linked.text s at a (subst (λ (i : Fields). through_at i at ≡ Some a) linked.image_is through) in
      let q = place_among (pointer_addresses parts.pointers) a in (
        q,
        through_among parts linked.sizing linked.text s t.index a t.within t.line,
        subst (λ (i : Fields). HasPoint parts i linked.sizing q a at) (sym linked.image_is)
            (subst (HasPoint parts (image_of parts linked) linked.sizing q a) t.here (point_shows laws parts linked.sizing linked.text s t.index a t.within t.line)),
      )
