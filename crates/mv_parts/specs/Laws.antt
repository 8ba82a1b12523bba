-- What holds of the code of a well-formed program, and of what is linked of it.
use Rattle.std.specs.Prelude.{ℕ, ◌≡◌, ◌+◌, ◌*◌, ◌<◌, ◌≤◌, List, length}
use Rattle.mv_num.specs.Regions.{data_limit, text_limit}
use Rattle.mv_ast.specs.declared.program.Program.{Program}
use Rattle.mv_ast.specs.Counts.{patchable_places}
use Rattle.mv_isa.specs.Code.{text_start}
use Rattle.mv_asm.specs.Outcome.{PassesText}
use Rattle.mv_ir.specs.declared.body.Body.{Body}
use Rattle.mv_source_forms.specs.WellFormed.{IsWellFormed}
use Rattle.mv_source_facts.specs.Facts.{HasTableFacts}
use Rattle.mv_linker.specs.declared.parts.Parts.{Parts}
use Rattle.mv_linker.specs.Linked.{linked_lines}
use Rattle.mv_linker.specs.Tables.{site_count}
use Rattle.mv_link_data.specs.FirstData.{data_words, first_data}
use Rattle.mv_count_code.specs.Texts as source
use Rattle.mv_variants.specs.declared.variant.Variant.{Variant}
use Rattle.mv_variants.specs.declared.size.Size.{Size}
use Rattle.mv_isa.specs.declared.labelled.Labelled.{Labelled}
use Rattle.mv_parts.specs.Codes.{AreGenerics, HaveCode}
use Rattle.mv_parts.specs.Counts.{HaveFewLabels}
use Rattle.mv_parts.specs.Fronts.{IsSizeOf, PassesFront}
use Rattle.mv_parts.specs.Parts.{AreCodesOf, ArePartsOf}
use Rattle.mv_parts.specs.Switches.{HasSwitches, part_switches, part_pointers, part_targets}

-- its switches and pointer switches are globals, and the words of its data have numbers
abbrev pub SwitchesAreThere : Type 0
SwitchesAreThere = (p : Program) → IsWellFormed p → HasSwitches p

-- The code of a program whose tables can be made, with its switches and the first words of its globals, can be linked where there are numbers for all labels,
-- and room for its data.
abbrev pub PartsCanBeLinked : Type 0
PartsCanBeLinked =
    (p : Program) → IsWellFormed p → HasTableFacts p → (bodies : List Body) (tables : List (List Variant)) (parts : Parts) →
    AreCodesOf p bodies tables parts.functions parts.attributed → parts.switches ≡ part_switches p → parts.pointers ≡ part_pointers p → parts.targets ≡ part_targets p →
    parts.main ≡ p.main → parts.globals ≡ first_data p → HaveFewLabels parts → data_words p ≤ data_limit → ArePartsOf p bodies tables parts

-- there are as many words of data as all globals have
abbrev pub DataIsCounted : Type 0
DataIsCounted = (p : Program) → IsWellFormed p → length (first_data p) ≡ data_words p

-- Counts over the source bound what is linked: its sites, the places that a plan patches, and its text where that is too long.
pub record IsCounted (p : Program) (parts : Parts) : Type 0 where
  pub sites : site_count parts ≤ source.site_count p
  pub places : length parts.attributed + 2 * site_count parts ≤ patchable_places p
  pub text : (words : ℕ) → PassesText text_start (linked_lines parts) words → text_limit < source.text_count p

abbrev pub PartsAreCounted : Type 0
PartsAreCounted =
    (p : Program) → IsWellFormed p → (bodies : List Body) (tables : List (List Variant)) (parts : Parts) →
    AreCodesOf p bodies tables parts.functions parts.attributed → IsCounted p parts

-- The size of the code of functions, and that of it and of the first variants, with the last of which it passes a limit, are within the counts over the source.
pub record IsSizeCounted (p : Program) (size : Size) : Type 0 where
  pub words : size.words ≤ source.text_count p
  pub sites : size.sites ≤ source.site_count p

abbrev pub SizesAreCounted : Type 0
SizesAreCounted =
    (p : Program) → IsWellFormed p → (bodies : List Body) (functions : List Labelled) → AreGenerics p bodies → HaveCode p bodies functions →
    (size : Size) → IsSizeOf p functions size → IsSizeCounted p size × ((over : Size) → PassesFront p size over → IsSizeCounted p over)
