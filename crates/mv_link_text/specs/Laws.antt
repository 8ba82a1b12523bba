-- What holds of the text of linked images, also of those with tables.
use Rattle.std.specs.Prelude.{ℕ, ◌≡◌, ◌+◌, ◌<◌, Some, List, ◌∷◌, length, map, slice_get}
use Rattle.std.specs.List.{range_with_len}
use Rattle.mv_descriptors.specs.declared.rows.TargetRow.{TargetRow}
use Rattle.mv_isa.specs.declared.instr.Instr.{Instr}
use Rattle.mv_isa.specs.declared.labelled.Labelled.{Labelled}
use Rattle.mv_isa.specs.declared.labelled.Line.{Line}
use Rattle.mv_isa.specs.declared.labelled.Line.TheVariants.{Word}
use Rattle.mv_isa.specs.Code.{IsPlace, text_start}
use Rattle.mv_image.specs.Spelling.{Fields}
use Rattle.mv_linker.specs.declared.parts.Parts.{Parts}
use Rattle.mv_linker.specs.declared.parts.PartVariant.{PartVariant}
use Rattle.mv_linker.specs.Linked.{AreParts, codes, function_variants, check_label}
use Rattle.mv_linker.specs.Tables.{FitTables, BeginsWithWords, attributed_numbers, pointer_addresses}
use Rattle.mv_linker.specs.Outcome.{IsLinked}
use Rattle.mv_select_code.specs.Control.Labels.{OwnLabels}
use Rattle.mv_refine_machine.specs.Assembled.{HasWords}
use Rattle.mv_refine_machine.specs.MachineRuns.{called_at, through_at}
use Rattle.mv_link_text.specs.Text.{IsAttributed, label_place, StubsArePlaced, IsPlacedCode, HasEntry, HasSlot, HasPoint, IsInCode}

-- The text of a linked image has the assembled words, and the stubs stand in it.
abbrev pub WordsAreThere : Type 0
WordsAreThere = (parts : Parts) (image : Fields) (linked : IsLinked parts image) → HasWords image text_start linked.text

abbrev pub StubsStandInText : Type 0
StubsStandInText = (parts : Parts) (image : Fields) → AreParts parts → FitTables parts → (linked : IsLinked parts image) → StubsArePlaced parts image linked.sizing

-- The codes are those of the functions, and behind them those of the variants, none of which is attributed. Each begins at a place of text, before all later
-- ones.
pub record CodesFollow (parts : Parts) (sizing : List ℕ) : Type 0 where
  pub function : (f : ℕ) (code : Labelled) → slice_get parts.functions f ≡ Some code → slice_get (codes parts) f ≡ Some code
  pub variant : (j : ℕ) (v : PartVariant) → slice_get (function_variants parts.attributed) j ≡ Some v → slice_get (codes parts) (length parts.functions + j) ≡ Some v.code
  pub attributed : (n f : ℕ) → IsAttributed parts n f → f < length parts.functions
  pub places : (f : ℕ) → IsPlace (label_place parts sizing f)
  pub ascend : (f g : ℕ) (code : Labelled) → slice_get (codes parts) f ≡ Some code → BeginsWithWords code → f < g → g < length (codes parts) → label_place parts sizing f < label_place parts sizing g

abbrev pub CodesAscend : Type 0
CodesAscend = (parts : Parts) (image : Fields) → AreParts parts → FitTables parts → (linked : IsLinked parts image) → CodesFollow parts linked.sizing

-- The code of a function that isn't attributed, and that of a variant, stands at its entry; nothing of it is ever patched but its slots.
abbrev pub PlainCodeStands : Type 0
PlainCodeStands =
    (parts : Parts) (image : Fields) → AreParts parts → FitTables parts → (linked : IsLinked parts image) →
    (f : ℕ) (code : Labelled) → slice_get (codes parts) f ≡ Some code → OwnLabels 0 code.labels code.items → ((n : ℕ) → IsAttributed parts n f → ⊥) →
    IsPlacedCode parts image linked.sizing f code.items (label_place parts linked.sizing f)

-- That of an attributed function stands there behind its first instruction, at the place of which its bindings show.
abbrev pub PatchedCodeStands : Type 0
PatchedCodeStands =
    (parts : Parts) (image : Fields) → AreParts parts → FitTables parts → (linked : IsLinked parts image) →
    (n f : ℕ) (code : Labelled) (instr : Instr) (rest : List Line) → IsAttributed parts n f → slice_get (codes parts) f ≡ Some code → OwnLabels 0 code.labels code.items →
    code.items ≡ Word instr ∷ rest →
    IsPlacedCode parts image linked.sizing f rest (label_place parts linked.sizing f + 4) × HasEntry parts image linked.sizing n f instr

-- Slots are the sites of attributed functions.
abbrev pub SlotsAreSites : Type 0
SlotsAreSites =
    (parts : Parts) (image : Fields) → AreParts parts → FitTables parts → (linked : IsLinked parts image) →
    (at f : ℕ) → called_at (attributed_numbers parts.attributed) image at ≡ Some f →
    ((n : ℕ) × IsAttributed parts n f) × ((n : ℕ) → IsAttributed parts n f → HasSlot parts image linked.sizing n f at)

-- Slots of four words are the pointer sites of pointer switches.
abbrev pub PointsAreSites : Type 0
PointsAreSites =
    (parts : Parts) (image : Fields) → AreParts parts → FitTables parts → (linked : IsLinked parts image) →
    (at a : ℕ) → through_at image at ≡ Some a → (q : ℕ) × (slice_get (pointer_addresses parts.pointers) q ≡ Some a) × HasPoint parts image linked.sizing q a at

-- Each of them is a line of a code.
abbrev pub PointsStandInCodes : Type 0
PointsStandInCodes =
    (parts : Parts) (image : Fields) → AreParts parts → FitTables parts → (linked : IsLinked parts image) →
    (q a at : ℕ) → HasPoint parts image linked.sizing q a at → IsInCode parts image linked.sizing a at

-- Where there is one, the stub of calls through pointer switches is where the image says.
abbrev pub CheckIsTold : Type 0
CheckIsTold =
    (parts : Parts) (image : Fields) → AreParts parts → FitTables parts → (linked : IsLinked parts image) → 0 < length image.points → image.check ≡ label_place parts linked.sizing check_label

-- The targets are the functions, where there is a name for each.
abbrev pub TargetsAreFunctions : Type 0
TargetsAreFunctions =
    (parts : Parts) (image : Fields) (linked : IsLinked parts image) → length parts.targets ≡ length parts.functions →
    map (λ (target : TargetRow). target.entry) image.targets ≡ map (label_place parts linked.sizing) (range_with_len 0 (length parts.functions))
