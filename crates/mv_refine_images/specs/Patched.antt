-- An attributed function in an image with tables: where its entry, its sites and its variants stand.
use Rattle.std.specs.Prelude.{ℕ, ◌≡◌, ◌+◌, ◌%◌, ◌<◌, ◌≤◌, Bool, true, List, [], map, length, slice_get, Some, pos, ◌-ℤ◌}
use Rattle.mv_ast.specs.declared.program.Program.{Program}
use Rattle.mv_ast.specs.declared.program.Function.{Function}
use Rattle.mv_ast.specs.Switches.{attributed_before, switch_domain}
use Rattle.mv_descriptors.specs.declared.rows.VariantRow.{VariantRow}
use Rattle.mv_isa.specs.declared.instr.Instr.TheVariants.{Addi}
use Rattle.mv_isa.specs.declared.labelled.Line.{Line}
use Rattle.mv_isa.specs.declared.labelled.Line.TheVariants.{Word, Slot}
use Rattle.mv_isa.specs.Code.{IsPlace, line_at, address, label_address}
use Rattle.mv_isa.specs.Registers.{sp}
use Rattle.mv_asm.specs.Outcome.{AreWordsUnder}
use Rattle.mv_image.specs.Spelling.{Fields}
use Rattle.mv_image.specs.Patched.{ShowsAt, variant_under, entry_at}
use Rattle.mv_ir.specs.declared.tree.Tree.{Tree}
use Rattle.mv_ir.specs.declared.body.Body.{Body}
use Rattle.mv_ir.specs.Combinations.{IsCombination}
use Rattle.mv_ir.specs.Programs.{setting_of}
use Rattle.mv_ir.specs.Shorts.{Shorts, KeepsBodyWith}
use Rattle.mv_lower_spec.specs.Functions.{lower_function}
use Rattle.mv_source_forms.specs.WellFormed.{IsWellFormed}
use Rattle.mv_select_code.specs.Control.Placed.{Placed}
use Rattle.mv_select.specs.Calls.Convention.{Layout}
use Rattle.mv_select.specs.Calls.Laws.{IsLinked}
use Rattle.mv_select.specs.Functions.FunctionCode.{bytes_of, later_lines}
use Rattle.mv_select.specs.Functions.Functions.{IsAmple, IsFunction, IsOpen, shape_of}
use Rattle.mv_select.specs.Inline.InlineOf.{inline_of}
use Rattle.mv_variants.specs.Bound.Shorts.{AreShortsOf}
use Rattle.mv_refine_images.specs.Tables.Rows.{RowShows}
use Rattle.mv_refine_machine.specs.Assembled.{HasWords}
use Rattle.mv_refine_machine.specs.MachineRuns.{machine_text, image_word, called_at}
use Rattle.mv_refine_machine.specs.Shown.{IsSiteOf}
use Rattle.mv_refine_machine.specs.Under.{words_under}
use Rattle.mv_refine_images.specs.Programs.Hosts.{IsOpenIn, IsVariant, IsPatched}
use Rattle.mv_select_code.specs.Statements.Frames.{Reach}

-- Code is assembled from a base, under a sizing.
module _ (attributed : List ℕ) (image : Fields) (closed : (pc address : ℕ) → Bool) (base : ℕ) (lines : List Line) (sizing : List ℕ) (y : Layout) (p : Program) (numbers : List ℕ) (f : ℕ) (g : Function) where
  -- its number among the attributed functions
  abbrev pub own_number : ℕ
  own_number = attributed_before p.functions f

  -- it is the only function that shows in a line
  abbrev pub ShowsAlone : ℕ → Type 0
  ShowsAlone k = (a h : ℕ) → address base sizing k ≤ a → a < address base sizing (k + 1) → a % 4 ≡ 0 → ShowsAt image h a → h ≡ own_number

  -- its code begins with a line at its entry
  pub record HasEntry (bytes : ℕ) : Type 0 where
    pub index : ℕ
    pub within : index < length lines
    pub line : line_at lines index ≡ Word (Addi sp sp (pos 0 -ℤ pos bytes))
    pub at_line : address base sizing index ≡ y.entry f
    pub alone : ShowsAlone index
    pub is_entry : entry_at image (y.entry f) ≡ Some own_number
    pub word : ℕ
    pub in_text : image_word image (y.entry f) ≡ Some word
    pub here : IsPlace (y.entry f)

  -- a slot that calls it is a site of it
  pub record HasSlot (at : ℕ) : Type 0 where
    pub index : ℕ
    pub within : index < length lines
    pub line : line_at lines index ≡ Slot f
    pub at_line : address base sizing index ≡ at
    pub behind : address base sizing (index + 1) ≡ at + 8
    pub place : label_address base lines sizing f ≡ y.entry f
    pub alone : ShowsAlone index
    pub site : IsSiteOf image own_number at
    pub here : IsPlace at

  -- the row that its values lead to is that of a variant
  pub record HasRow (vs : List ℕ) (v : IsVariant y (machine_text attributed image) (words_under image) closed p numbers f g vs) : Type 0 where
    pub row : VariantRow
    pub led : variant_under image own_number (Some vs) ≡ Some row
    pub address_is : row.address ≡ v.address
    pub shows : RowShows (inline_of y.place v.body) row

  pub record IsInTables : Type 0 where
    pub body : Body
    pub shorts : Shorts
    pub known : AreShortsOf p shorts
    pub keeps : KeepsBodyWith shorts (lower_function p g) body
    pub params : body.params ≡ g.params
    pub reach : Reach
    pub ample : IsAmple y reach
    pub is_fine : Tree → Bool
    pub fits : IsFunction y (setting_of numbers p) true [] reach is_fine body
    pub place : ℕ → ℕ
    pub linked : IsLinked y (length numbers) place
    pub is_attributed : ℕ → Bool
    pub next : ℕ
    pub open_there : IsOpenIn (machine_text attributed image) closed (y.entry f + 4) next reach
    pub later : Placed (machine_text attributed image) place y.entry (later_lines y.place y.size is_attributed (shape_of true body) body.code) (y.entry f + 4) next
    pub entry : HasEntry (bytes_of (shape_of true body))
    pub slots : (at : ℕ) → called_at attributed image at ≡ Some f → HasSlot at
    pub variants : (vs : List ℕ) → IsCombination (map (switch_domain p) g.switches) vs → IsVariant y (machine_text attributed image) (words_under image) closed p numbers f g vs
    pub rows : (vs : List ℕ) (is : IsCombination (map (switch_domain p) g.switches) vs) → HasRow vs (variants vs is)
    pub slot_open : (at : ℕ) (vs : List ℕ) (is : IsCombination (map (switch_domain p) g.switches) vs) → called_at attributed image at ≡ Some f → IsOpen closed at (at + 8) (variants vs is).reach

-- So the code of an attributed function stands on the machine with such an image.
abbrev pub PatchedFunctionsStand : Type 0
PatchedFunctionsStand =
    (attributed : List ℕ) (image : Fields) (closed : (pc address : ℕ) → Bool) (base : ℕ) (lines : List Line) (sizing words : List ℕ) → AreWordsUnder base lines sizing words → HasWords image base words →
    (y : Layout) (p : Program) (numbers : List ℕ) (f : ℕ) (g : Function) → IsWellFormed p → slice_get p.functions f ≡ Some g → g.attributed ≡ true →
    IsInTables attributed image closed base lines sizing y p numbers f g → IsPatched y (machine_text attributed image) (words_under image) closed p numbers f g
