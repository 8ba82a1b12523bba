-- What stands in the text of a linked image, and where: the stubs, the code of each function and of each variant, and the entries and slots that bindings
-- patch.
use Rattle.std.specs.Prelude.{ℕ, ◌≡◌, ◌+◌, ◌%◌, ◌<◌, ◌≤◌, true, Some, List, length, slice_get}
use Rattle.mv_isa.specs.declared.instr.Instr.{Instr}
use Rattle.mv_isa.specs.declared.labelled.Labelled.{Labelled}
use Rattle.mv_isa.specs.declared.labelled.Line.{Line}
use Rattle.mv_isa.specs.declared.labelled.Line.TheVariants.{Word, Slot, Point}
use Rattle.mv_isa.specs.Code.{IsPlace, line_at, address, label_address, text_start}
use Rattle.mv_image.specs.Spelling.{Fields}
use Rattle.mv_image.specs.Patched.{ShowsAt, entry_at, pointer_number}
use Rattle.mv_linker.specs.declared.parts.Parts.{Parts}
use Rattle.mv_linker.specs.Linked.{codes, linked_lines, has_pointers, trap_label, check_label, commit_label, start_lines, trap_lines, commit_lines, check_lines}
use Rattle.mv_linker.specs.Tables.{attributed_numbers}
use Rattle.mv_select_code.specs.Control.Labels.{call_label}
use Rattle.mv_select_code.specs.Control.Placed.{Text, Placed}
use Rattle.mv_refine_machine.specs.MachineRuns.{machine_text, image_word}
use Rattle.mv_refine_machine.specs.Shown.{IsPointOf, IsSiteOf}

-- a function has a number among the attributed ones of parts
abbrev pub IsAttributed : Parts → (n f : ℕ) → Type 0
IsAttributed parts n f = slice_get (attributed_numbers parts.attributed) n ≡ Some f

-- the address of the line of an index, under a sizing
abbrev pub line_place : List ℕ → ℕ → ℕ
line_place sizing = address text_start sizing

-- the address of a label of the linked lines. The label of a code's entry is the number of the code.
abbrev pub label_place : Parts → List ℕ → ℕ → ℕ
label_place parts sizing = label_address text_start (linked_lines parts) sizing

-- the words of an image's text that are never patched, and its slots
abbrev pub linked_text : Parts → Fields → Text
linked_text parts image = machine_text (attributed_numbers parts.attributed) image

module _ (parts : Parts) (image : Fields) (sizing : List ℕ) where
  -- The start stands at the beginning of text, and the stubs of the traps and of commits where their labels are, all in front of the codes.
  pub record StubsArePlaced : Type 0 where
    pub start_ends : ℕ
    pub start : Placed (linked_text parts image) (label_place parts sizing) (label_place parts sizing) (start_lines parts.main) text_start start_ends
    pub trap_ends : ℕ → ℕ
    pub traps : (c : ℕ) → 1 ≤ c → c ≤ 4 → Placed (linked_text parts image) (label_place parts sizing) (label_place parts sizing) (trap_lines c) (label_place parts sizing (trap_label c)) (trap_ends c)
    pub commit_ends : ℕ
    pub commit : Placed (linked_text parts image) (label_place parts sizing) (label_place parts sizing) commit_lines (label_place parts sizing commit_label) commit_ends
    pub commit_size : commit_ends ≡ label_place parts sizing commit_label + 48
    pub start_before : (f : ℕ) → f < length (codes parts) → start_ends ≤ label_place parts sizing f
    pub traps_before : (c f : ℕ) → 1 ≤ c → c ≤ 4 → f < length (codes parts) → trap_ends c ≤ label_place parts sizing f
    pub commit_before : (f : ℕ) → f < length (codes parts) → commit_ends ≤ label_place parts sizing f
    pub check_ends : ℕ
    pub check : has_pointers parts ≡ true → Placed (linked_text parts image) (label_place parts sizing) (label_place parts sizing) check_lines (label_place parts sizing check_label) check_ends
    pub check_before : (f : ℕ) → has_pointers parts ≡ true → f < length (codes parts) → check_ends ≤ label_place parts sizing f

  -- Lines of a code stand from an address to another, which isn't behind the entry of a later code. `place` is where the labels are that the lines name: its
  -- own, those of the stubs, where the stubs stand, and those of the entries of functions, where their codes do.
  pub record IsPlacedCode (f : ℕ) (items : List Line) (from : ℕ) : Type 0 where
    pub place : ℕ → ℕ
    pub traps : (c : ℕ) → place (trap_label c) ≡ label_place parts sizing (trap_label c)
    pub commit : place commit_label ≡ label_place parts sizing commit_label
    pub check : place check_label ≡ label_place parts sizing check_label
    pub entries : (g : ℕ) → g < length parts.functions → place (call_label g) ≡ label_place parts sizing g
    pub next : ℕ
    pub placed : Placed (linked_text parts image) place (label_place parts sizing) items from next
    pub before : (g : ℕ) → f < g → g < length (codes parts) → next ≤ label_place parts sizing g

  -- an attributed function alone shows in the line of an index
  abbrev pub ShowsAlone : (n k : ℕ) → Type 0
  ShowsAlone n k = (a m : ℕ) → line_place sizing k ≤ a → a < line_place sizing (k + 1) → a % 4 ≡ 0 → ShowsAt image m a → m ≡ n

  -- the code of an attributed function begins with an instruction, at its entry
  pub record HasEntry (n f : ℕ) (instr : Instr) : Type 0 where
    pub index : ℕ
    pub within : index < length (linked_lines parts)
    pub line : line_at (linked_lines parts) index ≡ Word instr
    pub at_line : line_place sizing index ≡ label_place parts sizing f
    pub alone : ShowsAlone n index
    pub is_entry : entry_at image (label_place parts sizing f) ≡ Some n
    pub word : ℕ
    pub in_text : image_word image (label_place parts sizing f) ≡ Some word
    pub here : IsPlace (label_place parts sizing f)

  -- a slot that calls an attributed function is a site of it
  pub record HasSlot (n f at : ℕ) : Type 0 where
    pub index : ℕ
    pub within : index < length (linked_lines parts)
    pub line : line_at (linked_lines parts) index ≡ Slot f
    pub at_line : line_place sizing index ≡ at
    pub behind : line_place sizing (index + 1) ≡ at + 8
    pub alone : ShowsAlone n index
    pub site : IsSiteOf image n at
    pub here : IsPlace at

  -- a slot of four words that calls through a pointer switch is a pointer site of it
  pub record HasPoint (q a at : ℕ) : Type 0 where
    pub index : ℕ
    pub within : index < length (linked_lines parts)
    pub line : line_at (linked_lines parts) index ≡ Point a
    pub at_line : line_place sizing index ≡ at
    pub behind : line_place sizing (index + 1) ≡ at + 16
    pub alone : ShowsAlone (pointer_number image q) index
    pub point : IsPointOf image (pointer_number image q) at
    pub here : IsPlace at

  -- a slot of four words is a line of a code: it stands from the code's entry on, and before those of later codes
  pub record IsInCode (a at : ℕ) : Type 0 where
    pub function : ℕ
    pub code : Labelled
    pub found : slice_get (codes parts) function ≡ Some code
    pub item : ℕ
    pub line : slice_get code.items item ≡ Some (Point a)
    pub from : label_place parts sizing function ≤ at
    pub before : (g : ℕ) → function < g → g < length (codes parts) → at + 16 ≤ label_place parts sizing g
