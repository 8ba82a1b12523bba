-- Assembled code in the text of an image.
use Rattle.std.specs.Prelude.{ℕ, ◌≡◌, ◌+◌, ◌-◌, ◌/◌, ◌%◌, ◌<◌, ◌≤◌, false, List, length, slice_get, Some, None}
use Rattle.mv_num.specs.Regions.{text_start}
use Rattle.mv_isa.specs.declared.labelled.Line.{Line}
use Rattle.mv_isa.specs.declared.labelled.Line.TheVariants.{Label, Slot, Point}
use Rattle.mv_isa.specs.Code.{StandsOnce, line_at}
use Rattle.mv_image.specs.Spelling.{Fields}
use Rattle.mv_image.specs.Patched.{ShowsAt}
use Rattle.mv_ir.specs.World.{World}
use Rattle.mv_patch.specs.Orders.{values_of}
use Rattle.mv_refine_machine.specs.MachineRuns.{may_be_patched, called_at, through_at}

-- an image's text has words from an address on
abbrev pub HasWords : Fields → (base : ℕ) → (words : List ℕ) → Type 0
HasWords image base words = (k word : ℕ) → slice_get words k ≡ Some word → slice_get image.text ((base - text_start) / 4 + k) ≡ Some word

-- none of the functions whose bindings show at an address is bound
abbrev pub IsFreeAt : Fields → World → ℕ → Type 0
IsFreeAt image w a = (function : ℕ) → ShowsAt image function a → values_of w.bindings function ≡ None

-- A line from its address to its end, in an image: a slot is a site of its function or a pointer site of its pointer, and another line has no word
-- that may be patched.
abbrev pub IsKept : (attributed : List ℕ) → Fields → (at end : ℕ) → Line → Type 0
IsKept attributed image at end (Slot f) = called_at attributed image at ≡ Some f
IsKept attributed image at end (Point a) = through_at image at ≡ Some a
IsKept attributed image at end _ = (a : ℕ) → at ≤ a → a < end → a % 4 ≡ 0 → may_be_patched image a ≡ false

-- a label stands nowhere else in the code
abbrev pub IsOnlyLabel : List Line → Line → Type 0
IsOnlyLabel lines (Label l) = StandsOnce lines l
IsOnlyLabel lines _ = Unit {0}

-- Part of some code, from an index on, of which an image keeps each line. `at` is where the line of each index of the code stands.
pub record IsPart (attributed : List ℕ) (image : Fields) (at : ℕ → ℕ) (lines : List Line) (k : ℕ) (part : List Line) : Type 0 where
  pub within : k + length part ≤ length lines
  pub each : (j : ℕ) → j < length part → line_at lines (k + j) ≡ line_at part j
  pub kept : (j : ℕ) → j < length part → IsKept attributed image (at (k + j)) (at (k + j + 1)) (line_at part j)
  pub labels : (j : ℕ) → j < length part → IsOnlyLabel lines (line_at part j)
