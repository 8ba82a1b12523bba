-- What a built image is linked of, by the names that the laws on it use.
use Rattle.std.specs.Prelude.{ℕ, Bool, List}
use Rattle.mv_ast.specs.declared.program.Program.{Program}
use Rattle.mv_image.specs.Spelling.{Fields}
use Rattle.mv_source_forms.specs.WellFormed.{IsWellFormed}
use Rattle.mv_machine.specs.Acts.{PollActs}
use Rattle.mv_machine.specs.Runs.{bytes_to_come}
use Rattle.mv_select_code.specs.Control.Placed.{Text}
use Rattle.mv_select_code.specs.Control.Runs.{Machine}
use Rattle.mv_select.specs.Calls.Convention.{Layout}
use Rattle.mv_linker.specs.declared.parts.Parts.{Parts}
use Rattle.mv_linker.specs.Tables.{attributed_numbers}
use Rattle.mv_refine_machine.specs.MachineRuns.{machine_text}
use Rattle.mv_refine_machine.specs.Commits.Watched.{Watched, watched_machine}
use Rattle.mv_refine_images.specs.Built.{HasWordsOfGlobals, IsBuilt}
use Rattle.mv_refine_images.specs.Layouts.{address_of, numbers_of, layout_of}
use Rattle.mv_refine_images.specs.Closed.{closed}
use Rattle.mv_refine_images.proofs.Facts.{Laws}

pub record LinkedProgram : Type 0 where
  pub parts : Parts
  pub sizing : List ℕ
  pub y : Layout
  -- where each function begins
  pub numbers : List ℕ
  -- the address of a label
  pub at : ℕ → ℕ
  pub attributed : List ℕ
  -- the data that is closed to code
  pub shut : (pc address : ℕ) → Bool
  -- the words of its text that are never patched, and its slots
  pub words : Text
  -- the machine on which it runs
  pub machine : (bytes : List ℕ) → PollActs → (picks : List ℕ) → Machine Watched

abbrev pub linked_program : (p : Program) (image : Fields) → IsBuilt p image → LinkedProgram
linked_program p image built = record {
  parts = built.parts;
  sizing = built.linked.sizing;
  y = layout_of built.parts built.linked.sizing p;
  numbers = numbers_of built.parts built.linked.sizing;
  at = address_of built.parts built.linked.sizing;
  attributed = attributed_numbers built.parts.attributed;
  shut = closed image built.parts built.linked.sizing p;
  words = machine_text (attributed_numbers built.parts.attributed) image;
  machine = λ bytes polls picks.
      watched_machine (attributed_numbers built.parts.attributed) (closed image built.parts built.linked.sizing p) image (bytes_to_come bytes) polls picks;
}

-- what the laws on a built program stand on
pub record Basis (p : Program) (image : Fields) : Type 0 where
  pub laws : Laws
  pub formed : IsWellFormed p
  pub have_words : HasWordsOfGlobals p
  pub built : IsBuilt p image
