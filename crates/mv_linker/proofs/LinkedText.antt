-- What linked parts are under a sizing, by the names that the laws on tables and text use.
use Rattle.std.proofs.Common.{ℕ, List}
use Rattle.mv_isa.specs.declared.labelled.Labelled.{Labelled}
use Rattle.mv_isa.specs.declared.labelled.Line.{Line}
use Rattle.mv_isa.specs.Code.{address, label_address, text_start}
use Rattle.mv_image.specs.Spelling.{Fields}
use Rattle.mv_linker.specs.declared.parts.Parts.{Parts}
use Rattle.mv_linker.specs.Linked.{codes, linked_lines, has_pointers, part_index}
use Rattle.mv_linker.specs.Tables.{attributed_numbers, pointer_addresses}
use Rattle.mv_linker.specs.Outcome.{image_with}
use Rattle.mv_linker.proofs.Lines.{IsOf}

pub record LinkedText : Type 1 where
  pub lines : List Line
  -- where a line begins
  pub at : ℕ → ℕ
  -- the codes of functions and variants, by number
  pub all : List Labelled
  -- where a code begins
  pub entry : ℕ → ℕ
  -- the attributed functions
  pub numbers : List ℕ
  -- the addresses of pointer switches
  pub pointers : List ℕ
  pub image : Fields
  -- the line of a code's label
  pub index : ℕ → ℕ
  -- a line has an address
  pub Of : ℕ → ℕ → Type 0

abbrev pub linked_text : Parts → (sizing words : List ℕ) → LinkedText
linked_text parts sizing words = record {
  lines = linked_lines parts;
  at = address text_start sizing;
  all = codes parts;
  entry = label_address text_start (linked_lines parts) sizing;
  numbers = attributed_numbers parts.attributed;
  pointers = pointer_addresses parts.pointers;
  image = image_with (label_address text_start (linked_lines parts) sizing) (address text_start sizing) words parts;
  index = λ f. part_index (has_pointers parts) (codes parts) f;
  Of = IsOf text_start (linked_lines parts) sizing;
}
