-- What holds of the linked lines of all parts.
use Rattle.std.specs.Prelude.{ℕ, ◌+◌, ◌*◌, ◌<◌, ◌≤◌, ◌≡◌, Bool, true, Option, Some, List, [], length, slice_get}
use Rattle.mv_isa.specs.declared.labelled.Labelled.{Labelled}
use Rattle.mv_isa.specs.declared.labelled.Line.{Line}
use Rattle.mv_isa.specs.Code.{CodeFits, StandsOnce, line_at}
use Rattle.mv_isa.specs.Standing.{LineStands}
use Rattle.mv_image.specs.Spelling.{Fields}
use Rattle.mv_linker.specs.declared.parts.Parts.{Parts}
use Rattle.mv_linker.specs.Linked.{AreParts, IsOwnLabel, codes, own, relabelled, trap_label, check_label, commit_label, start_lines, trap_lines, commit_lines, check_lines, function_part, linked_lines, has_pointers, first_label, trap_index, commit_index, check_index, part_index}
use Rattle.mv_linker.specs.Tables.{site_count, FitTables}
use Rattle.mv_linker.specs.Outcome.{IsLinked}

-- they may be assembled
abbrev pub LinesFit : Type 0
LinesFit = (parts : Parts) → AreParts parts → CodeFits (linked_lines parts)

-- some lines stand in others, one behind the other from an index on
pub record StandFrom (lines : List Line) (k : ℕ) (part : List Line) : Type 0 where
  pub within : k + length part ≤ length lines
  pub each : (j : ℕ) → j < length part → line_at lines (k + j) ≡ line_at part j

-- the stub of a trap stands in lines, its label nowhere else
pub record TrapStands (lines : List Line) (c : ℕ) : Type 0 where
  pub stub : StandFrom lines (trap_index c) (trap_lines c)
  pub label : StandsOnce lines (trap_label c)

-- the stub of commits stands in lines, its label nowhere else
pub record CommitStands (lines : List Line) : Type 0 where
  pub stub : StandFrom lines commit_index commit_lines
  pub label : StandsOnce lines commit_label

-- the stub of calls through pointer switches stands in lines, its label nowhere else
pub record CheckStands (lines : List Line) : Type 0 where
  pub stub : StandFrom lines check_index check_lines
  pub label : StandsOnce lines check_label

-- The start stands at the beginning, the stubs of the traps behind it, the stub of commits behind these, and that of calls through pointer switches behind it
-- where there are any.
abbrev pub StubsStand : Type 0
StubsStand =
    (parts : Parts) → AreParts parts →
    StandFrom (linked_lines parts) 0 (start_lines parts.main) × ((c : ℕ) → 1 ≤ c → c ≤ 4 → TrapStands (linked_lines parts) c) × CommitStands (linked_lines parts)
    × (has_pointers parts ≡ true → CheckStands (linked_lines parts))

-- The part of a function stands in lines, its entry's label nowhere else, and an own label that stands once in its code stands once in all lines.
pub record FunctionStands (lines : List Line) (checks : Bool) (functions : List Labelled) (f : ℕ) (code : Labelled) : Type 0 where
  pub part : StandFrom lines (part_index checks functions f) (function_part f (first_label functions f) code)
  pub entry : StandsOnce lines f
  pub own : (l : ℕ) → IsOwnLabel code l → StandsOnce lines (first_label functions f + l)

abbrev pub FunctionsStand : Type 0
FunctionsStand =
    (parts : Parts) → AreParts parts → (f : ℕ) (code : Labelled) → slice_get (codes parts) f ≡ Some code →
    FunctionStands (linked_lines parts) (has_pointers parts) (codes parts) f code

-- A line with its labels renamed that stands in text is a line that stands there, if each label is where what it becomes is. The label that a call through a
-- pointer switch names by itself is none of the renamed ones.
abbrev pub RenamedLinesStand : Type 0
RenamedLinesStand =
    (text : ℕ → Option ℕ) (place entry : ℕ → ℕ) (at end first count : ℕ) → count ≤ check_label → (line : Line) →
    LineStands text place entry at end (relabelled first count line) → LineStands text (λ l. place (own first count l)) entry at end line

-- Where no function is attributed and no pointer switch is there, there are no codes but those of the functions, none of which has a slot, and nothing is ever
-- patched: the image has no row of a function, no site and no pointer site.
pub record IsPlain (parts : Parts) : Type 0 where
  pub codes_are : codes parts ≡ parts.functions
  pub no_slots : site_count parts ≡ 0
  pub no_functions : (image : Fields) → IsLinked parts image → image.functions ≡ []
  pub no_sites : (image : Fields) → IsLinked parts image → image.sites ≡ []
  pub no_points : (image : Fields) → IsLinked parts image → image.points ≡ []

abbrev pub UnattributedPartsArePlain : Type 0
UnattributedPartsArePlain = (parts : Parts) → FitTables parts → parts.attributed ≡ [] → parts.pointers ≡ [] → IsPlain parts

-- A linked image has as many sites as all code has slots, and as many pointer sites as it has slots of four words.
abbrev pub SitesAreCounted : Type 0
SitesAreCounted = (parts : Parts) (image : Fields) → IsLinked parts image → length image.sites + 2 * length image.points ≡ site_count parts
