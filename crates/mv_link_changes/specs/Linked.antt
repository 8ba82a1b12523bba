-- How many sites a linked image has of a function.
use Rattle.std.specs.Prelude.{ℕ, ◌≡◌, ◌+◌, ◌≤◌, ◌==◌, if◌then◌else◌, List, [], ◌∷◌, Some, slice_get}
use Rattle.mv_isa.specs.declared.labelled.Labelled.{Labelled}
use Rattle.mv_isa.specs.declared.labelled.Line.{Line}
use Rattle.mv_isa.specs.declared.labelled.Line.TheVariants.{Slot, Point}
use Rattle.mv_image.specs.Spelling.{Fields}
use Rattle.mv_linker.specs.declared.parts.Parts.{Parts}
use Rattle.mv_linker.specs.declared.parts.PartPointer.{PartPointer}
use Rattle.mv_linker.specs.Linked.{codes}
use Rattle.mv_linker.specs.Outcome.{IsLinked}
use Rattle.mv_linker.specs.Tables.{attributed_numbers, place_among, pointer_address, pointer_addresses}
use Rattle.mv_link_changes.specs.Changed.{points_of, sites_of}

-- how many of some lines are slots of a function
abbrev pub slots_of : ℕ → List Line → ℕ
slots_of f [] = 0
slots_of f (Slot g ∷ lines) = (if g == f then 1 else 0) + slots_of f lines
slots_of f (_ ∷ lines) = slots_of f lines

-- and of the lines of some codes
abbrev pub slots_in : ℕ → List Labelled → ℕ
slots_in f [] = 0
slots_in f (code ∷ codes) = slots_of f code.items + slots_in f codes

-- A linked image has at least one site of a function for each slot of it in the code of the functions.
abbrev pub SlotsAreSites : Type 0
SlotsAreSites =
    (parts : Parts) (image : Fields) → IsLinked parts image → (f : ℕ) → slots_in f parts.functions ≤ sites_of (place_among (attributed_numbers parts.attributed) f) image.sites

-- how many of some lines are slots of four words through the pointer at an address, and of the lines of some codes
abbrev pub points_through : ℕ → List Line → ℕ
points_through a [] = 0
points_through a (Point b ∷ lines) = (if b == a then 1 else 0) + points_through a lines
points_through a (_ ∷ lines) = points_through a lines

abbrev pub points_in : ℕ → List Labelled → ℕ
points_in a [] = 0
points_in a (code ∷ codes) = points_through a code.items + points_in a codes

-- A linked image has at least one pointer site of a pointer switch for each such slot in the code of the functions, and none where there is none in any code.
-- The pointer switch is the first with its word, as each is where they have different words.
abbrev pub PointsAreSites : Type 0
PointsAreSites =
    (parts : Parts) (image : Fields) → IsLinked parts image → (q : ℕ) (pointer : PartPointer) → slice_get parts.pointers q ≡ Some pointer →
    place_among (pointer_addresses parts.pointers) (pointer_address pointer) ≡ q →
    (points_in (pointer_address pointer) parts.functions ≤ points_of q image.points) × (points_in (pointer_address pointer) (codes parts) ≡ 0 → points_of q image.points ≡ 0)
