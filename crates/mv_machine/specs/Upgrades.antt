-- What becomes of a run where its image is given version 2.
use Rattle.std.specs.Prelude.{ℕ, ◌≡◌, List, Option}
use Rattle.mv_image.specs.Spelling.{Fields}
use Rattle.mv_image.specs.Versions.{upgraded}
use Rattle.mv_machine.specs.Acts.{PollActs}
use Rattle.mv_machine.specs.Runs.{State, runs}

-- the state with its image in version 2, and all else the same
abbrev pub with_upgraded : State → State
with_upgraded s = record s { image = upgraded s.image }

-- After any number of instructions the runs of an image and of the image in version 2 differ in nothing but the image.
abbrev pub UpgradesRunAlike : Type 0
UpgradesRunAlike = (image : Fields) (input : List (Option ℕ)) (polls : PollActs) (picks : List ℕ) (n : ℕ) → runs (upgraded image) input polls picks n ≡ with_upgraded (runs image input polls picks n)
