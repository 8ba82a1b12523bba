-- What is proved of built programs.
use Rattle.std.specs.Prelude.{ℕ, ◌<◌, ◌^◌, List, All, IsTrue}
use Rattle.mv_ast.specs.declared.program.Program.{Program}
use Rattle.mv_ast.specs.Actions.{act_fits}
use Rattle.mv_bindings.specs.Acts.{IsActOfWord}
use Rattle.mv_image.specs.Spelling.{Fields}
use Rattle.mv_machine.specs.Acts.{PollActs}
use Rattle.mv_source_forms.specs.WellFormed.{IsWellFormed}
use Rattle.mv_refine_machine.specs.Runs.Behaves.{Behaves, LoadsWhatIsOpen}
use Rattle.mv_refine_images.specs.Built.{HasWordsOfGlobals, IsBuilt}
use Rattle.mv_refine_images.specs.Closed.{closed}
use Rattle.mv_refine_images.specs.Own.{LoadsNoOwnSwitch}

-- The run of an image that is built of a well-formed program does, in each hart, what the program means, on each input, with any acts whose values are words
-- and that fit the program there, and by any picks of the fetches. No instruction loads a data word of a global that is closed to what stands at its place: and
-- so none in the words of a function's variants loads a switch of the function, and none at a site any switch.
abbrev pub BuiltProgramsBehave : Type 0
BuiltProgramsBehave =
    (p : Program) (image : Fields) → IsWellFormed p → HasWordsOfGlobals p → (built : IsBuilt p image) → (bytes : List ℕ) (polls : PollActs) (picks : List ℕ) → All (λ b. b < 2 ^ 8) bytes →
    All IsActOfWord polls.acts → All (λ a. IsTrue (act_fits p polls.hart a)) polls.acts →
    Behaves p image bytes polls picks × LoadsWhatIsOpen image (closed image built.parts built.linked.sizing p) bytes polls picks × LoadsNoOwnSwitch image bytes polls picks
