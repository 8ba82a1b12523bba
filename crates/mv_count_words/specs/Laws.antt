-- How many words of its text the bindings of an image change.
use Rattle.std.specs.Prelude.{ℕ, ◌≡◌, List, Option}
use Rattle.mv_ast.specs.declared.program.Program.{Program}
use Rattle.mv_bindings.specs.declared.action.Action.{Action}
use Rattle.mv_bindings.specs.declared.binding.Binding.{Binding}
use Rattle.mv_ir.specs.declared.body.Body.{Body}
use Rattle.mv_source_forms.specs.WellFormed.{IsWellFormed}
use Rattle.mv_fetch.specs.Held.{Held}
use Rattle.mv_image.specs.Faults.{Rules}
use Rattle.mv_image.specs.Patched.{text_of}
use Rattle.mv_image.specs.Spelling.{Fields}
use Rattle.mv_patch.specs.Orders.{values_of}
use Rattle.mv_machine.specs.Acts.{polls_of}
use Rattle.mv_machine.specs.Runs.{runs}
use Rattle.mv_linker.specs.declared.parts.Parts.{Parts}
use Rattle.mv_linker.specs.Outcome.{IsLinked}
use Rattle.mv_variants.specs.declared.variant.Variant.{Variant}
use Rattle.mv_parts.specs.Parts.{ArePartsOf}
use Rattle.mv_link_changes.specs.Changed.{changed_words}
use Rattle.mv_list.specs.Changes.{patched_text}
use Rattle.mv_count_words.specs.Bound.{AreBound}
use Rattle.mv_count_words.specs.Lines.{line_count}
use Rattle.mv_count_words.specs.Owed.{CountsWords}

-- Under such bindings, as many words are others than those of the image of a program as the bindings owe.
abbrev pub ImagesCountWords : Type 0
ImagesCountWords =
    (p : Program) → IsWellFormed p → (bodies : List Body) (tables : List (List Variant)) (parts : Parts) → ArePartsOf p bodies tables parts →
    (image : Fields) → IsLinked parts image → Rules image → (bs : List Binding) → AreBound image bs → CountsWords p bs (changed_words image (values_of bs))

-- ---- the whole

-- Where a memory holds the text of the bindings in a state of a run, the words that are other than the image's have as many lines as these bindings owe.
abbrev pub ShowsBindings : Program → Fields → Type 0
ShowsBindings p image =
    (input : List (Option ℕ)) (actions : List Action) (picks : List ℕ) (n : ℕ) (held : Held) → held.text ≡ text_of image (values_of (runs image input (polls_of actions) picks n).bindings) →
    CountsWords p (runs image input (polls_of actions) picks n).bindings (line_count (patched_text image held))

abbrev pub ImagesShowBindings : Type 0
ImagesShowBindings =
    (p : Program) → IsWellFormed p → (bodies : List Body) (tables : List (List Variant)) (parts : Parts) → ArePartsOf p bodies tables parts →
    (image : Fields) → IsLinked parts image → Rules image → ShowsBindings p image
