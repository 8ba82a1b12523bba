-- What the image of a program is.
use Rattle.std.specs.Prelude.{ℕ, ◌≡◌, ◌≤◌, ◌<◌, ◌^◌, IsTrue, List, length, Some, slice_get, All}
use Rattle.mv_ast.specs.declared.program.Program.{Program}
use Rattle.mv_ast.specs.declared.program.Function.{Function}
use Rattle.mv_bindings.specs.declared.action.Action.{Action}
use Rattle.mv_ast.specs.Actions as source
use Rattle.mv_ir.specs.declared.body.Body.{Body}
use Rattle.mv_variants.specs.declared.variant.Variant.{Variant}
use Rattle.mv_image.specs.Spelling.{Fields}
use Rattle.mv_linker.specs.declared.parts.Parts.{Parts}
use Rattle.mv_linker.specs.Outcome.{data_limit, IsLinked}
use Rattle.mv_link_data.specs.FirstData.{data_words}
use Rattle.mv_parts.specs.Codes.{FramesFit}
use Rattle.mv_parts.specs.Numbers.{attributed_numbers}
use Rattle.mv_parts.specs.Parts.{ArePartsOf}
use Rattle.mv_bindings.specs.Acts.{IsActOfWord}
use Rattle.mv_ast.specs.Actions.{act_fits}
use Rattle.mv_machine.specs.Actions as machine
use Rattle.mv_machine.specs.Acts.{PollActs}
use Rattle.mv_refine_machine.specs.Runs.Behaves.{BehavesAlways, LoadsWhatIsOpen}
use Rattle.mv_refine_images.specs.Tables.Leads.{LeadsToVariants}
use Rattle.mv_refine_images.specs.Closed.{closed}
use Rattle.mv_refine_images.specs.Own.{LoadsNoOwnSwitch}
use Rattle.mv_count_words.specs.Laws.{ShowsBindings}

-- On no input, in no hart, where its polls take what fits the program and whose values are words, and by no picks does an instruction load a data word that is
-- closed to what stands at its place; and none in the words of a function's variants loads a switch of the function, and none at a site any switch.
abbrev pub LoadsOpenly : Program → Parts → (sizing : List ℕ) → Fields → Type 0
LoadsOpenly p parts sizing image =
    (bytes : List ℕ) (polls : PollActs) (picks : List ℕ) → All (λ b. b < 2 ^ 8) bytes → All IsActOfWord polls.acts → All (λ a. IsTrue (act_fits p polls.hart a)) polls.acts →
    LoadsWhatIsOpen image (closed image parts sizing p) bytes polls picks × LoadsNoOwnSwitch image bytes polls picks

-- The image of a program, of these bodies of its functions and these variants of its attributed ones: frames and data are within
-- their limits; the image is linked of the code of the bodies and variants, of the first words of the globals, and of tables; the tables lead from each
-- assignment of a function to the variant that means what the function means under it. Its run does what the program means, in each hart, on each input,
-- whatever its polls take that fits, also while commits rewrite its text; no instruction loads what is closed to its place, as a variant's own switch; the
-- same actions fit the image and the program; and the text of the bindings of the operator's run differs from the image's in as many words as these bindings
-- owe.
pub record IsImageOf (p : Program) (bodies : List Body) (tables : List (List Variant)) (image : Fields) : Type 0 where
  pub frames : FramesFit p (length p.functions)
  pub data_fits : data_words p ≤ data_limit
  pub parts : Parts
  pub are_parts : ArePartsOf p bodies tables parts
  pub linked : IsLinked parts image
  pub leads : (n f : ℕ) (g : Function) (variants : List Variant) → slice_get (attributed_numbers p) n ≡ Some f → slice_get p.functions f ≡ Some g →
      slice_get tables n ≡ Some variants → LeadsToVariants p g image variants n
  pub behaves : BehavesAlways p image
  pub loads : LoadsOpenly p parts linked.sizing image
  pub fits : (action : Action) → machine.fits_rows image.switches action ≡ source.fits p action
  pub shows : ShowsBindings p image
