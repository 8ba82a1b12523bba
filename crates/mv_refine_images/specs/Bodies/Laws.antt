-- What is proved of the bodies that are linked of a program.
use Rattle.std.specs.Prelude.{ℕ, ◌≡◌, List, Some, slice_get}
use Rattle.std.specs.List.{zip}
use Rattle.mv_ast.specs.declared.program.Program.{Program}
use Rattle.mv_ast.specs.declared.program.Function.{Function}
use Rattle.mv_isa.specs.declared.labelled.Labelled.{Labelled}
use Rattle.mv_ir.specs.declared.body.Body.{Body}
use Rattle.mv_ir.specs.Shorts.{Shorts}
use Rattle.mv_lower_spec.specs.Functions.{lower_function}
use Rattle.mv_select.specs.Calls.Convention.{Layout}
use Rattle.mv_linker.specs.declared.parts.Parts.{Parts}
use Rattle.mv_linker.specs.declared.parts.PartVariant.{PartVariant}
use Rattle.mv_variants.specs.Bound.Meant.{IsVariantOf}
use Rattle.mv_variants.specs.Bound.Shorts.{AreShortsOf}
use Rattle.mv_variants.specs.declared.variant.Variant.{Variant}
use Rattle.mv_refine_images.specs.Bodies.ProgramBodies.{AreLaidOut, IsVariantAt, IsOwnCode, IsVariantCode, IsLinkedVariant}

-- The code of each function is its own, whether it is attributed or not.
abbrev pub FunctionsHaveOwnCode : Type 0
FunctionsHaveOwnCode =
    (p : Program) (bodies : List Body) (tables : List (List Variant)) (parts : Parts) (y : Layout) (numbers : List ℕ) → AreLaidOut p bodies tables parts y numbers →
    (f : ℕ) (g : Function) → slice_get p.functions f ≡ Some g → (code : Labelled) × (slice_get parts.functions f ≡ Some code) × IsOwnCode p y numbers g code

-- Each variant is linked, and its code is that of a body of the program under all values under which it is a variant of its function.
abbrev pub VariantsHaveCode : Type 0
VariantsHaveCode =
    (p : Program) (bodies : List Body) (tables : List (List Variant)) (parts : Parts) (y : Layout) (numbers : List ℕ) → AreLaidOut p bodies tables parts y numbers →
    (n f j : ℕ) (g : Function) (v : Variant) → IsVariantAt p tables n f j g v →
    (part : PartVariant) × IsLinkedVariant parts n j part
    × ((shorts : Shorts) → AreShortsOf p shorts → (values : List ℕ) → IsVariantOf shorts (zip (lower_function p g).switches values) (lower_function p g) v.body → IsVariantCode p y numbers g values v.body part)
