-- The function `main` of a unit.
use Rattle.std.specs.Prelude.{◌≡◌, ℕ, false, List, codes}
use Rattle.mv_syntax.specs.declared.place.Place.{Place}
use Rattle.mv_ast.specs.declared.program.Function.{Function}
use Rattle.mv_ast.specs.declared.program.Program.{Program}
use Rattle.mv_syntax.specs.declared.unit.Item.{Item}
use Rattle.mv_check_expressions.specs.Judged.{Good}
use Rattle.mv_check_declarations.specs.Turns.{through}
use Rattle.mv_source_forms.specs.Typing.{HasTypedMain}
use Rattle.mv_accepts.specs.Expressions.Soundness.{Fits}
use Rattle.mv_accepts.specs.Bodies.Formed.{HasParameters}
use Rattle.mv_types.specs.declared.contents.Contents.{Contents}
use Rattle.mv_types.specs.Contents.{nothing_declared}
use Rattle.mv_types.specs.Foreknown.{foreknown, is_attributed}
use Rattle.mv_types.specs.Units.{item_judgement, program_judgement}

-- where the program has what the names at the end of the unit mean, its `main` has no parameters and gives an integer
abbrev pub MainIsTyped : Type 0
MainIsTyped =
    (place : Place) (pointers : List ℕ) (c : Contents) (p : Program) (f : Function) → program_judgement place pointers c ≡ Good p → Fits p f c.scope → HasParameters p → HasTypedMain p

-- none of its declarations gives it the attribute
abbrev pub MainIsUnmarked : Type 0
MainIsUnmarked =
    (items : List Item) (c : Contents) → through (item_judgement (foreknown items)) items (nothing_declared (foreknown items)) ≡ Good c →
    is_attributed (foreknown items) (codes "main") ≡ false
