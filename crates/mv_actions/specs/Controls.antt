-- The switches as the operator sees them: those of a program, and those of an image.
use Rattle.std.specs.Prelude.{ℕ, Option, Some, None, List, [], map, slice_get}
use Rattle.std.specs.List.{zip}
use Rattle.mv_num.specs.declared.kind.Kind.{Kind}
use Rattle.mv_ast.specs.declared.program.CType.{CType}
use Rattle.mv_ast.specs.declared.program.CType.TheVariants.{Void, Scalar, Pointer}
use Rattle.mv_ast.specs.declared.program.Program.{Program}
use Rattle.mv_ast.specs.declared.program.Global.{Global}
use Rattle.mv_ast.specs.declared.program.Switch.{Switch}
use Rattle.mv_descriptors.specs.declared.rows.SwitchRow.{SwitchRow}
use Rattle.mv_image.specs.Spelling.{Fields}
use Rattle.mv_actions.specs.declared.controls.Control.{Control}

abbrev pub switch_of : List ℕ → Option Kind → Control
switch_of name kind = record { name = name; kind = kind }

-- ---- of a program

abbrev pub kind_of_type : CType → Option Kind
kind_of_type Void = None
kind_of_type (Scalar kind) = Some kind
kind_of_type (Pointer signature) = None

-- a switch of a program has the name and the type of its global
abbrev pub control_of_global : Option Global → Control
control_of_global None = switch_of [] None
control_of_global (Some g) = switch_of g.name (kind_of_type g.ctype)

abbrev pub controls_of : Program → List Control
controls_of p = map (λ (s : Switch). control_of_global (slice_get p.globals s.global)) p.switches

-- ---- of an image

abbrev pub control_of_row : List ℕ × SwitchRow → Control
control_of_row (name, row) = switch_of name (Some row.kind)

-- the names of the switches are the first of an image's names
abbrev pub controls_in : Fields → List Control
controls_in image = map control_of_row (zip image.names image.switches)
