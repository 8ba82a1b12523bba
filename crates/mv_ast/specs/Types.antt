-- The types of a program.
use Rattle.std.specs.Prelude.{Bool, true, false}
use Rattle.mv_num.specs.declared.kind.Kind.TheVariants as kind
use Rattle.mv_ast.specs.declared.program.CType.{CType}
use Rattle.mv_ast.specs.declared.program.CType.TheVariants.{Void, Scalar, Pointer}

abbrev pub int : CType
int = Scalar kind.Int

abbrev pub is_void : CType → Bool
is_void Void = true
is_void (Scalar k) = false
is_void (Pointer s) = false
