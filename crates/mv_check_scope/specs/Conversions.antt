-- Types, and how values are converted (C11 6.3.1).
use Rattle.std.specs.Prelude.{Bool, true, false, ◌&&◌, ◌||◌, nat_eq, if◌then◌else◌, List, [], ◌∷◌}
use Rattle.mv_num.specs.Kinds.{kind_number}
use Rattle.mv_num.specs.declared.kind.Kind.{Kind}
use Rattle.mv_num.specs.declared.kind.Kind.TheVariants as kind
use Rattle.mv_ast.specs.declared.program.CType.{CType}
use Rattle.mv_ast.specs.declared.program.CType.TheVariants.{Void, Scalar, Pointer}
use Rattle.mv_ast.specs.declared.program.Expr.{Expr}
use Rattle.mv_ast.specs.declared.program.Form.{Form}
use Rattle.mv_ast.specs.declared.program.Form.TheVariants as form
use Rattle.mv_ast.specs.declared.program.Signature.{Signature}
pub use Rattle.mv_ast.specs.Types.{int, is_void}

abbrev pub same_type : CType → CType → Bool
same_type Void Void = true
same_type (Scalar k) (Scalar l) = nat_eq (kind_number k) (kind_number l)
same_type (Pointer s) (Pointer t) = nat_eq s t
same_type _ _ = false

abbrev pub same_types : List CType → List CType → Bool
same_types [] [] = true
same_types (s ∷ ss) (t ∷ ts) = same_type s t && same_types ss ts
same_types _ _ = false

abbrev pub same_signature : Signature → Signature → Bool
same_signature s t = same_type s.result t.result && same_types s.params t.params

abbrev pub is_integer : CType → Bool
is_integer Void = false
is_integer (Scalar k) = true
is_integer (Pointer s) = false

abbrev pub is_pointer : CType → Bool
is_pointer Void = false
is_pointer (Scalar k) = false
is_pointer (Pointer s) = true

-- the integer promotions (C11 6.3.1.1)
abbrev pub promoted_kind : Kind → Kind
promoted_kind kind.UInt = kind.UInt
promoted_kind _ = kind.Int

abbrev pub promotion : CType → CType
promotion Void = Void
promotion (Scalar k) = Scalar (promoted_kind k)
promotion (Pointer s) = Pointer s

abbrev pub unsigned : CType
unsigned = Scalar kind.UInt

-- the usual arithmetic conversions (C11 6.3.1.8)
abbrev pub usual : CType → CType → CType
usual s t = if same_type s unsigned || same_type t unsigned then unsigned else int

-- an expression of a type
abbrev pub typed : CType → Form → Expr
typed t what = record { ctype = t; what = what }

-- a conversion, written out where the type changes
unfoldable pub converted_to : CType → Expr → Expr
converted_to t e = if same_type t e.ctype then e else typed t (form.Convert e)

abbrev pub promoted : Expr → Expr
promoted e = converted_to (promotion e.ctype) e
