-- What tests on types say.
use Rattle.std.proofs.Common.{◌≡◌, ℕ, Bool, true, false, ◌||◌, refl, ap, if◌then◌else◌}
use Rattle.std.proofs.lemmas.Bool.{eqb-true}
use Rattle.mv_num.specs.Kinds.{kind_number}
use Rattle.mv_ast.specs.declared.program.CType.{CType}
use Rattle.mv_ast.specs.declared.program.CType.TheVariants.{Void, Scalar, Pointer}
use Rattle.mv_check_scope.specs.Conversions.{same_type, is_integer, is_pointer, promotion, usual, int, unsigned}
use Rattle.mv_source_forms.specs.Typing.{IsInteger}
use Rattle.mv_num.proofs.KindNumbers.{one_kind}

pub same_is : (s t : CType) → same_type s t ≡ true → s ≡ t
same_is Void Void h = refl
same_is (Scalar k) (Scalar l) h = ap Scalar (one_kind k l (eqb-true (kind_number k) (kind_number l) h))
same_is (Pointer s) (Pointer t) h = ap Pointer (eqb-true s t h)
same_is s t h = absurd (cc)

pub integer_is : (t : CType) → is_integer t ≡ true → IsInteger t
integer_is Void h = absurd (cc)
integer_is (Scalar k) h = tt
integer_is (Pointer s) h = absurd (cc)

pub pointer_is : (t : CType) → is_pointer t ≡ true → (s : ℕ) × (t ≡ Pointer s)
pointer_is Void h = absurd (cc)
pointer_is (Scalar k) h = absurd (cc)
pointer_is (Pointer s) h = (s, refl)

pub promotion_integer : (t : CType) → IsInteger t → IsInteger (promotion t)
promotion_integer Void h = absurd h
promotion_integer (Scalar k) h = tt
promotion_integer (Pointer s) h = absurd h

pub usual_integer : (s t : CType) → IsInteger (usual s t)
usual_integer s t = by (same_type s unsigned || same_type t unsigned)
  where
    by : (b : Bool) → IsInteger (if b then unsigned else int)
    by true = tt
    by false = tt
