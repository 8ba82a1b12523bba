-- The types that specifiers name are no pointers.
use Rattle.std.proofs.Common.{◌≡◌, ℕ, Bool, true, false, ◌&&◌, subst, Option, Some, None, nat_eq, if◌then◌else◌, List, [], ◌∷◌, length}
use Rattle.mv_num.specs.declared.kind.Kind.{Kind}
use Rattle.mv_num.specs.declared.kind.Kind.TheVariants.{Int}
use Rattle.mv_syntax.specs.declared.place.Place.{Place}
use Rattle.mv_ast.specs.declared.program.CType.{CType}
use Rattle.mv_ast.specs.declared.program.CType.TheVariants.{Void, Scalar, Pointer}
use Rattle.mv_ast.specs.Names.{any_of}
use Rattle.mv_check_expressions.specs.Judged.{Good, Broken}
use Rattle.mv_check_expressions.specs.TypeNames.{are, named_kind, named_type, as_scalar, judged_type, type_or_broken}

-- a type that is no pointer
abbrev pub IsPlain : CType → Type 0
IsPlain Void = Unit {0}
IsPlain (Scalar k) = Unit {0}
IsPlain (Pointer s) = ⊥

abbrev pub PlainOption : Option CType → Type 0
PlainOption None = Unit {0}
PlainOption (Some t) = IsPlain t

pub named_plain : (enums : ℕ) (words : List ℕ) → PlainOption (named_type enums words)
named_plain enums words = by (nat_eq enums 0) (are words (19 ∷ [])) (nat_eq enums 1 && nat_eq (length words) 0) (named_kind words)
  where
    by : (a b c : Bool) (k : Option Kind) → PlainOption (if a then (if b then Some Void else as_scalar k) else if c then Some (Scalar Int) else None)
    by true true c k = tt
    by true false c None = tt
    by true false c (Some k) = tt
    by false b true k = tt
    by false b false k = tt

-- the type that specifiers name
pub plain_type : (place : Place) (flags : List Bool) (words : List ℕ) (t : CType) → judged_type place flags words ≡ Good t → IsPlain t
plain_type place flags words t h = by (any_of flags) (named_type (length flags) words) (named_plain (length flags) words) h
  where
    by : (b : Bool) (o : Option CType) → PlainOption o → (if b then Broken place 1 else type_or_broken place o) ≡ Good t → IsPlain t
    by true o k g = absurd (cc)
    by false None k g = absurd (cc)
    by false (Some s) k g = let q : s ≡ t = cc in subst IsPlain q k
