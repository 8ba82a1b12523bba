-- The values of integer types: what is converted to a type is a value of it.
use Rattle.std.proofs.Common.{◌≡◌, ℕ, ◌+◌, ◌-◌, ◌%◌, ◌<◌, ◌≤◌, ◌⊎◌, inl, inr, arith, refl, sym, ap, subst, Bool, true, false, cond, eqb, ◌||◌, nat_eq, nat_lt, nat_le}
use Rattle.std.proofs.lemmas.Bool.Decides.{nat_tests}
use Rattle.std.proofs.lemmas.Nat.{mod_below}
use Rattle.std.proofs.lemmas.Bool.{and_parts, eqb-true, lt-ltb, or_right, cases_lt}
use Rattle.mv_num.specs.declared.kind.Kind.{Kind}
use Rattle.mv_num.specs.declared.kind.Kind.TheVariants as kind
use Rattle.mv_num.specs.Kinds.{kind_number, within, is_value}
use Rattle.mv_num.specs.Words.{narrow, sign_extend}
use Rattle.mv_num.proofs.Signed.{sign_extend_low, sign_extend_high}
use Rattle.mv_ast.specs.declared.program.CType.{CType}
use Rattle.mv_ast.specs.declared.program.CType.TheVariants.{Void, Scalar, Pointer}
use Rattle.mv_ast.specs.Actions.{is_value_of}
use Rattle.mv_ast.specs.Operators.{converted}
use Rattle.mv_check_expressions.specs.declared.constant.Constant.{Constant}
use Rattle.mv_check_declarations.specs.Constants as constants
use Rattle.mv_source_forms.specs.Typing.{IsInteger}

-- a value of a type, if that is an integer
abbrev pub IsOf : CType → ℕ → Type 0
IsOf t v = IsInteger t → is_value_of t v ≡ true

-- ---- conversions

low_within : (limit v : ℕ) → v < limit → within limit v ≡ true
low_within limit v h = ap (λ b. b || nat_le (4294967296 - limit) v) (lt-ltb v limit h)

high_within : (limit v : ℕ) → 4294967296 - limit ≤ v → within limit v ≡ true
high_within limit v h = or_right (nat_lt v limit) (nat_le (4294967296 - limit) v) (grind (arith, nat_tests, h))

char_within : (a : ℕ) → within 128 (sign_extend 8 a) ≡ true
char_within a = by (cases_lt (a % 256) 128)
  where
    by : (a % 256 < 128) ⊎ (128 ≤ a % 256) → within 128 (sign_extend 8 a) ≡ true
    by (inl h) = let q : sign_extend 8 a ≡ a % 256 = sign_extend_low 8 a h in subst (λ v. within 128 v ≡ true) (sym q) (low_within 128 (a % 256) h)
    by (inr h) =
        let q : sign_extend 8 a ≡ a % 256 + 4294967040 = sign_extend_high 8 a (omega arith) h in
        subst (λ v. within 128 v ≡ true) (sym q) (high_within 128 (a % 256 + 4294967040) (omega (arith, h)))

short_within : (a : ℕ) → within 32768 (sign_extend 16 a) ≡ true
short_within a = by (cases_lt (a % 65536) 32768)
  where
    by : (a % 65536 < 32768) ⊎ (32768 ≤ a % 65536) → within 32768 (sign_extend 16 a) ≡ true
    by (inl h) = let q : sign_extend 16 a ≡ a % 65536 = sign_extend_low 16 a h in subst (λ v. within 32768 v ≡ true) (sym q) (low_within 32768 (a % 65536) h)
    by (inr h) =
        let q : sign_extend 16 a ≡ a % 65536 + 4294901760 = sign_extend_high 16 a (omega arith) h in
        subst (λ v. within 32768 v ≡ true) (sym q) (high_within 32768 (a % 65536 + 4294901760) (omega (arith, h)))

bit_is : (b : Bool) → nat_lt (cond b 0 1) 2 ≡ true
bit_is true = refl
bit_is false = refl

pub narrow_is : (k : Kind) (a : ℕ) → is_value (kind_number k) (narrow k a) ≡ true
unfolding narrow
narrow_is kind.Bool a = bit_is (eqb a 0)
narrow_is kind.SChar a = char_within a
narrow_is kind.UChar a = lt-ltb (a % 256) 256 (mod_below a 256 (omega arith))
narrow_is kind.Short a = short_within a
narrow_is kind.UShort a = lt-ltb (a % 65536) 65536 (mod_below a 65536 (omega arith))
narrow_is kind.Int a = refl
narrow_is kind.UInt a = refl

pub converted_is : (t : CType) (a : ℕ) → IsOf t (converted t a)
converted_is Void a h = absurd h
converted_is (Scalar k) a h = narrow_is k a
converted_is (Pointer s) a h = absurd h

-- ---- constants

pub constant_is : (k : Kind) (c : Constant) → constants.is_value_of k c ≡ true → IsOf (Scalar k) c.value
unfolding constants.is_value_of
constant_is k c h u =
    let q : narrow k c.value ≡ c.value = eqb-true (narrow k c.value) c.value (and_parts (nat_eq (narrow k c.value) c.value) _ h).0 in
    subst (λ v. is_value (kind_number k) v ≡ true) q (narrow_is k c.value)

pub int_is : (v : ℕ) → IsOf (Scalar kind.Int) v
int_is v h = refl

pub no_is : (t : CType) → IsOf t 0
no_is Void h = absurd h
no_is (Scalar kind.Bool) h = refl
no_is (Scalar kind.SChar) h = refl
no_is (Scalar kind.UChar) h = refl
no_is (Scalar kind.Short) h = refl
no_is (Scalar kind.UShort) h = refl
no_is (Scalar kind.Int) h = refl
no_is (Scalar kind.UInt) h = refl
no_is (Pointer s) h = absurd h

pub yes_is : (t : CType) → IsOf t 1
yes_is Void h = absurd h
yes_is (Scalar kind.Bool) h = refl
yes_is (Scalar kind.SChar) h = refl
yes_is (Scalar kind.UChar) h = refl
yes_is (Scalar kind.Short) h = refl
yes_is (Scalar kind.UShort) h = refl
yes_is (Scalar kind.Int) h = refl
yes_is (Scalar kind.UInt) h = refl
yes_is (Pointer s) h = absurd h
