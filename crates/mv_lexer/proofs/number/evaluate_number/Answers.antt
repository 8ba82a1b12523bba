use Rattle.std.proofs.Common.{◌≡◌, ℕ, List, Bool, Some, refl, sym, ap, ◌∙◌, subst, arith}
use Rattle.mv_syntax.specs.declared.token.Piece.TheVariants as Is
use Rattle.mv_lexer.specs.Numbers.{IsIntegerConstant, HasDigits, short_suffix}
use Rattle.mv_lexer.specs.Numbers as numbers
use Rattle.mv_lexer.specs.Tables.{IsEntry}
use Rattle.mv_lexer.specs.declared.class.TokenClass.TheVariants.{PreprocessingNumber}
use Rattle.mv_lexer.specs.declared.table.Table.TheVariants.{LongSuffixes}
use Rattle.mv_lexer.specs.Reading as spec
use Rattle.mv_lexer.proofs.number.evaluate_number.Goals as goal

constant_of : (text suffix : List ℕ) (unsigned : Bool) → HasDigits text → suffix ≡ numbers.suffix text → Some unsigned ≡ short_suffix suffix → IsIntegerConstant text unsigned
constant_of text suffix unsigned digits is short = record { has_digits = digits; has_suffix = ap short_suffix (sym is) ∙ sym short }

pub returns-in-Some-constant : goal.returns-in-Some-constant
returns-in-Some-constant c =
    let is = constant_of c.args.text.now c.suffix_of-suffix.result.now c.in-Some.unsigned c.if-not-has_digits.ensures c.suffix_of-suffix.ensures c.in-Some.ensures in
    let found = c.in-Some-constant.ensures in
    subst (λ (n : ℕ). spec.Evaluates PreprocessingNumber c.args.text.now (spec.token (Is.Number n c.in-Some-constant.kind))) (sym found.0) (spec.constant c.in-Some.unsigned c.in-Some-constant.kind is found.1)

pub returns-in-None : goal.returns-in-None
returns-in-None c =
    let is = constant_of c.args.text.now c.suffix_of-suffix.result.now c.in-Some.unsigned c.if-not-has_digits.ensures c.suffix_of-suffix.ensures c.in-Some.ensures in
    (spec.large c.in-Some.unsigned is c.in-None.ensures, refl)

pub returns-then-index_of-size : goal.returns-then-index_of-size
returns-then-index_of-size c =
    let found = c.index_of.ensures.found (omega arith) in
    let entry = subst (λ (s : List ℕ). IsEntry LongSuffixes c.index_of.result s) c.suffix_of-suffix.ensures found in
    (spec.long (record { has_digits = c.if-not-has_digits.ensures; number = c.index_of.result; has_suffix = entry }), refl)

pub refuse_number-requires-2-clause-no_long : goal.refuse_number-requires-2-clause-no_long
refuse_number-requires-2-clause-no_long c = λ long. c.index_of.ensures.none (omega arith) long.number long.has_suffix.in_range (sym long.has_suffix.is ∙ sym c.suffix_of-suffix.ensures)
