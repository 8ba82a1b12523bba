-- A text that isn't the numeral of a number up to the bound is seen at its front, at a byte that is no digit, or where the value passes the bound.
use Rattle.std.proofs.Common.{rules, ◌≡◌, ◌<◌, ◌+◌, ◌*◌, length, arith, get_or, sym, ◌∙◌, ap, subst}
use Rattle.std.specs.Int.{IsInRange}
use Rattle.std.specs.Fmt.{decimal}
use Rattle.std.specs.Str.Parse.{AllDigits, digits_value}
use Rattle.std.proofs.lemmas.List.{take_all}
use Rattle.mv_command.proofs.Numerals.{not_empty, no_leading_zero, digits_alone, not_above, value_more, all_digits_more, is_numeral, single_zero}
use Rattle.mv_command.proofs.number.number.Goals as goal
use Rattle.mv_command.proofs.number.number.Goals.{then-is_empty-via-then-is_empty, then-is_empty-via-else-is_empty+then-text-gt1}

pub returns-then-is_empty : goal.returns-then-is_empty
returns-then-is_empty c = λ n h e.
    elim c.then-is_empty.branch [
      | then-is_empty-via-then-is_empty w ↦ not_empty n c.args.text.now (omega arith) e (search rules)
      | then-is_empty-via-else-is_empty+then-text-gt1 w ↦ no_leading_zero n c.args.text.now (omega arith) e (search rules) (search rules)
    ]

pub returns-then-not-is_ascii_digit : goal.returns-then-not-is_ascii_digit
returns-then-not-is_ascii_digit c = λ n h e.
    let d : IsInRange 48 57 (get_or c.args.text.now c.loop-byte.byte-index 0) = digits_alone n c.loop-byte.byte-index c.args.text.now (omega arith) e c.loop-byte-test.true in
    omega (arith, d, c.if-not-is_ascii_digit.ensures.cases)

pub returns-then-value-most : goal.returns-then-value-most
returns-then-value-most c = λ n h e.
    let v = value_more c.loop-byte.byte-index c.loop-byte.value c.args.text.now c.loop-byte-test.true (omega (arith, c.if-not-is_ascii_digit.ensures.cases)) c.loop-byte.invariant.value in
    not_above n (c.loop-byte.byte-index + 1) c.args.most c.args.text.now h c.requires e (omega (arith, v, c.from.ensures, c.if-value-most.true))

pub loop-byte-preserved : goal.loop-byte-preserved
loop-byte-preserved c = record {
  value = ap (λ digit. 10 * c.loop-byte.value + digit) c.from.ensures
      ∙ value_more c.loop-byte.byte-index c.loop-byte.value c.args.text.now c.loop-byte-test.true
      (omega (arith, c.if-not-is_ascii_digit.ensures.cases)) c.loop-byte.invariant.value;
  small = c.if-value-most.false;
  digits = all_digits_more c.loop-byte.byte-index c.args.text.now c.loop-byte-test.true (omega (arith, c.if-not-is_ascii_digit.ensures.cases)) c.loop-byte.invariant.digits;
}

pub returns : goal.returns
returns c =
    let whole = take_all c.loop-byte.byte-index c.args.text.now c.loop-byte-test.false in
    let value = c.loop-byte.invariant.value ∙ ap (digits_value 10) whole in
    let some : 0 < length c.args.text.now = search rules in
    let lead : get_or c.args.text.now 0 0 ≡ 48 → length c.args.text.now ≡ 1 = (λ zero. single_zero (length c.args.text.now) c.if-text-gt1.either zero some) in
    (c.loop-byte.invariant.small, is_numeral c.args.text.now (subst (AllDigits 10) whole c.loop-byte.invariant.digits) some lead (omega (arith, value)) ∙ ap decimal (sym value))
