use Rattle.std.proofs.Common.{◌≡◌, ◌≤◌, ◌^◌, drop}
use Rattle.mv_asmtext.specs.Numbers.{value_from}
use Rattle.mv_asmtext.proofs.number.value.Given as goal

abbrev pub invariant-loop-byte : goal.invariant-loop-byte
invariant-loop-byte l = (l.value ≤ 2 ^ 32) × (value_from l.base l.value (drop l.byte-index l.digits) ≡ value_from l.base 0 l.digits)
