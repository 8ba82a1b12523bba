use Rattle.std.proofs.Common.{◌≡◌, ◌≤◌, take}
use Rattle.std.specs.Str.Parse.{AllDigits, digits_value}
use Rattle.mv_command.proofs.number.number.Given as goal

abbrev pub invariant-loop-byte : goal.invariant-loop-byte
invariant-loop-byte l = record { value : l.value ≡ digits_value 10 (take l.byte-index l.text); small : l.value ≤ l.most; digits : AllDigits 10 (take l.byte-index l.text) }
