use Rattle.std.proofs.Common.{◌≡◌, ◌-◌, ◌++◌}
use Rattle.std.specs.String.{string_bytes}
use Rattle.mv_gen.specs.Generated.{call_lines}
use Rattle.mv_gen.proofs.push_calls.Given as goal

abbrev pub invariant-loop-index : goal.invariant-loop-index
invariant-loop-index l = string_bytes l.text ++ call_lines l.index (l.count - l.index) ≡ string_bytes l.initial.text ++ call_lines 0 l.count
