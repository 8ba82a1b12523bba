use Rattle.std.proofs.Common.{◌≡◌, ◌+◌, ◌-◌, ◌≤◌, eqb, not, length, drop}
use Rattle.std.specs.List.{prefix_len}
use Rattle.mv_asmtext.proofs.source.line_length.Given as goal

abbrev pub invariant-loop-at : goal.invariant-loop-at
invariant-loop-at l = (l.at ≤ length l.text) × (l.at + prefix_len (λ b. not (eqb b 10)) (drop l.at l.text) ≡ prefix_len (λ b. not (eqb b 10)) l.text)

abbrev pub decreases-loop-at : goal.decreases-loop-at
decreases-loop-at l = length l.text - l.at
