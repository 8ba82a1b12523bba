use Rattle.std.proofs.Common.{◌≡◌, ◌-◌, ◌≤◌, length, drop}
use Rattle.mv_asmtext.specs.Sources.{read, read_from, lines_of, words_in}
use Rattle.mv_asmtext.proofs.source.read.Given as goal

abbrev pub invariant-loop-reading : goal.invariant-loop-reading
invariant-loop-reading l =
    (l.at ≤ length l.text) × (l.reading.number ≤ l.at) × (words_in l.reading.place ≤ l.reading.number) ×
    (read_from l.reading (lines_of (drop l.at l.text)) ≡ read l.text)

abbrev pub decreases-loop-reading : goal.decreases-loop-reading
decreases-loop-reading l = length l.text - l.at
