use Rattle.std.proofs.Common.{◌≡◌, drop}
use Rattle.mv_asmtext.specs.Labels.{labels_from, labels_of}
use Rattle.mv_asmtext.proofs.labels.labels_of.Given as goal

abbrev pub invariant-loop-line : goal.invariant-loop-line
invariant-loop-line l = labels_from l.labels (drop l.line-index l.lines) ≡ labels_of l.lines
