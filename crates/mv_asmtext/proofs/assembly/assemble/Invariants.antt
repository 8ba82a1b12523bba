use Rattle.std.proofs.Common.{◌≡◌, drop}
use Rattle.mv_asmtext.specs.Assembly.{put_lines, assembled}
use Rattle.mv_asmtext.specs.Labels.{labels_of}
use Rattle.mv_asmtext.proofs.assembly.assemble.Given as goal

abbrev pub invariant-loop-line : goal.invariant-loop-line
invariant-loop-line l = put_lines l.words (labels_of l.lines) l.code (drop l.line-index l.lines) ≡ assembled l.words l.lines
