use Rattle.std.proofs.Common.{◌≡◌, take}
use Rattle.mv_lower.specs.Naming.{seen_marks, marked, code_names}
use Rattle.mv_lower.proofs.names.+marks.Given as goal

abbrev pub invariant-mark_code-loop-stm : goal.invariant-mark_code-loop-stm
invariant-mark_code-loop-stm l = seen_marks l.marks ≡ marked (code_names (take l.stm-index l.code)) (seen_marks l.initial.marks)
