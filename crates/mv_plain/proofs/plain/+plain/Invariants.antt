use Rattle.std.proofs.Common.{take}
use Rattle.mv_plain.specs.Plain.{PlainCode}
use Rattle.mv_plain.proofs.plain.+plain.Given as goal

abbrev pub invariant-plain_code-loop-stm : goal.invariant-plain_code-loop-stm
invariant-plain_code-loop-stm l = PlainCode (take l.stm-index l.code) l.plain
