use Rattle.std.proofs.Common.{◌+◌, ◌*◌, vec_len}
use Rattle.mv_ir.specs.Measures.{statements, stm_size}
use Rattle.mv_tidy.specs.Walking.{IsWalkedTo}
use Rattle.mv_tidy.proofs.walk.+tidy.Given as goal

abbrev pub invariant-tidy_code-loop-stm : goal.invariant-tidy_code-loop-stm
invariant-tidy_code-loop-stm l = IsWalkedTo l.temps l.fn.liveness l.fn.code l.stms.items l.kept l.liveness

abbrev pub decreases-tidy_code-loop-stm : goal.decreases-tidy_code-loop-stm
decreases-tidy_code-loop-stm l = vec_len l.stms

abbrev pub decreases-tidy_code : goal.decreases-tidy_code
decreases-tidy_code l = 8 * statements l.code + 7

abbrev pub decreases-tidy_next : goal.decreases-tidy_next
decreases-tidy_next l = 8 * stm_size l.stm + 6

abbrev pub decreases-keep : goal.decreases-keep
decreases-keep l = 8 * stm_size l.stm + 5

abbrev pub decreases-put : goal.decreases-put
decreases-put l = 8 * stm_size l.stm + 4

abbrev pub decreases-tidy_stm : goal.decreases-tidy_stm
decreases-tidy_stm l = 8 * stm_size l.stm + 3

abbrev pub decreases-tidy_choice : goal.decreases-tidy_choice
decreases-tidy_choice l = 8 * (statements l.a + statements l.b) + 10

abbrev pub decreases-tidy_sides : goal.decreases-tidy_sides
decreases-tidy_sides l = 8 * (statements l.a + statements l.b) + 9

abbrev pub decreases-tidy_loop : goal.decreases-tidy_loop
decreases-tidy_loop l = 8 * statements l.code + 8

abbrev pub decreases-tidy_block : goal.decreases-tidy_block
decreases-tidy_block l = 8 * statements l.code + 8
