use Rattle.std.proofs.Common.{◌+◌, ◌*◌, reverse, vec_len}
use Rattle.mv_ir.specs.Measures.{statements, stm_size}
use Rattle.mv_tidy.specs.ChoosingWalk.{IsChosenBehind}
use Rattle.mv_tidy.proofs.choices.+choices.Given as goal

abbrev pub invariant-choose_code-loop-stm : goal.invariant-choose_code-loop-stm
invariant-choose_code-loop-stm l = IsChosenBehind l.temps l.fn.liveness l.fn.code l.stms.items (reverse l.kept) l.liveness

abbrev pub decreases-choose_code-loop-stm : goal.decreases-choose_code-loop-stm
decreases-choose_code-loop-stm l = vec_len l.stms

abbrev pub decreases-choose_code : goal.decreases-choose_code
decreases-choose_code l = 6 * statements l.code + 3

abbrev pub decreases-choose_next : goal.decreases-choose_next
decreases-choose_next l = 6 * stm_size l.stm + 2

abbrev pub decreases-choose_stm : goal.decreases-choose_stm
decreases-choose_stm l = 6 * stm_size l.stm + 1

abbrev pub decreases-choose_choice : goal.decreases-choose_choice
decreases-choose_choice l = 6 * (statements l.a + statements l.b) + 5

abbrev pub decreases-choose_sides : goal.decreases-choose_sides
decreases-choose_sides l = 6 * (statements l.a + statements l.b) + 4

abbrev pub decreases-choose_loop : goal.decreases-choose_loop
decreases-choose_loop l = 6 * statements l.code + 4

abbrev pub decreases-choose_block : goal.decreases-choose_block
decreases-choose_block l = 6 * statements l.code + 4
