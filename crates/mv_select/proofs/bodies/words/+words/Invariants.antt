use Rattle.std.proofs.Common.{take}
use Rattle.mv_select.specs.Bodies.SelectedBodies.{HasWords}
use Rattle.mv_select.proofs.bodies.words.+words.Given as goal

abbrev pub invariant-code_has_words-loop-stm : goal.invariant-code_has_words-loop-stm
invariant-code_has_words-loop-stm l = HasWords (take l.stm-index l.code)
