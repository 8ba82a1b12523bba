use Rattle.std.proofs.Common.{◌≡◌, take}
use Rattle.mv_select_code.specs.Control.Encoded.{most_words}
use Rattle.mv_variants.specs.Sizes.{up_to_greatest}
use Rattle.mv_variants.proofs.words.+counted.Given as goal

abbrev pub invariant-words_of-loop-stm : goal.invariant-words_of-loop-stm
invariant-words_of-loop-stm l = l.words ≡ up_to_greatest (most_words (take l.stm-index l.code))
