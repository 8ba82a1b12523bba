use Rattle.std.proofs.Common.{◌<◌, ◌^◌, All, take}
use Rattle.mv_variants.proofs.domain.are_words.Given as goal

abbrev pub invariant-loop-word : goal.invariant-loop-word
invariant-loop-word l = All (λ w. w < 2 ^ 32) (take l.word-index l.words)
