use Rattle.std.proofs.Common.{◌≡◌, take}
use Rattle.mv_num.specs.Bytes.{bytes_of}
use Rattle.mv_num.proofs.bytes.bytes_of_words.Given as goal

abbrev pub invariant-loop-word : goal.invariant-loop-word
invariant-loop-word l = l.bytes.items ≡ bytes_of (take l.word-index l.word-items)
