use Rattle.std.proofs.Common.{◌≡◌, ◌++◌, ◌*◌, drop}
use Rattle.mv_num.specs.Bytes.{words_of}
use Rattle.mv_num.proofs.bytes.words_of_bytes.Given as goal

abbrev pub invariant-loop-i : goal.invariant-loop-i
invariant-loop-i l = l.words ++ words_of (drop (4 * l.i) l.bytes) ≡ words_of l.bytes
