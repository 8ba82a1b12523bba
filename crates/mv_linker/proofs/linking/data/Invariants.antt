use Rattle.std.proofs.Common.{◌≡◌, map, take, slice_index}
use Rattle.mv_linker.specs.Outcome.{datum_word}
use Rattle.mv_linker.proofs.linking.data.Given as goal

abbrev pub invariant-loop-datum : goal.invariant-loop-datum
invariant-loop-datum l = l.words ≡ map (datum_word (slice_index l.starts)) (take l.datum-index l.globals)
