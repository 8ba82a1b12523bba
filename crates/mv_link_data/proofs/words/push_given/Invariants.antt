use Rattle.std.proofs.Common.{◌≡◌, ◌++◌, map, take}
use Rattle.mv_link_data.specs.FirstData.{datum_of}
use Rattle.mv_link_data.proofs.words.push_given.Given as goal

abbrev pub invariant-loop-value : goal.invariant-loop-value
invariant-loop-value l = l.words ≡ l.fn.words ++ map (datum_of l.ctype) (take l.value-index l.given)
