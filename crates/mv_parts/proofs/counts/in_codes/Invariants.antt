use Rattle.std.proofs.Common.{◌≡◌, ◌+◌, take}
use Rattle.std.specs.Prelude.{sum_by}
use Rattle.mv_parts.specs.Counts.{up_to_greatest, count_in}
use Rattle.mv_parts.proofs.counts.in_codes.Given as goal

abbrev pub invariant-loop-code : goal.invariant-loop-code
invariant-loop-code l = l.count ≡ up_to_greatest (l.initial.count + sum_by (count_in l.what) (take l.code-index l.codes))
