use Rattle.std.proofs.Common.{◌≡◌, drop}
use Rattle.mv_num.specs.Lists.{is_among}
use Rattle.mv_expand.proofs.short.is_among.Given as goal

abbrev pub invariant-loop-other : goal.invariant-loop-other
invariant-loop-other l = is_among l.number (drop l.other-index l.all) ≡ is_among l.number l.all
