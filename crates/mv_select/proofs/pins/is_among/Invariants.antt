use Rattle.std.proofs.Common.{◌≡◌, drop}
use Rattle.mv_num.specs.Lists.{is_among}
use Rattle.mv_select.proofs.pins.is_among.Given as goal

abbrev pub invariant-loop-other : goal.invariant-loop-other
invariant-loop-other l = is_among l.n (drop l.other-index l.numbers) ≡ is_among l.n l.numbers
