use Rattle.std.proofs.Common.{◌≡◌, drop}
use Rattle.mv_num.specs.Lists.{is_among}
use Rattle.mv_interpret.proofs.commits.is_among.Given as goal

abbrev pub invariant-loop-m : goal.invariant-loop-m
invariant-loop-m l = is_among l.n (drop l.m-index l.all) ≡ is_among l.n l.all
