use Rattle.mv_fetch.proofs.Links.{Forgotten}
use Rattle.mv_fetch.proofs.log.forget.Given as goal

abbrev pub invariant-loop-older : goal.invariant-loop-older
invariant-loop-older l = Forgotten l.log l.older-index l.ends
