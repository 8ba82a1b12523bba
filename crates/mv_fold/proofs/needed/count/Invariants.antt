use Rattle.std.proofs.Common.{◌<◌, ◌^◌, All, take}
use Rattle.mv_fold.specs.Reaching.{Fits}
use Rattle.mv_fold.proofs.needed.count.Given as goal

abbrev pub invariant-loop-read : goal.invariant-loop-read
invariant-loop-read l = record { fits : All (Fits l.count) (take l.read-index l.uses); small : l.count < 2 ^ 33 }
