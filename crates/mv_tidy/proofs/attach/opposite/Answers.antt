use Rattle.std.proofs.Common.{IfSome, subst}
use Rattle.mv_tidy.specs.Attaching.{Asks}
use Rattle.mv_tidy.proofs.Attaching.{asks_opposite}
use Rattle.mv_tidy.proofs.attach.opposite.Goals as goal

pub returns-in-Some : goal.returns-in-Some
returns-in-Some c k h = asks_opposite c.in-Some.a k (subst (λ o. IfSome o (λ a. Asks a.temp a.denied k)) c.in-Some.is h)
