use Rattle.std.proofs.Common.{inl, inr}
use Rattle.mv_tidy.proofs.one.is_over.Goals as goal

pub returns-then-temp-set : goal.returns-then-temp-set
returns-then-temp-set c e = inr c.if-temp-set.true

pub returns : goal.returns
returns c e = inl (c.is_gone.ensures e)
