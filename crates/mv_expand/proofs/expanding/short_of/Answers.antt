use Rattle.std.proofs.lemmas.Option.{IfSome_then}
use Rattle.mv_expand.proofs.expanding.short_of.Goals as goal

pub returns-in-Direct : goal.returns-in-Direct
returns-in-Direct c = IfSome_then c.short_at.result c.short_at.ensures (λ body h. (c.in-Direct.f, c.in-Direct.is, h))
