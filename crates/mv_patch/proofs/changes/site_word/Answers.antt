use Rattle.std.proofs.Common.{arith}
use Rattle.mv_patch.proofs.Next.{first_at, second_at}
use Rattle.mv_patch.proofs.changes.site_word.Goals as goal

pub returns-then-word-eq0 : goal.returns-then-word-eq0
returns-then-word-eq0 c = first_at c.args.image.now.sites c.args.word c.site_at-site.result c.site_at-site.ensures.there (omega (arith, c.if-word-eq0.true))

pub returns-else-word-eq0 : goal.returns-else-word-eq0
returns-else-word-eq0 c = second_at c.args.image.now.sites c.args.word c.site_at-site.result c.site_at-site.ensures.there (omega (arith, c.if-word-eq0.false))
