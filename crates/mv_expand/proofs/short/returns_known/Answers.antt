use Rattle.std.proofs.Common.{[], ◌∷◌, sym, subst, ◌∙◌}
use Rattle.mv_expand.specs.Straight.{Straight}
use Rattle.mv_expand.proofs.Straightness.{return_known}
use Rattle.mv_expand.proofs.short.returns_known.Goals as goal

pub returns-in-Return : goal.returns-in-Return
returns-in-Return c = λ temps e. subst (λ s. Straight temps c.args.known.now (s ∷ [])) (sym c.in-Return.is) (return_known temps c.args.known.now c.in-Return.v (sym c.reads_only.ensures ∙ e))
