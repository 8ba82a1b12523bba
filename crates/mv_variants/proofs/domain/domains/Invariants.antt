use Rattle.std.proofs.Common.{take, map}
use Rattle.mv_variants.specs.Domains.{domain, AreDomainsOf}
use Rattle.mv_variants.proofs.domain.domains.Given as goal

abbrev pub invariant-loop-switch : goal.invariant-loop-switch
invariant-loop-switch l = AreDomainsOf (map (domain l.program) (take l.switch-index l.switches)) l.domains
