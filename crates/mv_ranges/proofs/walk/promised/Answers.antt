use Rattle.std.proofs.Common.{◌∙◌, ◌<◌, inl, length, ap, subst, sym}
use Rattle.mv_ir.specs.Trees.{value}
use Rattle.mv_ir.specs.Meaning.{elements}
use Rattle.mv_ranges.proofs.walk.promised.Goals as goal
use Rattle.mv_ranges.proofs.Values.{value_temp}

pub returns-in-Temp-clause-kept : goal.returns-in-Temp-clause-kept
returns-in-Temp-clause-kept c numbers bound s w h =
    inl (subst (λ v. v < length (elements c.args.array s)) (sym (ap (λ t. value numbers bound t s.temps s.world.globals) c.in-Temp.is ∙ value_temp numbers bound s.temps s.world.globals c.in-Temp.temp))
    (c.is_below.ensures c.if-is_below.true s h))
