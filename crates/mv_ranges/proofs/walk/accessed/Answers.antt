use Rattle.std.proofs.Common.{ℕ, ◌<◌, List, length, subst, ap, ◌∙◌}
use Rattle.std.proofs.lemmas.Result.{IfOk-weaker}
use Rattle.mv_ir.specs.Outcome.{State}
use Rattle.mv_ir.specs.Trees.{value}
use Rattle.mv_ir.specs.Meaning.{elements}
use Rattle.mv_ranges.specs.declared.facts.Fact.{Fact}
use Rattle.mv_ranges.specs.declared.facts.Fact.TheVariants.{Below}
use Rattle.mv_ranges.specs.Facts.{AllHold, Holds}
use Rattle.mv_ranges.proofs.walk.accessed.Goals as goal
use Rattle.mv_ranges.proofs.Values.{value_temp}

pub returns-in-Temp : goal.returns-in-Temp
returns-in-Temp c = IfOk-weaker c.with.result _ _ gives c.with.ensures
  where
    gives : (after : List Fact) → ((s : State) → AllHold s c.args.facts → Holds s (Below c.in-Temp.temp c.args.array) → AllHold s after) →
        (numbers : List ℕ) (bound : List (ℕ × ℕ)) (s : State) → AllHold s c.args.facts → value numbers bound c.args.index.now s.temps s.world.globals < length (elements c.args.array s) → AllHold s after
    gives after h numbers bound s k lt = h s k (subst (λ v. v < length (elements c.args.array s)) (ap (λ t. value numbers bound t s.temps s.world.globals) c.in-Temp.is ∙ value_temp numbers bound s.temps s.world.globals c.in-Temp.temp) lt)
