use Rattle.std.proofs.Common.{ℕ, arith, subst, sym}
use Rattle.std.proofs.lemmas.Result.{IfOk-weaker}
use Rattle.mv_num.specs.declared.list.List.{List as Items}
use Rattle.mv_ir.specs.Outcome.{State}
use Rattle.mv_ir.specs.Meaning.{with_temp}
use Rattle.mv_ir.proofs.Arrays.{written_value}
use Rattle.mv_ranges.specs.declared.facts.Fact.{Fact}
use Rattle.mv_ranges.specs.declared.facts.Fact.TheVariants.{Within}
use Rattle.mv_ranges.specs.Ranges.{IsIn, IsWithin}
use Rattle.mv_ranges.specs.Facts.{AllHold, AreKnown, Holds}
use Rattle.mv_ranges.proofs.Steps.{same_but, as_long}
use Rattle.mv_ranges.proofs.walk.written.Goals as goal

pub returns-in-Some : goal.returns-in-Some
returns-in-Some c = IfOk-weaker c.with.result _ _ gives c.with.ensures
  where
    gives : (after : Items Fact) → ((s : State) → AllHold s c.in_ok-kept.kept → Holds s (Within c.args.temp c.in-Some.range) → AllHold s after) →
        (s : State) (v : ℕ) → AreKnown c.args.ground.temps c.args.facts.now s → IsWithin c.args.range v → AllHold (with_temp s c.args.temp v) after
    gives after h s v known lies = h (with_temp s c.args.temp v) (c.in_ok-kept.ensures s (with_temp s c.args.temp v) known.true (same_but s c.args.temp v) (as_long s c.args.temp v))
        (subst (IsIn c.in-Some.range) (sym (written_value s c.args.temp v (let e = known.enough in omega (arith, e, c.if-temp-ground.true)))) (subst (λ r. IsWithin r v) c.in-Some.is lies))

pub returns-in_default : goal.returns-in_default
returns-in_default c s v known lies = c.in_ok-kept.ensures s (with_temp s c.args.temp v) known.true (same_but s c.args.temp v) (as_long s c.args.temp v)
