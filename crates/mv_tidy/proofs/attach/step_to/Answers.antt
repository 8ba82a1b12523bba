use Rattle.std.proofs.Common.{refl, subst}
use Rattle.mv_regalloc.specs.declared.liveness.Row.TheVariants.{Saved}
use Rattle.mv_regalloc.specs.Shared.{row_of}
use Rattle.mv_tidy.specs.Walking.{IsGone}
use Rattle.mv_tidy.specs.Attaching.{IsSplit}
use Rattle.mv_tidy.proofs.Attaching.{stays_temp}
use Rattle.mv_tidy.proofs.attach.step_to.Goals as goal

pub returns-then-not-is_gone : goal.returns-then-not-is_gone
returns-then-not-is_gone c =
    stays_temp (IsGone c.args.temps (row_of c.args.liveness.now (Saved 0))) c.args.first c.args.first c.args.temp c.args.x c.args.y c.in_ok-with_choice.field-0
    refl c.in_ok-with_choice.ensures

pub returns-in_ok-with_choice-in-Whole : goal.returns-in_ok-with_choice-in-Whole
returns-in_ok-with_choice-in-Whole c =
    stays_temp (IsGone c.args.temps (row_of c.args.liveness.now (Saved 0))) c.args.first c.in-Whole.first c.args.temp c.args.x c.args.y
    c.in_ok-with_choice-in-Whole.field-0
    (subst (IsSplit c.args.first c.args.temp c.as_slice.result.now c.as_slice-2.result.now) c.in-Whole.is c.in_ok-first.ensures) c.in_ok-with_choice-in-Whole.ensures
