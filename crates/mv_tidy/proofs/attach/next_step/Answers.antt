use Rattle.std.proofs.lemmas.Result.{IfOk-weaker}
use Rattle.mv_regalloc.specs.declared.liveness.Row.TheVariants.{Saved}
use Rattle.mv_regalloc.specs.Shared.{row_of}
use Rattle.mv_tidy.specs.Walking.{IsGone}
use Rattle.mv_tidy.proofs.Attaching.{step_denied, step_asked, stays}
use Rattle.mv_tidy.proofs.attach.next_step.Goals as goal

pub returns-then-a : goal.returns-then-a
returns-then-a c =
    let gone = IsGone c.args.temps (row_of c.args.liveness.now (Saved 0)) in
    let a = c.in-Some.a in
    IfOk-weaker c.step_to.result _ _ (λ s h. step_denied gone c.args.first a.temp a.denied c.args.test c.in-Some.ensures c.if-a.true c.args.x c.args.y s h)
    c.step_to.ensures

pub returns-in-Some : goal.returns-in-Some
returns-in-Some c =
    let gone = IsGone c.args.temps (row_of c.args.liveness.now (Saved 0)) in
    let a = c.in-Some.a in
    IfOk-weaker c.step_to-else-a.result _ _ (λ s h. step_asked gone c.args.first a.temp a.denied c.args.test c.in-Some.ensures c.if-a.false c.args.x c.args.y s h)
    c.step_to-else-a.ensures

pub returns : goal.returns
returns c =
    let gone = IsGone c.args.temps (row_of c.args.liveness.now (Saved 0)) in
    stays gone c.args.first c.args.test c.args.x c.args.y c.in_ok-with_choice-in-None.field-0 c.in_ok-with_choice-in-None.ensures
