use Rattle.std.proofs.Common.{◌≡◌, [], ◌∷◌, ◌++◌, length, take, arith, ap, ◌∙◌}
use Rattle.std.proofs.lemmas.List.{take_all}
use Rattle.std.proofs.lemmas.Result.{IfOk-weaker}
use Rattle.mv_ir.specs.declared.stm.Stm as at
use Rattle.mv_arms.proofs.Walked.{other_becomes, walk_ends, next_arm, leads_end}
use Rattle.mv_arms.proofs.walk.+arms.Goals as goal

pub arms_code-returns : goal.arms_code-returns
arms_code-returns t c =
    let code = c.args.code.now in
    let i = c.loop-stm.stm-index in
    let all : take i code ≡ code = take_all i code (omega (arith, ap (λ l. length l) c.as_slice-stm-items.ensures, c.loop-stm-test.false)) in
    walk_ends c.args.temps c.args.levels.now code (take i code) c.loop-stm.made all c.loop-stm.invariant

pub arms_next-returns-in_ok-append-in-If : goal.arms_next-returns-in_ok-append-in-If
arms_next-returns-in_ok-append-in-If t c =
    next_arm c.args.temps c.args.levels.now c.args.behind c.in-If.field-0 c.in-If.field-1 c.in-If.b c.in_ok-code-in-If.code c.args.inner c.push.new.self c.append.new.self c.args.arm.now
    c.in_ok-levels-in-If.levels c.in-If.is c.in_ok-levels-in-If.ensures c.in_ok-code-in-If.ensures (c.in_ok-push-in-If.ensures.ok ∙ ap (λ l. l ++ at.Block c.args.inner ∷ []) c.new-made.ensures) c.in_ok-append-in-If.ensures.ok

pub arms_stm-returns-in_default : goal.arms_stm-returns-in_default
arms_stm-returns-in_default t c =
    let o = c.in_default in
    IfOk-weaker c.copy_still.result _ _ (λ made e. other_becomes c.args.temps c.args.levels.now c.args.stm.now made (o.not-If, o.not-Loop, o.not-Block, o.not-Break, o.not-Back) e)
    c.copy_still.ensures

pub arms_switch-returns : goal.arms_switch-returns
arms_switch-returns t c =
    let code = c.args.code.now in
    leads_end c.args.temps c.args.levels.now c.args.tests code c.loop-i.made c.loop-i.i (omega (arith, ap (λ l. length l) c.as_slice-stms.ensures, c.loop-i-test.false, c.loop-i.auto.i-end)) c.loop-i.invariant
