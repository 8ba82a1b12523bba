use Rattle.std.proofs.Common.{◌∙◌, sym, arith}
use Rattle.mv_interpret.proofs.SwitchReads.{value_among-past, value_among-none}
use Rattle.mv_interpret.proofs.reads.value_among.Goals as goal

pub returns-then-i-values : goal.returns-then-i-values
returns-then-i-values c =
    sym (value_among-none c.args.program.now c.args.global c.args.switches.now c.args.values.now c.loop-i.i (omega arith) c.if-i-values.true) ∙ c.loop-i.invariant

pub loop-i-preserved : goal.loop-i-preserved
loop-i-preserved c =
    value_among-past c.args.program.now c.args.global c.args.switches.now c.args.values.now c.loop-i.i (omega arith) c.if-i-values.false
    (λ e. c.if-global-switch_global.false (e ∙ sym c.switch_global.ensures)) ∙ c.loop-i.invariant
