use Rattle.std.proofs.Common.{◌∙◌, ap, sym}
use Rattle.mv_ir.specs.Measures.{calls, stm_calls}
use Rattle.mv_tidy.proofs.QuietCode.{quiet_more, quiet_if, quiet_loop, quiet_block}
use Rattle.mv_tidy.proofs.quiet.+quiet.Goals as goal

pub calls_nothing-loop-i-preserved : goal.calls_nothing-loop-i-preserved
calls_nothing-loop-i-preserved t c =
    quiet_more c.args.code.now c.loop-i.i c.index-code-i.result c.loop-i-test.true c.loop-i.invariant
    (ap stm_calls (sym c.index-code-i.is) ∙ c.is_quiet.ensures c.if-not-is_quiet.false)

pub is_quiet-returns-then-calls_nothing : goal.is_quiet-returns-then-calls_nothing
is_quiet-returns-then-calls_nothing t c =
    let s = c.in-If in
    λ e. ap stm_calls s.is ∙ quiet_if s.field-0 s.a s.b (ap calls (sym c.as_slice.ensures) ∙ c.calls_nothing.ensures c.if-calls_nothing.true)
    (ap calls (sym c.as_slice-then-calls_nothing.ensures) ∙ c.calls_nothing-then-calls_nothing.ensures e)

pub is_quiet-returns-in-Loop : goal.is_quiet-returns-in-Loop
is_quiet-returns-in-Loop t c = λ e. ap stm_calls c.in-Loop.is ∙ quiet_loop c.in-Loop.b
    (ap calls (sym c.as_slice-in-Loop.ensures) ∙ c.calls_nothing-in-Loop.ensures e)

pub is_quiet-returns-in-Block : goal.is_quiet-returns-in-Block
is_quiet-returns-in-Block t c = λ e. ap stm_calls c.in-Block.is ∙ quiet_block c.in-Block.b
    (ap calls (sym c.as_slice-in-Block.ensures) ∙ c.calls_nothing-in-Block.ensures e)
