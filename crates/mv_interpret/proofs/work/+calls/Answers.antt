use Rattle.std.proofs.Common.{ap, ◌∙◌}
use Rattle.mv_ast.specs.declared.program.Form.{out-Form}
use Rattle.mv_ast.specs.declared.program.Form.TheVariants.{outs-Direct, outs-Through}
use Rattle.mv_interpret.proofs.Sums.{calls-Direct, calls-Through, capped_right}
use Rattle.mv_interpret.proofs.work.+calls.Goals as goal
use Rattle.mv_interpret.proofs.Reckoning.{capped_two}

pub expr_calls-returns-in-Direct : goal.expr_calls-returns-in-Direct
expr_calls-returns-in-Direct t c =
    let a = c.args in
    let e = calls-Direct a.program.now a.e.now c.in-Direct.f c.in-Direct.args (ap out-Form c.in-Direct.is ∙ outs-Direct c.in-Direct.f c.in-Direct.args) in
    rw (c.both-in-Direct.ensures, c.own_call.ensures, c.exprs_calls.ensures, e) (capped_right _ _)

pub expr_calls-returns-in-Through : goal.expr_calls-returns-in-Through
expr_calls-returns-in-Through t c =
    let a = c.args in
    let e = calls-Through a.program.now a.e.now c.in-Through.args c.in-Through.callee (ap out-Form c.in-Through.is ∙ outs-Through c.in-Through.args c.in-Through.callee) in
    rw (c.both-in-Through.ensures, c.exprs_calls-in-Through.ensures, c.expr_calls-in-Through.ensures, c.get-in-Through.ensures, e) (capped_two _ _)
