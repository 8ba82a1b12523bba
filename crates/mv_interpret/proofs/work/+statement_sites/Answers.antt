use Rattle.std.proofs.Common.{ap, ◌∙◌}
use Rattle.mv_ast.specs.declared.program.Stmt.{out-Stmt}
use Rattle.mv_ast.specs.declared.program.Stmt.TheVariants.{outs-If, outs-While, outs-For, outs-Switch}
use Rattle.mv_interpret.proofs.Reckoning.{capped_two, capped_three, capped_four, sites-If, sites-While, sites-For, sites-Switch, arms_more}
use Rattle.mv_interpret.proofs.work.+statement_sites.Goals as goal

pub stmt_sites-returns-in-If : goal.stmt_sites-returns-in-If
stmt_sites-returns-in-If t c =
    let i = c.in-If in
    let e = sites-If c.args.program.now c.args.s.now i.e i.yes_part i.no_part (ap out-Stmt i.is ∙ outs-If i.e i.yes_part i.no_part) in
    rw (c.both-in-If.ensures, c.expr_sites-in-If.ensures, c.both.ensures, c.stmts_sites-in-If.ensures, c.stmts_sites-in-If-2.ensures, e) (capped_three _ _ _)

pub stmt_sites-returns-in-While : goal.stmt_sites-returns-in-While
stmt_sites-returns-in-While t c =
    let i = c.in-While in
    let e = sites-While c.args.program.now c.args.s.now i.e i.body (ap out-Stmt i.is ∙ outs-While i.e i.body) in
    rw (c.both-in-While.ensures, c.expr_sites-in-While.ensures, c.stmts_sites-in-While.ensures, e) (capped_two _ _)

pub stmt_sites-returns-in-For : goal.stmt_sites-returns-in-For
stmt_sites-returns-in-For t c =
    let i = c.in-For in
    let e = sites-For c.args.program.now c.args.s.now i.first i.test i.step i.body (ap out-Stmt i.is ∙ outs-For i.first i.test i.step i.body) in
    rw (c.both-in-For-3.ensures, c.both-in-For.ensures, c.both-in-For-2.ensures, c.optional_sites.ensures, c.optional_sites-in-For.ensures, c.stmts_sites-in-For.ensures, c.stmts_sites-in-For-2.ensures, e)
    (capped_four _ _ _ _)

pub stmt_sites-returns-in-Switch : goal.stmt_sites-returns-in-Switch
stmt_sites-returns-in-Switch t c =
    let i = c.in-Switch in
    let e = sites-Switch c.args.program.now c.args.s.now i.e i.arms (ap out-Stmt i.is ∙ outs-Switch i.e i.arms) in
    rw (c.both-in-Switch.ensures, c.expr_sites-in-Switch.ensures, c.arms_sites.ensures, e) (capped_two _ _)

pub arms_sites-loop-arm-preserved : goal.arms_sites-loop-arm-preserved
arms_sites-loop-arm-preserved t c =
    let l = c.loop-arm in
    let e = arms_more c.args.program.now c.as_slice-arm-items.result.now l.arm-index c.arm-item.result c.loop-arm-test.true c.arm-item.is in
    rw (c.both-all.ensures, l.invariant, c.stmts_sites.ensures, e) (capped_two _ _)
