use Rattle.std.proofs.Common.{arith, refl}
use Rattle.mv_io.proofs.Common.{count_kept}
use Rattle.mv_front.proofs.Few.{few_functions, few_pointers}
use Rattle.mv_top.proofs.Texts.{evaluation_done, not_evaluated}
use Rattle.mv_check_limits.proofs.Orders.{none_exceeded}
use Rattle.mv_top.proofs.eval.eval_text.Goals as goal

pub eval-requires : goal.eval-requires
eval-requires g c =
    let p = c.in-Ok.program in
    let is = c.in-Ok.ensures.accepted in
    let functions = few_functions p (none_exceeded is.unit p is.within) in
    let pointers = few_pointers p (none_exceeded is.unit p is.within) in
    omega (arith, functions, pointers)

pub returns-in-Ok-clause-does : goal.returns-in-Ok-clause-does
returns-in-Ok-clause-does g c way =
    evaluation_done _ _ c.args.bound c.args.text.now c.status_of.result c.in-Ok.program c.eval.result c.status_of.ensures.status c.in-Ok.ensures.accepted c.eval.ensures.evaluates

pub returns-in-Err-clause-does : goal.returns-in-Err-clause-does
returns-in-Err-clause-does g c way =
    not_evaluated _ _ c.args.bound c.args.text.now c.status_of_refusal.result c.in-Err.error c.status_of_refusal.ensures c.in-Err.ensures.refused refl

pub returns-in-Ok-clause-reading : goal.returns-in-Ok-clause-reading
returns-in-Ok-clause-reading g c = rw c.status_of.ensures.input c.eval.ensures.reading

pub returns-in-Ok-clause-writing : goal.returns-in-Ok-clause-writing
returns-in-Ok-clause-writing g c = rw c.status_of.ensures.output c.eval.ensures.writing

pub returns-in-Err-clause-reading : goal.returns-in-Err-clause-reading
returns-in-Err-clause-reading g c = count_kept _ _ _ refl

pub returns-in-Err-clause-writing : goal.returns-in-Err-clause-writing
returns-in-Err-clause-writing g c = count_kept _ _ _ refl
