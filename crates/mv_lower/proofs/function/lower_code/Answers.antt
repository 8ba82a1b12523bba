use Rattle.mv_lower.specs.Statements.{seen_code}
use Rattle.mv_lower.proofs.Bodies.{code_is}
use Rattle.mv_lower.proofs.function.lower_code.Goals as goal

pub returns : goal.returns
returns c = code_is c.args.pointers.now c.args.function.now (seen_code c.in_ok-body.body) (seen_code c.in_ok-code.code) c.is_void-void.result c.in_ok-code.ensures c.is_void-void.ensures c.in_ok-body.ensures
