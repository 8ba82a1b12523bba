use Rattle.std.proofs.Common.{ap, ◌∙◌}
use Rattle.mv_syntax.specs.declared.unit.Act.{out-Act}
use Rattle.mv_syntax.specs.declared.unit.Act.TheVariants.{outs-Block}
use Rattle.mv_check_statements.specs.Surroundings.{in_function}
use Rattle.mv_check_statements.proofs.Blocks.{function_body_of_block, behind_as}
use Rattle.mv_check_statements.proofs.body.check_body.Goals as goal

pub returns-in-Block : goal.returns-in-Block
returns-in-Block c =
    behind_as (function_body_of_block c.args.body.now c.in-Block.items (ap out-Act c.in-Block.is ∙ outs-Block c.in-Block.items) (in_function c.args.returns) c.args.scope.now)
    (rw (c.as_slice.ensures, c.in_function-around.ensures) at c.lines.ensures)
