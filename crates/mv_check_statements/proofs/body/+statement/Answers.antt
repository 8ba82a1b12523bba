use Rattle.std.proofs.Common.{ap, ◌∙◌}
use Rattle.mv_syntax.specs.declared.unit.Act.{out-Act}
use Rattle.mv_syntax.specs.declared.unit.Act.TheVariants.{outs-Block}
use Rattle.mv_check_statements.proofs.Blocks.{statement_of_block, switch_body_of_block, behind_as}
use Rattle.mv_check_statements.proofs.body.+statement.Goals as goal

pub statement-returns-in-Block : goal.statement-returns-in-Block
statement-returns-in-Block t c =
    behind_as (statement_of_block c.args.line.now c.in-Block.items (ap out-Act c.in-Block.is ∙ outs-Block c.in-Block.items) c.args.around c.args.scope.now)
    (rw c.as_slice.ensures at c.block.ensures)

pub switch_body-returns-in-Block : goal.switch_body-returns-in-Block
switch_body-returns-in-Block t c =
    behind_as (switch_body_of_block c.args.body.now c.in-Block.items (ap out-Act c.in-Block.is ∙ outs-Block c.in-Block.items) c.args.around c.args.scope.now c.args.tested)
    (rw c.as_slice.ensures at c.switch_block.ensures)
