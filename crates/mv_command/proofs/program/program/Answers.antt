use Rattle.mv_command.specs.Commands.{no_forms}
use Rattle.mv_command.proofs.Table.{form_more, whole}
use Rattle.mv_command.proofs.program.program.Goals as goal

pub loop-row-preserved : goal.loop-row-preserved
loop-row-preserved c = record {
  table = c.loop-row.invariant.table;
  app = form_more no_forms _ c.loop-row.row-index _ c.loop-row.program c.in_ok-program.program c.in_ok-form_of.field-0 c.loop-row-test.true c.in_ok-program.ensures c.in_ok-form_of.ensures.1
      c.in_ok-form_of.ensures.0 c.loop-row.invariant.app;
}

pub returns : goal.returns
returns c = whole _ c.loop-row.row-index c.loop-row.program c.loop-row-test.false c.loop-row.invariant.table c.loop-row.invariant.app
