use Rattle.mv_harts_words.specs.Asked.{no_operands}
use Rattle.mv_harts_words.proofs.Table.{operand_more, whole}
use Rattle.mv_harts_words.proofs.program.program.Goals as goal

pub loop-name-preserved : goal.loop-name-preserved
loop-name-preserved c = record {
  names = c.loop-name.invariant.names;
  app = operand_more no_operands _ c.loop-name.name-index _ c.loop-name.program c.in_ok-program.program c.new-in-loop-name.result c.loop-name-test.true c.in_ok-program.ensures c.new-in-loop-name.ensures.optional.1
      c.new-in-loop-name.ensures.rule c.loop-name.invariant.app;
}

pub returns : goal.returns
returns c = whole _ c.loop-name.name-index c.loop-name.program c.loop-name-test.false c.loop-name.invariant.names c.loop-name.invariant.app
