use Rattle.clap.specs.Simple.{new_app}
use Rattle.mv_command.proofs.Table.{argument_more, arguments_all, local_more}
use Rattle.mv_command.proofs.program.form_of.Goals as goal

pub loop-argument-preserved : goal.loop-argument-preserved
loop-argument-preserved c = record {
  app = argument_more (new_app c.args.name.now) c.args.arguments.now c.loop-argument.argument-index _ c.loop-argument.command c.in_ok-command.command c.clap_argument.result c.loop-argument-test.true
      c.in_ok-command.ensures c.clap_argument.ensures.local c.clap_argument.ensures.rule c.loop-argument.invariant.app;
  local = local_more c.loop-argument.command c.in_ok-command.command c.clap_argument.result c.in_ok-command.ensures c.clap_argument.ensures.local c.loop-argument.invariant.local;
}

pub returns : goal.returns
returns c = (
  arguments_all (new_app c.args.name.now) c.args.arguments.now c.loop-argument.argument-index c.loop-argument.command c.loop-argument-test.false c.loop-argument.invariant.app,
  c.loop-argument.invariant.local,
)
