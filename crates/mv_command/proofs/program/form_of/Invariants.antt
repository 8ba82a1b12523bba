use Rattle.std.proofs.Common.{◌≡◌, take, false, fold}
use Rattle.clap.specs.Simple.{app_of, new_app}
use Rattle.clap.specs.declared.builder.command.Command.TheViews.{out-Command}
use Rattle.mv_command.specs.Commands.{argument_of, with_argument}
use Rattle.mv_command.proofs.program.form_of.Given as goal

abbrev pub invariant-loop-argument : goal.invariant-loop-argument
invariant-loop-argument l = record {
  app : app_of l.command ≡ fold (λ a x. with_argument a (argument_of x)) (new_app l.name) (take l.argument-index l.arguments);
  local : (out-Command l.command).has_globals ≡ false;
}
