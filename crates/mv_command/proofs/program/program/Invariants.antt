use Rattle.std.proofs.Common.{◌≡◌, map, take, fold}
use Rattle.clap.specs.Simple.{app_of}
use Rattle.mv_command.specs.Commands.{form_of, no_forms, table, with_form}
use Rattle.mv_command.proofs.program.program.Given as goal

abbrev pub invariant-loop-row : goal.invariant-loop-row
invariant-loop-row l = record {
  table : map form_of l.row-items ≡ table;
  app : app_of l.program ≡ fold (λ a x. with_form a (form_of x)) no_forms (take l.row-index l.row-items);
}
