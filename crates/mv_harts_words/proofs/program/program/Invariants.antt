use Rattle.std.proofs.Common.{◌≡◌, map, take, fold}
use Rattle.clap.specs.Simple.{app_of}
use Rattle.mv_harts_words.specs.declared.options.TheConstants.{OPERANDS}
use Rattle.mv_harts_words.specs.Asked.{no_operands, with_operand}
use Rattle.mv_harts_words.proofs.program.program.Given as goal

abbrev pub invariant-loop-name : goal.invariant-loop-name
invariant-loop-name l = record {
  names : map (λ x. x.now) l.name-items ≡ map (λ name. name.now) OPERANDS;
  app : app_of l.program ≡ fold (λ a x. with_operand a x.now) no_operands (take l.name-index l.name-items);
}
