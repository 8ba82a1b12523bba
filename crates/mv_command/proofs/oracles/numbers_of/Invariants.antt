use Rattle.std.proofs.Common.{◌≡◌, map, take}
use Rattle.std.specs.Prelude.{All}
use Rattle.std.specs.Fmt.{decimal}
use Rattle.mv_command.proofs.OracleTexts.{IsPick}
use Rattle.mv_command.proofs.oracles.numbers_of.Given as goal

abbrev pub invariant-loop-text : goal.invariant-loop-text
invariant-loop-text l = record {
  each : All IsPick l.numbers;
  texts : map decimal l.numbers ≡ take l.text-index (map (λ text. text.now) l.texts);
}
