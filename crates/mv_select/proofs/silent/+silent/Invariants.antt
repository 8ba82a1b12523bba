use Rattle.std.proofs.Common.{◌≡◌, drop}
use Rattle.mv_select.specs.Functions.FunctionCode.{calls_nothing}
use Rattle.mv_select.proofs.silent.+silent.Given as goal

abbrev pub invariant-calls_nothing-loop-statement : goal.invariant-calls_nothing-loop-statement
invariant-calls_nothing-loop-statement l = calls_nothing (drop l.statement-index l.code) ≡ calls_nothing l.code
