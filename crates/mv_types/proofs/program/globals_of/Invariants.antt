use Rattle.std.proofs.Common.{◌≡◌, map}
use Rattle.mv_types.specs.Contents.{switches_from}
use Rattle.mv_types.proofs.program.globals_of.Given as goal

abbrev pub invariant-loop-object : goal.invariant-loop-object
invariant-loop-object l = record {
  globals : l.globals ≡ map (λ o. o.global) l.yielded;
  switches : l.switches ≡ switches_from 0 l.yielded;
}
