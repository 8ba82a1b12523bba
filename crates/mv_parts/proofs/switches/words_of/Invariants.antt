use Rattle.std.proofs.Common.{◌≡◌, take}
use Rattle.mv_parts.specs.Switches.{words_of}
use Rattle.mv_parts.proofs.switches.words_of.Given as goal

abbrev pub invariant-loop-global : goal.invariant-loop-global
invariant-loop-global l = l.words ≡ words_of (take l.global-index l.globals)
