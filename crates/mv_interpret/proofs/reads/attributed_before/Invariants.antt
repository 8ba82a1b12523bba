use Rattle.std.proofs.Common.{◌≡◌, take}
use Rattle.std.specs.Prelude.{count_by}
use Rattle.mv_interpret.proofs.reads.attributed_before.Given as goal

abbrev pub invariant-loop-f : goal.invariant-loop-f
invariant-loop-f l = l.number ≡ count_by (λ f. f.attributed) (take l.f-index l.f-items)
