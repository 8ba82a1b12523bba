use Rattle.std.proofs.Common.{◌≡◌, true}
use Rattle.mv_image.specs.Places.{entry_of}
use Rattle.mv_descriptors.specs.Guards.{each_below}
use Rattle.mv_image.specs.Rules.{is_outside_four}
use Rattle.mv_image.proofs.rules.no_entry_in_four.Given as goal

abbrev pub invariant-loop-f : goal.invariant-loop-f
invariant-loop-f l = each_below (λ f. is_outside_four l.point (entry_of l.words f)) l.f ≡ true
