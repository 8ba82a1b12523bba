use Rattle.std.proofs.Common.{◌≡◌, true}
use Rattle.mv_image.specs.Places.{site_field}
use Rattle.mv_descriptors.specs.Guards.{each_below}
use Rattle.mv_image.specs.Rules.{is_outside_four}
use Rattle.mv_image.proofs.rules.no_site_in_four.Given as goal

abbrev pub invariant-loop-k : goal.invariant-loop-k
invariant-loop-k l = each_below (λ k. is_outside_four l.point (site_field l.words k 0)) l.k ≡ true
