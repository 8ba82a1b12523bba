-- There are fewer pairs than numbers.
use Rattle.std.specs.Prelude.{ℕ, ◌≤◌, max, List, length}
use Rattle.std.proofs.Common.{arith}
use Rattle.mv_regalloc.specs.declared.ends.Pairs.{Pairs}
use Rattle.mv_regalloc.specs.declared.ends.Pairs.TheVariants.{Empty, Lesser}
use Rattle.mv_regalloc.specs.declared.ends.Ends.TheDeep.{deep-Pairs}
use Rattle.mv_regalloc.specs.Paired.{IsPaired}

pub pairs_fewer : (ends : List ℕ) (p : Pairs) → IsPaired ends p → max (deep-Pairs p) 0 ≤ length ends
pairs_fewer ends Empty h = omega arith
pairs_fewer ends (Lesser p) h = let some = h.0 in let long = h.1.long in omega (arith, some, long)
