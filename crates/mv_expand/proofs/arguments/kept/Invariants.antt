use Rattle.std.proofs.Common.{◌≡◌, ℕ, true, false, length}
use Rattle.mv_ast.specs.Flags.{is_set}
use Rattle.mv_expand.specs.Placed.{sets_temp}
use Rattle.mv_expand.proofs.arguments.kept.Given as goal

abbrev pub invariant-loop-t : goal.invariant-loop-t
invariant-loop-t l = (length l.flags ≡ l.t) × ((u : ℕ) → is_set l.flags u ≡ true → sets_temp u l.body.code ≡ false)
