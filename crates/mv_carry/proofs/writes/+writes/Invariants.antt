use Rattle.std.proofs.Common.{◌≡◌, take, map}
use Rattle.mv_ast.specs.Names.{any_of}
use Rattle.mv_carry.specs.Carrying.{writes, unwritten}
use Rattle.mv_carry.proofs.writes.+writes.Given as goal

abbrev pub invariant-forget_all-loop-stm : goal.invariant-forget_all-loop-stm
invariant-forget_all-loop-stm l = l.facts ≡ unwritten (λ t. any_of (map (writes t) (take l.stm-index l.code))) l.fn.facts
