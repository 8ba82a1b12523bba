use Rattle.std.proofs.Common.{◌≡◌, ◌+◌, ◌*◌, map, take}
use Rattle.mv_asm.proofs.emit.addresses.Given as goal

abbrev pub invariant-loop-offset : goal.invariant-loop-offset
invariant-loop-offset l = l.addresses ≡ map (λ offset. l.base + 4 * offset) (take l.offset-index l.offsets)
