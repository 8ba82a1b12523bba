use Rattle.std.proofs.Common.{◌≡◌, ◌++◌, map, take}
use Rattle.mv_linker.specs.declared.parts.PartPointer.{PartPointer}
use Rattle.mv_linker.proofs.rows.push_pointer_names.Given as goal

abbrev pub invariant-loop-pointer : goal.invariant-loop-pointer
invariant-loop-pointer l = l.names ≡ l.fn.names ++ map (λ (q : PartPointer). q.name) (take l.pointer-index l.pointers)
