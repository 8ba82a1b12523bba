use Rattle.std.proofs.Common.{◌≡◌, map, take, slice_index}
use Rattle.mv_linker.proofs.linking.starts.Given as goal

abbrev pub invariant-loop-entry : goal.invariant-loop-entry
invariant-loop-entry l = l.starts ≡ map (slice_index l.addresses) (take l.entry-index l.entries)
