use Rattle.std.proofs.Common.{◌≡◌, ◌++◌, drop}
use Rattle.mv_patch_view.specs.PatchView.{entries_text}
use Rattle.mv_patch_view.proofs.view.push_entries.Given as goal

abbrev pub invariant-loop-row : goal.invariant-loop-row
invariant-loop-row l = (l.number ≡ l.row-index) × (l.out.items ++ entries_text l.image l.number (drop l.row-index l.rows) ≡ l.initial.out.items ++ entries_text l.image 0 l.rows)
