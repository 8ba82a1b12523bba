use Rattle.std.proofs.Common.{◌≡◌, ◌++◌, drop}
use Rattle.mv_patch_view.specs.PatchView.{variants_lines}
use Rattle.mv_patch_view.proofs.words.push_variants.Given as goal

abbrev pub invariant-loop-row : goal.invariant-loop-row
invariant-loop-row l = (l.number ≡ l.row-index) × (l.out.items ++ variants_lines l.image l.place l.number (drop l.row-index l.rows) ≡ l.initial.out.items ++ variants_lines l.image l.place 0 l.rows)
