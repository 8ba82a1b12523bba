use Rattle.std.proofs.Common.{◌≡◌, ◌++◌, drop}
use Rattle.mv_patch_view.specs.PatchView.{sites_text}
use Rattle.mv_patch_view.proofs.view.push_sites.Given as goal

abbrev pub invariant-loop-number : goal.invariant-loop-number
invariant-loop-number l = l.out.items ++ sites_text l.image (drop l.number l.image.sites) ≡ l.initial.out.items ++ sites_text l.image l.image.sites
