use Rattle.std.proofs.Common.{◌≡◌, ◌+◌, ◌*◌, ◌≤◌, drop}
use Rattle.mv_linker.specs.Tables.{site_weight}
use Rattle.mv_linker.proofs.sites.site_weight.Given as goal

abbrev pub invariant-loop-line : goal.invariant-loop-line
invariant-loop-line l = record {
  count : l.count + site_weight (drop l.line-index l.lines) ≡ site_weight l.lines;
  few : l.count ≤ 2 * l.line-index;
}
