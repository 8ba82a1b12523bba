use Rattle.std.proofs.Common.{◌≡◌, ◌*◌, ◌^◌, ◌≤◌, map, length, drop}
use Rattle.mv_ast.specs.Counts.{product_of}
use Rattle.mv_ast.specs.Switches.{switch_domain}
use Rattle.mv_check_limits.proofs.counts.combinations.Given as goal

abbrev pub invariant-loop-switch : goal.invariant-loop-switch
invariant-loop-switch l = record {
  bound : l.product ≤ 16 ^ l.switch-index;
  rest :
      l.product * product_of (map (λ s. length (switch_domain l.program s)) (drop l.switch-index l.switches)) ≡
      product_of (map (λ s. length (switch_domain l.program s)) l.switches);
}
