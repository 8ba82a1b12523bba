use Rattle.std.proofs.Common.{◌≤◌, ◌∙◌, get_or, length, arith}
use Rattle.mv_ast.specs.Switches.{switch_domain}
use Rattle.mv_check_limits.proofs.Bounds.{domain_at_most, product_grows}
use Rattle.mv_check_limits.proofs.Turns.{multiplied}
use Rattle.mv_check_limits.proofs.counts.combinations.Goals as goal

pub overflow_mul-product : goal.overflow_mul-product
overflow_mul-product c =
    let switch = get_or c.args.switches.now c.loop-switch.switch-index 0 in
    let small : c.domain_size-product.result ≤ 16 =
    rw c.domain_size-product.ensures (domain_at_most 16 c.args.program.now.switches c.requires.small switch) in
    omega (arith, (product_grows c.loop-switch.switch-index c.loop-switch.product c.domain_size-product.result (omega arith) c.loop-switch.invariant.bound small).1)

pub loop-switch-preserved : goal.loop-switch-preserved
loop-switch-preserved c =
    let switch = get_or c.args.switches.now c.loop-switch.switch-index 0 in
    let small : c.domain_size-product.result ≤ 16 =
    rw c.domain_size-product.ensures (domain_at_most 16 c.args.program.now.switches c.requires.small switch) in
    record {
      bound =
          (product_grows c.loop-switch.switch-index c.loop-switch.product c.domain_size-product.result (omega arith) c.loop-switch.invariant.bound small).0;
      rest =
          multiplied (λ s. length (switch_domain c.args.program.now s)) c.args.switches.now c.loop-switch.switch-index c.loop-switch.product
          c.domain_size-product.result c.loop-switch-test.true c.domain_size-product.ensures ∙
          c.loop-switch.invariant.rest;
    }
