use Rattle.std.proofs.Common.{ℕ, ◌*◌, ap, sym, ◌∙◌, take, map, length}
use Rattle.mv_ast.specs.Switches.{switch_domain}
use Rattle.mv_ast.specs.Counts.{product_of}
use Rattle.mv_meaning.specs.Growth.{capped}
use Rattle.mv_interpret.proofs.Reckoning.{capped_left, product_more}
use Rattle.mv_interpret.proofs.work.combinations.Goals as goal

pub loop-s-preserved : goal.loop-s-preserved
loop-s-preserved c =
    let l = c.loop-s in
    let switches = c.args.switches.now in
    let size : ℕ → ℕ = λ s. length (switch_domain c.args.program.now s) in
    c.times-all.ensures ∙
    (ap (λ n. capped (n * c.domain_size.result)) l.invariant ∙
    (capped_left (product_of (map size (take l.s-index switches))) c.domain_size.result ∙
    (ap (λ n. capped (product_of (map size (take l.s-index switches)) * n)) c.domain_size.ensures ∙
    ap capped (sym (product_more size switches l.s-index 0 c.loop-s-test.true)))))
