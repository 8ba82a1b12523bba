use Rattle.std.proofs.Common.{◌≡◌, ◌-◌, ◌<◌, length, get_or, arith, sym, ap, subst, ◌∙◌}
use Rattle.std.proofs.Common.{[], ◌∷◌}
use Rattle.mv_expand.specs.Straight.{Straight}
use Rattle.mv_expand.proofs.Straightness.{leads_end}
use Rattle.mv_expand.proofs.short.is_straight.Goals as goal

pub returns : goal.returns
returns c = λ e.
    let temps = c.args.temps in
    let code = c.args.code.now in
    let s = c.index-code-last.result in
    let i = c.loop-i.i in
    let some : 0 < length code = grind (arith, c.is_empty.ensures, c.if-is_empty.false) in
    let at : i ≡ length code - 1 = omega (arith, c.loop-i-test.false, c.loop-i.auto.i-end) in
    leads_end temps c.args.known.now c.loop-i.known code i s s (omega (arith, some, at)) (c.index-code-last.is ∙ ap (λ k. get_or code k s) (sym at)) c.loop-i.invariant
    (omega (arith, some, at)) (subst (λ l. Straight temps l (s ∷ [])) c.as_slice.ensures (c.returns_known.ensures temps e))
