use Rattle.std.proofs.Common.{◌≡◌, ◌∙◌, sym, arith}
use Rattle.std.proofs.lemmas.Fmt.{decimal_injective}
use Rattle.mv_command.proofs.command.limit_of.Goals as goal

pub returns-then-steps-eq0 : goal.returns-then-steps-eq0
returns-then-steps-eq0 c = rw c.in-Some.is (λ steps limit.
    let same : c.in_ok-steps.steps ≡ steps = decimal_injective c.in_ok-steps.steps steps (omega (arith, c.in_ok-steps.ensures.0)) (omega (arith, limit.2)) (sym c.in_ok-steps.ensures.1 ∙ c.as_bytes.ensures.value ∙ limit.0) in
    omega (arith, same, limit.1, c.if-steps-eq0.true))
