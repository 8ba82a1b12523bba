use Rattle.std.proofs.Common.{◌∷◌, sym, ap, ◌∙◌, rules}
use Rattle.std.specs.Fmt.{decimal}
use Rattle.mv_command.proofs.ItemTexts.{stripped, none_below_zero, no_zero_below}
use Rattle.mv_command.proofs.items.value_of.Goals as goal

pub returns-in_err-below : goal.returns-in_err-below
returns-in_err-below c =
    rw c.from_residual-in_err-below.ensures
    (none_below_zero c.args.text.now c.in-Some.digits.now
    (stripped c.args.text.now c.in-Some.ensures.cases.0 ∙ ap (λ d. 45 ∷ d) (sym c.in-Some.ensures.cases.1)) c.in_err-below.ensures)

pub returns-then-below-eq0 : goal.returns-then-below-eq0
returns-then-below-eq0 c = no_zero_below c.args.text.now c.in-Some.digits.now (stripped c.args.text.now c.in-Some.ensures.cases.0 ∙ ap (λ d. 45 ∷ d) (sym c.in-Some.ensures.cases.1)) (c.in_ok-below.ensures.1 ∙ ap decimal (search rules))
