use Rattle.std.proofs.Common.{rules, ap, ◌∙◌}
use Rattle.mv_lower_spec.specs.Functions.{lower_function_code}
use Rattle.mv_lower.specs.Statements.{seen_code}
use Rattle.mv_lower.proofs.Bodies.{body_of}
use Rattle.mv_lower.proofs.function.lower_function.Goals as goal

pub returns : goal.returns
returns c =
    body_of c.args.program.now c.args.function.now (seen_code c.in_ok-lowered.lowered) c.in_ok-marks.marks _ _ _ _ _
    (c.in_ok-lowered.ensures ∙ ap (λ ps. lower_function_code ps c.args.function.now) c.as_slice.ensures) c.in_ok-marks.ensures (search rules)
    c.in_ok-arrays.ensures c.in_ok-rooms.ensures c.in_ok-marked.ensures c.in_ok-switches.ensures
