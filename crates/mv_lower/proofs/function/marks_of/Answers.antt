use Rattle.std.proofs.Common.{ℕ, length, ap, ◌∙◌}
use Rattle.mv_lower.specs.Naming.{Flags, marked, code_names}
use Rattle.mv_lower.specs.Programs.{no_marks}
use Rattle.mv_lower.proofs.Bodies.{marks_of}
use Rattle.mv_lower.proofs.function.marks_of.Goals as goal

pub returns : goal.returns
returns c =
    let p = c.args.program.now in
    let code = c.args.code.now in
    let none = c.in_ok-marks.ensures ∙ (ap (λ (n : ℕ). no_marks n c.len-functions.result) c.len-globals.ensures ∙ ap (λ (n : ℕ). no_marks (length p.globals) n) c.len-functions.ensures) in
    marks_of p code c.mark_code.new.marks (c.mark_code.ensures ∙ ap (λ (f : Flags). marked (code_names code) f) none)
