use Rattle.std.proofs.Common.{map, refl}
use Rattle.std.specs.String.{string_bytes}
use Rattle.mv_notes.specs.Lines.{unmade}
use Rattle.mv_top.proofs.Decisions.{carried_out}
use Rattle.mv_top.proofs.top.multiverse.Goals as goal

pub returns-in-Ok-clause-carried_out : goal.returns-in-Ok-clause-carried_out
returns-in-Ok-clause-carried_out g c =
    carried_out _ _ _ (map string_bytes c.args.words.now) _ _ c.counted_programs_pass_no_limit.ensures.none
    (record { lines = c.in-Ok.performed.lines.items; status = c.in-Ok.performed.status; comes = c.in-Ok.ensures }) c.report.result c.report.ensures.noted

pub returns-in-Err-clause-carried_out : goal.returns-in-Err-clause-carried_out
returns-in-Err-clause-carried_out g c =
    carried_out _ _ _ (map string_bytes c.args.words.now) _ _ c.counted_programs_pass_no_limit.ensures.none c.in-Err.ensures _ (unmade refl refl)
