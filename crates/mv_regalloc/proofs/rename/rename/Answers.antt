use Rattle.std.proofs.Common.{◌≡◌, ap, ◌∙◌}
use Rattle.std.specs.Prelude.{slice_index}
use Rattle.std.proofs.lemmas.Result.{IfOk-weaker}
use Rattle.mv_regalloc.specs.Rename.{renamed}
use Rattle.mv_regalloc.specs.Intervals.{IsRenamed}
use Rattle.mv_regalloc.proofs.Most.{enough_temps}
use Rattle.mv_regalloc.proofs.ScannedKept.{is_renamed}
use Rattle.mv_regalloc.proofs.rename.rename.Goals as goal

pub number-requires-clause-params : goal.number-requires-clause-params
number-requires-clause-params c = enough_temps c.args.body.now c.requires.has_temps

pub returns : goal.returns
returns c =
    let body = c.args.body.now in
    let numbering = c.in_ok-numbering.numbering in
    IfOk-weaker c.apply.result (λ other. other ≡ renamed (slice_index c.as_slice.result.now) numbering.used body) (IsRenamed body)
    (λ other e. is_renamed body c.requires.has_temps c.requires.whole numbering c.in_ok-numbering.ensures other (e ∙ ap (λ l. renamed (slice_index l) numbering.used body) c.as_slice.ensures))
    c.apply.ensures
