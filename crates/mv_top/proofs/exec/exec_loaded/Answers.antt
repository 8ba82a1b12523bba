use Rattle.std.proofs.Common.{List}
use Rattle.mv_bindings.specs.declared.binding.Event.{Event}
use Rattle.mv_notes.specs.Lines.{asked_lines}
use Rattle.mv_top.proofs.Counting.{counts_of_stop, counts_same}
use Rattle.mv_top.proofs.Images.{not_started, ran}
use Rattle.mv_top.proofs.Performing.{with_log}
use Rattle.mv_top.proofs.exec.exec_loaded.Goals as goal

pub returns-in-Ok : goal.returns-in-Ok
returns-in-Ok g c bytes is =
    let e = c.in-Ok.execution in
    let runs = c.in-Ok.ensures.runs in
    let o = c.args.options.now in
    let lines = λ (log : List Event). asked_lines o c.args.loaded.now.image e.machine log e.report in
    with_log _ lines e.report.log runs.0 runs.1 _ (
      ran _ _ _ o bytes c.args.loaded.now c.as_slice-actions.result.now e runs.0 c.as_slice-actions.ensures.value is runs.2,
      counts_of_stop _ _ e.report.stopped c.in-Ok.ensures.reading c.in-Ok.ensures.writing,
    )
    c.finished.result c.finished.ensures.status c.finished.ensures.lines

pub returns-in-Err : goal.returns-in-Err
returns-in-Err g c bytes is = (
  not_started _ _ _ c.args.options.now bytes c.alone.result.lines.items c.alone.result.status c.alone.ensures.lines c.alone.ensures.status c.in-Err.ensures.runs,
  counts_same _ _ _ c.in-Err.ensures.runs.0,
)
