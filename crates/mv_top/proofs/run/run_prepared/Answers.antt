use Rattle.std.proofs.Common.{List}
use Rattle.mv_bindings.specs.declared.binding.Event.{Event}
use Rattle.mv_notes.specs.Lines.{asked_lines}
use Rattle.mv_top.proofs.Counting.{counts_of_stop, counts_same}
use Rattle.mv_top.proofs.Performing.{with_log}
use Rattle.mv_top.proofs.Texts.{not_started, ran}
use Rattle.mv_top.proofs.run.run_prepared.Goals as goal

pub returns-in-Ok-clause-ran : goal.returns-in-Ok-clause-ran
returns-in-Ok-clause-ran g c text is =
    let e = c.in-Ok.execution in
    let executes = c.in-Ok.ensures.executes in
    let o = c.args.options.now in
    let lines = λ (log : List Event). asked_lines o c.args.prepared.now.built.image e.machine log e.report in
    with_log _ lines e.report.log executes.0 executes.1 _ (
      ran _ _ _ o text c.args.prepared.now c.as_slice-actions.result.now e executes.0 c.as_slice-actions.ensures.value is executes.2,
      counts_of_stop _ _ e.report.stopped c.in-Ok.ensures.reading c.in-Ok.ensures.writing,
    )
    c.finished.result c.finished.ensures.status c.finished.ensures.lines

pub returns-in-Err-clause-ran : goal.returns-in-Err-clause-ran
returns-in-Err-clause-ran g c text is = (
  not_started _ _ _ c.args.options.now text c.alone.result.lines.items c.alone.result.status c.alone.ensures.lines c.alone.ensures.status c.in-Err.ensures.executes,
  counts_same _ _ _ c.in-Err.ensures.executes.0,
)
