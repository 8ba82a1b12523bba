use Rattle.std.proofs.Common.{refl, ◌∙◌}
use Rattle.mv_probe.proofs.Logs.{told_nothing}
use Rattle.mv_top.proofs.Counting.{counts_same}
use Rattle.mv_top.proofs.Images.{not_loaded}
use Rattle.mv_top.proofs.exec.exec_bytes.Goals as goal

pub returns-in-Ok : goal.returns-in-Ok
returns-in-Ok g c = c.exec_loaded.ensures c.args.bytes.now c.in-Ok.ensures.ok

pub returns-in-Err : goal.returns-in-Err
returns-in-Err g c = (
  not_loaded _ _ _ c.args.options.now c.args.bytes.now c.alone.result.lines.items c.alone.result.status c.in-Err.error c.alone.ensures.lines
      (c.alone.ensures.status ∙ c.status_of_load.ensures) c.in-Err.ensures.err refl (told_nothing _ _ c.args.probes.now.items c.requires.patient),
  counts_same _ _ _ refl,
)
