use Rattle.std.proofs.Common.{refl, ◌∙◌}
use Rattle.mv_probe.proofs.Logs.{told_nothing}
use Rattle.mv_top.proofs.Counting.{counts_same}
use Rattle.mv_top.proofs.Texts.{not_prepared}
use Rattle.mv_top.proofs.run.run_text.Goals as goal

pub returns-in-Ok-clause-ran : goal.returns-in-Ok-clause-ran
returns-in-Ok-clause-ran g c = c.run_prepared.ensures.ran c.args.text.now c.in-Ok.ensures.ok

pub returns-in-Err-clause-ran : goal.returns-in-Err-clause-ran
returns-in-Err-clause-ran g c = (
  not_prepared _ _ _ c.args.options.now c.args.text.now c.alone.result.lines.items c.alone.result.status c.in-Err.error c.alone.ensures.lines
      (c.alone.ensures.status ∙ c.status_of_build.ensures) c.in-Err.ensures.err refl (told_nothing _ _ c.args.probes.now.items c.requires.patient),
  counts_same _ _ _ refl,
)
