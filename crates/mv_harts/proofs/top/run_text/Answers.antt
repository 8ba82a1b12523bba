use Rattle.std.proofs.Common.{refl}
use Rattle.mv_io.proofs.Common.{count_kept}
use Rattle.mv_harts_words.specs.Asked.{asked}
use Rattle.mv_harts.proofs.Coming.{not_run}
use Rattle.mv_harts.proofs.top.run_text.Goals as goal

pub returns-in-Ok-clause-comes : goal.returns-in-Ok-clause-comes
returns-in-Ok-clause-comes g c = c.run_built.ensures.comes c.args.text.now c.in-Ok.ensures.built

pub returns-in-Err-clause-comes : goal.returns-in-Err-clause-comes
returns-in-Err-clause-comes g c = not_run _ _ (asked c.args.command.now) c.args.text.now c.status_of_build.result c.in-Err.error c.status_of_build.ensures c.in-Err.ensures.refused refl

pub run_built-requires-clause-sound : goal.run_built-requires-clause-sound
run_built-requires-clause-sound g c = c.built_programs_are_runnable.ensures c.args.text.now c.in-Ok.built c.in-Ok.ensures.built c.keeps_rules.ensures

pub returns-in-Err-clause-writing : goal.returns-in-Err-clause-writing
returns-in-Err-clause-writing g c = count_kept _ _ _ refl
