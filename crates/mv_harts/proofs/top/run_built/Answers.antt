use Rattle.std.proofs.Common.{refl}
use Rattle.mv_harts_words.specs.Asked.{asked}
use Rattle.mv_harts.specs.Outcomes.{unmade}
use Rattle.mv_harts.proofs.Coming.{cut_off, was_run}
use Rattle.mv_harts.proofs.top.run_built.Goals as goal

pub returns-in_default-clause-comes : goal.returns-in_default-clause-comes
returns-in_default-clause-comes g c text is = unmade refl

pub returns-in-Ok-write_all-clause-comes : goal.returns-in-Ok-write_all-clause-comes
returns-in-Ok-write_all-clause-comes g c text is = was_run _ _ (asked c.args.command.now) text c.args.built.now is c.in-Ok.text.items c.as_slice.result.now c.as_slice.ensures.value c.in-Ok.ensures c.in-Ok-write_all.ensures.bytes

pub returns-clause-comes : goal.returns-clause-comes
returns-clause-comes g c text is =
    cut_off _ _ (asked c.args.command.now) text c.args.built.now is c.in-Ok.text.items c.as_slice.result.now c.as_slice.ensures.value c.in-Ok.ensures c.in-Err.ensures.bytes c.in-Err.ensures.cause.failed
