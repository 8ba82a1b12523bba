use Rattle.mv_top.proofs.Texts.{spelled, unbuilt}
use Rattle.mv_top.proofs.build.built_image.Goals as goal

pub returns-in-Ok : goal.returns-in-Ok
returns-in-Ok c = spelled c.args.text.now c.in-Ok.built c.spell.result c.in-Ok.ensures.built c.spell.ensures

pub returns-in-Err : goal.returns-in-Err
returns-in-Err c = unbuilt c.args.text.now c.status_of_build.result c.in-Err.error c.status_of_build.ensures c.in-Err.ensures.refused
