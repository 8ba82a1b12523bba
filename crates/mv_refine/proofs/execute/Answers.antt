use Rattle.mv_refine.proofs.Executed.{executes}
use Rattle.mv_refine.proofs.execute.Goals as goal

pub returns-clause-executes : goal.returns-clause-executes
returns-clause-executes g c = executes c.args.built.now c.args.actions.now c.are_of_words.ensures c.requires.fit c.args.places c.args.steps _ _ _ c.run_image.result c.run_image.ensures.runs
