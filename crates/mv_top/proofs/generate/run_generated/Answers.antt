use Rattle.mv_top.proofs.Generating.{ran_and_summed}
use Rattle.mv_top.proofs.generate.run_generated.Goals as goal

pub returns-clause-does : goal.returns-clause-does
returns-clause-does g c input =
    ran_and_summed c.args.number input _ _ _ _ _ _ c.generated_texts_are_accepted.ensures.images c.args.text.now c.run_plainly-ran.result c.sum_up.result c.requires.text c.run_plainly-ran.ensures.later c.sum_up.ensures.later
    (c.run_plainly-ran.ensures.ran input) c.sum_up.ensures.sums

pub returns-clause-count : goal.returns-clause-count
returns-clause-count g c = c.sum_up.ensures.count _ c.run_plainly-ran.ensures.count
