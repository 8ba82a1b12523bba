use Rattle.mv_front.proofs.Answers as answer
use Rattle.mv_front.proofs.front.Goals as goal

pub returns-clause-all_programs : goal.returns-clause-all_programs
returns-clause-all_programs c = answer.all_programs c.args.text.now c.verdict.result c.verdict.ensures.ok c.verdict.ensures.err

pub returns-clause-all_refusals : goal.returns-clause-all_refusals
returns-clause-all_refusals c = answer.all_refusals c.args.text.now c.verdict.result c.verdict.ensures.ok c.verdict.ensures.err
