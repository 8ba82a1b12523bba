use Rattle.mv_build.proofs.Answers as answer
use Rattle.mv_build.proofs.build.Goals as goal

pub returns-clause-all_refusals : goal.returns-clause-all_refusals
returns-clause-all_refusals c =
    answer.all_refusals c.args.text.now (c.one_verdict.ensures.one_program c.args.text.now) (c.one_verdict.ensures.one_refusal c.args.text.now)
    (c.one_verdict.ensures.not_both c.args.text.now) c.verdict.result c.verdict.ensures.ok c.verdict.ensures.err

pub returns-clause-all_accepted : goal.returns-clause-all_accepted
returns-clause-all_accepted c =
    answer.all_accepted c.args.text.now (c.one_verdict.ensures.one_program c.args.text.now) (c.one_verdict.ensures.one_refusal c.args.text.now)
    (c.one_verdict.ensures.not_both c.args.text.now) c.verdict.result c.verdict.ensures.ok c.verdict.ensures.err
