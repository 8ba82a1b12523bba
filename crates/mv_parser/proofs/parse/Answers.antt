use Rattle.mv_parser.proofs.Answers as answer
use Rattle.mv_parser.proofs.parse.Goals as goal

pub returns-clause-ok : goal.returns-clause-ok
returns-clause-ok c = answer.ok c.args.text.now c.args.tokens.now c.judge.result c.requires c.judge.ensures

pub returns-clause-err : goal.returns-clause-err
returns-clause-err c = answer.err c.args.text.now c.args.tokens.now c.judge.result c.requires c.judge.ensures

pub returns-clause-all_units : goal.returns-clause-all_units
returns-clause-all_units c = answer.all_units c.args.text.now c.args.tokens.now c.judge.result c.requires c.judge.ensures

pub returns-clause-all_nestings : goal.returns-clause-all_nestings
returns-clause-all_nestings c = answer.all_nestings c.args.text.now c.args.tokens.now c.judge.result c.judge.ensures

pub returns-clause-all_breaks : goal.returns-clause-all_breaks
returns-clause-all_breaks c = answer.all_breaks c.args.text.now c.args.tokens.now c.judge.result c.judge.ensures
