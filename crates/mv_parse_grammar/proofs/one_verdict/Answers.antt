use Rattle.mv_parse_grammar.proofs.Laws as laws
use Rattle.mv_parse_grammar.proofs.one_verdict.Goals as goal

pub returns-clause-either : goal.returns-clause-either
returns-clause-either c = laws.unit_or_place

pub returns-clause-not_both : goal.returns-clause-not_both
returns-clause-not_both c = laws.unit_is_whole

pub returns-clause-one_place : goal.returns-clause-one_place
returns-clause-one_place c = laws.one_place
