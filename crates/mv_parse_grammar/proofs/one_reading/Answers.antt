use Rattle.mv_parse_grammar.proofs.Verdict as verdict
use Rattle.mv_parse_grammar.proofs.one_reading.Goals as goal

pub returns : goal.returns
returns c = verdict.one_reading
