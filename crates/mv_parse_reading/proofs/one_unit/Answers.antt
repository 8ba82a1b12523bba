use Rattle.mv_parse_reading.proofs.Texts as texts
use Rattle.mv_parse_reading.proofs.one_unit.Goals as goal

pub returns : goal.returns
returns c = texts.one_unit
