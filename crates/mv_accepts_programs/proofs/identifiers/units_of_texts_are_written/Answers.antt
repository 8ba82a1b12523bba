use Rattle.mv_accepts_programs.proofs.OfIdentifiers.Texts.{units_written}
use Rattle.mv_accepts_programs.proofs.identifiers.units_of_texts_are_written.Goals as goal

pub returns : goal.returns
returns c = units_written
