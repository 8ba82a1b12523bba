use Rattle.mv_source_facts.proofs.Identifiers.{identifiers}
use Rattle.mv_accepts_programs.proofs.facts.names_are_identifiers.Goals as goal

pub returns : goal.returns
returns c = identifiers
