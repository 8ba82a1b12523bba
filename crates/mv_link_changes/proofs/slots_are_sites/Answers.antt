use Rattle.mv_link_changes.proofs.Linked as lemmas
use Rattle.mv_link_changes.proofs.slots_are_sites.Goals as goal

pub returns-clause-slots : goal.returns-clause-slots
returns-clause-slots c = lemmas.slots_are_sites

pub returns-clause-points : goal.returns-clause-points
returns-clause-points c = lemmas.points_are_sites
