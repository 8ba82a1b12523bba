use Rattle.std.proofs.Common.{length}
use Rattle.mv_link_data.proofs.Places.{count_is, place_is, sizes_are}
use Rattle.mv_link_data.proofs.Values.{words_are, functions_are_there}
use Rattle.mv_link_data.proofs.laws.data_law.Goals as goal

pub returns-clause-words : goal.returns-clause-words
returns-clause-words c p address numbers has are = words_are (length p.functions) address numbers are p.globals has

pub returns-clause-count : goal.returns-clause-count
returns-clause-count c p room = count_is p.globals room

pub returns-clause-places : goal.returns-clause-places
returns-clause-places c p room = place_is p.globals room

pub returns-clause-sizes : goal.returns-clause-sizes
returns-clause-sizes c p numbers room = sizes_are numbers p.globals room

pub returns-clause-functions : goal.returns-clause-functions
returns-clause-functions c p has = functions_are_there (length p.functions) p.globals has
