use Rattle.mv_ir_worlds.proofs.Bindings.{bindings_told, commits_to_words, orders_keep}
use Rattle.mv_ir_worlds.proofs.Worlds.{fit_told, knowns_keep, first_fit}
use Rattle.mv_ir_worlds.proofs.fit_worlds_law.Goals as goal

pub returns : goal.returns
returns c = record { told = fit_told; bindings = bindings_told; committed = commits_to_words; orders = orders_keep; knowns = knowns_keep; first = first_fit }
