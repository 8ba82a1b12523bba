-- The lines of changed words are as many as the bindings of a run owe.
use Rattle.std.proofs.Common.{sym, subst}
use Rattle.mv_patch.specs.Orders.{values_of}
use Rattle.mv_machine.specs.Acts.{polls_of}
use Rattle.mv_machine.specs.Runs.{runs}
use Rattle.mv_count_words.specs.Bound.{RunsAreBound}
use Rattle.mv_count_words.specs.Laws.{ImagesCountWords, ImagesShowBindings}
use Rattle.mv_count_words.specs.Lines.{LinesAreWords}
use Rattle.mv_count_words.specs.Owed.{CountsWords}

pub images_show_bindings : RunsAreBound → ImagesCountWords → LinesAreWords → ImagesShowBindings
images_show_bindings are_bound count lines p formed bodies tables parts are image linked rules input actions picks n held is =
    let bs = (runs image input (polls_of actions) picks n).bindings in
    subst (CountsWords p bs) (sym (lines image rules (values_of bs) held is)) (count p formed bodies tables parts are image linked rules bs (are_bound image rules input actions picks n))
