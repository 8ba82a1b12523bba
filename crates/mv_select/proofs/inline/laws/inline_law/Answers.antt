use Rattle.mv_select.proofs.OfInline.Bodies.{inline_done, inline_answers}
use Rattle.mv_select.proofs.OfInline.Exactly.{inline_exactly}
use Rattle.mv_select.proofs.OfInline.Fit.{inline_fits}
use Rattle.mv_select.proofs.OfInline.Rooms.{inline_is_the_same}
use Rattle.mv_select.proofs.OfInline.Shown.{inline_words_answer}
use Rattle.mv_select.proofs.inline.laws.inline_law.Goals as goal

pub returns-clause-done : goal.returns-clause-done
returns-clause-done g c access y laid machine memory reach ample runs setting budget far levels attributed bound is_fine body fn one two is at here p q depth live args count contents k i spare w stands enters paid asked =
    inline_done access y laid machine memory reach ample runs setting budget far levels attributed bound is_fine body fn at here depth live args count contents k i spare w stands enters paid asked one two is p q

pub returns-clause-answers : goal.returns-clause-answers
returns-clause-answers g c = inline_answers _

pub returns-clause-words : goal.returns-clause-words
returns-clause-words g c = inline_words_answer _

pub returns-clause-fits : goal.returns-clause-fits
returns-clause-fits g c = inline_fits

pub returns-clause-same : goal.returns-clause-same
returns-clause-same g c = inline_is_the_same

pub returns-clause-exactly : goal.returns-clause-exactly
returns-clause-exactly g c = inline_exactly
