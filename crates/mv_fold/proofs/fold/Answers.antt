use Rattle.mv_fold.proofs.BodyFolded.{body_is_folded}
use Rattle.mv_fold.proofs.fold.Goals as goal

pub returns : goal.returns
returns c = body_is_folded c.args.body.now _ _ _ _ _ c.in_ok-copied.ensures c.in_ok-folded_code.ensures c.in_ok-copied-2.ensures c.in_ok-copied-3.ensures c.in_ok-copied-4.ensures
