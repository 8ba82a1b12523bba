use Rattle.mv_lexer.specs.Reading as spec
use Rattle.mv_lexer.proofs.evaluation.evaluate_string.Goals as goal

pub returns-in-Ok : goal.returns-in-Ok
returns-in-Ok c = spec.string c.in-Ok.values c.in-Ok.ensures
