use Rattle.mv_accepts.proofs.OfExpressions.Sound.{value_is, effect_is}
use Rattle.mv_accepts.proofs.expressions.good_expressions_are_typed.Goals as goal

pub returns-clause-value : goal.returns-clause-value
returns-clause-value c p f scope node e fits = value_is p f scope fits node e

pub returns-clause-effect : goal.returns-clause-effect
returns-clause-effect c p f scope node e fits = effect_is p f scope fits node e
