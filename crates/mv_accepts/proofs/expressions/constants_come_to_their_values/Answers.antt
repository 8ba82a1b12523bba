use Rattle.mv_accepts.proofs.OfExpressions.Computed.{comes}
use Rattle.mv_accepts.proofs.expressions.constants_come_to_their_values.Goals as goal

pub returns : goal.returns
returns c = comes
