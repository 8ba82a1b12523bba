use Rattle.mv_types.specs.Objects.{object_judgement}
use Rattle.mv_types.proofs.objects.declare.Goals as goal

pub returns : goal.returns
unfolding object_judgement
returns c = rw c.find_here-before.ensures at c.declare_behind.ensures
