use Rattle.std.proofs.Common.{◌≡◌, ◌++◌, drop}
use Rattle.mv_list.specs.Bindings.{held_text}
use Rattle.mv_list.proofs.bound.push_held.Given as goal

abbrev pub invariant-loop-switch : goal.invariant-loop-switch
invariant-loop-switch l = (l.i ≡ l.switch-index) × (l.out.items ++ held_text l.image l.binding l.i (drop l.switch-index l.switches) ≡ l.initial.out.items ++ held_text l.image l.binding 0 l.switches)
