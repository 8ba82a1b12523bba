use Rattle.std.proofs.Common.{◌≤◌, ◌-◌, true}
use Rattle.mv_machine.specs.Moves.{GoOn}
use Rattle.mv_machine.proofs.run_loop.go_on_noting.Given as goal

abbrev pub invariant-loop-left : goal.invariant-loop-left
invariant-loop-left g l =
    let was = l.initial.oracle in
    let is = l.oracle in
    record {
      few : l.left ≤ l.steps;
      goes : GoOn true l.floor (l.steps - l.left) l.initial.hart l.hart l.initial.memory l.memory
          ((goal.FetchOracle-dyn g (was.vtable, was.value)).way was.value)
          ((goal.FetchOracle-dyn g (is.vtable, is.value)).way is.value) l.initial.place l.place;
    }

abbrev pub decreases-loop-left : goal.decreases-loop-left
decreases-loop-left g l = l.left
