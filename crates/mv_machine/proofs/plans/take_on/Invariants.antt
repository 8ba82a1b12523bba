use Rattle.std.proofs.Common.{◌≡◌, length, take}
use Rattle.mv_machine.proofs.plans.take_on.Given as goal

abbrev pub invariant-loop-place : goal.invariant-loop-place
invariant-loop-place l = record {
  count : length l.bindings ≡ length l.new;
  done : take l.place l.bindings ≡ take l.place l.new;
}
