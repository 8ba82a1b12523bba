use Rattle.std.proofs.Common.{List, take, drop}
use Rattle.mv_ir.specs.declared.stm.Stm.{Stm}
use Rattle.mv_arms.specs.Arms.{Nests}
use Rattle.mv_arms.specs.Walking.{Becomes}
use Rattle.mv_arms.proofs.walk.+arms.Given as goal

abbrev pub invariant-arms_code-loop-stm : goal.invariant-arms_code-loop-stm
invariant-arms_code-loop-stm l = Becomes l.temps l.levels (take l.stm-index l.code) l.made

abbrev pub invariant-arms_switch-loop-i : goal.invariant-arms_switch-loop-i
invariant-arms_switch-loop-i l = (all : List Stm) → Nests l.temps l.levels l.made (drop l.i l.code) all → Nests l.temps l.levels l.fn.tests (drop 1 l.code) all
