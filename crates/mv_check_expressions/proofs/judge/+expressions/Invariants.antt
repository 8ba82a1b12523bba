use Rattle.std.proofs.Common.{◌≡◌, ◌++◌, drop}
use Rattle.mv_check_expressions.specs.Judged.{and_then, Good}
use Rattle.mv_check_expressions.specs.Judgements.{judgements}
use Rattle.mv_check_expressions.proofs.judge.+expressions.Given as goal

abbrev pub invariant-judge_all-loop-node : goal.invariant-judge_all-loop-node
invariant-judge_all-loop-node l = record {
  rest : judgements l.scope l.nodes l.used ≡ and_then (judgements l.scope (drop l.node-index l.nodes) l.used) (λ r. Good (l.done ++ r));
}
