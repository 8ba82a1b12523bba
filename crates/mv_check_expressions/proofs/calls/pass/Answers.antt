use Rattle.std.proofs.Common.{◌≡◌, ◌∷◌, ◌++◌, ◌&&◌, ◌∙◌, ap, length, arith}
use Rattle.std.specs.Vec.Iter.{into_iter_items}
use Rattle.mv_check_expressions.specs.Calls.{passed, all_convert}
use Rattle.mv_check_expressions.proofs.Passing.{none_passed, none_converts}
use Rattle.mv_check_expressions.proofs.calls.pass.Goals as goal

pub loop-arg-preserved-then-params-lt1 : goal.loop-arg-preserved-then-params-lt1
loop-arg-preserved-then-params-lt1 c =
    let at = c.loop-arg in
    let steps : into_iter_items at.arg-iterator ≡ c.in-Some.arg ∷ into_iter_items c.next.new.self = c.in-Some.ensures.steps.0 in
    record {
      values =
          at.invariant.values ∙
          ap (λ xs. at.values ++ xs) (ap (λ xs. passed at.params.now xs) steps ∙ none_passed at.params.now c.in-Some.arg _ c.in-empty.len_below);
      convert =
          at.invariant.convert ∙
          ap (λ b. at.convert && b) (ap (λ xs. all_convert at.params.now xs) steps ∙ none_converts at.params.now c.in-Some.arg _ c.in-empty.len_below);
      counted =
          let was = at.invariant.counted in
          let gone = c.in-Some.ensures.steps.1 in
          let short = ap length steps in
          omega arith;
    }
