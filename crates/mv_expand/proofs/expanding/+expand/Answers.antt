use Rattle.std.proofs.Common.{◌≡◌, ◌++◌, length, take, arith, ap, subst, ◌∙◌}
use Rattle.std.specs.Prelude.{IfSome}
use Rattle.std.proofs.lemmas.List.{take_all}
use Rattle.mv_expand.specs.Expanding.{test_unless}
use Rattle.mv_expand.specs.Walking.{IsPlacedCall}
use Rattle.mv_expand.proofs.Walked.{next_placed, with_test, without_test, walk_ends}
use Rattle.mv_expand.proofs.expanding.+expand.Goals as goal
use Rattle.mv_expand.proofs.expanding.+expand.Goals.{expand_next-then-not-tested+in_ok-push-in-Some, expand_next-else-not-tested}

pub expand_code-returns : goal.expand_code-returns
expand_code-returns t c =
    let code = c.args.code.now in
    let i = c.loop-stm.stm-index in
    let all : take i code ≡ code = take_all i code (omega (arith, ap (λ l. length l) c.as_slice-stm-items.ensures, c.loop-stm-test.false)) in
    walk_ends c.args.shorts.now c.args.base c.args.tested c.loop-stm.tested code (take i code) c.loop-stm.made all c.loop-stm.invariant

pub expand_next-returns-in_ok-append-in-Some : goal.expand_next-returns-in_ok-append-in-Some
expand_next-returns-in_ok-append-in-Some t c =
    let shorts = c.args.shorts.now in
    let base = c.args.base in
    let before = c.args.made.now in
    let placed : IsPlacedCall shorts base c.args.stm.now c.in-Some.code = subst (λ o. IfSome o (IsPlacedCall shorts base c.args.stm.now)) c.in-Some.is c.in_ok-code.ensures in
    let tests : c.if-not-tested.made ≡ before ++ test_unless c.args.tested =
    elim c.if-not-tested.branch [
      | expand_next-then-not-tested+in_ok-push-in-Some w ↦
          with_test shorts base c.args.tested w.new.result before c.if-not-tested.made w.new.ensures w.if-not-tested.true (w.made-is ∙ w.in_ok-push-in-Some.ensures.ok)
      | expand_next-else-not-tested w ↦ without_test shorts base c.args.tested before c.if-not-tested.made w.if-not-tested.false w.made-is
    ]
    in
    next_placed shorts base c.args.tested c.args.stm.now before c.if-not-tested.made c.in-Some.code c.append.new.self placed tests c.in_ok-append-in-Some.ensures.ok
