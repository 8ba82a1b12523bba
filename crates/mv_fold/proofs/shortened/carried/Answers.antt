use Rattle.std.proofs.Common.{arith, ◌≡◌, ◌+◌, ◌-◌, ◌≤◌, [], ◌∷◌, ◌++◌, length, get_or, take, Some, None, sym, ◌∙◌, ap}
use Rattle.mv_fold.specs.Shortened.{as_one, carried}
use Rattle.mv_fold.proofs.Ends.{end_as_one, end_stays, short_stays}
use Rattle.mv_fold.proofs.shortened.carried.Goals as goal

pub loop-alloc-preserved : goal.loop-alloc-preserved
loop-alloc-preserved c =
    let temps = c.args.temps in
    let items = c.loop-alloc.stms.items in
    let n = c.len-first.result - 2 in
    let many : length items ≡ n + 2 = omega (arith, c.loop-alloc.stms.ok.0, c.len.ensures, c.len-first.ensures, c.loop-alloc-test.true) in
    let one : as_one temps (get_or items n c.index.result.now) (get_or items (n + 1) c.index-in-loop-alloc.result.now) ≡ Some c.in-Some.stm =
    ap (λ s. as_one temps s (get_or items (n + 1) c.index-in-loop-alloc.result.now)) (sym c.index.ensures) ∙ ap (as_one temps c.index.result.now) (sym c.index-in-loop-alloc.ensures) ∙
    sym c.in_ok-stm.ensures ∙ c.in-Some.is
    in
    let pushed : c.push.new.self.items ≡ take n items ++ c.in-Some.stm ∷ [] = c.in_ok-push-in-Some.ensures.items ∙ ap (λ l. l ++ c.in-Some.stm ∷ []) c.truncate.ensures.items in
    ap (carried temps) pushed ∙ end_as_one temps items n c.index.result.now c.index-in-loop-alloc.result.now c.in-Some.stm many one ∙ c.loop-alloc.invariant

pub returns-in-None : goal.returns-in-None
returns-in-None c =
    let temps = c.args.temps in
    let items = c.loop-alloc.stms.items in
    let n = c.len-first.result - 2 in
    let many : length items ≡ n + 2 = omega (arith, c.loop-alloc.stms.ok.0, c.len.ensures, c.len-first.ensures, c.loop-alloc-test.true) in
    let none : as_one temps (get_or items n c.index.result.now) (get_or items (n + 1) c.index-in-loop-alloc.result.now) ≡ None =
    ap (λ s. as_one temps s (get_or items (n + 1) c.index-in-loop-alloc.result.now)) (sym c.index.ensures) ∙ ap (as_one temps c.index.result.now) (sym c.index-in-loop-alloc.ensures) ∙
    sym c.in_ok-stm.ensures ∙ c.in-None.is
    in
    c.from_vec.ensures ∙ sym (end_stays temps items n c.index.result.now c.index-in-loop-alloc.result.now many none) ∙ c.loop-alloc.invariant

pub returns : goal.returns
returns c =
    let short : length c.loop-alloc.stms.items ≤ 1 = omega (arith, c.loop-alloc.stms.ok.0, c.len.ensures, c.loop-alloc-test.false) in
    c.from_vec-2.ensures ∙ sym (short_stays c.args.temps c.loop-alloc.stms.items short) ∙ c.loop-alloc.invariant
