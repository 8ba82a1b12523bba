use Rattle.std.proofs.Common.{ℕ, ◌≡◌, ◌+◌, ◌<◌, ◌≤◌, ◌∷◌, [], ◌++◌, List, true, false, ◌&&◌, cond, length, get_or, drop, sym, ap, ◌∙◌, arith, subst, append-nil}
use Rattle.mv_ast.specs.declared.program.Function.{Function}
use Rattle.mv_ast.specs.Flags.{is_set}
use Rattle.mv_lower_spec.specs.Functions.{marked_from}
use Rattle.mv_lower.proofs.Bodies.{kept_step, marked_next, marked_end}
use Rattle.mv_lower.proofs.function.marked.Goals as goal
use Rattle.mv_lower.proofs.function.marked.Goals.{then-is_marked+in_ok-push, else-is_marked}

pub loop-function-preserved : goal.loop-function-preserved
loop-function-preserved c =
    let i = c.loop-function.function-index in
    let n = c.loop-function.f in
    let x = c.function-item.result in
    let xs = c.args.functions.now in
    let f = is_set c.args.marks.now.called.items in
    let old = c.loop-function.marked in
    let inv = c.loop-function.invariant in
    let below : i < length xs = subst (λ (ys : List Function). i < length ys) c.as_slice-function-items.ensures c.loop-function-test.true in
    let item : x ≡ get_or xs i x = subst (λ (ys : List Function). x ≡ get_or ys i x) c.as_slice-function-items.ensures c.function-item.is in
    let kept : c.if-is_marked.marked ≡ cond (x.attributed && f n) (old ++ n ∷ []) old = elim c.if-is_marked.branch [
      | then-is_marked+in_ok-push w ↦
          let t : (x.attributed && f n) ≡ true = sym c.is_marked.ensures ∙ w.if-is_marked.true in
          (w.marked-is ∙ w.in_ok-push.ensures.ok) ∙ ap (λ b. cond b (old ++ n ∷ []) old) (sym t)
      | else-is_marked w ↦
          let t : (x.attributed && f n) ≡ false = sym c.is_marked.ensures ∙ w.if-is_marked.false in
          w.marked-is ∙ ap (λ b. cond b (old ++ n ∷ []) old) (sym t)
    ] in
    let whole : old ++ marked_from f n (drop i xs) ≡ marked_from f 0 xs = inv.1 in
    let next = ap (λ (r : List ℕ). old ++ r) (sym (marked_next f n xs i x below item)) ∙ whole in (
      omega (arith, inv.0),
      kept_step (x.attributed && f n) n old c.if-is_marked.marked (marked_from f (n + 1) (drop (i + 1) xs)) (marked_from f 0 xs) kept next,
    )

pub returns : goal.returns
returns c =
    let i = c.loop-function.function-index in
    let n = c.loop-function.f in
    let xs = c.args.functions.now in
    let f = is_set c.args.marks.now.called.items in
    let marked = c.loop-function.marked in
    let past : length xs ≤ i = subst (λ (ys : List Function). length ys ≤ i) c.as_slice-function-items.ensures c.loop-function-test.false in
    sym (append-nil marked) ∙ (ap (λ (r : List ℕ). marked ++ r) (sym (marked_end f n xs i past)) ∙ c.loop-function.invariant.1)
