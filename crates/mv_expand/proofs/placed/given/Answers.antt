use Rattle.std.proofs.Common.{sym, ap, ◌∙◌, ◌<◌, length, get_or, arith}
use Rattle.mv_ast.specs.Flags.{is_set}
use Rattle.mv_expand.proofs.Stepwise.{given_set, given_kept}
use Rattle.mv_expand.proofs.placed.given.Goals as goal
use Rattle.mv_expand.proofs.placed.given.Goals.{then-not-is_kept+in_ok-copy_tree+in_ok-push, else-not-is_kept}

pub loop-i-preserved : goal.loop-i-preserved
loop-i-preserved c =
    let keeps = is_set c.args.keeps.now in
    let args = c.args.args.now in
    let i = c.loop-i.i in
    let lt : i < length args = omega (arith, ap (λ l. length l) c.as_slice-items.ensures, c.loop-i-test.true) in
    elim c.if-not-is_kept.branch [
      | then-not-is_kept+in_ok-copy_tree+in_ok-push w ↦
          let a = w.index-items-i.result in
          given_set c.args.base keeps args args i a w.in_ok-copy_tree.field-0 c.loop-i.code c.if-not-is_kept.code lt
          (w.index-items-i.is ∙ ap (λ l. get_or l i a) c.as_slice-items.ensures) (sym c.is_kept.ensures ∙ w.if-not-is_kept.true) w.in_ok-copy_tree.ensures c.loop-i.invariant
          (w.code-is ∙ w.in_ok-push.ensures.ok)
      | else-not-is_kept w ↦
          w.code-is ∙ given_kept c.args.base keeps args args i c.loop-i.code lt (sym c.is_kept.ensures ∙ w.if-not-is_kept.false) c.loop-i.invariant
    ]
