use Rattle.std.proofs.Common.{false, sym, subst, ◌∙◌}
use Rattle.std.proofs.lemmas.Result.{IfOk-weaker}
use Rattle.mv_expand.specs.Expanded.{IsExpanded}
use Rattle.mv_expand.specs.Expanding.{Expands}
use Rattle.mv_expand.proofs.Whole.{expanded_is, stays_so}
use Rattle.mv_expand.proofs.expand.Goals as goal

pub returns-then-is_small : goal.returns-then-is_small
returns-then-is_small c =
    let shorts = c.args.shorts.now in
    let body = c.args.body.now in
    IfOk-weaker c.with_code.result _ _ (λ made e.
    subst (IsExpanded shorts body) (sym e)
    (expanded_is shorts body c.in_ok-code.code c.requires.well_formed c.requires.short c.in_ok-code.ensures (c.is_small.ensures c.if-is_small.true))) c.with_code.ensures

pub returns : goal.returns
returns c =
    let code = c.in_ok-code-2 in
    let body = c.args.body.now in
    IfOk-weaker c.with_code-2.result _ _ (λ made e.
    stays_so c.args.shorts.now 0 body made code.code (subst (λ l. Expands l 0 false body.code code.code) (c.as_slice.ensures ∙ c.new-none.ensures) code.ensures) e)
    c.with_code-2.ensures
