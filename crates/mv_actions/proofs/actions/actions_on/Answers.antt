use Rattle.std.proofs.Common.{◌≡◌, ◌+◌, ◌-◌, ◌++◌, length, drop, take, sym, ap, ◌∙◌, subst, rules}
use Rattle.std.specs.Prelude.{replicate}
use Rattle.std.proofs.lemmas.List.{append-nil, drop_all}
use Rattle.std.proofs.lemmas.Result.{err_from_is_err_and}
use Rattle.mv_command.specs.Items.{Ascend}
use Rattle.mv_bindings.specs.declared.action.Action.TheVariants.{Skip}
use Rattle.mv_actions.specs.Operator.{actions_from, wrong_item}
use Rattle.mv_actions.proofs.Acting.{next_item, acting, right_more, none_wrong, first_wrong}
use Rattle.mv_actions.proofs.actions.actions_on.Goals as goal

pub returns-in_default-clause-refused : goal.returns-in_default-clause-refused
returns-in_default-clause-refused c =
    let wrong = first_wrong c.args.switches.now c.as_slice-item-items.result.now c.loop-item.item-index c.item-item.result c.loop-item-test.true c.item-item.is c.loop-item.invariant.right (sym c.in_default.ensures) in
    (c.loop-item.item-index, ap (wrong_item c.args.switches.now) (sym c.as_slice-item-items.ensures) ∙ wrong, ap (λ n. n + 1) c.loop-item.invariant.counted)

pub returns-in_err-resize-clause-refused : goal.returns-in_err-resize-clause-refused
returns-in_err-resize-clause-refused c = let p = err_from_is_err_and c.from_residual.result c.from_residual.ensures.1 in rw (p.1, p.2) tt

pub returns-in_err-push-clause-refused : goal.returns-in_err-push-clause-refused
returns-in_err-push-clause-refused c = let p = err_from_is_err_and c.from_residual-in_err-push.result c.from_residual-in_err-push.ensures.1 in rw (p.1, p.2) tt

pub returns-clause-ok : goal.returns-clause-ok
returns-clause-ok c =
    let switches = c.args.switches.now in
    let items = c.as_slice-item-items.result.now in
    let right = none_wrong switches items c.loop-item.item-index c.loop-item-test.false c.loop-item.invariant.right in
    record {
      right = ap (wrong_item switches) (sym c.as_slice-item-items.ensures) ∙ right;
      are = sym (append-nil c.loop-item.actions.items) ∙ ap (λ l. c.loop-item.actions.items ++ actions_from switches (length c.loop-item.actions.items) l) (sym (drop_all c.loop-item.item-index items c.loop-item-test.false)) ∙
          sym c.loop-item.invariant.spelled ∙ ap (actions_from switches 0) c.as_slice-item-items.ensures;
    }

pub loop-item-preserved : goal.loop-item-preserved
loop-item-preserved c =
    let switches = c.args.switches.now in
    let items = c.as_slice-item-items.result.now in
    let does = sym c.in-Some.ensures in
    let long : c.loop-item.actions.len ≡ length c.loop-item.actions.items = search rules in
    let skips : c.resize.new.self.items ≡ take (c.item-item.result.poll - 1) c.loop-item.actions.items ++ replicate (c.item-item.result.poll - 1 - length c.loop-item.actions.items) Skip =
    c.in_ok-resize.ensures.items ∙ ap (λ n. take (c.item-item.result.poll - 1) c.loop-item.actions.items ++ replicate (c.item-item.result.poll - 1 - n) Skip) long in
    let next = next_item (length c.loop-item.actions.items) items c.loop-item.item-index c.item-item.result c.loop-item-test.true c.item-item.is c.loop-item.invariant.ascend in
    let now = acting switches items (actions_from switches 0 items) c.loop-item.actions.items c.resize.new.self.items c.push.new.self.items c.loop-item.item-index c.item-item.result c.in-Some.flip
    c.loop-item-test.true c.item-item.is does next.0 c.loop-item.invariant.spelled skips c.in_ok-push.ensures.items in
    record {
      counted = ap (λ n. n + 1) c.loop-item.invariant.counted;
      ascend = subst (λ n. Ascend n (drop (c.loop-item.item-index + 1) items)) (sym now.0) next.1;
      spelled = now.1;
      right = right_more switches items c.loop-item.item-index c.item-item.result c.in-Some.flip c.loop-item.invariant.right c.loop-item-test.true c.item-item.is does;
    }
