use Rattle.std.proofs.Common.{◌≡◌, ◌∙◌, ◌+◌, sym, ap, arith, true, false, drop}
use Rattle.std.proofs.lemmas.List.{drop_all}
use Rattle.mv_meaning.specs.Meaning.{Tried, tried_labels}
use Rattle.mv_meaning.specs.Arms.{has_label, all_labels, first_arm}
use Rattle.mv_interpret.proofs.LabelTests.{with_work, nothing_counted, counted_both, found_tried, passed_tried, picked_index, passed_index, found_first}
use Rattle.mv_interpret.proofs.arms.first_arm.Goals as goal

pub returns-then-try_labels-clause-index : goal.returns-then-try_labels-clause-index
returns-then-try_labels-clause-index c =
    let a = c.args in
    let l = c.loop-i in
    let items = c.as_slice-arm-items.result.now in
    let here : (tried_labels a.value c.arm-item.result.labels).found ≡ true =
    sym (c.try_labels.ensures.found ∙ ap (λ ls. (tried_labels a.value ls).found) c.as_slice.ensures) ∙ c.if-try_labels.true in
    let all_found : (tried_labels a.value (all_labels items)).found ≡ true =
    sym l.invariant.found ∙ ap (λ (t : Tried). t.found) (found_tried a.value items l.i c.arm-item.result c.loop-i-test.true c.arm-item.is here) in
    sym (picked_index a.value items l.i c.arm-item.result c.loop-i-test.true c.arm-item.is (has_label a.value) here) ∙
    (l.invariant.index ∙ (found_first a.value items all_found ∙ ap (first_arm a.value) c.as_slice-arm-items.ensures))

pub returns-then-try_labels-clause-counted : goal.returns-then-try_labels-clause-counted
returns-then-try_labels-clause-counted c =
    let a = c.args in
    let l = c.loop-i in
    let items = c.as_slice-arm-items.result.now in
    let here : (tried_labels a.value c.arm-item.result.labels).found ≡ true =
    sym (c.try_labels.ensures.found ∙ ap (λ ls. (tried_labels a.value ls).found) c.as_slice.ensures) ∙ c.if-try_labels.true in
    c.try_labels.ensures.counted ∙
    (ap (λ ls. with_work l.state (tried_labels a.value ls).labels) c.as_slice.ensures ∙
    (sym (ap (λ (t : Tried). with_work l.state t.labels) (found_tried a.value items l.i c.arm-item.result c.loop-i-test.true c.arm-item.is here)) ∙
    (l.invariant.counted ∙ ap (λ x. with_work a.state.now (tried_labels a.value (all_labels x)).labels) c.as_slice-arm-items.ensures)))

pub loop-i-preserved : goal.loop-i-preserved
loop-i-preserved c =
    let a = c.args in
    let l = c.loop-i in
    let items = c.as_slice-arm-items.result.now in
    let arm = c.arm-item.result in
    let s1 = c.try_labels.new.state in
    let passed : (tried_labels a.value arm.labels).found ≡ false =
    sym (c.try_labels.ensures.found ∙ ap (λ ls. (tried_labels a.value ls).found) c.as_slice.ensures) ∙ c.if-try_labels.false in
    let counts : s1 ≡ with_work l.state (tried_labels a.value arm.labels).labels =
    c.try_labels.ensures.counted ∙ ap (λ ls. with_work l.state (tried_labels a.value ls).labels) c.as_slice.ensures in
    let work = ap (λ s. s.work) counts in
    let tried = passed_tried a.value items l.i arm c.loop-i-test.true c.arm-item.is passed in
    record {
      in_range = omega (arith, work);
      index = passed_index a.value items l.i arm c.loop-i-test.true c.arm-item.is (has_label a.value) passed ∙ l.invariant.index;
      found = sym (ap (λ (t : Tried). t.found) tried) ∙ l.invariant.found;
      counted =
          counted_both l.state s1 _ (tried_labels a.value (all_labels (drop (l.i + 1) items))).labels counts ∙
          (sym (ap (λ (t : Tried). with_work l.state t.labels) tried) ∙ l.invariant.counted);
    }

pub returns-clause-counted : goal.returns-clause-counted
returns-clause-counted c =
    let a = c.args in
    let l = c.loop-i in
    let items = c.as_slice-arm-items.result.now in
    let none : (tried_labels a.value (all_labels (drop l.i items))).labels ≡ 0 =
    ap (λ x. (tried_labels a.value (all_labels x)).labels) (drop_all l.i items (omega arith)) in
    nothing_counted l.state _ l.invariant.in_range none ∙
    (l.invariant.counted ∙ ap (λ x. with_work a.state.now (tried_labels a.value (all_labels x)).labels) c.as_slice-arm-items.ensures)
