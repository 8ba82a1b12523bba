use Rattle.std.proofs.Common.{List, Option, length, sym, ap, subst, ◌∙◌, arith}
use Rattle.mv_bindings.specs.declared.binding.Binding.{Binding}
use Rattle.mv_descriptors.specs.declared.rows.VariantRow.{VariantRow}
use Rattle.mv_patch.specs.Plans.{Prepared, plan_between}
use Rattle.mv_patch.specs.Orders.{code_of, index_of, values_of, answer_after}
use Rattle.mv_patch.specs.Shown.{AreShown}
use Rattle.mv_patch.proofs.Filled.{written_back, bindings_count, planned_is}
use Rattle.mv_patch.proofs.TablePairs.{few_pairs}
use Rattle.mv_patch.proofs.prepared.Plan.fill.Goals as goal

pub find_changes-requires-clause-before : goal.find_changes-requires-clause-before
find_changes-requires-clause-before c =
    let view = ap (λ (p : Prepared). length p.planned.bound) c.self.view_is in
    let before_len = c.self.inside.before.ok.0 in
    let before_size = c.self.invariant.before in
    let shown_size = c.show.ensures.count in
    let first = written_back c.self.inside.before.len c.show.new.shown c.self.inside.before.items (omega (arith, shown_size, view, before_len, before_size, c.requires.into)) in
    record {
      count = c.requires.bound;
      variants = subst (λ (l : List (Option VariantRow)). AreShown c.args.image.now (values_of c.args.bound.now) l) (sym (c.as_slice-3.ensures.value ∙ first)) c.show.ensures;
    }

pub find_changes-requires-clause-after : goal.find_changes-requires-clause-after
find_changes-requires-clause-after c =
    let image = c.args.image.now in
    let new = c.rebind.new.new in
    let size = ap length c.rebind.ensures ∙ bindings_count image c.args.memory.now.held (code_of c.args.order) (index_of c.args.order) c.args.bound.now c.requires.bound in
    let view = ap (λ (p : Prepared). length p.planned.bound) c.self.view_is in
    let bound_len = c.self.inside.bound.ok.0 in
    let after_len = c.self.inside.after.ok.0 in
    let after_size = c.self.invariant.after in
    let then_size = c.show-2.ensures.count in
    let bound = written_back c.self.inside.bound.len new c.self.inside.bound.items (omega (arith, size, view, bound_len, c.requires.into)) in
    let second = written_back c.self.inside.after.len c.show-2.new.shown c.self.inside.after.items (omega (arith, then_size, view, after_len, after_size, c.requires.into)) in
    record {
      count = ap length (c.as_slice-4.ensures.value ∙ bound) ∙ size;
      variants =
          subst (λ (bs : List Binding). AreShown image (values_of bs) c.as_slice-5.result.now) (c.as_slice-2.ensures.value ∙ sym c.as_slice-4.ensures.value)
          (subst (λ (l : List (Option VariantRow)). AreShown image (values_of c.as_slice-2.result.now) l) (sym (c.as_slice-5.ensures.value ∙ second)) c.show-2.ensures);
    }

pub returns-clause-planned : goal.returns-clause-planned
returns-clause-planned c =
    let image = c.args.image.now in
    let old = c.args.bound.now in
    let new = c.rebind.new.new in
    let size = ap length c.rebind.ensures ∙ bindings_count image c.args.memory.now.held (code_of c.args.order) (index_of c.args.order) old c.requires.bound in
    let view = ap (λ (p : Prepared). length p.planned.bound) c.self.view_is in
    let bound_len = c.self.inside.bound.ok.0 in
    let bound = written_back c.self.inside.bound.len new c.self.inside.bound.items (omega (arith, size, view, bound_len, c.requires.into)) in
    planned_is image c.args.memory.now.held old (code_of c.args.order) (index_of c.args.order) c.find_changes.new.pairs.items _ c.answer_to-self-inside.result (bound ∙ c.rebind.ensures)
    (c.find_changes.ensures.items c.entry-entry.ensures.rules ∙ ap (λ (bs : List Binding). plan_between image old bs) c.as_slice-4.ensures.value)
    (c.answer_to-self-inside.ensures ∙ ap (λ (bs : List Binding). answer_after image (code_of c.args.order) (index_of c.args.order) bs) c.as_slice.ensures.value)

pub returns-clause-few : goal.returns-clause-few
returns-clause-few c =
    let image = c.args.image.now in
    let pairs = ap length (c.find_changes.ensures.items c.entry-entry.ensures.rules) in
    let few = few_pairs image c.entry-entry.ensures.rules (values_of c.args.bound.now) (values_of c.as_slice-4.result.now) in
    omega (arith, pairs, few)
