use Rattle.std.proofs.Common.{ℕ, ◌+◌, ◌*◌, ◌/◌, ◌%◌, [], List, ◌++◌, false, get_or, length, slice_index, refl, ap, ◌∙◌, arith}
use Rattle.mv_bindings.specs.declared.binding.Binding.{Binding}
use Rattle.mv_image.specs.Jumps.{bound_words}
use Rattle.mv_image.specs.Patched.{at_point, target_under, pointer_number}
use Rattle.mv_patch.specs.declared.prepared.Pair.{Pair}
use Rattle.mv_patch.specs.Orders.{bound_values, values_of}
use Rattle.mv_patch.specs.Tables.{point_words}
use Rattle.mv_patch.proofs.Next.{point_at_word}
use Rattle.mv_patch.proofs.Words.{point_told, bound_behind, point_change}
use Rattle.mv_patch.proofs.changes.push_point_word.Goals as goal

pub returns-clause-items : goal.returns-clause-items
returns-clause-items c r =
    let image = c.args.image.now in
    let point = c.point_at-point.result in
    let row = c.point_at-point.ensures.there in
    let j : ℕ = c.args.word % 4 in
    let a : ℕ = point.address + 4 * j in
    let q : ℕ = pointer_number image point.pointer in
    let w : ℕ = c.text_word-word.result in
    let none : Binding = record { bound = false; count = 0; values = [] } in
    let first = c.len.ensures ∙ ap length c.functions.ensures in
    let some = c.args.before.bound.now in
    let other = c.args.after.bound.now in
    let old = point_told image point j w c.at_point.result (target_under image (bound_values (get_or some (c.len.result + point.pointer) none))) c.bound_target-old.result (omega arith)
    c.bound_target-old.ensures c.at_point.ensures.none (λ e is. c.at_point.ensures.some e is ∙ ap (λ (k : ℕ). slice_index (bound_words k point.address e) j) c.check-check.ensures) in
    let new = point_told image point j w c.at_point-2.result (target_under image (bound_values (get_or other (c.len.result + point.pointer) none))) c.bound_target-new.result (omega arith)
    c.bound_target-new.ensures c.at_point-2.ensures.none (λ e is. c.at_point-2.ensures.some e is ∙ ap (λ (k : ℕ). slice_index (bound_words k point.address e) j) c.check-check.ensures) in
    c.push_change.ensures.items
    ∙ ap (λ (ps : List Pair). c.args.pairs.now.items ++ ps)
    (point_change image r (c.args.word / 4) j point row (omega arith) (values_of some) (values_of other) a w c.at_point.result c.at_point-2.result (get_or (point_words image.points) c.args.word 0) refl
    (point_at_word image.points c.args.word point row) c.text_word-word.ensures
    (old ∙ ap (at_point image point a w) (bound_behind image some point.pointer c.len.result none first c.requires.before.count c.point_at-point.ensures.pointer))
    (new ∙ ap (at_point image point a w) (bound_behind image other point.pointer c.len.result none first c.requires.after.count c.point_at-point.ensures.pointer)))
