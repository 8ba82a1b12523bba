use Rattle.std.proofs.Common.{◌≡◌, ℕ, ◌+◌, ◌<◌, [], ◌++◌, false, length, cond, take, drop, set, get_or, sym, ap, ap₂, ◌∙◌, arith}
use Rattle.std.proofs.lemmas.Option.{slice_get-get_or}
use Rattle.mv_bindings.specs.declared.binding.Binding.{Binding}
use Rattle.mv_descriptors.specs.declared.rows.PointerRow.{PointerRow}
use Rattle.mv_patch.specs.Orders.{code_of, index_of, is_ordered, is_pointer_ordered, pointer_bindings, next_binding, next_pointer, ordered_rows, bindings_ordered}
use Rattle.mv_patch.proofs.Rebinding.{one_bound, all_bound, behind_others}
use Rattle.mv_patch.proofs.bindings.rebind.Goals as goal

pub loop-i-preserved : goal.loop-i-preserved
loop-i-preserved c =
    let l = c.loop-i in
    let none : Binding = record { bound = false; count = 0; values = [] } in
    let addressed = is_ordered (code_of c.args.order) (index_of c.args.order) in
    let next = next_binding c.args.image.now c.args.memory.now.held (code_of c.args.order) in
    let row = c.row_at-row.result.now in
    let b = get_or c.args.old.now l.i none in
    let end = c.len-i-end.ensures ∙ ap length c.functions.ensures in
    let within : l.i < length c.args.old.now = omega (arith, end, c.loop-i-test.true, c.requires.old) in
    let there : l.i < length l.new = omega (arith, end, c.loop-i-test.true, c.requires.new, l.auto.new) in
    let step = l.invariant.function in
    record {
      group = c.next_group-group.ensures.group;
      function = omega (arith, step, c.next_group-group.ensures.function);
      done =
          one_bound addressed next c.args.image.now.functions c.args.old.now l.new l.i l.i row b c.next_binding.result c.row_at-row.ensures.there (slice_get-get_or c.args.old.now l.i none within) there
          (c.next_binding.ensures ∙ ap (λ (n : ℕ). cond (addressed n row) (next n row) b) step)
          ∙ l.invariant.done;
    }

pub loop-number-preserved : goal.loop-number-preserved
loop-number-preserved c =
    let l = c.loop-number in
    let no_row : PointerRow = record { length = 0; address = 0 } in
    let none : Binding = record { bound = false; count = 0; values = [] } in
    let image = c.args.image.now in
    let n : ℕ = length image.functions in
    let addressed = is_pointer_ordered image (code_of c.args.order) (index_of c.args.order) in
    let next = next_pointer image c.args.memory.now.held (code_of c.args.order) in
    let bindings = pointer_bindings image c.args.old.now in
    let row = get_or image.pointers l.number no_row in
    let first = c.len-first.ensures ∙ ap length c.functions-2.ensures in
    let end = c.len-number-end.ensures ∙ ap length c.pointers.ensures in
    let within : l.number < length image.pointers = omega (arith, end, c.loop-number-test.true) in
    let there : n + l.number < length c.args.old.now = omega (arith, within, c.requires.old) in
    let room : n + l.number < length l.new = omega (arith, within, c.requires.new, l.auto.new, c.loop-i.auto.new) in
    let more : n + (l.number + 1) ≡ n + l.number + 1 = omega arith in
    let at : c.len-first.result + l.number ≡ n + l.number = omega (arith, first) in
    record {
      done =
          ap₂ (λ (k i : ℕ). take k (set l.new i c.next_pointer.result) ++ ordered_rows addressed next (l.number + 1) (drop (l.number + 1) image.pointers) (drop (l.number + 1) bindings)) more at
          ∙ one_bound addressed next image.pointers bindings l.new (n + l.number) l.number row (get_or c.args.old.now (n + l.number) none) c.next_pointer.result
          (slice_get-get_or image.pointers l.number no_row within) (behind_others n l.number c.args.old.now none there) room
          (c.next_pointer.ensures no_row ∙ ap (λ (k : ℕ). cond (addressed l.number row) (next l.number row) (get_or c.args.old.now k none)) at)
          ∙ l.invariant.done;
    }

pub returns : goal.returns
unfolding bindings_ordered
returns c =
    let l = c.loop-number in
    let image = c.args.image.now in
    let end = c.len-number-end.ensures ∙ ap length c.pointers.ensures in
    sym (all_bound (is_pointer_ordered image (code_of c.args.order) (index_of c.args.order)) (next_pointer image c.args.memory.now.held (code_of c.args.order)) image.pointers (pointer_bindings image c.args.old.now)
    l.new (length image.functions + l.number) l.number
    (omega (arith, end, c.loop-number-test.false)) (omega (arith, end, c.loop-number-test.false, c.requires.new, l.auto.new, c.loop-i.auto.new)))
    ∙ l.invariant.done
