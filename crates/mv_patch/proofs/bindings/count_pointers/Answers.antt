use Rattle.std.proofs.Common.{ℕ, ◌+◌, ◌<◌, ◌&&◌, [], false, length, cond, get_or, sym, ap, ◌∙◌, arith}
use Rattle.std.proofs.lemmas.Option.{slice_get-get_or}
use Rattle.mv_bindings.specs.declared.binding.Binding.{Binding}
use Rattle.mv_descriptors.specs.declared.rows.PointerRow.{PointerRow}
use Rattle.mv_patch.specs.Orders.{code_of, index_of, is_pointer_ordered, pointer_bindings}
use Rattle.mv_patch.proofs.Rebinding.{one_counted, behind_others}
use Rattle.mv_patch.proofs.bindings.count_pointers.Goals as goal
use Rattle.mv_num.proofs.Booleans.{one_or_none}

pub overflow_add-count : goal.overflow_add-count
overflow_add-count c =
    let l = c.loop-number in
    let no_row : PointerRow = record { length = 0; address = 0 } in
    let none : Binding = record { bound = false; count = 0; values = [] } in
    let image = c.args.image.now in
    let end = c.len-number-end.ensures ∙ ap length c.pointers.ensures in
    let addressed = is_pointer_ordered image (code_of c.args.order) (index_of c.args.order) in
    let row = get_or image.pointers l.number no_row in
    let counted = c.one_if_pointed-count.ensures image row (sym (c.len-switches.ensures ∙ ap length c.switches.ensures)) in
    let one = one_or_none (addressed l.number row && (get_or c.args.bound.now (c.len-first.result + l.number) none).bound) in
    omega (arith, l.invariant.few, end, c.loop-number-test.true, c.within_limits.ensures.pointers, counted, one)

pub loop-number-preserved : goal.loop-number-preserved
loop-number-preserved c =
    let l = c.loop-number in
    let no_row : PointerRow = record { length = 0; address = 0 } in
    let none : Binding = record { bound = false; count = 0; values = [] } in
    let image = c.args.image.now in
    let first = c.len-first.ensures ∙ ap length c.functions.ensures in
    let end = c.len-number-end.ensures ∙ ap length c.pointers.ensures in
    let within : l.number < length image.pointers = omega (arith, end, c.loop-number-test.true) in
    let there : length image.functions + l.number < length c.args.bound.now = omega (arith, within, c.requires) in
    let addressed = is_pointer_ordered image (code_of c.args.order) (index_of c.args.order) in
    let row = get_or image.pointers l.number no_row in
    let counted = c.one_if_pointed-count.ensures image row (sym (c.len-switches.ensures ∙ ap length c.switches.ensures)) in
    let one = one_or_none (addressed l.number row && (get_or c.args.bound.now (c.len-first.result + l.number) none).bound) in
    let few = l.invariant.few in
    record {
      few = omega (arith, one, few, counted);
      rest =
          one_counted addressed image.pointers (pointer_bindings image c.args.bound.now) l.number l.count c.one_if_pointed-count.result row (get_or c.args.bound.now (length image.functions + l.number) none)
          (slice_get-get_or image.pointers l.number no_row within) (behind_others (length image.functions) l.number c.args.bound.now none there)
          (counted ∙ ap (λ (k : ℕ). cond (addressed l.number row && (get_or c.args.bound.now (k + l.number) none).bound) 1 0) first)
          ∙ l.invariant.rest;
    }
