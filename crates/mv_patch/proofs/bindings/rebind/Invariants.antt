use Rattle.std.proofs.Common.{◌≡◌, ◌+◌, ◌++◌, length, take, drop}
use Rattle.mv_patch.specs.Groups.{IsGroup}
use Rattle.mv_patch.specs.Orders.{code_of, index_of, is_ordered, is_pointer_ordered, pointer_bindings, next_binding, next_pointer, ordered_rows}
use Rattle.mv_patch.proofs.bindings.rebind.Given as goal

abbrev pub invariant-loop-i : goal.invariant-loop-i
invariant-loop-i l = record {
  group : IsGroup l.image l.group;
  function : l.group.function ≡ l.i;
  done :
      let addressed = is_ordered (code_of l.order) (index_of l.order) in
      let next = next_binding l.image l.memory.held (code_of l.order) in
      take l.i l.new ++ ordered_rows addressed next l.i (drop l.i l.image.functions) (drop l.i l.old) ≡ ordered_rows addressed next 0 l.image.functions l.old;
}

abbrev pub invariant-loop-number : goal.invariant-loop-number
invariant-loop-number l = record {
  done :
      let functions = ordered_rows (is_ordered (code_of l.order) (index_of l.order)) (next_binding l.image l.memory.held (code_of l.order)) 0 l.image.functions l.old in
      let addressed = is_pointer_ordered l.image (code_of l.order) (index_of l.order) in
      let next = next_pointer l.image l.memory.held (code_of l.order) in
      let bindings = pointer_bindings l.image l.old in
      take (length l.image.functions + l.number) l.new ++ ordered_rows addressed next l.number (drop l.number l.image.pointers) (drop l.number bindings)
      ≡ functions ++ ordered_rows addressed next 0 l.image.pointers bindings;
}
