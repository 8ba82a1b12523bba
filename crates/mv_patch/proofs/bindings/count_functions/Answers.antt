use Rattle.std.proofs.Common.{◌<◌, ◌&&◌, [], false, length, get_or, ap, ◌∙◌, arith}
use Rattle.std.proofs.lemmas.Option.{slice_get-get_or}
use Rattle.mv_bindings.specs.declared.binding.Binding.{Binding}
use Rattle.mv_patch.specs.Orders.{code_of, index_of, is_ordered}
use Rattle.mv_patch.proofs.Rebinding.{one_counted}
use Rattle.mv_patch.proofs.bindings.count_functions.Goals as goal
use Rattle.mv_num.proofs.Booleans.{one_or_none}

pub loop-i-preserved : goal.loop-i-preserved
loop-i-preserved c =
    let l = c.loop-i in
    let none : Binding = record { bound = false; count = 0; values = [] } in
    let end = c.len-i-end.ensures ∙ ap length c.functions.ensures in
    let within : l.i < length c.args.bound.now = omega (arith, end, c.loop-i-test.true, c.requires) in
    let addressed = is_ordered (code_of c.args.order) (index_of c.args.order) in
    let one = one_or_none (addressed l.i c.row_at.result.now && (get_or c.args.bound.now l.i none).bound) in
    let few = l.invariant.few in
    record {
      few = omega (arith, one, few, c.one_if_bound-count.ensures);
      rest =
          one_counted addressed c.args.image.now.functions c.args.bound.now l.i l.count c.one_if_bound-count.result c.row_at.result.now (get_or c.args.bound.now l.i none) c.row_at.ensures.there
          (slice_get-get_or c.args.bound.now l.i none within) c.one_if_bound-count.ensures
          ∙ l.invariant.rest;
    }
