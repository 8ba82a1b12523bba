use Rattle.std.proofs.Common.{◌<◌, ◌∙◌, ap, length, get_or, refl, arith}
use Rattle.std.proofs.lemmas.Option.{slice_get_read}
use Rattle.mv_parts.proofs.PartSwitches.{switches_step}
use Rattle.mv_parts.proofs.switches.part_switches.Goals as goal

pub part_switch-requires-clause-there : goal.part_switch-requires-clause-there
part_switch-requires-clause-there c =
    let p = c.args.program.now in
    let items = c.as_slice-switch-items.ensures in
    let below : c.loop-number.number < length p.switches = omega (arith, ap length items) in
    slice_get_read p.switches (length p.switches) c.loop-number.number c.switch-item.result refl below
    (c.switch-item.is ∙ ap (λ xs. get_or xs c.loop-number.number c.switch-item.result) items)

pub loop-number-preserved : goal.loop-number-preserved
loop-number-preserved c =
    let p = c.args.program.now in
    let items = c.as_slice-switch-items.ensures in
    let below : c.loop-number.number < length p.switches = omega (arith, ap length items) in
    let here = c.switch-item.is ∙ ap (λ xs. get_or xs c.loop-number.number c.switch-item.result) items in
    switches_step p c.loop-number.number c.switch-item.result c.loop-number.parts c.push.new.self c.in_ok-part_switch.field-0 below here c.loop-number.invariant c.in_ok-part_switch.ensures
    c.in_ok-push.ensures.ok
