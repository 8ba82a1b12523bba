use Rattle.std.proofs.Common.{◌≤◌, All, sym, ap, ◌∙◌, subst, arith}
use Rattle.mv_select_code.specs.declared.control.emitter.Emitter.{Emitter}
use Rattle.mv_select_code.specs.declared.control.layout.Layout.{Layout}
use Rattle.mv_select_code.specs.Control.Layouts.{IsInFrame}
use Rattle.mv_select.specs.Functions.FunctionCode.{frame_bytes, led}
use Rattle.mv_select.proofs.Layouts.{arrays_within}
use Rattle.mv_select.proofs.Selecting.{labels_fit, over_same, shape_with, shaped, put_together, selected}
use Rattle.mv_select.proofs.Within.{has_small_code}
use Rattle.mv_select.proofs.selection.written.Goals as goal

pub push_entry-requires-clause-bytes : goal.push_entry-requires-clause-bytes
push_entry-requires-clause-bytes c = c.requires.bytes ∙ ap (frame_bytes c.args.body.now.temps) (sym c.as_slice.ensures)

pub push_return-requires-clause-bytes : goal.push_return-requires-clause-bytes
push_return-requires-clause-bytes c = c.requires.bytes ∙ ap (frame_bytes c.args.body.now.temps) (sym c.as_slice.ensures)

pub push_statements-requires-clause-arrays : goal.push_statements-requires-clause-arrays
push_statements-requires-clause-arrays c =
    let fits = subst (λ n. n ≤ 2032) c.requires.bytes c.requires.few in
    subst (λ (y : Layout). All IsInFrame y.arrays) (sym c.in_ok-layout.ensures) (arrays_within c.args.attributed c.args.body.now fits)

pub push_statements-requires-clause-small : goal.push_statements-requires-clause-small
push_statements-requires-clause-small c =
    let fits = subst (λ n. n ≤ 2032) c.requires.bytes c.requires.few in
    (has_small_code c.args.attributed c.args.body.now c.requires.suitable fits).1

pub push_statements-requires-clause-labels : goal.push_statements-requires-clause-labels
push_statements-requires-clause-labels c =
    let body = c.args.body.now in
    let same = over_same c.args.attributed body c.in_ok-layout.layout c.in_ok-layout.layout.keeping c.as_slice-4.result.now c.as_slice-3.result.now c.as_slice-5.result.now c.in_ok-layout.ensures
    (ap (λ (y : Layout). y.keeping) c.in_ok-layout.ensures) (c.as_slice-4.ensures ∙ ap (λ (y : Layout). y.pins) c.in_ok-layout.ensures) c.as_slice-3.ensures c.as_slice-5.ensures in
    let few = labels_fit c.args.attributed body c.requires.suitable in
    omega (arith, c.new-emitter.ensures.free, few, ap (λ e. e.labels) same)

-- the code of the parts, in order
pub returns : goal.returns
returns c =
    let attributed = c.args.attributed in
    let body = c.args.body.now in
    let layout = c.in_ok-layout.layout in
    let fits = subst (λ n. n ≤ 2032) c.requires.bytes c.requires.few in
    let of_keeping = ap (λ (y : Layout). y.keeping) c.in_ok-layout.ensures in
    let of_pins = ap (λ (y : Layout). y.pins) c.in_ok-layout.ensures in
    let same = over_same attributed body layout layout.keeping c.as_slice-4.result.now c.as_slice-3.result.now c.as_slice-5.result.now c.in_ok-layout.ensures of_keeping (c.as_slice-4.ensures ∙ of_pins) c.as_slice-3.ensures
    c.as_slice-5.ensures in
    let shape = shaped attributed body layout.keeping c.as_slice.result.now c.as_slice-2.result.now of_keeping c.as_slice.ensures (c.as_slice-2.ensures ∙ of_pins) in
    let done = c.in_ok-push_statements.ensures in
    let items = put_together attributed body (shape_with attributed layout.keeping body c.as_slice.result.now c.as_slice-2.result.now) c.new-emitter.result.free c.new-emitter.result.around _ c.new-emitter.result.lines
    c.push_entry.new.code c.push_statements.new.emitter.lines c.push.new.self c.push_return.new.code shape c.new-emitter.ensures.free c.new-emitter.ensures.around same c.new-emitter.ensures.lines
    c.in_ok-push_entry.ensures (ap (λ (e : Emitter). e.lines) done) c.in_ok-push.ensures.ok c.in_ok-push_return.ensures in
    let free = ap (λ (e : Emitter). e.free) done in
    selected attributed body c.requires.suitable fits _ (c.in_ok-led.ensures ∙ ap led items) (omega (arith, free, c.new-emitter.ensures.free, ap (λ e. e.labels) same))
