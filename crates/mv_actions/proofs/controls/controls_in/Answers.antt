use Rattle.std.proofs.Common.{Some, ◌≡◌, ◌∷◌, [], List, ◌++◌, length, sym, ap, ap₂, ◌∙◌}
use Rattle.std.proofs.lemmas.List.{length-append}
use Rattle.std.proofs.lemmas.Slice.Zip.{zip_turn, zip_end}
use Rattle.mv_actions.specs.declared.controls.Control.{Control}
use Rattle.mv_actions.specs.Controls.{switch_of}
use Rattle.mv_actions.proofs.Rows.{first_rows, one_more, all_rows}
use Rattle.mv_actions.proofs.controls.controls_in.Goals as goal

pub loop-name-preserved : goal.loop-name-preserved
loop-name-preserved c =
    let names = c.args.image.now.names in
    let rows = c.args.image.now.switches in
    let yielded = c.loop-name.yielded in
    let first : c.into_iter-name-iterator.result.a.rest.now ≡ names = cc in
    let second : c.into_iter-name-iterator.result.b.rest.now ≡ rows = cc c.zip-name-items.ensures.second.0 in
    let turn = zip_turn names rows yielded c.into_iter-name-iterator.result c.loop-name.name-iterator c.next.new.self c.next.result first second c.loop-name.yielded_by (c.in-Some.name, c.in-Some.row) c.in-Some.is c.next.ensures.steps in
    let made : c.in_ok-switch_of.field-0 ≡ switch_of c.in-Some.name.now (Some c.in-Some.row.now.kind) = c.in_ok-switch_of.ensures ∙ ap (λ n. switch_of n (Some c.in-Some.row.now.kind)) c.bytes.ensures in
    c.in_ok-push.ensures.items ∙ ap₂ (λ (l : List Control) (x : Control). l ++ x ∷ []) c.loop-name.invariant made ∙
    sym (one_more names rows (length yielded) c.in-Some.name.now c.in-Some.row.now turn.0 turn.1 (turn.2 c.in-Some.name.now) (turn.3 c.in-Some.row.now)) ∙
    ap (first_rows names rows) (sym (length-append yielded ((c.in-Some.name, c.in-Some.row) ∷ [])))

pub returns : goal.returns
returns c =
    let names = c.args.image.now.names in
    let rows = c.args.image.now.switches in
    let first : c.into_iter-name-iterator.result.a.rest.now ≡ names = cc in
    let second : c.into_iter-name-iterator.result.b.rest.now ≡ rows = cc c.zip-name-items.ensures.second.0 in
    let over = zip_end names rows c.loop-name.yielded c.into_iter-name-iterator.result c.loop-name.name-iterator c.next.new.self c.next.result first second c.loop-name.yielded_by c.in-None.is c.next.ensures.steps in
    c.loop-name.invariant ∙ all_rows names rows (length c.loop-name.yielded) over
