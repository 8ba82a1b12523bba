use Rattle.std.proofs.Common.{ap, ◌∙◌, sym, subst, map}
use Rattle.std.proofs.lemmas.Bool.{false≢true}
use Rattle.mv_command.specs.Items.{Ascend}
use Rattle.mv_command.proofs.ItemTexts.{same_items, list_pieces, pieces_list}
use Rattle.mv_command.proofs.items.list_of.Goals as goal

pub returns-in_default : goal.returns-in_default
returns-in_default c = λ items list. let none = rw c.in_default.is at c.in_ok-items.ensures in
    none items list.each (list_pieces c.args.text.now items _ (ap (map (λ piece. piece.now)) c.as_slice.ensures.value ∙ c.in_ok-pieces.ensures) list)

pub returns-then-not-ascend : goal.returns-then-not-ascend
returns-then-not-ascend c = λ items list.
    let found = rw c.in-Some.is at c.in_ok-items.ensures in
    let same = same_items c.in-Some.items items found.0 list.each (found.1 ∙ sym (list_pieces c.args.text.now items _ (ap (map (λ piece. piece.now)) c.as_slice.ensures.value ∙ c.in_ok-pieces.ensures) list)) in
    false≢true (sym c.if-not-ascend.true ∙ c.ascend.ensures.1 (subst (Ascend 0) (sym same) list.ascend))

pub returns : goal.returns
returns c =
    let found = rw c.in-Some.is at c.in_ok-items.ensures in
    pieces_list c.args.text.now c.in-Some.items _ (ap (map (λ piece. piece.now)) c.as_slice.ensures.value ∙ c.in_ok-pieces.ensures) found.1 found.0 (c.ascend.ensures.0 c.if-not-ascend.false)
