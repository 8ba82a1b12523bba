use Rattle.std.proofs.lemmas.Bool.{false≢true}
use Rattle.std.proofs.lemmas.Int.{to_z-of_z}
use Rattle.std.proofs.lemmas.Str.Pattern.{split_parts}
use Rattle.std.specs.Int.{w64}
use Rattle.std.proofs.Common.{lit<, ap, ◌∙◌, sym}
use Rattle.std.specs.Prelude.{Some, None}
use Rattle.mv_command.specs.Items.{is_name}
use Rattle.mv_command.proofs.ItemTexts.{poll_cut, name_cut, item_is, value_fits}
use Rattle.mv_command.proofs.items.parts_of.Goals as goal

pub returns-in_err-poll : goal.returns-in_err-poll
returns-in_err-poll c = rw c.from_residual.ensures (λ item fits e. poll_cut c.args.text.now item None fits e c.in_err-poll.ensures.cases)

pub returns-in_err-name : goal.returns-in_err-name
returns-in_err-name c = rw c.from_residual-in_err-name.ensures (λ item fits e.
    let front = poll_cut c.args.text.now item (Some (c.in_ok-poll.poll, c.in_ok-poll.flip)) fits e c.in_ok-poll.ensures.cases in
    name_cut c.in_ok-poll.flip.now item None fits front.1 c.in_err-name.ensures.cases)

pub returns-in_err-poll-2 : goal.returns-in_err-poll-2
returns-in_err-poll-2 c = rw c.from_residual-in_err-poll-2.ensures (λ item fits e.
    let front = poll_cut c.args.text.now item (Some (c.in_ok-poll.poll, c.in_ok-poll.flip)) fits e c.in_ok-poll.ensures.cases in
    c.in_err-poll-2.ensures item.poll fits.poll (c.as_bytes.ensures.value ∙ front.0))

pub returns-in_err-value : goal.returns-in_err-value
returns-in_err-value c = rw c.from_residual-in_err-value.ensures (λ item fits e.
    let front = poll_cut c.args.text.now item (Some (c.in_ok-poll.poll, c.in_ok-poll.flip)) fits e c.in_ok-poll.ensures.cases in
    let back = name_cut c.in_ok-poll.flip.now item (Some (c.in_ok-name.name, c.in_ok-name.value)) fits front.1 c.in_ok-name.ensures.cases in
    c.in_err-value.ensures item.value fits.value (c.as_bytes-2.ensures.value ∙ back.1))

pub returns-then-not-is_name : goal.returns-then-not-is_name
returns-then-not-is_name c = λ item fits e.
    let front = poll_cut c.args.text.now item (Some (c.in_ok-poll.poll, c.in_ok-poll.flip)) fits e c.in_ok-poll.ensures.cases in
    let back = name_cut c.in_ok-poll.flip.now item (Some (c.in_ok-name.name, c.in_ok-name.value)) fits front.1 c.in_ok-name.ensures.cases in
    false≢true (sym c.if-not-is_name.true ∙ c.is_name.ensures ∙ ap is_name (c.as_bytes-3.ensures.value ∙ back.0) ∙ fits.name)

pub returns : goal.returns
returns c =
    let front = split_parts 58 c.args.text.now (Some (c.in_ok-poll.poll, c.in_ok-poll.flip)) c.in_ok-poll.ensures.cases (lit< tt) in
    let back = split_parts 61 c.in_ok-poll.flip.now (Some (c.in_ok-name.name, c.in_ok-name.value)) c.in_ok-name.ensures.cases (lit< tt) in
    item_is c.args.text.now c.in_ok-poll.poll.now c.in_ok-poll.flip.now c.in_ok-name.name.now c.in_ok-name.value.now c.in_ok-poll-2.poll c.in_ok-value.value _
    (to_z-of_z w64 c.in_ok-value.value (value_fits c.in_ok-value.value c.in_ok-value.ensures.0)) c.in_ok-value.ensures.0 c.in_ok-poll-2.ensures.0
    (ap is_name (sym c.as_bytes-3.ensures.value) ∙ sym c.is_name.ensures ∙ c.if-not-is_name.false) front.0 back.0 (sym c.as_bytes.ensures.value ∙ c.in_ok-poll-2.ensures.1) (sym c.as_bytes-2.ensures.value ∙ c.in_ok-value.ensures.1)
