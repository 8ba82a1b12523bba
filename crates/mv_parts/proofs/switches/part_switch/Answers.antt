use Rattle.std.proofs.Common.{◌∙◌, ap, length, get_or, refl}
use Rattle.std.proofs.lemmas.Option.{slice_get_read}
use Rattle.mv_parts.proofs.PartSwitches.{global_there, is_part}
use Rattle.mv_parts.proofs.switches.part_switch.Goals as goal

pub word_of-requires-clause-there : goal.word_of-requires-clause-there
word_of-requires-clause-there c = global_there c.args.program.now c.requires.has c.args.number c.args.switch.now c.requires.there

pub returns : goal.returns
returns c =
    let p = c.args.program.now in
    let s = c.args.switch.now in
    let g = c.index-as_slice-switch.result in
    let below = global_there p c.requires.has c.args.number s c.requires.there in
    let here = slice_get_read p.globals (length p.globals) s.global g refl below (c.index-as_slice-switch.is ∙ ap (λ xs. get_or xs s.global g) c.as_slice.ensures) in
    is_part p c.args.number s c.requires.there g here c.in_ok-new.field-0 c.word_of.result c.switch_kind.result c.in_ok-copied.field-0 (c.in_ok-new.ensures ∙ c.bytes.ensures)
    c.word_of.ensures c.switch_kind.ensures c.in_ok-copied.ensures
