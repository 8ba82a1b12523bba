use Rattle.std.proofs.Common.{◌+◌, sym, arith}
use Rattle.std.proofs.lemmas.List.{length-take-le, take_rest}
use Rattle.mv_elf.proofs.writing.without_code.Goals as goal

pub slice_bounds-from_slice-end : goal.slice_bounds-from_slice-end
slice_bounds-from_slice-end c = sym (length-take-le 64 c.args.whole.now (omega (arith, c.requires.room)))

pub returns : goal.returns
returns c = cc (take_rest c.args.whole.now (64 + c.args.code), c.in_ok-note.ensures.items, c.in_ok-extend_from_slice.ensures.items)
