use Rattle.std.proofs.Common.{◌∙◌, ap, length, arith}
use Rattle.mv_elf.proofs.ContentSize.{code_there}
use Rattle.mv_elf.proofs.FileLaw.{note_is, with_rules}
use Rattle.mv_elf.proofs.writing.note_of.Goals as goal

pub without_code-requires-clause-room : goal.without_code-requires-clause-room
without_code-requires-clause-room c =
    omega (arith, ap length (c.as_slice.ensures.value ∙ c.in_ok-whole.ensures.bytes_are), code_there c.args.image.now, c.code_size.ensures.value)

pub returns-clause-value : goal.returns-clause-value
returns-clause-value c =
    note_is c.args.image.now c.as_slice.result.now c.code_size.result c.without_code.result (λ v. v.items) (c.as_slice.ensures.value ∙ c.in_ok-whole.ensures.bytes_are) c.code_size.ensures.value c.without_code.ensures

pub returns-clause-rules : goal.returns-clause-rules
returns-clause-rules c = with_rules c.args.image.now c.without_code.result c.in_ok-whole.ensures.rules
