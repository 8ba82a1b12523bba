use Rattle.std.proofs.Common.{◌≡◌, arith, sym, ◌∙◌}
use Rattle.mv_isa.specs.Formats.{funct3_of}
use Rattle.mv_harts_one.specs.Seats.{store_as}
use Rattle.mv_harts_one.proofs.Words.{no_store, byte_store, half_store, word_store, other_width}
use Rattle.mv_harts_one.proofs.store.store_at.Goals as goal

pub returns-then-opcode-ne-OPCODE : goal.returns-then-opcode-ne-OPCODE
returns-then-opcode-ne-OPCODE c = no_store c.args.word c.args.hart.now.regs c.ranges.word.fits (λ o. c.if-opcode-ne-OPCODE.true (c.opcode.ensures ∙ o))

pub returns-in-0 : goal.returns-in-0
returns-in-0 c = byte_store c.args.word c.args.hart.now.regs (sym c.opcode.ensures ∙ c.if-opcode-ne-OPCODE.false) (store_as c.stored.result) (sym c.funct3.ensures ∙ c.in-0.is) c.stored.ensures

pub returns-in-1 : goal.returns-in-1
returns-in-1 c = half_store c.args.word c.args.hart.now.regs (sym c.opcode.ensures ∙ c.if-opcode-ne-OPCODE.false) (store_as c.stored-in-1.result) (sym c.funct3.ensures ∙ c.in-1.is) c.stored-in-1.ensures

pub returns-in-2 : goal.returns-in-2
returns-in-2 c = word_store c.args.word c.args.hart.now.regs (sym c.opcode.ensures ∙ c.if-opcode-ne-OPCODE.false) (store_as c.stored-in-2.result) (sym c.funct3.ensures ∙ c.in-2.is) c.stored-in-2.ensures

pub returns-in_default : goal.returns-in_default
returns-in_default c =
    let at : c.funct3.result ≡ funct3_of c.args.word = c.funct3.ensures in
    other_width c.args.word c.args.hart.now.regs (sym c.opcode.ensures ∙ c.if-opcode-ne-OPCODE.false) (λ e. omega (arith, at, e)) (λ e. omega (arith, at, e)) (λ e. omega (arith, at, e))
