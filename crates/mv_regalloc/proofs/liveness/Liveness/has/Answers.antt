use Rattle.std.proofs.Common.{sym, ap, ◌∙◌}
use Rattle.mv_ir.specs.Live.{mark_at}
use Rattle.mv_regalloc.specs.LiveBits.{in_word}
use Rattle.mv_regalloc.specs.Shared.{bits_at, numbered, row_of}
use Rattle.mv_regalloc.proofs.SharedSets.{bit_in, bit_out, row_at}
use Rattle.mv_regalloc.proofs.liveness.Liveness.has.Goals as goal

pub returns-then-temp-self : goal.returns-then-temp-self
returns-then-temp-self c =
    let s = c.self.inside in
    let temp = c.args.temp in
    c.is_set.ensures ∙ ap (λ w. in_word w temp) c.word.ensures ∙ sym (bit_in s.temps s.parts c.of-number.result temp c.if-temp-self.true) ∙
    ap (λ k. mark_at (bits_at s.temps s.parts k) temp) c.of-number.ensures ∙
    ap (λ b. mark_at b temp) (row_at s.temps s.parts (numbered s.numbers) c.none-none.result c.none-none.ensures.words c.args.row) ∙
    ap (λ v. mark_at (row_of v c.args.row) temp) c.self.view_is

pub returns-else-temp-self : goal.returns-else-temp-self
returns-else-temp-self c =
    let s = c.self.inside in
    let temp = c.args.temp in
    sym (bit_out s.temps s.parts c.of-number.result temp c.if-temp-self.false) ∙
    ap (λ k. mark_at (bits_at s.temps s.parts k) temp) c.of-number.ensures ∙
    ap (λ b. mark_at b temp) (row_at s.temps s.parts (numbered s.numbers) c.none-none.result c.none-none.ensures.words c.args.row) ∙
    ap (λ v. mark_at (row_of v c.args.row) temp) c.self.view_is
