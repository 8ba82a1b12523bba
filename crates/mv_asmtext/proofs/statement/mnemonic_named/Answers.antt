use Rattle.std.proofs.Common.{arith}
use Rattle.std.proofs.lemmas.Bool.Decides.{nat_tests}
use Rattle.std.specs.Str.{bytes_eq}
use Rattle.mv_asmtext.specs.Mnemonics.{name_of, mnemonics, mnemonic_named}
use Rattle.mv_asmtext.proofs.Turns.{find_turn}
use Rattle.mv_asmtext.proofs.statement.mnemonic_named.Goals as goal

pub loop-index-preserved : goal.loop-index-preserved
loop-index-preserved c =
    let e = find_turn (λ m. bytes_eq (name_of m) c.args.word.now) mnemonics c.loop-index.index c.mnemonic_at-mnemonic.result (omega arith) c.mnemonic_at-mnemonic.ensures in
    grind (arith, nat_tests)

pub returns-then-eq : goal.returns-then-eq
unfolding mnemonic_named
returns-then-eq c =
    let e = find_turn (λ m. bytes_eq (name_of m) c.args.word.now) mnemonics c.loop-index.index c.mnemonic_at-mnemonic.result (omega arith) c.mnemonic_at-mnemonic.ensures in
    grind (arith, nat_tests)
