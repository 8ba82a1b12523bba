use Rattle.std.proofs.Common.{arith}
use Rattle.std.proofs.lemmas.Bool.Decides.{nat_tests}
use Rattle.mv_asmtext.specs.Registers.{register_named}
use Rattle.mv_asmtext.proofs.Turns.{register_turn}
use Rattle.mv_asmtext.proofs.register.register_named.Goals as goal

pub loop-index-preserved : goal.loop-index-preserved
loop-index-preserved c =
    let e = register_turn c.args.word.now c.name.result.now c.loop-index.index (omega arith) c.name.ensures in
    grind (arith, nat_tests)

pub returns-then-eq : goal.returns-then-eq
unfolding register_named
returns-then-eq c =
    let e = register_turn c.args.word.now c.name.result.now c.loop-index.index (omega arith) c.name.ensures in
    grind (arith, nat_tests)
