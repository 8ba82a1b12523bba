use Rattle.std.proofs.Common.{◌∙◌, rules, FitsSigned, arith}
use Rattle.std.specs.Int.{w32}
use Rattle.std.proofs.lemmas.Int.{to_z-of_z}
use Rattle.mv_num.proofs.Signed.{mul_high_su_is}
use Rattle.mv_num.proofs.word.mul_high_su.Goals as goal

pub returns : goal.returns
returns c =
    let fx : FitsSigned w32 c.cast_signed.result = search rules in
    let ex = c.from.ensures ∙ to_z-of_z w32 c.cast_signed.result fx ∙ c.cast_signed.ensures in
    c.cast_unsigned.ensures ∙ mul_high_su_is c.args.a c.args.b c.from.result c.from-2.result (omega arith) (omega arith) ex c.from-2.ensures (search rules) (search rules)
