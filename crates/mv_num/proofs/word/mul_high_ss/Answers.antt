use Rattle.std.proofs.Common.{◌∙◌, rules, FitsSigned, arith}
use Rattle.std.specs.Int.{w32}
use Rattle.std.proofs.lemmas.Int.{to_z-of_z}
use Rattle.mv_num.proofs.Signed.{mul_high_ss_is}
use Rattle.mv_num.proofs.word.mul_high_ss.Goals as goal

pub returns : goal.returns
returns c =
    let fx : FitsSigned w32 c.cast_signed.result = search rules in
    let ex = c.from.ensures ∙ to_z-of_z w32 c.cast_signed.result fx ∙ c.cast_signed.ensures in
    let fy : FitsSigned w32 c.cast_signed-2.result = search rules in
    let ey = c.from-2.ensures ∙ to_z-of_z w32 c.cast_signed-2.result fy ∙ c.cast_signed-2.ensures in
    c.cast_unsigned.ensures ∙ mul_high_ss_is c.args.a c.args.b c.from.result c.from-2.result (omega arith) (omega arith) ex ey (search rules) (search rules)
