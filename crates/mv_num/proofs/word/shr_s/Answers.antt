use Rattle.std.proofs.Common.{rules, FitsSigned, arith}
use Rattle.std.specs.Int.{w32}
use Rattle.std.proofs.lemmas.Int.{to_z-of_z}
use Rattle.mv_num.proofs.Signed.{shr_s_is}
use Rattle.mv_num.proofs.word.shr_s.Goals as goal

pub returns : goal.returns
returns c =
    let fx : FitsSigned w32 c.cast_signed.result = search rules in
    let fq : FitsSigned w32 c.wrapping_shr.result = search rules in
    let ex = to_z-of_z w32 c.cast_signed.result fx in
    let eq = to_z-of_z w32 c.wrapping_shr.result fq in
    let e = shr_s_is c.args.a c.args.b (omega arith) in
    cc
