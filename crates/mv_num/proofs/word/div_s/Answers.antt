use Rattle.std.proofs.Common.{rules, FitsSigned, arith}
use Rattle.std.specs.Int.{w32}
use Rattle.std.proofs.lemmas.Int.{to_z-of_z}
use Rattle.mv_num.proofs.Signed.{div_s_cast}
use Rattle.mv_num.proofs.word.div_s.Goals as goal

pub returns : goal.returns
returns c =
    let fx : FitsSigned w32 c.cast_signed.result = search rules in
    let fy : FitsSigned w32 c.cast_signed-2.result = search rules in
    let fq : FitsSigned w32 c.wrapping_div.result = search rules in
    let ex = to_z-of_z w32 c.cast_signed.result fx in
    let ey = to_z-of_z w32 c.cast_signed-2.result fy in
    let eq = to_z-of_z w32 c.wrapping_div.result fq in
    let e = div_s_cast c.args.a c.args.b (omega arith) (omega arith) in
    cc
