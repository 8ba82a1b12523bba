use Rattle.std.proofs.Common.{◌≡◌, length, arith}
use Rattle.std.proofs.lemmas.Bool.Decides.{nat_tests}
use Rattle.mv_fetch.proofs.Links.{no_end}
use Rattle.mv_fetch.proofs.log.is_stored.Goals as goal

pub returns-then-is_empty : goal.returns-then-is_empty
returns-then-is_empty c =
    let empty : length c.args.log.now ≡ 0 = grind (arith, nat_tests) in
    let none = no_end c.args.ends.now c.args.log.now c.args.index c.requires empty in
    grind (arith, nat_tests, none)
