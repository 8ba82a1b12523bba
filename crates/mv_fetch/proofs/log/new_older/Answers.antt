use Rattle.std.proofs.Common.{◌∙◌, length, arith}
use Rattle.mv_fetch.proofs.Links.{leads, newest_number}
use Rattle.mv_fetch.proofs.Numbers.{few}
use Rattle.mv_fetch.proofs.log.new_older.Goals as goal

pub overflow_add-result : goal.overflow_add-result
overflow_add-result c =
    let number = c.number_until.ensures ∙ newest_number c.args.ends.now c.args.log.now c.args.index c.requires.linked c.requires.within in
    let most = few c.args.index c.args.log.now in
    omega (arith, number, most, c.requires.room)

pub returns-clause-number : goal.returns-clause-number
returns-clause-number c =
    let number = c.number_until.ensures ∙ newest_number c.args.ends.now c.args.log.now c.args.index c.requires.linked c.requires.within in
    omega (arith, number)

pub returns-clause-farther : goal.returns-clause-farther
returns-clause-farther c =
    let log = c.args.log.now in
    c.farther.ensures c.args.index (leads log (length log) c.args.index _ (c.requires.linked.newest c.args.index c.requires.within))
