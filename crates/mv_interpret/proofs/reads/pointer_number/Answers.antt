use Rattle.std.proofs.Common.{arith}
use Rattle.mv_interpret.proofs.Committing.{length-attributed}
use Rattle.mv_interpret.proofs.reads.pointer_number.Goals as goal

pub place_from-requires : goal.place_from-requires
place_from-requires c =
    let few = length-attributed c.args.program.now.functions in
    rw (c.count_attributed.ensures, c.as_slice.ensures) (omega (arith, few, c.requires))
