use Rattle.mv_variants.proofs.OfBound.Meant.{ready_kept}
use Rattle.mv_variants.proofs.Tidied.{ready_general}
use Rattle.mv_variants.proofs.general.shorter.Goals as goal

pub rename-requires-clause-whole : goal.rename-requires-clause-whole
rename-requires-clause-whole c = (ready_kept c.args.shorts.now c.args.body.now c.in_ok-ready.ready c.in_ok-ready.ensures).whole c.requires.whole

pub rename-requires-clause-has_temps : goal.rename-requires-clause-has_temps
rename-requires-clause-has_temps c = (ready_kept c.args.shorts.now c.args.body.now c.in_ok-ready.ready c.in_ok-ready.ensures).has_temps c.requires.formed.temps

pub returns-then-fits_frame : goal.returns-then-fits_frame
returns-then-fits_frame c =
    ready_general c.args.shorts.now c.args.body.now c.in_ok-ready.ready c.in_ok-made.made c.requires.words c.requires.small c.in_ok-ready.ensures c.in_ok-made.ensures
    (c.fits_frame.ensures c.if-fits_frame.true)
