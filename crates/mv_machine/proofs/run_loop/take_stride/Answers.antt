use Rattle.mv_machine.proofs.run_loop.take_stride.Goals as goal

pub returns-then-places : goal.returns-then-places
returns-then-places g c = rw c.if-places.true c.go_on_noting.ensures

pub returns-else-places : goal.returns-else-places
returns-else-places g c = rw c.if-places.false (c.go_on.ensures c.args.floor c.args.place.now)
