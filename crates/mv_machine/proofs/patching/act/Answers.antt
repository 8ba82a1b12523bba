use Rattle.mv_bindings.specs.declared.action.Action.TheVariants.{Skip, Flip}
use Rattle.mv_probe.proofs.Logs.{told_nothing}
use Rattle.mv_machine.specs.Moves.{seen}
use Rattle.mv_machine.proofs.Orders.{acts, skips}
use Rattle.mv_machine.proofs.patching.act.Goals as goal

pub returns-in-Skip-clause-moves : goal.returns-in-Skip-clause-moves
returns-in-Skip-clause-moves g c = λ actions left written.
    acts (seen c.args.engine.now actions left written) (seen c.refuse.new.engine actions left written) _ _ Skip c.in-Skip.is
    (skips c.args.engine.now c.refuse.new.engine left written _ actions (told_nothing _ _ c.args.probes.now.items c.requires) (c.refuse.ensures.does actions))

pub returns-in-Flip-clause-moves : goal.returns-in-Flip-clause-moves
returns-in-Flip-clause-moves g c = λ actions left written.
    acts (seen c.args.engine.now actions left written) (seen c.flip.new.engine actions left written) _ _ (Flip c.in-Flip.switch c.in-Flip.value) c.in-Flip.is (c.flip.ensures.moves actions left written)
