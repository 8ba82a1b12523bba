use Rattle.std.proofs.Common.{List, [], ◌++◌, sym, ap, ◌∙◌, arith, append-nil}
use Rattle.mv_bindings.specs.declared.binding.Event.{Event}
use Rattle.mv_machine.proofs.Logged.{added}
use Rattle.mv_machine.proofs.Telling.{told_none, told_next, told_all}
use Rattle.mv_machine.proofs.logging.push_changes.Goals as goal

pub loop-place-init : goal.loop-place-init
loop-place-init c = record { sofar = []; pushed = sym (append-nil c.args.events.now); told = told_none c.args.old.now c.args.new.now }

pub loop-place-preserved : goal.loop-place-preserved
loop-place-preserved c =
    let i = c.loop-place.invariant in
    record {
      sofar = i.sofar ++ _;
      pushed = added c.args.events.now c.loop-place.events i.sofar _ _ i.pushed c.in_ok-push_change.ensures;
      told = told_next c.args.old.now c.args.new.now c.loop-place.place i.sofar _ _ (omega (arith, c.loop-place-test.true, c.requires.count)) c.loop-place-test.true i.told;
    }

pub returns : goal.returns
returns c =
    let i = c.loop-place.invariant in
    i.pushed ∙ ap (λ (es : List Event). c.args.events.now ++ es) (told_all c.args.old.now c.args.new.now c.loop-place.place i.sofar (omega (arith, c.loop-place-test.false)) i.told)
