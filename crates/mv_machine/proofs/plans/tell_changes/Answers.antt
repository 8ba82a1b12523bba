use Rattle.std.proofs.Common.{[], ◌++◌, length, refl, ap, subst, arith}
use Rattle.mv_probe.specs.Hearing.{hearing, object_at, Becomes}
use Rattle.mv_probe.specs.Fates.{Fates}
use Rattle.mv_probe.proofs.Logs.{told_nothing, told_then, patient_after}
use Rattle.mv_machine.proofs.Telling.{told_none, told_next, told_all}
use Rattle.mv_machine.proofs.plans.tell_changes.Goals as goal

pub loop-place-init : goal.loop-place-init
loop-place-init g c = ([], λ none. refl, told_none c.args.old.now c.args.new.now, told_nothing _ _ c.args.probes.now.items c.requires.patient)

pub tell_change-requires : goal.tell_change-requires
tell_change-requires g c = let i = c.loop-place.invariant in patient_after _ _ i.0 c.args.probes.now.items c.loop-place.probes.items i.3

pub loop-place-preserved : goal.loop-place-preserved
loop-place-preserved g c =
    let i = c.loop-place.invariant in (
      i.0 ++ _,
      λ none. absurd (let e = ap length none in omega (arith, e, c.loop-place-test.true)),
      told_next c.args.old.now c.args.new.now c.loop-place.place i.0 _ _ (omega (arith, c.loop-place-test.true, c.requires.count)) c.loop-place-test.true i.2,
      told_then _ _ i.0 _ c.args.probes.now.items c.loop-place.probes.items c.tell_change.new.probes.items i.3 c.tell_change.ensures,
    )

pub returns-clause-quiet : goal.returns-clause-quiet
returns-clause-quiet g c = c.loop-place.invariant.1

pub returns-clause-told : goal.returns-clause-told
returns-clause-told g c =
    let i = c.loop-place.invariant in
    subst (λ events. Fates (Becomes (λ probe. object_at probe.ptr probe.vtable)
    (λ probe. hearing ((goal.Probe-dyn g (probe.vtable, probe.value)).told probe.value)
    ((goal.Probe-dyn g (probe.vtable, probe.value)).patience probe.value)) events) c.args.probes.now.items c.loop-place.probes.items)
    (told_all c.args.old.now c.args.new.now c.loop-place.place i.0 (omega (arith, c.loop-place-test.false)) i.2) i.3
