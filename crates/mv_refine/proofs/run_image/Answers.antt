use Rattle.std.proofs.Common.{refl, sym, subst}
use Rattle.std.specs.Prelude.{All, IsTrue}
use Rattle.std.proofs.lemmas.Result.{err_from_is_err_and}
use Rattle.mv_image.specs.Spelling.{Fields}
use Rattle.mv_machine.specs.Actions.{fits_rows}
use Rattle.mv_probe.proofs.Logs.{told_nothing}
use Rattle.mv_refine.proofs.Ran.{made, image_of, unless_fresh}
use Rattle.mv_refine.proofs.run_image.Goals as goal

pub run-report-requires-clause-fit : goal.run-report-requires-clause-fit
run-report-requires-clause-fit g c =
    let image = c.args.image.now in
    subst (λ (i : Fields). All (λ action. IsTrue (fits_rows i.switches action)) c.args.actions.now)
    (sym (image_of c.in_ok-machine.machine image c.in_ok-machine.ensures)) c.requires.fit

pub returns-in_err-machine-clause-runs : goal.returns-in_err-machine-clause-runs
returns-in_err-machine-clause-runs g c =
    let p = err_from_is_err_and c.from_residual.result c.from_residual.ensures.1 in rw p.1 (refl, told_nothing _ _ c.args.probes.now.items c.requires.patient)

pub returns-clause-runs : goal.returns-clause-runs
returns-clause-runs g c =
    let fresh = c.in_ok-machine.ensures in
    let report = c.run-report.result in
    let r = unless_fresh c.in_ok-machine.machine _ _ fresh c.run-report.ensures.runs in
    (r.0, r.1, made c.args.image.now c.args.actions.now _ _ c.args.steps report.stopped report.executed c.args.places report.departed _ c.in_ok-machine.machine c.run-report.new.self fresh r.2)
