use Rattle.std.proofs.Common.{refl, ◌∙◌}
use Rattle.mv_probe.proofs.Logs.{told_nothing}
use Rattle.mv_top.proofs.Counting.{cut_by}
use Rattle.mv_top.proofs.Generating.{runs_so, shown_so, unmade_so}
use Rattle.mv_top.proofs.generate.generate_program.Goals as goal

pub returns-in-Ok-clause-does : goal.returns-in-Ok-clause-does
returns-in-Ok-clause-does g c input =
    shown_so _ _ _ c.args.number c.args.source c.as_slice.result.now c.write_text.result c.if-source.true (c.as_slice.ensures.value ∙ c.in-Ok.ensures)
    (told_nothing _ _ c.args.probes.now.items c.requires) refl (c.write_text.ensures.writes input _)

pub returns-in-Ok-2-clause-does : goal.returns-in-Ok-2-clause-does
returns-in-Ok-2-clause-does g c input = runs_so _ _ _ c.args.number c.args.source c.run_generated.result c.if-source.false (c.run_generated.ensures.does input)

pub returns-in-Err-clause-does : goal.returns-in-Err-clause-does
returns-in-Err-clause-does g c input = unmade_so _ _ c.args.number c.args.source (told_nothing _ _ c.args.probes.now.items c.requires)

pub returns-in-Ok-clause-count : goal.returns-in-Ok-clause-count
returns-in-Ok-clause-count g c = cut_by c.write_text.result _ _ c.write_text.ensures.count
