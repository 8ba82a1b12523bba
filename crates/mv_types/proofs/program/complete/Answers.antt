use Rattle.std.proofs.Common.{◌∙◌, ap, sym}
use Rattle.mv_types.specs.Units.{program_or_broken, program_judgement}
use Rattle.mv_types.proofs.program.complete.Goals as goal

pub returns-in-Some : goal.returns-in-Some
unfolding program_judgement
returns-in-Some c = record { shown = ap (program_or_broken c.args.place c.args.pointers c.args.contents) (sym c.main_of.ensures ∙ c.in-Some.is) }
