use Rattle.mv_refine_images.proofs.OfPrograms.OpenHosts.{hosts_narrowed, main_openly}
use Rattle.mv_refine_images.proofs.programs.programs_keep_openly.Goals as goal

pub returns-clause-narrowed : goal.returns-clause-narrowed
returns-clause-narrowed g c = hosts_narrowed _ c.fit_worlds_law.ensures.told c.fit_worlds_law.ensures.knowns c.narrow_runs_law.ensures.alike c.narrow_runs_law.ensures.runs

pub returns-clause-main : goal.returns-clause-main
returns-clause-main g c =
    main_openly _ c.fit_worlds_law.ensures.told c.fit_worlds_law.ensures.first c.narrow_runs_law.ensures.alike
    (hosts_narrowed _ c.fit_worlds_law.ensures.told c.fit_worlds_law.ensures.knowns c.narrow_runs_law.ensures.alike c.narrow_runs_law.ensures.runs) c.programs_keep.ensures.main
