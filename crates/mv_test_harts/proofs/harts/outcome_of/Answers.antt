use Rattle.mv_test_harts.proofs.harts.outcome_of.Goals as goal

pub outcome_of_built-outcome-requires : goal.outcome_of_built-outcome-requires
outcome_of_built-outcome-requires g = g.built_programs_are_runnable.ensures g.as_bytes.result.now g.in-Ok.built g.in-Ok.ensures.built g.keeps_rules.ensures
