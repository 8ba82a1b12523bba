use Rattle.mv_accepts_programs.proofs.Whole.{unit_formed}
use Rattle.mv_accepts_programs.proofs.checked_programs_are_well_formed.Goals as goal

pub returns : goal.returns
returns c u p q none small =
    unit_formed (record {
      fit = c.good_parameters_fit.ensures;
      grow = c.good_bodies_are_typed.ensures.grows;
      parameters = c.good_definitions_are_well_formed.ensures.parameters;
      formed = c.good_definitions_are_well_formed.ensures.formed;
      own = c.own_switches_are_named.ensures;
      known = c.functions_have_their_numbers.ensures.known;
      scope = c.good_units_are_sound.ensures;
      defined = c.functions_have_their_numbers.ensures.defined;
      attributed = c.functions_have_their_numbers.ensures.attributed;
      switches = c.objects_have_their_numbers.ensures.switches;
      pointers = c.objects_have_their_numbers.ensures.pointers;
      globals = c.good_globals_are_formed.ensures;
      kept = c.good_first_values_are_typed.ensures.objects;
      given = c.good_first_values_are_typed.ensures.globals;
      main = c.main_is_typed.ensures;
      unmarked = c.main_is_unmarked.ensures;
      limits = c.unreported_programs_are_within_limits.ensures;
    }) u p q none small
