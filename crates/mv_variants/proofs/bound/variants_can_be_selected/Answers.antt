use Rattle.mv_variants.proofs.OfBound.Variants.{made_names, made_calls, made_in_program, made_frames}
use Rattle.mv_variants.proofs.bound.variants_can_be_selected.Goals as goal

pub returns-clause-names : goal.returns-clause-names
returns-clause-names c = made_names

pub returns-clause-calls : goal.returns-clause-calls
returns-clause-calls c = made_calls

pub returns-clause-selected : goal.returns-clause-selected
returns-clause-selected c = made_in_program

pub returns-clause-frames : goal.returns-clause-frames
returns-clause-frames c = made_frames
