use Rattle.mv_lower_spec.proofs.OfShape.Lowering.{lowering_right}
use Rattle.mv_lower_spec.proofs.shape.lowering_is_right.Goals as goal

pub returns : goal.returns
returns c = λ p formed.
    let forms = c.lowered_forms_are_right.ensures in
    lowering_right c.functions_are_right.ensures c.programs_are_right.ensures forms.shallow forms.whole forms.well_formed forms.calls forms.reads forms.small p formed
