use Rattle.mv_variants.proofs.OfBound.Meant.{made, made_of_lowered}
use Rattle.mv_variants.proofs.OfBound.RenamedForm.{renaming_keeps_form}
use Rattle.mv_variants.proofs.bound.made_bodies_are_variants.Goals as goal

pub returns-clause-all : goal.returns-clause-all
returns-clause-all c = made

pub returns-clause-lowered : goal.returns-clause-lowered
returns-clause-lowered c = made_of_lowered

pub returns-clause-form : goal.returns-clause-form
returns-clause-form c = renaming_keeps_form
