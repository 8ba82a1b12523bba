use Rattle.mv_accepts.proofs.OfBodies.Jumps.{jumps_hold}
use Rattle.mv_accepts.proofs.OfBodies.Labels.{labels_hold}
use Rattle.mv_accepts.proofs.OfBodies.KnownStatements.{calls_hold}
use Rattle.mv_accepts.proofs.OfBodies.NamedStatements.{names_hold}
use Rattle.mv_accepts.proofs.bodies.good_bodies_are_well_formed.Goals as goal

pub returns : goal.returns
returns c p own f body before after ss q signatures locals has fits shaped =
    let typed = c.good_expressions_are_typed.ensures in
    let names = names_hold p own f typed.value typed.effect has body before after ss q signatures locals fits shaped in
    record {
      shaped = names.0;
      named = names.1;
      jumps = jumps_hold p f body before after ss q signatures locals fits;
      labels = labels_hold p f body before after ss q signatures locals fits;
      known = calls_hold p own f body before after ss q signatures locals fits shaped;
    }
