use Rattle.std.proofs.Common.{◌∙◌, ap}
use Rattle.std.specs.Option.{is_some}
use Rattle.mv_check_outline.specs.Names.{is_among, names_of}
use Rattle.mv_check_outline.proofs.Places.{has_place}
use Rattle.mv_check_outline.proofs.names.Names.has.Goals as goal

pub returns : goal.returns
returns c =
    let name = c.args.name.now in
    let names = names_of c.self.inside.names.items in
    c.contains_key.ensures ∙ (ap is_some (c.self.invariant name) ∙ (has_place name names ∙ ap (is_among name) c.self.view_is))
