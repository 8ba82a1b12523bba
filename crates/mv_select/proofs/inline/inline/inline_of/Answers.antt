use Rattle.std.proofs.Common.{sym, ◌∙◌}
use Rattle.mv_select_code.specs.Trees.Rooms.{place_in}
use Rattle.mv_select.proofs.OfInline.Fit.{inline_fits}
use Rattle.mv_select.proofs.inline.inline.inline_of.Goals as goal

pub encode-requires : goal.encode-requires
encode-requires c = (inline_fits (place_in c.args.body.now.rooms) c.args.body.now c.requires c.in-Some.one c.in-Some.two (sym c.pair_of.ensures ∙ c.in-Some.is)).0

pub encode-requires-in-Some : goal.encode-requires-in-Some
encode-requires-in-Some c = (inline_fits (place_in c.args.body.now.rooms) c.args.body.now c.requires c.in-Some.one c.in-Some.two (sym c.pair_of.ensures ∙ c.in-Some.is)).1
