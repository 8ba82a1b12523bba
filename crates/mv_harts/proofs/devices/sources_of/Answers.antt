use Rattle.std.proofs.Common.{◌∙◌, refl}
use Rattle.mv_harts.proofs.Runs.{no_sources, sources_more}
use Rattle.mv_harts.proofs.devices.sources_of.Goals as goal

pub loop-hart-init : goal.loop-hart-init
loop-hart-init c = c.new-sources.ensures.items ∙ no_sources

pub loop-hart-preserved : goal.loop-hart-preserved
loop-hart-preserved c = sources_more c.loop-hart.hart _ c.loop-hart.sources.items c.push.new.self.items c.loop-hart.invariant refl c.in_ok-push.ensures.items
