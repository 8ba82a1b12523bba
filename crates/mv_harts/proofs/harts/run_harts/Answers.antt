use Rattle.mv_harts.proofs.Ran.{are_bytes, bytes_told, ended, is_ready}
use Rattle.mv_harts.proofs.harts.run_harts.Goals as goal

pub run-requires-clause-fitting : goal.run-requires-clause-fitting
run-requires-clause-fitting g c =
    is_ready c.args.built.now.program c.args.built.now.image c.args.actions.now (bytes_told (λ s. g.I.Source.left s) c.args.sources.now.items) c.fitting_law.ensures.fitting c.fitting_law.ensures.actions c.requires.sound
    (are_bytes (λ s. g.I.Source.left s) c.args.sources.now.items c.requires.told) c.are_of_words.ensures c.requires.fit

pub returns : goal.returns
returns g c = record {
  ran = ended c.args.built.now.program c.args.built.now.image c.args.actions.now _ c.args.schedule.now _ c.harts_mean.ensures.means c.fitting_law.ensures.actions c.requires.sound
      (are_bytes (λ s. g.I.Source.left s) c.args.sources.now.items c.requires.told) c.are_of_words.ensures c.requires.fit _ c.in_ok-group.group c.requires.some c.in_ok-group.ensures c.ends_of.result
      c.ends_of.ensures.harts c.ends_of.ensures.commits;
}
