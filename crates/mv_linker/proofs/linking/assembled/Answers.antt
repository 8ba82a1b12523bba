use Rattle.mv_linker.proofs.Images.{joined_fits}
use Rattle.mv_linker.proofs.linking.assembled.Goals as goal

pub place-requires-clause-code : goal.place-requires-clause-code
place-requires-clause-code c = joined_fits c.args.parts.now c.requires.parts c.args.joined.now c.requires.joined
