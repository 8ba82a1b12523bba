use Rattle.std.proofs.Common.{◌∙◌, ap, take}
use Rattle.mv_parts.specs.Switches.{words_of}
use Rattle.mv_parts.proofs.PartSwitches.{first_fit, words_are}
use Rattle.mv_parts.proofs.switches.word_of.Goals as goal

pub words_of-requires : goal.words_of-requires
words_of-requires c = rw c.as_slice.ensures (first_fit c.args.program.now c.requires.few c.args.global)

pub returns : goal.returns
returns c = c.words_of.ensures ∙ ap (λ gs. words_of (take c.args.global gs)) c.as_slice.ensures ∙ words_are c.args.program.now c.args.global
