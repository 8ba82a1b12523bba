use Rattle.std.proofs.Common.{sym, ap, ◌∙◌}
use Rattle.mv_regalloc.specs.Parts.{word_of}
use Rattle.mv_regalloc.proofs.PartWords.{none_words}
use Rattle.mv_regalloc.proofs.parts.Parts.none.Goals as goal

pub returns-clause-words : goal.returns-clause-words
returns-clause-words c = λ place. ap (λ l. word_of l 0 place) (sym c.self.view_is) ∙ none_words c.self.inside.parts.items c.self.invariant.are place
