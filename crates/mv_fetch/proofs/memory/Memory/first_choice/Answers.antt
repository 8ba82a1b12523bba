use Rattle.std.proofs.Common.{◌≤◌, ◌∙◌, length, subst}
use Rattle.mv_num.specs.Regions.{text_limit}
use Rattle.mv_fetch.specs.Held.{Room}
use Rattle.mv_fetch.proofs.Places.{first_choice_at}
use Rattle.mv_fetch.proofs.memory.Memory.first_choice.Goals as goal

pub returns : goal.returns
returns c =
    let at = c.words_above.ensures in
    let short = subst (λ (v : Room). length v.held.text ≤ text_limit) c.self.view_is c.self.invariant.text in
    c.word.ensures ∙ first_choice_at c.args.self.now.held c.args.address c.words_above.result short at.here at.elsewhere
