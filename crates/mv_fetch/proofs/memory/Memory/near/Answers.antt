use Rattle.std.proofs.Common.{◌≡◌, ◌≤◌, ◌∙◌, length, sym, subst}
use Rattle.mv_num.specs.Regions.{data_limit, stack_words}
use Rattle.mv_fetch.specs.Held.{Room}
use Rattle.mv_fetch.proofs.Places.{near_stack, near_globals, if_some}
use Rattle.mv_fetch.proofs.memory.Memory.near.Goals as goal

pub returns-in-Some : goal.returns-in-Some
returns-in-Some c =
    let at = c.words_above.ensures in
    let whole = subst (λ (v : Room). length v.held.stack ≡ stack_words) c.self.view_is c.self.invariant.stack in
    near_stack c.args.self.now.held c.args.address c.args.width c.words_above.result c.in-Some.word whole at.here at.elsewhere (sym c.in-Some.ensures)

pub returns : goal.returns
returns c =
    let at = c.words_above-2.ensures in
    let short = subst (λ (v : Room). length v.held.globals ≤ data_limit) c.self.view_is c.self.invariant.globals in
    if_some c.word-2.result _ (λ w e. near_globals c.args.self.now.held c.args.address c.args.width c.words_above-2.result w short at.here at.elsewhere (sym c.word-2.ensures ∙ e))
