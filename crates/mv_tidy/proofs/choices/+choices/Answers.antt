use Rattle.std.proofs.Common.{arith, reverse, ap, subst, ◌∙◌}
use Rattle.mv_ir.specs.Measures.{stm_size}
use Rattle.mv_regalloc.specs.declared.liveness.Row.TheVariants.{Behind, Saved}
use Rattle.mv_regalloc.specs.Shared.{forgotten, left, row_of, with_saved}
use Rattle.mv_tidy.specs.Choosing as chosen
use Rattle.mv_tidy.specs.ChoosingWalk.{IsPut}
use Rattle.mv_tidy.specs.Walking.{IsGone}
use Rattle.mv_tidy.proofs.ChoosingWalked.{walk_begins, walk_goes, last_less, if_size, loop_size, block_size, if_chosen, loop_chosen, block_chosen, no_sides, choice_passed, plain_passed, block_passed}
use Rattle.mv_tidy.proofs.choices.+choices.Goals as goal

pub choose_code-loop-stm-init : goal.choose_code-loop-stm-init
choose_code-loop-stm-init t c =
    walk_begins c.args.temps c.args.liveness.now c.save.new.self c.args.code c.into_vec-stms.result.items (reverse c.new-kept.result) c.into_vec-stms.ensures
    (ap reverse c.new-kept.ensures) c.in_ok-save.ensures.ok

pub choose_code-choose_next-requires : goal.choose_code-choose_next-requires
choose_code-choose_next-requires t c =
    let w = c.loop-stm.invariant in
    (omega (arith, last_less c.loop-stm.stms.items c.pop.new.self.items c.pop.result c.in-Some.stm c.args.code w.behind c.pop.ensures.items c.in-Some.is w.is, c.decreases), tt)

pub choose_stm-choose_choice-requires : goal.choose_stm-choose_choice-requires
choose_stm-choose_choice-requires t c =
    (omega (arith, ap stm_size c.in-If.is ∙ if_size c.in-If.test c.in-If.a c.in-If.b, c.decreases), tt)

pub choose_stm-choose_loop-requires : goal.choose_stm-choose_loop-requires
choose_stm-choose_loop-requires t c = (omega (arith, ap stm_size c.in-Loop.is ∙ loop_size c.in-Loop.b, c.decreases), tt)

pub choose_stm-choose_block-requires : goal.choose_stm-choose_block-requires
choose_stm-choose_block-requires t c = (omega (arith, ap stm_size c.in-Block.is ∙ block_size c.in-Block.b, c.decreases), tt)

pub choose_next-returns : goal.choose_next-returns
choose_next-returns t c start code w =
    let temps = c.args.temps in
    let now = c.args.liveness.now in
    let becomes = c.in_ok-becomes.becomes in
    let same = c.in_ok-becomes.ensures.live in
    walk_goes temps start code (reverse c.args.kept) (reverse c.in_ok-made.made) c.args.stm becomes now c.leave.new.self w c.in_ok-becomes.ensures.made
    (subst (λ l. IsPut (IsGone temps (row_of l (Saved 0))) (reverse c.args.kept) becomes (reverse c.in_ok-made.made)) same c.in_ok-made.ensures)
    (c.leave.ensures ∙ ap left (c.in_ok-save.ensures.ok ∙ ap (λ l. with_saved l (row_of l (Behind 0))) (c.forget.ensures ∙ ap forgotten same)))

pub choose_stm-returns-in_ok-enter-in_default : goal.choose_stm-returns-in_ok-enter-in_default
choose_stm-returns-in_ok-enter-in_default t c =
    let s = c.args.stm in
    let now = c.args.liveness.now in
    record {
      live = plain_passed now s c.live_stm.new.liveness c.enter.new.self (no_sides s now c.in_default.not-If) c.in_ok-live_stm-in_default.ensures
          c.in_ok-enter-in_default.ensures.ok;
      made = λ r seen. chosen.same r s;
    }

pub choose_choice-returns-clause-live : goal.choose_choice-returns-clause-live
choose_choice-returns-clause-live t c =
    choice_passed c.args.liveness.now c.args.test c.args.a c.in_ok-a.a c.args.b c.in_ok-a.b c.choose_sides.new.liveness c.enter.new.self c.live_plain.new.liveness
    c.in_ok-a.ensures.live c.in_ok-enter.ensures.ok c.in_ok-live_plain.ensures

pub choose_choice-returns-clause-made : goal.choose_choice-returns-clause-made
choose_choice-returns-clause-made t c =
    if_chosen c.args.temps c.args.liveness.now c.args.test c.args.a c.in_ok-a.a c.args.b c.in_ok-a.b c.in_ok-a.ensures.first c.in_ok-a.ensures.second

pub choose_loop-returns-clause-made : goal.choose_loop-returns-clause-made
choose_loop-returns-clause-made t c =
    loop_chosen c.args.temps c.args.liveness.now c.save.new.self c.live_loop.new.liveness c.enter.new.self c.args.code c.in_ok-made.made
    c.in_ok-save.ensures.ok c.in_ok-live_loop.ensures c.in_ok-enter.ensures.ok c.in_ok-made.ensures.made

pub choose_block-returns-clause-live : goal.choose_block-returns-clause-live
choose_block-returns-clause-live t c =
    block_passed c.args.liveness.now c.args.code c.enter.new.self c.choose_code.new.liveness c.leave.new.self c.enter-2.new.self c.in_ok-enter.ensures.ok
    c.in_ok-made.ensures.live c.leave.ensures c.in_ok-enter-2.ensures.ok

pub choose_block-returns-clause-made : goal.choose_block-returns-clause-made
choose_block-returns-clause-made t c =
    block_chosen c.args.temps c.args.liveness.now c.enter.new.self c.args.code c.in_ok-made.made c.in_ok-enter.ensures.ok c.in_ok-made.ensures.made
