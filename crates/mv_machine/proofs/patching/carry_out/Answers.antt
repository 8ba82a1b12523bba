use Rattle.std.proofs.Common.{sym, ap, ap₂, ◌∙◌, ◌≤◌, ◌+◌, length, subst}
use Rattle.std.proofs.lemmas.List.{nil_from_length}
use Rattle.mv_bindings.specs.Bindings.{events_from}
use Rattle.mv_machine.specs.Runs.{with_plan}
use Rattle.mv_machine.proofs.Storing.{few_pairs}
use Rattle.mv_machine.proofs.Telling.{told_these}
use Rattle.mv_machine.proofs.Orders.{carries}
use Rattle.mv_machine.proofs.patching.carry_out.Goals as goal

pub write_plan-requires : goal.write_plan-requires
write_plan-requires g c = record {
  few = subst (λ n. n ≤ 65536) (sym (ap length c.pairs.ensures)) (few_pairs c.args.engine.now.image _ c.requires.few c.within_limits.ensures.functions c.within_limits.ensures.places);
}

pub returns-clause-does : goal.returns-clause-does
returns-clause-does g c = λ actions left written input output log.
    carries c.args.engine.now c.args.value c.args.engine.now.plan.planned c.answer.new.hart.regs c.answer.new.hart.pc c.write_plan.new.memory c.take_on.new.bindings c.answer.ensures.regs c.answer.ensures.pc
    (c.write_plan.ensures ∙ ap (λ pairs. with_plan c.args.engine.now.memory pairs) c.pairs.ensures) (c.take_on.ensures ∙ c.bound-2.ensures) actions left written input output log

pub returns-clause-quiet : goal.returns-clause-quiet
returns-clause-quiet g c = λ none no_pointers. c.tell_changes.ensures.quiet (c.bound.ensures ∙ nil_from_length _ (c.args.engine.now.ready.planned ∙ ap₂ (λ a b. length a + length b) none no_pointers))

pub returns-clause-told : goal.returns-clause-told
returns-clause-told g c = told_these _ _ _ _ _ _ (ap₂ (λ a b. events_from 0 a b) c.as_slice.ensures c.bound.ensures) c.tell_changes.ensures.told
