use Rattle.std.proofs.Common.{◌≡◌, ◌<◌, ◌≤◌, ◌∙◌, Some, length, take, slice_get, sym, ap, refl, subst, arith}
use Rattle.std.proofs.lemmas.Option.{slice_get-get_or}
use Rattle.mv_harts_turns.specs.Runs.{Ran}
use Rattle.mv_harts_turns.proofs.Running.{advanced_next, advanced_not, ran_all, at_most}
use Rattle.mv_harts_turns.proofs.group.Group.go_on.Goals as goal

pub loop-time-init : goal.loop-time-init
loop-time-init g c = record {
  since = omega arith;
  others = refl;
  executed = c.requires.executed;
  goes = λ image actions count was is fetch way r. subst (λ w. Ran image actions count (take c.args.first c.args.schedule.now) was (record is { way = w }) c.args.self.now) way r;
}

pub advance-requires-clause-there : goal.advance-requires-clause-there
advance-requires-clause-there g c =
    let l = c.loop-time in
    let within : l.time < length c.args.schedule.now = omega (arith, c.loop-time-test.true, c.turns_of-turns.ensures.count) in
    let at : slice_get c.args.schedule.now l.time ≡ Some c.from.result = slice_get-get_or c.args.schedule.now l.time 0 within ∙ ap Some (sym c.from.ensures) in
    omega (arith, l.invariant.others, at_most c.args.schedule.now _ l.time c.from.result c.requires.numbered at)

pub advance-requires-clause-few : goal.advance-requires-clause-few
advance-requires-clause-few g c =
    let l = c.loop-time in
    let lt = c.loop-time-test.true in
    let few = c.turns_of-turns.ensures.few in
    record {
      leader = (let k = l.invariant.executed.leader in omega (arith, k, lt, few));
      others = λ n seat at. (let k = l.invariant.executed.others n seat at in omega (arith, k, lt, few));
    }

pub loop-time-preserved : goal.loop-time-preserved
loop-time-preserved g c =
    let l = c.loop-time in
    let i = l.invariant in
    let within : l.time < length c.args.schedule.now = omega (arith, c.loop-time-test.true, c.turns_of-turns.ensures.count) in
    let at : slice_get c.args.schedule.now l.time ≡ Some c.from.result = slice_get-get_or c.args.schedule.now l.time 0 within ∙ ap Some (sym c.from.ensures) in
    let le : c.from.result ≤ length l.self.others.items = omega (arith, l.self.others.ok.0, i.others, at_most c.args.schedule.now _ l.time c.from.result c.requires.numbered at) in
    record {
      since = (let s = i.since in omega (arith, s));
      others = c.advance.ensures.others ∙ i.others;
      executed = c.advance.ensures.executed l.time i.executed;
      goes = λ image actions count was is fetch way r.
          advanced_next image actions count was is c.args.schedule.now l.time c.from.result _ _ l.self c.advance.new.self fetch (i.goes image actions count was is fetch way r) within at le
          (λ bytes hs. c.advance.ensures.advances c.if-not-advance.false image actions bytes hs);
    }

pub returns-then-not-advance-clause-goes : goal.returns-then-not-advance-clause-goes
returns-then-not-advance-clause-goes g c = λ image actions count was is fetch way r.
    advanced_not image actions count was is _ _ _ c.loop-time.self c.advance.new.self (c.advance.ensures.stands c.if-not-advance.true) (c.advance.ensures.still c.if-not-advance.true)
    (c.loop-time.invariant.goes image actions count was is fetch way r)

pub returns-clause-goes : goal.returns-clause-goes
returns-clause-goes g c = λ image actions count was is fetch way r.
    let l = c.loop-time in
    let count_is = c.turns_of-turns.ensures.count in
    ran_all image actions count was _ c.args.schedule.now l.time c.turns_of-turns.result l.self (omega (arith, c.loop-time-test.false, count_is)) (omega (arith, count_is)) (l.invariant.goes image actions count was is fetch way r)
