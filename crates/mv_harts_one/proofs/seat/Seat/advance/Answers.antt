use Rattle.std.proofs.Common.{refl, arith}
use Rattle.mv_harts_one.proofs.Executing.{asked_once}
use Rattle.mv_harts_one.proofs.Advancing.{has_advanced, stays_there, stands, none_by}
use Rattle.mv_harts_one.proofs.seat.Seat.advance.Goals as goal

pub returns-in_default-step_word : goal.returns-in_default-step_word
returns-in_default-step_word g c =
    let s = c.args.self.now in
    let same = stays_there c.step_word.result s.engine.hart c.step_word.new.hart s.engine.memory c.step_word.new.memory c.in_default-step_word.not-Next c.step_word.ensures.stays in
    record {
      advances = λ e. absurd (cc);
      asks = λ e. absurd (cc);
      stays = λ e. (λ number bytes o sits. stands number s _ bytes o same.0 same.1 refl (λ output log. refl) refl refl refl refl sits, refl);
      stop = refl;
      on = λ e. absurd (cc);
      instructions = omega arith;
      taken = refl;
      image = refl;
    }

pub returns-clause-advances : goal.returns-clause-advances
returns-clause-advances g c = λ e number bytes o act sits one outside.
    let s = c.args.self.now in
    let on = none_by s.stop c.is_some.result c.is_some.ensures c.if-is_some.false in
    has_advanced number s _ bytes o act sits on c.in-Some.word c.in-Some.ensures c.step_word.new.hart c.step_word.new.memory c.in-Next.ensures.gives (λ output log. refl) refl refl refl refl refl outside

pub returns-clause-asks : goal.returns-clause-asks
returns-clause-asks g c = λ e. asked_once _ _ c.picked-pick.result c.picked-pick.ensures
