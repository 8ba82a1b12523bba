use Rattle.std.proofs.Common.{refl, sym, ap, subst, ◌∙◌}
use Rattle.mv_bindings.specs.Acts.{act_of}
use Rattle.mv_harts_one.specs.Seats.{place_as}
use Rattle.mv_harts_one.specs.declared.seat.Taken.TheVariants as taken
use Rattle.mv_harts_turns.specs.Polls.{IsNoted}
use Rattle.mv_harts_turns.proofs.Reaching.{match_err, move_place}
use Rattle.mv_harts_turns.proofs.Steps.{stepped_plain, stepped_poll, skipped, going_counts, refused_note, refused_step}
use Rattle.mv_harts_turns.proofs.step.step.Goals as goal

pub returns-in_err-behind-clause-steps : goal.returns-in_err-behind-clause-steps
returns-in_err-behind-clause-steps g c = λ image commits number bytes o under is glance left same.
    match_err c.from_residual-in_err-behind.result _ _ _ c.from_residual-in_err-behind.ensures.1 (λ e. refused_step image commits number o (act_of c.args.action) _ under c.args.under _ bytes c.args.seat.now is c.requires.on
    (going_counts c.execute.new.self.stop _ _ _ _ c.in_err-behind.ensures.going c.in_err-behind.ensures.reading c.in_err-behind.ensures.writing) (c.in_err-behind.ensures.does number bytes o under is.sits left glance.one same))

pub returns-in_err-push-2-clause-steps : goal.returns-in_err-push-2-clause-steps
returns-in_err-push-2-clause-steps g c = λ image commits number bytes o under is glance left same.
    let did = c.in_ok-behind.ensures.does number bytes o under is.sits left glance.one same in
    match_err c.from_residual-in_err-push-2.result _ _ _ c.from_residual-in_err-push-2.ensures.1
    (λ e. refused_note image commits number o (act_of c.args.action) _ under c.args.under _
    (ap place_as (sym c.in-AtPoll.is) ∙ glance.place
    ∙ sym (move_place o.state (act_of c.args.action) under)) bytes c.args.seat.now c.execute.new.self c.in_ok-behind.behind
    (record {
      was_is = is;
      on = c.requires.on;
      same_image = c.in_ok-behind.ensures.image;
      same_taken = c.in_ok-behind.ensures.taken;
      same_under = same;
      asks = did.0;
      reading = c.in_ok-behind.ensures.reading;
      writing = c.in_ok-behind.ensures.writing;
      did = did.1;
    }))

pub returns-clause-steps : goal.returns-clause-steps
returns-clause-steps g c = λ image commits number bytes o under is glance left same.
    let did = c.in_ok-behind.ensures.does number bytes o under is.sits left glance.one same in
    stepped_poll image commits number o (act_of c.args.action) _ under c.args.under _
    (ap place_as (sym c.in-AtPoll.is) ∙ glance.place
    ∙ sym (move_place o.state (act_of c.args.action) under)) c.taken_of.result c.taken_of.ensures bytes c.args.seat.now c.execute.new.self c.in_ok-behind.behind
    _ c.in_ok-push-2.ensures.ok
    (record {
      was_is = is;
      on = c.requires.on;
      same_image = c.in_ok-behind.ensures.image;
      same_taken = c.in_ok-behind.ensures.taken;
      same_under = same;
      asks = did.0;
      reading = c.in_ok-behind.ensures.reading;
      writing = c.in_ok-behind.ensures.writing;
      did = did.1;
    })

pub returns-in_default-clause-steps : goal.returns-in_default-clause-steps
returns-in_default-clause-steps g c = λ image commits number bytes o under is glance left same.
    let did = c.in_ok-behind.ensures.does number bytes o under is.sits left glance.one same in
    stepped_plain image commits number o (act_of c.args.action) _ under c.args.under _ c.args.glance.place
    (glance.place ∙ sym (move_place o.state (act_of c.args.action) under)) c.in_default.not-AtPoll bytes c.args.seat.now c.execute.new.self
    c.in_ok-behind.behind
    (record {
      was_is = is;
      on = c.requires.on;
      same_image = c.in_ok-behind.ensures.image;
      same_taken = c.in_ok-behind.ensures.taken;
      same_under = same;
      asks = did.0;
      reading = c.in_ok-behind.ensures.reading;
      writing = c.in_ok-behind.ensures.writing;
      did = did.1;
    })

pub returns-in_err-push-clause-steps : goal.returns-in_err-push-clause-steps
returns-in_err-push-clause-steps g c = λ image commits number bytes o under is glance left same.
    match_err c.from_residual.result _ _ _ c.from_residual.ensures.1 (λ e. refused_step image commits number o (act_of c.args.action) _ under c.args.under _ bytes c.args.seat.now is c.requires.on (refl, refl) refl)

pub returns-then-skips-clause-steps : goal.returns-then-skips-clause-steps
returns-then-skips-clause-steps g c = λ image commits number bytes o under is glance left same.
    let poll = c.skips.ensures.poll c.if-skips.true in
    let skip = c.skips.ensures.skip c.if-skips.true in
    stepped_poll image commits number o (act_of c.args.action) _ under c.args.under _
    (ap place_as (sym poll) ∙ glance.place ∙ sym (move_place o.state (act_of c.args.action) under)) taken.Skip
    (subst (λ a. IsNoted taken.Skip a) (sym skip) refl) bytes c.args.seat.now c.skip.new.self c.args.under
    _ c.in_ok-push.ensures.ok
    (skipped image commits number o (act_of c.args.action) under c.args.under _ bytes c.args.seat.now c.skip.new.self is c.requires.on
    (c.skip.ensures.stop ∙ c.requires.on) c.skip.ensures.image c.skip.ensures.taken same c.skip.ensures.asks refl refl refl left skip
    (c.skip.ensures.skips number bytes o under _ is.sits glance.one (sym glance.place ∙ ap place_as poll)))
