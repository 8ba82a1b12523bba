use Rattle.std.proofs.Common.{sym, ap, ◌∙◌, refl, false}
use Rattle.mv_harts_runs.specs.Harts.{next_act}
use Rattle.mv_bindings.specs.Acts.{act_of}
use Rattle.mv_harts_turns.proofs.Reaching.{turned_err}
use Rattle.mv_harts_turns.proofs.Leading.{go_ok, go_step_refused, go_share_refused}
use Rattle.mv_harts_turns.proofs.group.Group.go.Goals as goal

pub returns-in_err-self-clause-goes : goal.returns-in_err-self-clause-goes
returns-in_err-self-clause-goes g c = λ image bytes hs shown glance left.
    let act = act_of c.next_action-action.result in
    let handed = ap next_act shown.actions_are ∙ sym c.next_action-action.ensures in
    turned_err image c.args.actions.now 0 bytes _ _ _ hs _ _ c.from_residual.result _ c.from_residual.ensures.1 false (λ e. absurd (cc))
    (go_step_refused image c.args.actions.now bytes _ c.args.self.now c.args.self.now hs act c.args.glance shown glance handed
    (c.in_err-self.ensures.steps image hs.commits 0 (bytes 0) hs.leader hs.under shown.leader glance left shown.under))

pub returns-in_err-share-clause-goes : goal.returns-in_err-share-clause-goes
returns-in_err-share-clause-goes g c = λ image bytes hs shown glance left.
    let act = act_of c.next_action-action.result in
    let handed = ap next_act shown.actions_are ∙ sym c.next_action-action.ensures in
    let r = go_share_refused image c.args.actions.now bytes _ c.args.self.now c.args.self.now hs act c.args.glance shown glance handed _ _
    c.requires.on (c.in_ok-self.ensures.steps image hs.commits 0 (bytes 0) hs.leader hs.under shown.leader glance left shown.under) in
    turned_err image c.args.actions.now 0 bytes _ _ _ hs _ _ c.from_residual-in_err-share.result _ c.from_residual-in_err-share.ensures.1 r.0 r.1 r.2

pub returns-clause-goes : goal.returns-clause-goes
returns-clause-goes g c = λ image bytes hs shown glance left.
    let act = act_of c.next_action-action.result in
    let handed = ap next_act shown.actions_are ∙ sym c.next_action-action.ensures in
    go_ok image c.args.actions.now bytes _ c.args.self.now _ hs act c.args.glance shown glance handed _ c.requires.on
    (c.in_ok-self.ensures.steps image hs.commits 0 (bytes 0) hs.leader hs.under shown.leader glance left shown.under) c.in_ok-share.ensures
    c.played_behind-self.ensures refl refl refl
