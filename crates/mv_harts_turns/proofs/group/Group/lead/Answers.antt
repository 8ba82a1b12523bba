use Rattle.std.proofs.Common.{◌≡◌, ◌∙◌, suc, true, false, sym, ap, refl, rules, arith}
use Rattle.std.proofs.lemmas.Grind.{common_steps}
use Rattle.std.specs.List.{list_all}
use Rattle.mv_harts_runs.specs.Harts.{next_act, move, all_away}
use Rattle.mv_harts_turns.specs.Groups.{is_seat_away}
use Rattle.mv_harts_turns.proofs.Seats.{all_away_is}
use Rattle.mv_harts_turns.proofs.Reaching.{turned_map, turned_err}
use Rattle.mv_harts_turns.proofs.Leading.{commit_is, lead_plain, lead_noted, lead_refused, waits_ok}
use Rattle.mv_harts_turns.proofs.group.Group.lead.Goals as goal

pub returns-then-not-commits-clause-leads : goal.returns-then-not-commits-clause-leads
returns-then-not-commits-clause-leads g c = λ image bytes hs shown one left.
    let s = c.args.self.now in
    let a = next_act hs.actions in
    let m = move hs.leader.state a hs.under 0 in
    let at = c.glance-glance.ensures.place 0 (bytes 0) hs.leader shown.leader.sits one in
    let no_commit : c.commits.result ≡ false = first_of (cc, search rules, grind (arith, common_steps)) in
    let test = commit_is c.glance-glance.result.place c.next_action-action.result c.args.actions.now s.played hs false (sym c.commits.ensures ∙ no_commit) at c.next_action-action.ensures shown.actions_are in
    turned_map image c.args.actions.now 0 bytes _ _ _ hs _ _ _ _ (λ f d. (tt, sym (lead_plain hs a m f test d))) c.go.result
    (c.go.ensures.goes image bytes hs shown (record { one = one; place = at; store = c.glance-glance.ensures.store 0 (bytes 0) hs.leader shown.leader.sits one }) left)

pub returns-then-not-all_away-clause-leads : goal.returns-then-not-all_away-clause-leads
returns-then-not-all_away-clause-leads g c = λ image bytes hs shown one left.
    let s = c.args.self.now in
    let a = next_act hs.actions in
    let m = move hs.leader.state a hs.under 0 in
    let at = c.glance-glance.ensures.place 0 (bytes 0) hs.leader shown.leader.sits one in
    let is_commit' : c.commits.result ≡ true = first_of (cc, search rules, grind (arith, common_steps)) in
    let test = commit_is c.glance-glance.result.place c.next_action-action.result c.args.actions.now s.played hs true (sym c.commits.ensures ∙ is_commit') at c.next_action-action.ensures shown.actions_are in
    let not_away : c.all_away.result ≡ false = first_of (cc, search rules, grind (arith, common_steps)) in
    let away : all_away hs.others ≡ false = sym (all_away_is image hs.commits suc (λ n. bytes (suc n)) s.others.items hs.others shown.others) ∙ sym (c.all_away.ensures ∙ ap (list_all is_seat_away) c.as_slice.ensures.value) ∙ not_away in
    waits_ok image c.args.actions.now bytes _ s c.wait.new.self hs a m test away left refl refl (refl, refl) (c.wait.ensures.shows image c.args.actions.now bytes hs shown) c.wait.ensures.stop c.wait.ensures.others

pub returns-in_err-go-clause-leads : goal.returns-in_err-go-clause-leads
returns-in_err-go-clause-leads g c = λ image bytes hs shown one left.
    let s = c.args.self.now in
    let a = next_act hs.actions in
    let m = move hs.leader.state a hs.under 0 in
    let at = c.glance-glance.ensures.place 0 (bytes 0) hs.leader shown.leader.sits one in
    let is_commit' : c.commits.result ≡ true = first_of (cc, search rules, grind (arith, common_steps)) in
    let test = commit_is c.glance-glance.result.place c.next_action-action.result c.args.actions.now s.played hs true (sym c.commits.ensures ∙ is_commit') at c.next_action-action.ensures shown.actions_are in
    let are_away : c.all_away.result ≡ true = first_of (cc, search rules, grind (arith, common_steps)) in
    let away : all_away hs.others ≡ true = sym (all_away_is image hs.commits suc (λ n. bytes (suc n)) s.others.items hs.others shown.others) ∙ sym (c.all_away.ensures ∙ ap (list_all is_seat_away) c.as_slice.ensures.value) ∙ are_away in
    let went = c.in_err-go.ensures.goes image bytes hs shown (record { one = one; place = at; store = c.glance-glance.ensures.store 0 (bytes 0) hs.leader shown.leader.sits one }) left in
    let r = lead_refused _ hs a m went test away in
    turned_err image c.args.actions.now 0 bytes _ _ _ hs _ _ c.from_residual.result _ c.from_residual.ensures.1 r.0 r.1 r.2

pub returns-clause-leads : goal.returns-clause-leads
returns-clause-leads g c = λ image bytes hs shown one left.
    let s = c.args.self.now in
    let a = next_act hs.actions in
    let m = move hs.leader.state a hs.under 0 in
    let at = c.glance-glance.ensures.place 0 (bytes 0) hs.leader shown.leader.sits one in
    let is_commit' : c.commits.result ≡ true = first_of (cc, search rules, grind (arith, common_steps)) in
    let test = commit_is c.glance-glance.result.place c.next_action-action.result c.args.actions.now s.played hs true (sym c.commits.ensures ∙ is_commit') at c.next_action-action.ensures shown.actions_are in
    let are_away : c.all_away.result ≡ true = first_of (cc, search rules, grind (arith, common_steps)) in
    let away : all_away hs.others ≡ true = sym (all_away_is image hs.commits suc (λ n. bytes (suc n)) s.others.items hs.others shown.others) ∙ sym (c.all_away.ensures ∙ ap (list_all is_seat_away) c.as_slice.ensures.value) ∙ are_away in
    let went = c.in_ok-go.ensures.goes image bytes hs shown (record { one = one; place = at; store = c.glance-glance.ensures.store 0 (bytes 0) hs.leader shown.leader.sits one }) left in
    lead_noted image c.args.actions.now bytes _ s c.go-2.new.self c.note_commit.new.self hs a m shown c.requires.on went test away c.note_commit.result c.note_commit.ensures.shows c.note_commit.ensures.leader c.note_commit.ensures.others
