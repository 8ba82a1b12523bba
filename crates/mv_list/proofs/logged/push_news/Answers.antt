use Rattle.std.proofs.Common.{◌∙◌, ◌++◌, ap}
use Rattle.std.proofs.lemmas.Result.{on_ok_weaker}
use Rattle.mv_list.proofs.News.{bound_news}
use Rattle.mv_list.proofs.logged.push_news.Goals as goal

pub returns-in_ok-extend_from_slice-2 : goal.returns-in_ok-extend_from_slice-2
returns-in_ok-extend_from_slice-2 c =
    let first = c.extend_from_slice.new.self.items in
    on_ok_weaker c.push_bound_to.result
    (λ h. bound_news c.args.image.now c.args.event.now c.args.out.now.items first c.extend_from_slice-then-event.new.self.items c.push_bound_to.new.out.items c.if-event.true
    c.in_ok-extend_from_slice.ensures.items (c.in_ok-extend_from_slice-2.ensures.items ∙ ap (λ x. first ++ x) c.bound_name.ensures) (h c.if-event.true))
    c.push_bound_to.ensures
