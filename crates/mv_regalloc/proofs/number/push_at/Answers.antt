use Rattle.std.proofs.Common.{[], ◌∷◌, ◌++◌, ap, ◌∙◌}
use Rattle.std.specs.Prelude.{slice_set}
use Rattle.std.proofs.lemmas.List.{set-set, get_or_default}
use Rattle.mv_regalloc.proofs.number.push_at.Goals as goal

pub returns : goal.returns
returns c =
    let lists = c.args.lists.now in
    let place = c.args.place in
    let list = c.set-list.result in
    c.set.ensures.items ∙ ap (λ l. slice_set l place c.push.new.self) c.set-list.ensures.items ∙ set-set lists place c.new.result c.push.new.self ∙ ap (slice_set lists place) c.in_ok-push.ensures.ok ∙
    ap (λ l. slice_set lists place (l ++ c.args.temp ∷ [])) (c.set-list.ensures.value ∙ get_or_default lists place list [] c.requires)
