use Rattle.std.proofs.Common.{◌+◌, ◌/◌, List, ◌++◌, get_or, refl, ap, ◌∙◌, arith}
use Rattle.mv_patch.specs.declared.prepared.Pair.{Pair}
use Rattle.mv_patch.specs.Orders.{values_of}
use Rattle.mv_patch.specs.Tables.{site_words}
use Rattle.mv_patch.proofs.Next.{first_at, second_at}
use Rattle.mv_patch.proofs.Words.{site_change, next_change}
use Rattle.mv_patch.proofs.changes.push_site_word.Goals as goal

pub returns-then-word-eq0-clause-items : goal.returns-then-word-eq0-clause-items
returns-then-word-eq0-clause-items c r =
    let image = c.args.image.now in
    let site = c.site_at-site.result in
    let row = c.site_at-site.ensures.there in
    c.push_change.ensures.items
    ∙ ap (λ (ps : List Pair). c.args.pairs.now.items ++ ps)
    (site_change image r (values_of c.args.before.bound.now)
    (values_of c.args.after.bound.now) c.args.before.variants.now c.args.after.variants.now c.requires.before.variants c.requires.after.variants
    (c.args.word / 2) site.address c.text_word-word.result c.at_site.result c.at_site-then-word-eq0.result
    (get_or (site_words image.sites) c.args.word 0) site row c.site_at-site.ensures.function refl (first_at image.sites c.args.word site row (omega (arith, c.if-word-eq0.true)))
    c.text_word-word.ensures c.at_site.ensures c.at_site-then-word-eq0.ensures)

pub returns-else-word-eq0-clause-items : goal.returns-else-word-eq0-clause-items
returns-else-word-eq0-clause-items c r =
    let image = c.args.image.now in
    let site = c.site_at-site.result in
    let row = c.site_at-site.ensures.there in
    c.push_change-else-word-eq0.ensures.items
    ∙ ap (λ (ps : List Pair). c.args.pairs.now.items ++ ps)
    (next_change image r (values_of c.args.before.bound.now)
    (values_of c.args.after.bound.now) c.args.before.variants.now c.args.after.variants.now c.requires.before.variants c.requires.after.variants
    (c.args.word / 2) (site.address + 4) c.text_word-word-else-word-eq0.result c.after_site.result c.after_site-else-word-eq0.result
    (get_or (site_words image.sites) c.args.word 0) site row c.site_at-site.ensures.function refl (second_at image.sites c.args.word site row (omega (arith, c.if-word-eq0.false)))
    c.text_word-word-else-word-eq0.ensures c.after_site.ensures c.after_site-else-word-eq0.ensures)
