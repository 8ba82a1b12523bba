use Rattle.std.proofs.Common.{List, get_or, sym, ap, ◌++◌, ◌∙◌}
use Rattle.mv_descriptors.specs.declared.rows.FunctionRow.{FunctionRow}
use Rattle.mv_patch.specs.declared.prepared.Pair.{Pair}
use Rattle.mv_patch.specs.Orders.{values_of}
use Rattle.mv_patch.proofs.TablePlaces.{no_function, entry_is}
use Rattle.mv_patch.proofs.Words.{entry_change}
use Rattle.mv_patch.proofs.changes.push_entry.Goals as goal

pub returns-clause-items : goal.returns-clause-items
returns-clause-items c r =
    let image = c.args.image.now in
    let f = c.args.function in
    let at = ap (λ (rows : List FunctionRow). (get_or rows f no_function).entry) (c.as_slice.ensures ∙ c.functions.ensures) ∙ sym (entry_is image f c.requires.function) in
    c.push_change.ensures.items
    ∙ ap (λ (ps : List Pair). c.args.pairs.now.items ++ ps)
    (entry_change image r (values_of c.args.before.bound.now)
    (values_of c.args.after.bound.now) c.args.before.variants.now c.args.after.variants.now c.requires.before.variants c.requires.after.variants f _
    c.text_word-word.result c.at_entry-old.result c.at_entry-new.result c.requires.function at c.text_word-word.ensures c.at_entry-old.ensures
    c.at_entry-new.ensures)
