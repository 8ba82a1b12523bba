use Rattle.std.proofs.Common.{sym, subst}
use Rattle.std.proofs.lemmas.List.Elements.{All-push}
use Rattle.std.specs.Prelude.{All}
use Rattle.mv_command.specs.Items.{IsItem, item_text}
use Rattle.mv_command.proofs.Pieces.{no_texts, texts_more}
use Rattle.mv_command.proofs.items.items_of.Goals as goal

pub returns-in_default : goal.returns-in_default
returns-in_default c = λ items each. let none = rw c.in_default.is at c.in_ok-item.ensures in
    no_texts item_text IsItem (λ text. text.now) c.args.texts.now items c.loop-text.text-index _ c.loop-text-test.true none each

pub loop-text-preserved : goal.loop-text-preserved
loop-text-preserved c =
    let fits = rw c.in-Some.is at c.in_ok-item.ensures in
    record {
      each = subst (All IsItem) (sym c.in_ok-push.ensures.ok) (All-push IsItem c.loop-text.items c.in-Some.item c.loop-text.invariant.each fits.0);
      texts = texts_more item_text IsItem (λ text. text.now) c.args.texts.now c.loop-text.items c.push.new.self c.in-Some.item c.loop-text.text-index _ c.loop-text-test.true c.loop-text.invariant.texts fits.1 c.in_ok-push.ensures.ok;
    }
