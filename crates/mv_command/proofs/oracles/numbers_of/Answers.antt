use Rattle.std.proofs.Common.{sym, subst, ◌∙◌}
use Rattle.std.specs.Prelude.{All}
use Rattle.std.specs.Fmt.{decimal}
use Rattle.std.proofs.lemmas.List.Elements.{All-push}
use Rattle.mv_command.proofs.OracleTexts.{IsPick}
use Rattle.mv_command.proofs.Pieces.{no_texts, texts_more}
use Rattle.mv_command.proofs.oracles.numbers_of.Goals as goal

pub returns-in_default : goal.returns-in_default
returns-in_default c = λ numbers each. let none = rw c.in_default.is at c.number.ensures in
    no_texts decimal IsPick (λ text. text.now) c.args.texts.now numbers c.loop-text.text-index _ c.loop-text-test.true (λ n fits same. none n fits (c.as_bytes.ensures.value ∙ same)) each

pub loop-text-preserved : goal.loop-text-preserved
loop-text-preserved c =
    let found = rw c.in-Some.is at c.number.ensures in
    record {
      each = subst (All IsPick) (sym c.in_ok-push.ensures.ok) (All-push IsPick c.loop-text.numbers c.in-Some.number c.loop-text.invariant.each found.0);
      texts = texts_more decimal IsPick (λ text. text.now) c.args.texts.now c.loop-text.numbers c.push.new.self c.in-Some.number c.loop-text.text-index _ c.loop-text-test.true c.loop-text.invariant.texts
          (sym c.as_bytes.ensures.value ∙ found.1) c.in_ok-push.ensures.ok;
    }
