use Rattle.std.proofs.Common.{ℕ, Bool, refl, sym, ◌∙◌, arith}
use Rattle.std.proofs.lemmas.Bool.{not-true}
use Rattle.std.specs.Prelude.{codes}
use Rattle.mv_num.specs.Lists.{is_among}
use Rattle.mv_lexer.specs.declared.table.Table.TheVariants.{Punctuators, UnsupportedPunctuators}
use Rattle.mv_lexer.proofs.TableLemmas.{ended}
use Rattle.mv_lexer.proofs.table.most_bytes.Goals as goal
use Rattle.mv_lexer.proofs.table.most_bytes.Goals.{then-text-lt2, else-text-lt2, then-text-lt3, else-text-lt3}

abbrev stands_second : ℕ → Bool
stands_second b = is_among b (codes "+-<>=&|.#:%")

abbrev stands_third : ℕ → Bool
stands_third b = is_among b (codes "=.%")

pub returns-then-not-stands_second-clause-supported : goal.returns-then-not-stands_second-clause-supported
returns-then-not-stands_second-clause-supported c =
    ended Punctuators 1 stands_second c.args.text.now refl (λ long. elim c.if-text-lt2.branch [
      | then-text-lt2 w ↦ absurd (omega (arith, w.if-text-lt2.true))
      | else-text-lt2 w ↦ sym w.stands_second.ensures ∙ not-true _ (sym w.value-is ∙ c.if-not-stands_second.true)
    ])

pub returns-then-not-stands_third-clause-supported : goal.returns-then-not-stands_third-clause-supported
returns-then-not-stands_third-clause-supported c =
    ended Punctuators 2 stands_third c.args.text.now refl (λ long. elim c.if-text-lt3.branch [
      | then-text-lt3 w ↦ absurd (omega (arith, w.if-text-lt3.true))
      | else-text-lt3 w ↦ sym w.stands_third.ensures ∙ not-true _ (sym w.value-is ∙ c.if-not-stands_third.true)
    ])

pub returns-then-not-stands_third-clause-unsupported : goal.returns-then-not-stands_third-clause-unsupported
returns-then-not-stands_third-clause-unsupported c =
    ended UnsupportedPunctuators 2 stands_third c.args.text.now refl (λ long. elim c.if-text-lt3.branch [
      | then-text-lt3 w ↦ absurd (omega (arith, w.if-text-lt3.true))
      | else-text-lt3 w ↦ sym w.stands_third.ensures ∙ not-true _ (sym w.value-is ∙ c.if-not-stands_third.true)
    ])
