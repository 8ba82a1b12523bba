use Rattle.std.proofs.Common.{◌≤◌, ◌<◌, arith}
use Rattle.mv_link_data.specs.FirstData.{data_words}
use Rattle.mv_linker.specs.Outcome.{data_limit}
use Rattle.mv_build.specs.Verdicts.{too_many_sites, too_many_words, too_much_data}
use Rattle.mv_build.proofs.code.test_size.Goals as goal

pub returns-then-size-gt-SITE_LIMIT-clause-err : goal.returns-then-size-gt-SITE_LIMIT-clause-err
returns-then-size-gt-SITE_LIMIT-clause-err c = rw c.too_many.ensures (too_many_sites (omega arith))

pub returns-then-values-gt-DATA_LIMIT-clause-err : goal.returns-then-values-gt-DATA_LIMIT-clause-err
returns-then-values-gt-DATA_LIMIT-clause-err c =
    let words = c.data_words-values.ensures in
    let past : data_limit < data_words c.args.program.now = omega (arith, words) in
    rw (c.too_many-then-values-gt-DATA_LIMIT.ensures, words) (too_much_data (omega arith) past)

pub returns-then-size-gt-WORD_LIMIT-clause-err : goal.returns-then-size-gt-WORD_LIMIT-clause-err
returns-then-size-gt-WORD_LIMIT-clause-err c =
    let words = c.data_words-values.ensures in
    let fits : data_words c.args.program.now ≤ data_limit = omega (arith, words) in
    rw c.too_many-then-size-gt-WORD_LIMIT.ensures (too_many_words (omega arith) fits (omega arith))

pub returns-clause-ok : goal.returns-clause-ok
returns-clause-ok c =
    let words = c.data_words-values.ensures in
    record { fits = record { words = omega arith; sites = omega arith }; data_fits = omega (arith, words) }
