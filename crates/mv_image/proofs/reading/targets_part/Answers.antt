use Rattle.std.proofs.Common.{◌≡◌, ◌+◌, ◌*◌, ◌∙◌, ap, arith}
use Rattle.mv_descriptors.specs.Widths.{target_words}
use Rattle.mv_image.specs.Places.{target_row_words, targets_at, words_end, target_rows}
use Rattle.mv_image.proofs.RowRules.{functions_from, variants_from, guards_from, sites_from, pointers_from, points_from, targets_from, end_from}
use Rattle.mv_image.proofs.Parts.{part_words}
use Rattle.mv_image.proofs.reading.targets_part.Goals as goal

pub rows_part-requires-clause-room : goal.rows_part-requires-clause-room
rows_part-requires-clause-room c =
    let at : c.targets_at-at.result ≡ targets_at c.args.words.now = c.targets_at-at.ensures.value ∙ ap targets_at c.as_slice-slice.ensures in
    let n : c.later_word.result ≡ target_rows c.args.words.now = c.later_word.ensures ∙ ap target_rows c.as_slice-slice.ensures in
    omega (
      arith,
      at,
      n,
      functions_from c.args.words.now,
      variants_from c.args.words.now,
      guards_from c.args.words.now,
      sites_from c.args.words.now,
      pointers_from c.args.words.now,
      points_from c.args.words.now,
      targets_from c.args.words.now,
      end_from c.args.words.now,
      c.requires,
    )

pub returns-clause-words : goal.returns-clause-words
returns-clause-words c =
    let at : c.targets_at-at.result ≡ targets_at c.args.words.now = c.targets_at-at.ensures.value ∙ ap targets_at c.as_slice-slice.ensures in
    let n : c.later_word.result ≡ target_rows c.args.words.now = c.later_word.ensures ∙ ap target_rows c.as_slice-slice.ensures in
    let end : c.targets_at-at.result + target_row_words * c.later_word.result ≡ words_end c.args.words.now = omega (arith, at, n, end_from c.args.words.now) in
    part_words c.rows_part.result target_words c.args.words.now _ _ _ _ at end c.rows_part.ensures.words
