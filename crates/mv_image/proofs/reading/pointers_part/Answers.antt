use Rattle.std.proofs.Common.{◌≡◌, ◌+◌, ◌*◌, ◌∙◌, ap, arith}
use Rattle.mv_descriptors.specs.Widths.{pointer_words}
use Rattle.mv_image.specs.Places.{pointer_row_words, pointers_at, points_at, pointer_rows}
use Rattle.mv_image.proofs.RowRules.{functions_from, variants_from, guards_from, sites_from, pointers_from, points_from, targets_from, end_from}
use Rattle.mv_image.proofs.Parts.{part_words}
use Rattle.mv_image.proofs.reading.pointers_part.Goals as goal

pub rows_part-requires-clause-room : goal.rows_part-requires-clause-room
rows_part-requires-clause-room c =
    let at : c.pointers_at-at.result ≡ pointers_at c.args.words.now = c.pointers_at-at.ensures.value ∙ ap pointers_at c.as_slice-slice.ensures in
    let n : c.later_word.result ≡ pointer_rows c.args.words.now = c.later_word.ensures ∙ ap pointer_rows c.as_slice-slice.ensures in
    omega (
      arith,
      at,
      n,
      functions_from c.args.words.now,
      variants_from c.args.words.now,
      guards_from c.args.words.now,
      sites_from c.args.words.now,
      pointers_from c.args.words.now,
      points_from c.args.words.now,
      targets_from c.args.words.now,
      end_from c.args.words.now,
      c.requires,
    )

pub returns-clause-words : goal.returns-clause-words
returns-clause-words c =
    let at : c.pointers_at-at.result ≡ pointers_at c.args.words.now = c.pointers_at-at.ensures.value ∙ ap pointers_at c.as_slice-slice.ensures in
    let n : c.later_word.result ≡ pointer_rows c.args.words.now = c.later_word.ensures ∙ ap pointer_rows c.as_slice-slice.ensures in
    let end : c.pointers_at-at.result + pointer_row_words * c.later_word.result ≡ points_at c.args.words.now = omega (arith, at, n, points_from c.args.words.now) in
    part_words c.rows_part.result pointer_words c.args.words.now _ _ _ _ at end c.rows_part.ensures.words
