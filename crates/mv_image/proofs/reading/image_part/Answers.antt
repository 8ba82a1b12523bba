use Rattle.std.proofs.Common.{◌≡◌, ◌+◌, ◌*◌, ◌≤◌, ◌∙◌, ℕ, List, ap, sym, subst, arith, length}
use Rattle.mv_num.specs.Bytes.{words_of}
use Rattle.mv_image.specs.Places.{header_words, data_at, text_words, data_words, names, name_length, name_bytes, sum_below, words_end}
use Rattle.mv_image.specs.Faults.{AllFit, Spells}
use Rattle.mv_image.specs.Spelling.{Fields, filled}
use Rattle.mv_image.proofs.RowRules.{functions_from, variants_from, guards_from, sites_from, pointers_from, points_from, targets_from, end_from}
use Rattle.mv_image.proofs.WhatIsRead.{data_from, switches_after, names_sum, all_fit, length_is, has_room, filled_from, made_image}
use Rattle.mv_image.proofs.reading.image_part.Goals as goal

words_room : (ws bytes : List ℕ) → ws ≡ words_of bytes → words_end (words_of bytes) ≤ length (words_of bytes) → words_end ws ≤ length ws
words_room ws bytes e h = subst (λ (x : List ℕ). words_end x ≤ length x) (sym e) h

words_keep : (ws bytes : List ℕ) → ws ≡ words_of bytes → AllFit (words_of bytes) → AllFit ws
words_keep ws bytes e h = subst AllFit (sym e) h

names_room : (ws bytes : List ℕ) (n : ℕ) → ws ≡ words_of bytes → n ≡ names ws → AllFit (words_of bytes)
    → length bytes ≡ 4 * words_end (words_of bytes) + filled (name_bytes (words_of bytes)) → 4 * words_end ws + sum_below (name_length ws) n ≤ length bytes
names_room ws bytes n e m fit len =
    let s = names_sum (words_of bytes) fit in
    let more = filled_from (name_bytes (words_of bytes)) in
    let h : 4 * words_end (words_of bytes) + sum_below (name_length (words_of bytes)) (names (words_of bytes)) ≤ length bytes = omega (arith, s, more, len) in
    let h2 : 4 * words_end ws + sum_below (name_length ws) (names ws) ≤ length bytes = subst (λ (x : List ℕ). 4 * words_end x + sum_below (name_length x) (names x) ≤ length bytes) (sym e) h in
    subst (λ (k : ℕ). 4 * words_end ws + sum_below (name_length ws) k ≤ length bytes) (sym m) h2

pub words_part-requires : goal.words_part-requires
words_part-requires c =
    let room = words_room _ _ c.requires.words (has_room c.args.bytes.now c.requires.spelled) in
    let n : c.word.result ≡ text_words c.args.words.now = c.word.ensures ∙ ap text_words c.as_slice-slice.ensures in
    let at : c.header_words.result ≡ header_words c.args.words.now = c.header_words.ensures.value ∙ ap header_words c.as_slice-slice.ensures in
    omega (
      arith,
      n,
      at,
      room,
      data_from c.args.words.now,
      switches_after c.args.words.now,
      functions_from c.args.words.now,
      variants_from c.args.words.now,
      guards_from c.args.words.now,
      sites_from c.args.words.now,
      pointers_from c.args.words.now,
      points_from c.args.words.now,
      targets_from c.args.words.now,
      end_from c.args.words.now,
    )

pub words_part-requires-2 : goal.words_part-requires-2
words_part-requires-2 c =
    let room = words_room _ _ c.requires.words (has_room c.args.bytes.now c.requires.spelled) in
    let n : c.word-2.result ≡ data_words c.args.words.now = c.word-2.ensures ∙ ap data_words c.as_slice-slice.ensures in
    let at : c.data_at.result ≡ data_at c.args.words.now = c.data_at.ensures.value ∙ ap data_at c.as_slice-slice.ensures in
    omega (
      arith,
      n,
      at,
      room,
      switches_after c.args.words.now,
      functions_from c.args.words.now,
      variants_from c.args.words.now,
      guards_from c.args.words.now,
      sites_from c.args.words.now,
      pointers_from c.args.words.now,
      points_from c.args.words.now,
      targets_from c.args.words.now,
      end_from c.args.words.now,
    )

pub tables_part-requires-clause-fit : goal.tables_part-requires-clause-fit
tables_part-requires-clause-fit c = words_keep _ _ c.requires.words (all_fit c.args.bytes.now c.requires.spelled)

pub tables_part-requires-clause-room : goal.tables_part-requires-clause-room
tables_part-requires-clause-room c = words_room _ _ c.requires.words (has_room c.args.bytes.now c.requires.spelled)

pub names_part-requires-clause-room : goal.names_part-requires-clause-room
names_part-requires-clause-room c =
    names_room _ c.args.bytes.now _ (c.as_slice-slice.ensures ∙ c.requires.words) c.names.ensures.value (all_fit c.args.bytes.now c.requires.spelled) (length_is c.args.bytes.now c.requires.spelled)

pub new-requires : goal.new-requires
new-requires c =
    let made = made_image c.args.bytes.now c.args.words.now c.as_slice-slice.result.now _ _ _ _ _ _ _ _ _ _ c.in_ok-tables.tables c.in_ok-names.names
    (λ i. omega (arith, c.type_inv.bytes i)) c.requires.spelled c.requires.words c.as_slice-slice.ensures
    c.word.ensures c.header_words.ensures.value c.in_ok-text.ensures c.data_at.ensures.value c.word-2.ensures c.in_ok-globals.ensures c.in_ok-tables.ensures
    c.names.ensures.value c.in_ok-names.ensures.bytes c.in_ok-names.ensures.lengths c.word-version.ensures c.word-entry.ensures c.later_word-check.ensures in
    made.rules

pub returns : goal.returns
returns c =
    let made = made_image c.args.bytes.now c.args.words.now c.as_slice-slice.result.now _ _ _ _ _ _ _ _ _ _ c.in_ok-tables.tables c.in_ok-names.names
    (λ i. omega (arith, c.type_inv.bytes i)) c.requires.spelled c.requires.words c.as_slice-slice.ensures
    c.word.ensures c.header_words.ensures.value c.in_ok-text.ensures c.data_at.ensures.value c.word-2.ensures c.in_ok-globals.ensures c.in_ok-tables.ensures
    c.names.ensures.value c.in_ok-names.ensures.bytes c.in_ok-names.ensures.lengths c.word-version.ensures c.word-entry.ensures c.later_word-check.ensures in
    subst (λ (image : Fields). Spells c.args.bytes.now image) (sym c.new.ensures) made
