use Rattle.std.proofs.Common.{◌≡◌, ◌+◌, ◌∙◌, length, refl, arith}
use Rattle.mv_num.specs.Bytes.{words_of}
use Rattle.mv_image.specs.Places.{name_bytes}
use Rattle.mv_image.proofs.Judged.{end_of, bad_word, missing_word, bad_name, missing_name, trailing, spelled, words_fit, word_breaks, names_fit, name_breaks, count_is, end_at, names_at}
use Rattle.mv_image.proofs.judging.first_fault.Goals as goal

pub returns-in-Some-clause-some : goal.returns-in-Some-clause-some
returns-in-Some-clause-some c =
    let end : c.words_end-end.result ≡ end_of c.args.bytes.now = c.words_end-end.ensures.value ∙ end_at _ _ c.requires in
    let len = count_is _ _ c.requires in (
      c.in-Some.i,
      bad_word c.args.bytes.now c.in-Some.i _ (omega (arith, end, c.min-there.ensures, c.in-Some.ensures.within)) (omega (arith, len, c.min-there.ensures, c.in-Some.ensures.within)) refl
          (words_fit _ _ _ _ c.requires (omega arith) c.in-Some.ensures.before) (word_breaks _ _ _ c.requires c.in-Some.ensures.breaks),
    )

pub returns-then-words-end-clause-some : goal.returns-then-words-end-clause-some
returns-then-words-end-clause-some c =
    let end : c.words_end-end.result ≡ end_of c.args.bytes.now = c.words_end-end.ensures.value ∙ end_at _ _ c.requires in
    let len = count_is _ _ c.requires in (
      length c.args.words.now,
      missing_word c.args.bytes.now (length c.args.words.now) _ (omega (arith, end, c.if-words-end.true)) (omega (arith, len)) (omega (arith, len)) refl
          (words_fit _ _ _ _ c.requires (omega (arith, c.min-there.ensures, c.if-words-end.true)) c.in_default.ensures.none),
    )

pub overflow_sub-bytes : goal.overflow_sub-bytes
overflow_sub-bytes c = omega (arith, count_is _ _ c.requires, c.if-words-end.false)

pub first_bad_name-requires : goal.first_bad_name-requires
first_bad_name-requires c = omega (arith, count_is _ _ c.requires, c.if-words-end.false, c.words_end-end.ensures.value, c.min-there-2.ensures)

pub returns-in-Some-first_bad_name-clause-some : goal.returns-in-Some-first_bad_name-clause-some
returns-in-Some-first_bad_name-clause-some c =
    let end : c.words_end-end.result ≡ end_of c.args.bytes.now = c.words_end-end.ensures.value ∙ end_at _ _ c.requires in
    let names : c.word.result ≡ name_bytes (words_of c.args.bytes.now) = c.word.ensures ∙ names_at _ _ c.requires in
    let len = count_is _ _ c.requires in (
      end_of c.args.bytes.now + c.in-Some-first_bad_name.j,
      bad_name c.args.bytes.now c.in-Some-first_bad_name.j _ (omega (arith, names, c.min-there-2.ensures, c.in-Some-first_bad_name.ensures.within))
          (omega (arith, end, len, c.if-words-end.false, c.min-there-2.ensures, c.in-Some-first_bad_name.ensures.within)) (omega (arith, end))
          (words_fit _ _ _ _ c.requires (omega (arith, end, c.min-there.ensures, c.if-words-end.false)) c.in_default.ensures.none)
          (names_fit _ _ _ _ c.requires (omega arith) c.in-Some-first_bad_name.ensures.before) (name_breaks _ _ _ c.requires c.in-Some-first_bad_name.ensures.breaks),
    )

pub returns-then-bytes-base-clause-some : goal.returns-then-bytes-base-clause-some
returns-then-bytes-base-clause-some c =
    let end : c.words_end-end.result ≡ end_of c.args.bytes.now = c.words_end-end.ensures.value ∙ end_at _ _ c.requires in
    let names : c.word.result ≡ name_bytes (words_of c.args.bytes.now) = c.word.ensures ∙ names_at _ _ c.requires in
    let len = count_is _ _ c.requires in (
      end_of c.args.bytes.now + c.min-there-2.result,
      missing_name c.args.bytes.now c.min-there-2.result _ (omega (arith, names, c.min-there-2.ensures, c.if-bytes-base.true, len, c.if-words-end.false))
          (omega (arith, end, len, c.if-words-end.false, c.min-there-2.ensures, c.if-bytes-base.true)) refl
          (words_fit _ _ _ _ c.requires (omega (arith, end, c.min-there.ensures, c.if-words-end.false)) c.in_default.ensures.none)
          (names_fit _ _ _ _ c.requires (omega arith) c.in_default-first_bad_name.ensures.none),
    )

pub returns-then-base-names-clause-some : goal.returns-then-base-names-clause-some
returns-then-base-names-clause-some c =
    let end : c.words_end-end.result ≡ end_of c.args.bytes.now = c.words_end-end.ensures.value ∙ end_at _ _ c.requires in
    let names : c.word.result ≡ name_bytes (words_of c.args.bytes.now) = c.word.ensures ∙ names_at _ _ c.requires in
    trailing c.args.bytes.now _ (omega (arith, end, names)) c.if-base-names.true
    (words_fit _ _ _ _ c.requires (omega (arith, end, c.min-there.ensures, c.if-words-end.false)) c.in_default.ensures.none)
    (names_fit _ _ _ _ c.requires (omega (arith, names, c.min-there-2.ensures, c.if-base-names.true)) c.in_default-first_bad_name.ensures.none)

pub returns-clause-none : goal.returns-clause-none
returns-clause-none c =
    let end : c.words_end-end.result ≡ end_of c.args.bytes.now = c.words_end-end.ensures.value ∙ end_at _ _ c.requires in
    let names : c.word.result ≡ name_bytes (words_of c.args.bytes.now) = c.word.ensures ∙ names_at _ _ c.requires in
    spelled c.args.bytes.now (omega (arith, end, names, c.if-bytes-base.false, c.if-base-names.false))
    (words_fit _ _ _ _ c.requires (omega (arith, end, c.min-there.ensures, c.if-words-end.false)) c.in_default.ensures.none)
    (names_fit _ _ _ _ c.requires (omega (arith, names, c.min-there-2.ensures, c.if-bytes-base.false, c.if-base-names.false)) c.in_default-first_bad_name.ensures.none)
