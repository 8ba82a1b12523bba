use Rattle.std.proofs.Common.{◌≡◌, ◌+◌, ◌∙◌, ℕ, List, length, slice_range, true, false, refl, sym, ap, arith}
use Rattle.mv_elf.specs.Notes.{head_size, is_image_of}
use Rattle.mv_elf.proofs.NoteLaws.{IsRead, gives, is_other}
use Rattle.mv_elf.proofs.notes.image_of.Goals as goal

pub returns-then-is_image_of-clause-found : goal.returns-then-is_image_of-clause-found
returns-then-is_image_of-clause-found c =
    let size : ℕ = c.word_at-size.result in
    let entry : ℕ = c.word_at-entry.result in
    let content : List ℕ = slice_range c.args.bytes.now (c.args.note.offset + head_size) (c.args.note.offset + head_size + size) in
    let read : IsRead c.args.bytes.now c.args.note content c.as_slice.result.now c.args.text.now c.args.globals.now entry size = record {
      size_is = c.word_at-size.ensures;
      inside = omega (arith, c.if-note-size.false);
      front = omega (arith, c.if-size-lt-FRONT_SIZE.false);
      there = c.requires.there;
      content_is = refl;
      whole_is = c.as_slice.ensures.value ∙ c.in_ok-whole.ensures;
      text_is = c.requires.text;
      globals_is = c.requires.globals;
      entry_is = c.word_at-entry.ensures;
    } in
    let spells = rw c.in-Some.is at c.in_ok-image.ensures.some in
    let sizes : is_image_of c.in-Some.image entry (length c.args.text.now) (length c.args.globals.now) ≡ true =
    ap (λ (n : ℕ). is_image_of c.in-Some.image entry n (length c.args.globals.now)) (sym c.len.ensures) ∙ ap (is_image_of c.in-Some.image entry c.len.result) (sym c.len-in-Some.ensures)
    ∙ sym c.is_image_of.ensures ∙ c.if-is_image_of.true in
    gives c.args.bytes.now c.args.note content c.as_slice.result.now c.args.text.now c.args.globals.now entry size c.in-Some.image read (λ i. omega (arith, c.type_inv.bytes i)) spells sizes

pub returns-in-Some-clause-fault : goal.returns-in-Some-clause-fault
returns-in-Some-clause-fault c =
    let size : ℕ = c.word_at-size.result in
    let entry : ℕ = c.word_at-entry.result in
    let content : List ℕ = slice_range c.args.bytes.now (c.args.note.offset + head_size) (c.args.note.offset + head_size + size) in
    let read : IsRead c.args.bytes.now c.args.note content c.as_slice.result.now c.args.text.now c.args.globals.now entry size = record {
      size_is = c.word_at-size.ensures;
      inside = omega (arith, c.if-note-size.false);
      front = omega (arith, c.if-size-lt-FRONT_SIZE.false);
      there = c.requires.there;
      content_is = refl;
      whole_is = c.as_slice.ensures.value ∙ c.in_ok-whole.ensures;
      text_is = c.requires.text;
      globals_is = c.requires.globals;
      entry_is = c.word_at-entry.ensures;
    } in
    let spells = rw c.in-Some.is at c.in_ok-image.ensures.some in
    let sizes : is_image_of c.in-Some.image entry (length c.args.text.now) (length c.args.globals.now) ≡ false =
    ap (λ (n : ℕ). is_image_of c.in-Some.image entry n (length c.args.globals.now)) (sym c.len.ensures) ∙ ap (is_image_of c.in-Some.image entry c.len.result) (sym c.len-in-Some.ensures)
    ∙ sym c.is_image_of.ensures ∙ c.if-is_image_of.false in (
      c.from-else-is_image_of.ensures,
      λ image given. is_other c.args.bytes.now c.args.note content c.as_slice.result.now c.args.text.now c.args.globals.now entry size c.in-Some.image image read spells sizes given,
    )
