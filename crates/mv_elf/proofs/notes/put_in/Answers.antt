use Rattle.std.proofs.lemmas.List.{take_rest}
use Rattle.mv_elf.specs.Notes.{put_in}
use Rattle.mv_elf.proofs.notes.put_in.Goals as goal

pub returns : goal.returns
unfolding put_in
returns c =
    cc (
      take_rest c.args.content.now 64,
      c.in_ok-bytes.ensures.items,
      c.in_ok-bytes_of_words.ensures,
      c.as_slice.ensures.value,
      c.in_ok-extend_from_slice.ensures.items,
      c.in_ok-bytes_of_words-2.ensures,
      c.as_slice-2.ensures.value,
      c.in_ok-extend_from_slice-2.ensures.items,
      c.in_ok-extend_from_slice-3.ensures.items,
    )
