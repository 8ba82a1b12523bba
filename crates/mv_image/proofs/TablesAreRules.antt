-- Fields that fit the format are an image.
use Rattle.std.proofs.Common.{ℕ, List, ◌++◌, refl, sym, subst}
use Rattle.mv_num.specs.Bytes.{words_of}
use Rattle.mv_image.specs.Spelling.{Fields, header_of, words_in, names_in, spelling}
use Rattle.mv_image.specs.Faults.{image_words}
use Rattle.mv_image.specs.Format.{TablesAreRules}
use Rattle.mv_image.proofs.Judged.{spelled}
use Rattle.mv_image.proofs.RowsStand.{IsWhole, image_words_are, stand_in_image}
use Rattle.mv_image.proofs.NamesStand.{spelling_length, names_keep}
use Rattle.mv_image.proofs.FieldWords.{are_words}
use Rattle.mv_image.proofs.RowsKeep.{HasFormat, words_keep}

has_format : (a : Fields) (x : List ℕ) → HasFormat (words_in a ++ x)
unfolding words_in header_of
has_format a x = record { magic = refl; last = refl }

pub tables_are_rules : TablesAreRules
tables_are_rules a t h =
    let words = are_words a t h in
    let whole : IsWhole a = record { widths = t.widths; first = h.version.first } in
    let s = stand_in_image a words whole in
    let format : HasFormat (image_words a) = subst HasFormat (sym (image_words_are a words)) (has_format a (words_of (names_in a))) in
    record {
      spelled = spelled (spelling a) (spelling_length a words whole s.counts.names) (words_keep (image_words a) a s format h) (names_keep a words h.names s);
      words = words;
      switches = λ k d lt. (t.widths.switches k d lt, h.unused.switches k d lt);
      functions = λ k d lt. (t.widths.functions k d lt, h.unused.functions k d lt);
      variants = λ k d lt. (t.widths.variants k d lt, h.unused.variants k d lt);
      guards = t.widths.guards;
      name_lengths = h.names.lengths;
      first = h.version.first;
    }
