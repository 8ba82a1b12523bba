-- The lines of the words of text that have changed.
use Rattle.std.specs.Prelude.{ℕ, ◌≡◌, ◌==◌, List, count_by}
use Rattle.mv_fetch.specs.Held.{Held}
use Rattle.mv_image.specs.Faults.{Rules}
use Rattle.mv_image.specs.Patched.{Bindings, text_of}
use Rattle.mv_image.specs.Spelling.{Fields}
use Rattle.mv_list.specs.Changes.{patched_text}
use Rattle.mv_link_changes.specs.Changed.{changed_words}

-- how many lines a text has, each of which ends with a line feed
abbrev pub line_count : List ℕ → ℕ
line_count text = count_by (λ c. c == 10) text

-- Where a memory holds the text under bindings, there is a line for each word that is another than the image's.
abbrev pub LinesAreWords : Type 0
LinesAreWords =
    (image : Fields) → Rules image → (bound : Bindings) (held : Held) → held.text ≡ text_of image bound → line_count (patched_text image held) ≡ changed_words image bound
