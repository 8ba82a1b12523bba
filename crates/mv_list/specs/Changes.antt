-- The words of a text that have changed, a line for each.
use Rattle.std.specs.Prelude.{◌≡◌, ◌≤◌, ℕ, zero, suc, ◌+◌, ◌==◌, List, [], ◌∷◌, ◌++◌, codes, length, unwrap_or, if◌then◌else◌}
use Rattle.std.specs.Result.{result_ok}
use Rattle.mv_num.specs.Bytes.{AreWords}
use Rattle.mv_num.specs.Regions.{text_start, text_limit}
use Rattle.mv_fetch.specs.Held.{Held, load}
use Rattle.mv_image.specs.Spelling.{Fields}
use Rattle.mv_list.specs.Numbers.{address_text}

unfoldable pub change_line : (address old new : ℕ) → List ℕ
change_line address old new =
    if old == new then [] else codes "word " ++ (address_text address ++ (codes " " ++ (address_text old ++ (codes " " ++ (address_text new ++ codes "\n")))))

-- the lines of two texts from an address on
unfoldable pub changes : ℕ → (old new : List ℕ) → List ℕ
changes address [] new = []
changes address (o ∷ old) [] = []
changes address (o ∷ old) (n ∷ new) = change_line address o n ++ changes (address + 4) old new

-- the word that a load gives, and 0 where there is none
abbrev pub word_now : Held → ℕ → ℕ
word_now held address = unwrap_or (result_ok (load held address 4)) 0

-- so many words from an address on
unfoldable pub words_now : Held → ℕ → ℕ → List ℕ
words_now held address zero = []
words_now held address (suc n) = word_now held address ∷ words_now held (address + 4) n

-- the text of an image beside what a memory holds there
abbrev pub patched_text : Fields → Held → List ℕ
patched_text image held = changes text_start image.text (words_now held text_start (length image.text))

-- the loads of a text that consists of words give that text
abbrev pub LoadsGiveTheText : Type 0
LoadsGiveTheText = (held : Held) → AreWords held.text → length held.text ≤ text_limit → words_now held text_start (length held.text) ≡ held.text
