-- The lines of a text and of what a memory holds there, a word at a time.
use Rattle.std.proofs.Common.{◌≡◌, ℕ, ◌+◌, ◌<◌, ◌≤◌, List, [], ◌++◌, length, drop, get_or}
use Rattle.std.proofs.lemmas.List.{at_drop_more, at_drop_all}
use Rattle.mv_fetch.specs.Held.{Held}
use Rattle.mv_list.specs.Changes.{change_line, changes, word_now, words_now}

pub changes_more : (held : Held) (address i : ℕ) (words : List ℕ) → i < length words →
    changes address (drop i words) (words_now held address (length (drop i words)))
    ≡ change_line address (get_or words i 0) (word_now held address) ++ changes (address + 4) (drop (i + 1) words) (words_now held (address + 4) (length (drop (i + 1) words)))
unfolding changes words_now
changes_more held address i words h = at_drop_more (λ (left : List ℕ). changes address left (words_now held address (length left))) words i 0 h

pub changes_none : (held : Held) (address i : ℕ) (words : List ℕ) → length words ≤ i →
    changes address (drop i words) (words_now held address (length (drop i words))) ≡ []
unfolding changes words_now
changes_none held address i words h = at_drop_all (λ (left : List ℕ). changes address left (words_now held address (length left))) words i h
