-- Texts between which words are stored, and pairs that lie in text.
use Rattle.std.specs.Prelude.{ℕ, ◌≡◌, ◌%◌, ◌^◌, ◌<◌, ◌≤◌, List, length}
use Rattle.mv_num.specs.Bytes.{AreWords}
use Rattle.mv_num.specs.Regions.{data_start}
use Rattle.mv_fetch.specs.Held.{IsInText}
use Rattle.mv_patch.specs.declared.prepared.Pair.{Pair}
use Rattle.mv_patch.specs.Pairs.{place}

-- Two texts of one length, of words, that lie where text may stand.
pub record AreTexts (old new : List ℕ) : Type 0 where
  pub size : length new ≡ length old
  pub old_words : AreWords old
  pub new_words : AreWords new
  pub lies : place (length old) ≤ data_start

-- An address and a word of a pair between texts that lie in text.
pub record IsInRange (pair : Pair) : Type 0 where
  pub aligned : pair.address % 4 ≡ 0
  pub in_text : IsInText pair.address
  pub address : pair.address < 2 ^ 32
  pub word : pair.word < 2 ^ 32
