use Rattle.mv_num.proofs.ByteLaws.{bytes_of-words_of, words_of-bytes_of}
use Rattle.mv_num.proofs.bytes.bytes_and_words.Goals as goal

pub returns-clause-bytes : goal.returns-clause-bytes
returns-clause-bytes c = bytes_of-words_of

pub returns-clause-words : goal.returns-clause-words
returns-clause-words c = words_of-bytes_of
