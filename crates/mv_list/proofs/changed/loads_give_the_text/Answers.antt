use Rattle.std.proofs.Common.{length, refl, arith}
use Rattle.mv_list.proofs.Present.{words_there}
use Rattle.mv_list.proofs.changed.loads_give_the_text.Goals as goal

pub returns : goal.returns
returns c = λ held are few. words_there held (length held.text) 0 4096 are few refl (omega arith)
