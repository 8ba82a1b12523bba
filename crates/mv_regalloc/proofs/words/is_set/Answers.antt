use Rattle.std.proofs.Common.{eqb, ap, ◌%◌}
use Rattle.std.proofs.lemmas.Nat.Bits.{shr_and_one}
use Rattle.mv_regalloc.specs.LiveBits.{in_word}
use Rattle.mv_regalloc.proofs.words.is_set.Goals as goal

pub returns : goal.returns
unfolding in_word
returns c = ap (λ v. eqb v 1) (shr_and_one c.args.word (c.args.temp % 64))
