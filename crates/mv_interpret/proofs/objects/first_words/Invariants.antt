use Rattle.std.proofs.Common.{◌≡◌, ◌-◌, ◌≤◌, ◌++◌, max, length, replicate}
use Rattle.mv_interpret.proofs.objects.first_words.Given as goal

abbrev pub invariant-loop : goal.invariant-loop
invariant-loop l = record {
  behind : length l.global.first ≤ l.counter;
  before : l.counter ≤ max l.size (length l.global.first);
  words : l.words ≡ l.global.first ++ replicate (l.counter - length l.global.first) 0;
}
