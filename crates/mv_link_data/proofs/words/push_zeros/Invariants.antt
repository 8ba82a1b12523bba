use Rattle.std.proofs.Common.{◌≡◌, ◌-◌, ◌≤◌, ◌++◌, max, replicate}
use Rattle.mv_linker.specs.declared.parts.Datum.TheVariants.{Number}
use Rattle.mv_link_data.proofs.words.push_zeros.Given as goal

abbrev pub invariant-loop : goal.invariant-loop
invariant-loop l = record {
  behind : l.given ≤ l.counter;
  before : l.counter ≤ max l.size l.given;
  words : l.words ≡ l.fn.words ++ replicate (l.counter - l.given) (Number 0);
}
